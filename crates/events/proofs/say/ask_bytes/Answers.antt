-- An ask is short.
use Rattle.std.proofs.Common.{rules}
use Rattle.events.proofs.Short.{written_or_starved}
use Rattle.events.proofs.say.ask_bytes.Goals as goal

pub unreachable-requires : goal.unreachable-requires
unreachable-requires g c =
    let memory = written_or_starved c.args.ask.now _ c.in-Err.field-0 c.short_law.ensures c.in_ok-message.ensures c.in-Err.ensures.err in
    search rules
