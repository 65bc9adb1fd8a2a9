-- A text that is refused, and a resolver that does not start, are no server; one that starts prints its address.
use Rattle.std.proofs.Common.{refl, Err, inr}
use Rattle.commands.proofs.Servers.{run_weaker, started}
use Rattle.commands.proofs.serve.serve_text.Goals as goal

pub returns-in-Ok-clause-run : goal.returns-in-Ok-clause-run
returns-in-Ok-clause-run g c =
    run_weaker (λ text names. record { holds = record { text = c.args.text.now; held = c.requires; at = _; describes = c.in-Ok.ensures.ok.0 }; names = names })
    (λ f none. inr (record { text = c.args.text.now; there = c.requires; config = (c.in-Ok.ensures.ok.1).config; reads = (c.in-Ok.ensures.ok.1).reads; fails = inr none }))
    c.start.ensures.run

pub returns-in-Ok-clause-starts : goal.returns-in-Ok-clause-starts
returns-in-Ok-clause-starts g c = started _ c.args.path.now c.args.text.now _ _ _ c.requires c.in-Ok.ensures.ok.1 c.start.ensures.starts

pub returns-in-Err-clause-run : goal.returns-in-Err-clause-run
returns-in-Err-clause-run g c = (Err c.in-Err.fault, c.in-Err.ensures.err, (c.no_server.ensures.reported, refl))

pub returns-in-Err-clause-starts : goal.returns-in-Err-clause-starts
returns-in-Err-clause-starts g c = inr (c.no_server.ensures.fails, c.no_server.ensures.none)
