use Rattle.std.proofs.Common.{sym, ◌∙◌}
use Rattle.dname.proofs.Under.{under_is}
use Rattle.lookup.proofs.Kept.{beneath_is}
use Rattle.lookup.proofs.lookup.is_beneath.Goals as goal

pub returns-then-is_at_or_under : goal.returns-then-is_at_or_under
returns-then-is_at_or_under g c =
    beneath_is c.args.name.now c.args.other.now c.ne.result (under_is c.args.name.now c.args.other.now (sym c.is_at_or_under.ensures.test ∙ c.if-is_at_or_under.true)) c.ne.ensures
