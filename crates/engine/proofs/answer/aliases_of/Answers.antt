use Rattle.std.proofs.Common.{sym, ap, ◌∙◌}
use Rattle.runs.specs.Messages.{alias_in}
use Rattle.engine.proofs.Aliases.{one_alias, last_alias}
use Rattle.engine.proofs.answer.aliases_of.Goals as goal

pub loop-taken-preserved-in-Continue-branch-2 : goal.loop-taken-preserved-in-Continue-branch-2
loop-taken-preserved-in-Continue-branch-2 g c = (
  tt,
  tt,
  one_alias c.args.now c.loop-taken.aliases c.push.new.self c.loop-taken.taken-iterator.rest.items c.next.new.self.rest.items c.in-Some.taken c.in-Some-alias_in.record _ c.in_ok-push.ensures.ok c.in-Some.ensures.steps.0
      (sym (ap alias_in c.into_sent.ensures) ∙ c.in-Some-alias_in.ensures) c.loop-taken.invariant.2,
)

pub returns : goal.returns
returns g c =
    last_alias c.args.now c.loop-taken.aliases c.loop-taken.taken-iterator.rest.items _ (sym c.loop-taken.taken-iterator.rest.ok.0 ∙ c.in-None.ensures.steps.0) c.loop-taken.invariant.2
