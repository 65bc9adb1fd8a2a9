use Rattle.std.proofs.Common.{◌≤◌, Bool, refl, sym, ◌∙◌, subst}
use Rattle.std.specs.Bool.{MatchBool}
use Rattle.limits.specs.Limits.{max_look_ups}
use Rattle.resolution.specs.Jobs.{MayLookUp}
use Rattle.resolution.specs.Rules.{looked_out}
use Rattle.iterate.proofs.Accepted.{on_err}
use Rattle.iterate.proofs.Parts.{turn_part}
use Rattle.iterate.proofs.Sought.{turn_shallow}
use Rattle.iterate.proofs.serving.go_further.Goals as goal

pub look_for-requires : goal.look_for-requires
look_for-requires g c = record {
  shallow = turn_shallow c.args.job.now.failed c.args.search c.next_name.new.search c.in-Ok-Some.name c.in-Ok-Some.ensures.ok (sym c.in-Ok-Some.field-0-is ∙ c.in-Ok-Some.ensures.value);
  few = subst (λ (b : Bool). MatchBool b (MayLookUp c.args.job.now) (max_look_ups ≤ c.args.job.now.look_ups)) c.if-not-may_look_up.false c.may_look_up.ensures;
}

pub returns-then-not-may_look_up-clause-is : goal.returns-then-not-may_look_up-clause-is
returns-then-not-may_look_up-clause-is g c =
    looked_out c.args.search c.args.job.now.searches c.in-Ok-Some.name refl
    (record { searches = refl; asked_all = c.requires; turn = sym c.in-Ok-Some.ensures.value ∙ c.in-Ok-Some.field-0-is; many = subst (λ (b : Bool). MatchBool b (MayLookUp c.args.job.now) (max_look_ups ≤ c.args.job.now.look_ups)) c.if-not-may_look_up.true c.may_look_up.ensures }) refl refl

pub returns-in_ok-look_for-in-Ok-Some-clause-is : goal.returns-in_ok-look_for-in-Ok-Some-clause-is
returns-in_ok-look_for-in-Ok-Some-clause-is g c =
    c.in_ok-look_for-in-Ok-Some.ensures.rule c.args.search c.requires (sym c.in-Ok-Some.ensures.value ∙ c.in-Ok-Some.field-0-is) c.in-Ok-Some.ensures.ok

pub returns-in_err-look_for-in-Ok-Some-clause-part : goal.returns-in_err-look_for-in-Ok-Some-clause-part
returns-in_err-look_for-in-Ok-Some-clause-part g c =
    on_err c.from_residual.result (turn_part c.args.home.now c.args.now c.args.job.now c.args.search c.in-Ok-Some.name c.args.stores.now c.look_for.new.stores c.requires (sym c.in-Ok-Some.ensures.value ∙ c.in-Ok-Some.field-0-is)
    (subst (λ (b : Bool). MatchBool b (MayLookUp c.args.job.now) (max_look_ups ≤ c.args.job.now.look_ups)) c.if-not-may_look_up.false c.may_look_up.ensures) c.in_err-look_for-in-Ok-Some.ensures.part)
