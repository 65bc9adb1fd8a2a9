use Rattle.std.proofs.Common.{sym, ◌∙◌, subst, List}
use Rattle.std.specs.Option.{MatchOption}
use Rattle.runs.specs.States.{Open}
use Rattle.slab.specs.Slab.{get as slot_at}
use Rattle.open_queries.specs.Lookups.{HasNo, IsTheOne}
use Rattle.open_queries.specs.Indexes.{LeadsTo}
use Rattle.open_queries.proofs.Apart.{one_of, copied_match}
use Rattle.open_queries.proofs.queries.Queries.get.Goals as goal

pub returns-in_err-key_of : goal.returns-in_err-key_of
returns-in_err-key_of g c =
    let led = subst (LeadsTo c.self.inside.slots c.args.number) (sym c.key_of.ensures ∙ c.in_err-key_of.was) ((c.self.invariant).keyed c.args.number) in
    let none : HasNo c.args.self.now c.args.number = subst (λ (qs : List Open). HasNo qs c.args.number) c.self.view_is led in
    subst (λ r. MatchOption r (HasNo c.args.self.now c.args.number) (λ q. IsTheOne c.args.self.now c.args.number q.now)) (sym c.from_residual.ensures) none

pub returns : goal.returns
returns g c =
    let led = subst (LeadsTo c.self.inside.slots c.args.number) (sym c.key_of.ensures ∙ c.in_ok-key_of.was) ((c.self.invariant).keyed c.args.number) in
    let one = one_of c.self.inside.slots c.args.number c.in_ok-key_of.field-0 (c.self.invariant).apart led in
    let seen : MatchOption _ (HasNo c.args.self.now c.args.number) (IsTheOne c.args.self.now c.args.number) =
    subst (λ (qs : List Open). MatchOption (slot_at c.self.inside.slots c.in_ok-key_of.field-0) (HasNo qs c.args.number) (IsTheOne qs c.args.number)) c.self.view_is one
    in
    copied_match c.get.result _ _ _ c.get.ensures seen
