use Rattle.std.proofs.Common.{◌≡◌, Some, None, sym, ◌∙◌, subst}
use Rattle.std.specs.List.{position}
use Rattle.admission.specs.Moves.{is_entering}
use Rattle.admission.proofs.Steps.{left_some, left_none}
use Rattle.admission.proofs.admission.Admission.settled.Goals as goal

pub returns-in-Some : goal.returns-in-Some
returns-in-Some g c =
    let test = is_entering c.args.key c.args.client in
    let there : position test c.self.inside.admitted.items ≡ Some c.in-Some.place = subst (λ xs. position test xs ≡ Some c.in-Some.place) c.deref.ensures.value (sym c.place_of_entering.ensures ∙ c.in-Some.is) in
    left_some c.args.self.now test c.in-Some.place c.leave.new.self (subst (λ s. position test s.admitted ≡ Some c.in-Some.place) c.self.view_is there) c.leave.ensures

pub returns-in_default : goal.returns-in_default
returns-in_default g c =
    let test = is_entering c.args.key c.args.client in
    let there : position test c.self.inside.admitted.items ≡ None = subst (λ xs. position test xs ≡ None) c.deref.ensures.value (sym c.place_of_entering.ensures ∙ c.in_default.is) in
    left_none c.args.self.now test (subst (λ s. position test s.admitted ≡ None) c.self.view_is there)
