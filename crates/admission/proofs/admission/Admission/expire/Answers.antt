use Rattle.std.proofs.Common.{◌≡◌, Some, None, sym, ◌∙◌, subst, ap}
use Rattle.std.specs.List.{position}
use Rattle.std.specs.Option.{is_some}
use Rattle.admission.specs.Moves.{is_late, admitted}
use Rattle.admission.proofs.Lists.{found_there, not_there}
use Rattle.admission.proofs.Steps.{left_some, left_none}
use Rattle.admission.proofs.admission.Admission.expire.Goals as goal

pub returns : goal.returns
returns g c =
    let test = is_late c.args.now in
    let there : position test c.self.inside.admitted.items ≡ Some c.in-Some.place = subst (λ xs. position test xs ≡ Some c.in-Some.place) c.deref.ensures.value (sym c.place_of_late.ensures ∙ c.in-Some.is) in
    let here : position test c.args.self.now.admitted ≡ Some c.in-Some.place = subst (λ s. position test s.admitted ≡ Some c.in-Some.place) c.self.view_is there in
    record {
      some = sym (ap is_some (found_there test c.args.self.now.admitted c.in-Some.place (admitted 0 0 0 None) here));
      left = left_some c.args.self.now test c.in-Some.place c.leave.new.self here c.leave.ensures;
    }

pub returns-in_default : goal.returns-in_default
returns-in_default g c =
    let test = is_late c.args.now in
    let there : position test c.self.inside.admitted.items ≡ None = subst (λ xs. position test xs ≡ None) c.deref.ensures.value (sym c.place_of_late.ensures ∙ c.in_default.is) in
    let here : position test c.args.self.now.admitted ≡ None = subst (λ s. position test s.admitted ≡ None) c.self.view_is there in
    record {
      some = sym (ap is_some (not_there test c.args.self.now.admitted here));
      left = left_none c.args.self.now test here;
    }
