use Rattle.std.proofs.Common.{◌≡◌, Some, None, sym, ap, ◌∙◌, subst}
use Rattle.std.specs.List.{position}
use Rattle.admission.specs.Moves.{domain_in, first_of, is_open}
use Rattle.admission.proofs.Lists.{found_there, not_there}
use Rattle.admission.proofs.Steps.{left_some, left_none}
use Rattle.admission.proofs.admission.Admission.closed.Goals as goal

pub returns-clause-left : goal.returns-clause-left
returns-clause-left g c =
    let test = is_open c.args.key c.args.client in
    let there : position test c.self.inside.admitted.items ≡ Some c.in-Some.place = subst (λ xs. position test xs ≡ Some c.in-Some.place) c.deref.ensures.value (sym c.place_of_open.ensures ∙ c.in-Some.is) in
    left_some c.args.self.now test c.in-Some.place c.leave.new.self (subst (λ s. position test s.admitted ≡ Some c.in-Some.place) c.self.view_is there) c.leave.ensures

pub returns-clause-domain : goal.returns-clause-domain
returns-clause-domain g c =
    let test = is_open c.args.key c.args.client in
    let q = c.index.result.now in
    let there : position test c.self.inside.admitted.items ≡ Some c.in-Some.place = subst (λ xs. position test xs ≡ Some c.in-Some.place) c.deref.ensures.value (sym c.place_of_open.ensures ∙ c.in-Some.is) in
    let first : first_of test c.self.inside.admitted.items ≡ Some q = found_there test c.self.inside.admitted.items c.in-Some.place q there ∙ sym (ap (λ x. Some x) c.index.ensures) in
    subst (λ s. Some q.domain ≡ domain_in (first_of test s.admitted)) c.self.view_is (sym (ap domain_in first))

pub returns-in_default-clause-left : goal.returns-in_default-clause-left
returns-in_default-clause-left g c =
    let test = is_open c.args.key c.args.client in
    let there : position test c.self.inside.admitted.items ≡ None = subst (λ xs. position test xs ≡ None) c.deref.ensures.value (sym c.place_of_open.ensures ∙ c.in_default.is) in
    left_none c.args.self.now test (subst (λ s. position test s.admitted ≡ None) c.self.view_is there)

pub returns-in_default-clause-domain : goal.returns-in_default-clause-domain
returns-in_default-clause-domain g c =
    let test = is_open c.args.key c.args.client in
    let there : position test c.self.inside.admitted.items ≡ None = subst (λ xs. position test xs ≡ None) c.deref.ensures.value (sym c.place_of_open.ensures ∙ c.in_default.is) in
    sym (ap domain_in (not_there test c.args.self.now.admitted (subst (λ s. position test s.admitted ≡ None) c.self.view_is there)))
