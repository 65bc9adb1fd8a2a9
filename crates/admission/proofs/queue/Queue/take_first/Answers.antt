use Rattle.std.proofs.Common.{◌≡◌, ◌<◌, Some, None, length, refl, sym, ap, ◌∙◌, subst, arith, rules}
use Rattle.std.specs.List.{position}
use Rattle.std.proofs.lemmas.List.{length-map}
use Rattle.admission.specs.States.{held_with}
use Rattle.admission.specs.Moves.{first_of, without_first}
use Rattle.admission.specs.Waiting.{address_of}
use Rattle.admission.proofs.Lists.{gone_there, none_goes, not_there, stands_within, taken_there}
use Rattle.admission.proofs.Waiters.{removed}
use Rattle.admission.proofs.queue.Queue.take_first.Goals as goal

pub remove-requires : goal.remove-requires
remove-requires g c =
    let b = c.self.inside in
    let l : c.in-Some.place < length b.held.items = stands_within (held_with c.args.key) b.held.items c.in-Some.place (sym c.place_of_key.ensures ∙ c.in-Some.is) in
    let n : length b.addresses.items ≡ length b.held.items = ap length c.self.invariant.0 ∙ length-map b.held.items address_of in
    omega (arith, l, n, b.addresses.ok.0)

pub invariant_of-self : goal.invariant_of-self
invariant_of-self g c =
    let b = c.self.inside in
    let test = held_with c.args.key in
    let i = c.in-Some.place in
    let there : position test b.held.items ≡ Some i = sym c.place_of_key.ensures ∙ c.in-Some.is in
    let h = taken_there test b.held.items c.remove-in-Some.new.self.items i c.remove-in-Some.result there (λ d l. c.remove-in-Some.ensures.succeeds d (omega (arith, l, b.held.ok.0))) c.remove-in-Some.ensures.items in (
      removed b.addresses.items c.remove.new.self.items b.held.items c.remove-in-Some.new.self.items i (stands_within test b.held.items i there) c.remove.ensures.items (h.1 ∙ gone_there test b.held.items i there) c.self.invariant.0,
      search rules,
    )

pub returns-in-Some : goal.returns-in-Some
returns-in-Some g c =
    let b = c.self.inside in
    let test = held_with c.args.key in
    let i = c.in-Some.place in
    let there : position test b.held.items ≡ Some i = sym c.place_of_key.ensures ∙ c.in-Some.is in
    let h = taken_there test b.held.items c.remove-in-Some.new.self.items i c.remove-in-Some.result there (λ d l. c.remove-in-Some.ensures.succeeds d (omega (arith, l, b.held.ok.0))) c.remove-in-Some.ensures.items in
    record {
      first = h.0 ∙ ap (λ w. first_of test w.items) c.self.view_is;
      others = h.1 ∙ ap (λ w. without_first test w.items) c.self.view_is;
      room = c.remove-in-Some.ensures.capacity ∙ ap (λ w. w.room) c.self.view_is;
    }

pub returns-in-None : goal.returns-in-None
returns-in-None g c =
    let test = held_with c.args.key in
    let e : first_of test c.args.self.now.items ≡ None = subst (λ w. first_of test w.items ≡ None) c.self.view_is (not_there test c.self.inside.held.items (sym c.place_of_key.ensures ∙ c.in-None.is)) in
    record { first = sym e; others = sym (none_goes test c.args.self.now.items e); room = refl }
