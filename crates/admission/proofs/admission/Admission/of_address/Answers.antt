use Rattle.std.proofs.Common.{◌≡◌, ◌+◌, ◌≤◌, length, ap, arith}
use Rattle.std.specs.List.{count_by}
use Rattle.std.proofs.lemmas.List.Sums.{count_by-le-length}
use Rattle.admission.specs.States.{admitted_from, held_from}
use Rattle.admission.proofs.admission.Admission.of_address.Goals as goal

pub overflow_add-result-2 : goal.overflow_add-result-2
overflow_add-result-2 g c =
    let b = c.self.inside in
    let a = c.args.address in
    let x : c.admitted_from.result ≡ count_by (admitted_from a) c.deref.result.now = c.admitted_from.ensures in
    let l : count_by (admitted_from a) c.deref.result.now ≤ length c.deref.result.now = count_by-le-length (admitted_from a) c.deref.result.now in
    let s : length c.deref.result.now ≡ length b.admitted.items = ap length c.deref.ensures.value in
    let y : c.held_from.result ≡ count_by (held_from a) b.ready.items = c.held_from.ensures in
    let m : count_by (held_from a) b.ready.items ≤ length b.ready.items = count_by-le-length (held_from a) b.ready.items in
    let p : length b.admitted.items + length b.ready.items ≤ b.limits.places = c.self.invariant.0.places in
    omega (arith, x, l, s, y, m, p, c.self.invariant.1, b.admitted.small, c.from_address.ensures.few)
