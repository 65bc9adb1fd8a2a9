use Rattle.std.proofs.Common.{◌≡◌, ◌≤◌, length, ap, ◌∙◌, arith}
use Rattle.std.specs.List.{count_by}
use Rattle.std.proofs.lemmas.List.Sums.{count_by-le-length}
use Rattle.admission.specs.States.{held_from}
use Rattle.admission.specs.Waiting.{is_address}
use Rattle.admission.proofs.Waiters.{count_mapped}
use Rattle.admission.proofs.queue.Queue.from_address.Goals as goal

pub returns : goal.returns
returns g c =
    let b = c.self.inside in
    let a = c.args.address in
    let e : c.addresses_of.result ≡ count_by (is_address a) c.deref.result.now = c.addresses_of.ensures in
    let l : count_by (is_address a) c.deref.result.now ≤ length c.deref.result.now = count_by-le-length (is_address a) c.deref.result.now in
    let s : length c.deref.result.now ≡ length b.addresses.items = ap length c.deref.ensures.value in
    record {
      count =
          c.addresses_of.ensures
          ∙ ap (λ xs. count_by (is_address a) xs) (c.deref.ensures.value ∙ c.self.invariant.0)
          ∙ count_mapped a b.held.items
          ∙ ap (λ w. count_by (held_from a) w.items) c.self.view_is;
      few = omega (arith, e, l, s, b.addresses.ok.0, b.addresses.ok.1, b.addresses.small);
    }
