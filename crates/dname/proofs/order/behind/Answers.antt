use Rattle.std.proofs.Common.{◌≡◌, ◌+◌, ◌<◌, Bor, ◌∙◌, List, ℕ, length, drop, sym, ap, subst, arith}
use Rattle.dname.specs.Labels.{root}
use Rattle.dname.specs.Wire.{labels_of, IsWire, IsSplit}
use Rattle.dname.proofs.Ordered.{dropped_one}
use Rattle.dname.proofs.order.behind.Goals as goal
use Rattle.dname.proofs.order.behind.Goals.{in-Some, in_default}

record Passed (rest : List ℕ) (k : ℕ) (all : List (List ℕ)) : Type 0 where
  form : IsWire rest
  labels : labels_of rest ≡ drop k all
  left : k + length (labels_of rest) ≡ length all

passed : (rest label after : List ℕ) (k : ℕ) (all : List (List ℕ)) → Passed rest k all → IsSplit rest label after → Passed after (k + 1) all
passed rest label after k all h s = record {
  form = s.wire;
  labels = dropped_one k all label (labels_of after) (sym s.labels ∙ h.labels);
  left = let e = ap length s.labels in let f = h.left in omega arith;
}

none_left : (rest : List ℕ) (k count : ℕ) (all : List (List ℕ)) → Passed rest k all → labels_of rest ≡ root → k < count → count < length all → ⊥
none_left rest k count all h e lt fewer = let s = ap length e in let f = h.left in omega arith

moved : {rest after : List ℕ} {k : ℕ} {all : List (List ℕ)} → Passed after k all → rest ≡ after → Passed rest k all
moved {k = k} {all = all} h e = subst (λ (x : List ℕ). Passed x k all) (sym e) h

pub loop-preserved : goal.loop-preserved
loop-preserved c =
    let now : Passed c.loop.rest.now c.loop.counter (labels_of c.args.bytes.now) = record { form = c.loop.invariant.form; labels = c.loop.invariant.labels; left = c.loop.invariant.left } in
    let h : Passed c.match-next_label.rest.now (c.loop.counter + 1) (labels_of c.args.bytes.now) = elim c.match-next_label.branch [
      | in-Some w ↦ moved (passed _ _ _ _ _ now (w.in-Some.ensures {u = tt})) (ap (λ (r : Bor (List ℕ)). r.now) w.rest-is)
      | in_default w ↦ absurd (none_left _ _ _ _ now (w.in_default.ensures {u = tt}) c.loop-test.true c.requires.fewer)
    ] in
    record { form = h.form; labels = h.labels; left = h.left }
