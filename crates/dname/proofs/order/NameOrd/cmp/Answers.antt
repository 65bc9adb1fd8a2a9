use Rattle.std.proofs.Common.{◌≡◌, ◌-◌, ◌∙◌, List, ℕ, length, drop, sym, ap, arith}
use Rattle.std.specs.declared.cmp.Ordering.{Ordering}
use Rattle.std.specs.Ordering.{ordering_then}
use Rattle.dname.specs.Wire.{labels_of, IsSplit}
use Rattle.dname.specs.Order.{label_cmp, name_cmp}
use Rattle.dname.proofs.Ordered.{evened, even_sizes, one_more}
use Rattle.dname.proofs.order.NameOrd.cmp.Goals as goal

pub loop-label-init : goal.loop-label-init
loop-label-init g c =
    let rest : labels_of c.behind-rest.result.now ≡ drop (c.labels-mine.result - c.labels-theirs.result) c.args.self.now =
    c.behind-rest.ensures.labels ∙ ((λ i. drop (c.saturating_sub.ensures i) (labels_of (c.as_slice.ensures i))) ∙ ap (drop (c.labels-mine.result - c.labels-theirs.result)) c.self.view_is) in
    let others : labels_of c.behind-others.result.now ≡ drop (c.labels-theirs.result - c.labels-mine.result) c.args.other.now =
    c.behind-others.ensures.labels ∙ ((λ i. drop (c.saturating_sub-2.ensures i) (labels_of (c.as_slice-2.ensures i))) ∙ ap (drop (c.labels-theirs.result - c.labels-mine.result)) c.other.view_is) in
    record {
      form = c.behind-rest.ensures.wire;
      its_form = c.behind-others.ensures.wire;
      even = even_sizes _ _ _ _ _ _ c.labels-mine.ensures c.labels-theirs.ensures rest others;
      decided = evened _ _ _ _ _ _ _ c.labels-mine.ensures c.labels-theirs.ensures rest others c.cmp-order.ensures;
    }

fewer : (rest label after others its after_its : List ℕ) → IsSplit rest label after → IsSplit others its after_its → length (labels_of rest) ≡ length (labels_of others)
    → length (labels_of after) ≡ length (labels_of after_its)
fewer rest label after others its after_its s t e = let a = ap length s.labels in let b = ap length t.labels in omega arith

step : (rest label after others its after_its : List ℕ) (order : Ordering) → IsSplit rest label after → IsSplit others its after_its → length (labels_of rest) ≡ length (labels_of others)
    → ordering_then (name_cmp (labels_of rest) (labels_of others)) order ≡ ordering_then (name_cmp (labels_of after) (labels_of after_its)) (ordering_then (label_cmp label its) order)
step rest label after others its after_its order s t e =
    (λ i. ordering_then (name_cmp (s.labels i) (t.labels i)) order)
    ∙ one_more label its (labels_of after) (labels_of after_its) order (fewer rest label after others its after_its s t e)

pub loop-label-preserved : goal.loop-label-preserved
loop-label-preserved g c =
    let s : IsSplit c.loop-label.rest.now c.in-Some-Some.label.now c.in-Some-Some.after.now = c.in-Some-Some.ensures {u = tt} in
    let t : IsSplit c.loop-label.others.now c.in-Some-Some.its.now c.in-Some-Some.after_its.now = c.in-Some-Some.ensures' {u = tt} in
    let e : length (labels_of c.loop-label.rest.now) ≡ length (labels_of c.loop-label.others.now) = c.loop-label.invariant.even in
    record {
      form = s.wire;
      its_form = t.wire;
      even = fewer _ _ _ _ _ _ s t e;
      decided = c.loop-label.invariant.decided ∙ (step _ _ _ _ _ _ c.loop-label.order s t e
          ∙ ap (λ (o : Ordering). ordering_then (name_cmp (labels_of c.in-Some-Some.after.now) (labels_of c.in-Some-Some.after_its.now)) o)
          (ap (λ (o : Ordering). ordering_then o c.loop-label.order) (sym c.cmp.ensures) ∙ sym c.then-order.ensures));
    }
