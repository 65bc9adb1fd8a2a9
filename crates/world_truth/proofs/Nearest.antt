-- A zone that is in charge of a name because no zone that the resolver holds lies beneath it.
use Rattle.std.proofs.Common.{◌≤◌, ◌<◌, ℕ, zero, suc, ◌⊎◌, inl, inr, [], ◌∷◌, length, refl, ap, subst, arith}
use Rattle.std.specs.Prelude.{Contains}
use Rattle.dname.specs.Labels.{Name, IsName, AreLabels, IsAtOrUnder}
use Rattle.zone.specs.Zones.{Zone, IsCut, IsUncut, IsBeneath}
use Rattle.zone.proofs.LawLists.{over_one, under_under, under_length, same_over}
use Rattle.authority.specs.Catalogs.{IsInCharge}
use Rattle.world_truth.specs.Worlds.{World, IsParent, IsWorld}
use Rattle.world_truth.specs.Frames.{IsUnshadowed}
use Rattle.world_truth.proofs.Charges.{one_origin}

some_label : (n : Name) → AreLabels n → suc zero ≤ length n
some_label [] h = absurd h
some_label (l ∷ ls) h = omega arith

pub origin_long : (W : World) (z : Zone) → IsWorld W → Contains W.zones z → suc zero ≤ length z.origin
origin_long W z w m = let name : IsName z.origin = w.names z m in some_label z.origin name.labels

pub decided : (a b : ℕ) → (a ≤ b) ⊎ (b < a)
decided zero b = inl (omega arith)
decided (suc a) zero = inr (omega arith)
decided (suc a) (suc b) = elim (decided a b) [
  | inl h ↦ inl (omega (arith, h))
  | inr h ↦ inr (omega (arith, h))
]

-- Of two names over one name the shorter is strictly above the longer.
pub above_longer : (q a b : Name) → IsAtOrUnder q a → IsAtOrUnder q b → length b < length a → IsBeneath a b
above_longer q a b h k lt = elim (over_one q a b h k) [
  | inl u ↦ (u, λ e. omega (arith, ap length e, lt))
  | inr u ↦ absurd (let short = under_length b a u in omega (arith, short, lt))
]

pub beneath_length : (a b : Name) → IsBeneath a b → length b < length a
beneath_length a b h = elim (decided (length a) (length b)) [
  | inl le ↦ (let longer = under_length a b h.0 in absurd (h.1 (same_over a a b ([], refl) h.0 (omega (arith, le, longer)))))
  | inr lt ↦ lt
]

-- No zone over q is longer: going up from it, each is delegated by the one right above, and the last step
-- would be a cut over q.
no_longer : (fuel : ℕ) (W : World) (q : Name) (y x : Zone) → IsWorld W → Contains W.zones y → IsAtOrUnder q y.origin → IsUncut y q → IsUnshadowed W y.origin q
    → Contains W.zones x → IsAtOrUnder q x.origin → length x.origin ≤ fuel → length y.origin < length x.origin → ⊥
no_longer zero W q y x w my oy uncut clear mx ox le lt = omega (arith, le, lt)
no_longer (suc fuel) W q y x w my oy uncut clear mx ox le lt = elim (w.delegated x mx) [
  | inl top ↦ (let long = origin_long W y w my in omega (arith, ap length top, lt, long))
  | inr (inl local) ↦ (let short = clear x (mx, local) ox in omega (arith, short, lt))
  | inr (inr (p, parent, cut)) ↦ higher (λ z. no_longer fuel W q y z w my oy uncut clear) p parent cut (decided (length p.origin) (length y.origin))
]
  where
    higher : ((z : Zone) → Contains W.zones z → IsAtOrUnder q z.origin → length z.origin ≤ fuel → length y.origin < length z.origin → ⊥) → (p : Zone) → IsParent W x.origin p → IsCut p x.origin → (length p.origin ≤ length y.origin) ⊎ (length y.origin < length p.origin) → ⊥
    higher again p parent cut (inr longer) =
        let short = beneath_length x.origin p.origin parent.over in
        again p parent.stands (under_under q x.origin p.origin ox parent.over.0) (omega (arith, short, le)) longer
    higher again p parent cut (inl shorter) =
        let long = parent.longest y my (above_longer q x.origin y.origin ox oy lt) in
        let origin = same_over q p.origin y.origin (under_under q x.origin p.origin ox parent.over.0) oy (omega (arith, shorter, long)) in
        let one = one_origin W.zones p y w.parted parent.stands my origin in
        uncut x.origin (subst (λ (z : Zone). IsCut z x.origin) one cut) ox

pub in_charge : (W : World) (q : Name) (y : Zone) → IsWorld W → Contains W.zones y → IsAtOrUnder q y.origin → IsUncut y q → IsUnshadowed W y.origin q → IsInCharge W.zones q y
in_charge W q y w my oy uncut clear = record {
  stands = my;
  over = oy;
  longest = λ x mx ox. elim (decided (length x.origin) (length y.origin)) [
    | inl le ↦ le
    | inr lt ↦ absurd (no_longer (length x.origin) W q y x w my oy uncut clear mx ox (omega arith) lt)
  ];
}
