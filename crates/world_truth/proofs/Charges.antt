-- Who is in charge of a name.
use Rattle.std.proofs.Common.{◌≡◌, ◌≤◌, ⊎_elim, List, [], ◌∷◌, length, sym, ◌∙◌, ap, subst, arith}
use Rattle.std.specs.Prelude.{Contains}
use Rattle.dname.specs.Labels.{Name, IsAtOrUnder}
use Rattle.zone.specs.Zones.{Zone, At, IsCut, IsUncut, ns_type}
use Rattle.zone.specs.Ruled.{IsZone}
use Rattle.zone.proofs.LawLists.{none_in, in_cases, under_length, same_over}
use Rattle.authority.specs.Catalogs.{IsInCharge}
use Rattle.world_truth.specs.Worlds.{World, HaveOwnOrigins, IsWorld}

-- One zone has an origin.
pub one_origin : (zs : List Zone) (y z : Zone) → HaveOwnOrigins zs → Contains zs y → Contains zs z → y.origin ≡ z.origin → y ≡ z
one_origin [] y z p m n e = absurd (none_in y m)
one_origin (x ∷ xs) y z p m n e =
    ⊎_elim
    (λ (a : x ≡ y). ⊎_elim (λ (b : x ≡ z). sym a ∙ b) (λ b. absurd (p.0 z b (sym e ∙ ap (λ (w : Zone). w.origin) (sym a)))) (in_cases x z xs n))
    (λ a. ⊎_elim (λ (b : x ≡ z). absurd (p.0 y a (e ∙ ap (λ (w : Zone). w.origin) (sym b)))) (λ b. one_origin xs y z p.1 a b e) (in_cases x z xs n))
    (in_cases x y xs m)

pub one_charge : (W : World) (q : Name) (y z : Zone) → IsWorld W → IsInCharge W.zones q y → IsInCharge W.zones q z → y ≡ z
one_charge W q y z w a b =
    let c : length z.origin ≤ length y.origin = a.longest z b.stands b.over in
    let d : length y.origin ≤ length z.origin = b.longest y a.stands a.over in
    one_origin W.zones y z w.parted a.stands b.stands (same_over q y.origin z.origin a.over b.over (omega arith))

-- A cut stands at or under its zone's origin.
pub cut_inside : (z : Zone) (c : Name) → IsZone z → IsCut z c → IsAtOrUnder c z.origin
cut_inside z c rules (apart, (r, a)) = let at : At z c ns_type r = a in subst (λ (n : Name). IsAtOrUnder n z.origin) at.owner (rules.inside r at.stands)

-- No cut stands over a name of which the zone is in charge: the zone that is cut off would be.
pub charge_uncut : (W : World) (q : Name) (z : Zone) → IsWorld W → IsInCharge W.zones q z → IsUncut z q
charge_uncut W q z w charge c cut over =
    let (y, m, e) = w.cuts z c charge.stands cut in
    let longer : length y.origin ≤ length z.origin = charge.longest y m (subst (IsAtOrUnder q) (sym e) over) in
    let shorter : length z.origin ≤ length c = under_length c z.origin (cut_inside z c (w.zones z charge.stands) cut) in
    cut.0 (same_over q c z.origin over charge.over (omega (arith, ap length e)))
