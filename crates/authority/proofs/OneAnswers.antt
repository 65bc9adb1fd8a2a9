-- One zone is in charge of a name, and a question has one answer.
use Rattle.std.proofs.Common.{◌≡◌, ◌≤◌, ℕ, ⊎_elim, inl, inr, false, List, [], ◌∷◌, length, sym, ◌∙◌, ap, subst, arith}
use Rattle.std.specs.Prelude.{Contains}
use Rattle.std.specs.List.{list_any}
use Rattle.std.proofs.lemmas.Bool.{or_parts, both_ways}
use Rattle.dname.specs.Labels.{same_name, IsAtOrUnder}
use Rattle.dname.specs.Laws.{same_name-equal}
use Rattle.rdata.specs.Records.{Record}
use Rattle.zone.specs.Zones.{Zone, IsCutOver}
use Rattle.zone.specs.Links.{Link, IsLink}
use Rattle.zone.specs.Referrals.{IsReferral, IsLocal}
use Rattle.zone.specs.Ruled.{IsZone}
use Rattle.zone.specs.Look.{Local, Linked, Cut, NotHere}
use Rattle.zone.proofs.LawLists.{none_in, in_cases, any_from, same_over}
use Rattle.zone.proofs.LawOne.{one_link}
use Rattle.zone.proofs.LawZones.{one_soa, one_alias_name}
use Rattle.authority.specs.Catalogs.{IsInCharge, IsLooked, has_twins}
use Rattle.authority.specs.OneAnswer.{AreSame, SameLocal}

-- Without twins one zone has an origin.
no_twin : (x : Zone) (xs : List Zone) (z : Zone) → list_any (λ (y : Zone). same_name y.origin x.origin) xs ≡ false → Contains xs z → z.origin ≡ x.origin → ⊥
no_twin x xs z h m e = both_ways (list_any (λ (y : Zone). same_name y.origin x.origin) xs) h (any_from (λ (y : Zone). same_name y.origin x.origin) xs z m (same_name-equal z.origin x.origin e))

one_origin : (zs : List Zone) (y z : Zone) → has_twins zs ≡ false → Contains zs y → Contains zs z → y.origin ≡ z.origin → y ≡ z
one_origin [] y z h m n e = absurd (none_in y m)
one_origin (x ∷ xs) y z h m n e =
    let p = or_parts (list_any (λ (w : Zone). same_name w.origin x.origin) xs) (has_twins xs) h in
    ⊎_elim
    (λ (a : x ≡ y). ⊎_elim (λ (b : x ≡ z). sym a ∙ b) (λ b. absurd (no_twin x xs z p.0 b (sym e ∙ ap (λ (w : Zone). w.origin) (sym a)))) (in_cases x z xs n))
    (λ a. ⊎_elim (λ (b : x ≡ z). absurd (no_twin x xs y p.0 a (e ∙ ap (λ (w : Zone). w.origin) (sym b)))) (λ b. one_origin xs y z p.1 a b e) (in_cases x z xs n))
    (in_cases x y xs m)

pub one_charge : (zs : List Zone) (q : List (List ℕ)) (y z : Zone) → has_twins zs ≡ false → IsInCharge zs q y → IsInCharge zs q z → y ≡ z
one_charge zs q y z h a b =
    let c : length z.origin ≤ length y.origin = a.longest z b.stands b.over in
    let d : length y.origin ≤ length z.origin = b.longest y a.stands a.over in
    one_origin zs y z h a.stands b.stands (same_over q y.origin z.origin a.over b.over (omega arith))

-- One referral.
one_cut : (z : Zone) (q c d : List (List ℕ)) → IsCutOver z q c → IsCutOver z q d → c ≡ d
one_cut z q c d h k =
    let a : length c ≤ length d = h.nearest d k.cut k.over in
    let b : length d ≤ length c = k.nearest c h.cut h.over in
    same_over q c d h.over k.over (omega arith)

one_referral : (z : Zone) (q c d : List (List ℕ)) (servers more addresses others : List Record) → IsReferral z q c servers addresses → IsReferral z q d more others
    → (c ≡ d) × AreSame servers more × AreSame addresses others
one_referral z q c d servers more addresses others h k =
    let e : c ≡ d = one_cut z q c d h.over k.over in
    let j : IsReferral z q c more others = subst (λ (n : List (List ℕ)). IsReferral z q n more others) (sym e) k in
    (e, (λ r m. j.all_named r (h.named r m), λ r m. h.all_named r (j.named r m)), (λ r m. j.all_glue r (h.glue r m), λ r m. h.all_glue r (j.glue r m)))

-- One answer of a zone.
apart : (z : Zone) (q : List (List ℕ)) (t : ℕ) (l : Link) (c : List (List ℕ)) (servers addresses : List Record) → IsLink z q t l → IsReferral z q c servers addresses → ⊥
apart z q t l c servers addresses h k = let o : IsCutOver z q c = k.over in h.uncut c o.cut o.over

one_local : (z : Zone) (q : List (List ℕ)) (t : ℕ) (k l : Local) → IsZone z → IsAtOrUnder q z.origin → IsLocal z q t k → IsLocal z q t l → SameLocal k l
one_local z q t (Linked k) (Linked l) rules u h m = one_link z q t k l (one_alias_name z rules) (one_soa z rules) h m
one_local z q t (Linked k) (Cut c servers addresses) rules u h m = absurd (apart z q t k c servers addresses h m)
one_local z q t (Linked k) NotHere rules u h m = absurd (m u)
one_local z q t (Cut c servers addresses) (Linked l) rules u h m = absurd (apart z q t l c servers addresses m h)
one_local z q t (Cut c servers addresses) (Cut d more others) rules u h m = one_referral z q c d servers more addresses others h m
one_local z q t (Cut c servers addresses) NotHere rules u h m = absurd (m u)
one_local z q t NotHere l rules u h m = absurd (h u)

one_nowhere : (k l : Local) → k ≡ NotHere → l ≡ NotHere → SameLocal k l
one_nowhere (Linked k) l e f = absurd (cc)
one_nowhere (Cut c servers addresses) l e f = absurd (cc)
one_nowhere NotHere (Linked l) e f = absurd (cc)
one_nowhere NotHere (Cut c servers addresses) e f = absurd (cc)
one_nowhere NotHere NotHere e f = tt

pub one_answer : (zs : List Zone) (q : List (List ℕ)) (t : ℕ) (k l : Local) → has_twins zs ≡ false → ((z : Zone) → Contains zs z → IsZone z) → IsLooked zs q t k → IsLooked zs q t l → SameLocal k l
one_answer zs q t k l apart rules (inl (y, a, h)) (inl (z, b, m)) =
    let e : y ≡ z = one_charge zs q y z apart a b in
    one_local z q t k l (rules z b.stands) b.over (subst (λ (w : Zone). IsLocal w q t k) e h) m
one_answer zs q t k l apart rules (inl (y, a, h)) (inr (none, m)) = absurd (none y a.stands a.over)
one_answer zs q t k l apart rules (inr (none, h)) (inl (z, b, m)) = absurd (none z b.stands b.over)
one_answer zs q t k l apart rules (inr (none, h)) (inr (nowhere, m)) = one_nowhere k l h m
