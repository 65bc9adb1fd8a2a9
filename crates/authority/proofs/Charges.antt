-- The zone in charge of a name, and what it says.
use Rattle.std.proofs.Common.{◌≡◌, ◌≢◌, ℕ, ◌≤◌, ⊎_elim, inl, inr, Bool, true, false, cond, Option, Some, None, List, [], ◌∷◌, length, refl, sym, ◌∙◌, ap, subst}
use Rattle.std.specs.Prelude.{Contains, find}
use Rattle.std.proofs.lemmas.Bool.{both_ways}
use Rattle.dname.specs.Labels.{same_name, IsAtOrUnder, AreLabels, IsName}
use Rattle.dname.specs.Laws.{same_name-exact, same_name-equal}
use Rattle.rdata.specs.Records.{Record}
use Rattle.zone.specs.Zones.{Zone}
use Rattle.zone.specs.Ruled.{IsNamed, IsZone}
use Rattle.zone.specs.Look.{NotHere, local_by, denial_of}
use Rattle.zone.proofs.LawLists.{none_in, in_cases, find_of, at_itself, one_under, under_cases, under_length}
use Rattle.zone.proofs.LawReferral.{local_law}
use Rattle.zone.proofs.LawZones.{soa_at_origin}
use Rattle.authority.specs.Catalogs.{IsInCharge, IsLooked, first_zone, zone_at, zone_over, AreNamed, AreZones}

-- The zone of an origin.
zone_at_is : (n : List (List ℕ)) (zs : List Zone) (z : Zone) → zone_at n zs ≡ Some z → Contains zs z × (z.origin ≡ n)
zone_at_is n zs z e = let m = find_of (λ (y : Zone). same_name y.origin n) zs z e in (m.0, same_name-exact z.origin n m.1)

find_more : (p : Zone → Bool) (w : Zone) (xs : List Zone) (x : Zone) (b : Bool) → p w ≡ b → p x ≡ true → Contains (w ∷ xs) x → (Contains xs x → find p xs ≡ None → ⊥) → cond b (Some w) (find p xs) ≡ None → ⊥
find_more p w xs x true e t m k h = cc
find_more p w xs x false e t m k h = ⊎_elim (λ q. both_ways (p w) e (ap p q ∙ t)) (λ n. k n h) (in_cases w x xs m)

found_some : (p : Zone → Bool) (xs : List Zone) (x : Zone) → p x ≡ true → Contains xs x → find p xs ≡ None → ⊥
found_some p [] x t m h = none_in x m
found_some p (w ∷ xs) x t m h = find_more p w xs x (p w) refl t m (found_some p xs x t) h

nobody_at : (n : List (List ℕ)) (zs : List Zone) (z : Zone) → zone_at n zs ≡ None → Contains zs z → z.origin ≢ n
nobody_at n zs z h m e = found_some (λ (y : Zone). same_name y.origin n) zs z (same_name-equal z.origin n e) m h

-- The search for the longest origin over a name finds the zone in charge.
charge_step : (zs : List Zone) (l : List ℕ) (ls : List (List ℕ)) (z : Zone) (o : Option Zone) → zone_at (l ∷ ls) zs ≡ o → (zone_over zs ls ≡ Some z → IsInCharge zs ls z)
    → first_zone o (zone_over zs ls) ≡ Some z → IsInCharge zs (l ∷ ls) z
charge_step zs l ls z (Some y) e k h =
    let m = zone_at_is (l ∷ ls) zs z (e ∙ h) in
    record {
      stands = m.0;
      over = subst (λ (n : List (List ℕ)). IsAtOrUnder (l ∷ ls) n) (sym m.1) (at_itself (l ∷ ls));
      longest = λ x c u. subst (λ (n : List (List ℕ)). length x.origin ≤ length n) (sym m.1) (under_length (l ∷ ls) x.origin u);
    }
charge_step zs l ls z None e k h =
    let m = k h in
    record {
      stands = m.stands;
      over = one_under l ls z.origin m.over;
      longest = λ x c u. ⊎_elim (λ p. absurd (nobody_at (l ∷ ls) zs x e c (sym p))) (λ v. m.longest x c v) (under_cases l ls x.origin u);
    }

pub charge_is : (zs : List Zone) (q : List (List ℕ)) (z : Zone) → zone_over zs q ≡ Some z → IsInCharge zs q z
charge_is zs [] z h = absurd (cc)
charge_is zs (l ∷ ls) z h = charge_step zs l ls z (zone_at (l ∷ ls) zs) refl (charge_is zs ls z) h

-- And none where no origin is over the name.
over_nothing : (n : List (List ℕ)) → IsAtOrUnder [] n → n ≡ []
over_nothing n ([], e) = sym e
over_nothing n (l ∷ f, e) = absurd (cc)

nobody_step : (zs : List Zone) (l : List ℕ) (ls : List (List ℕ)) (z : Zone) (o : Option Zone) → zone_at (l ∷ ls) zs ≡ o → Contains zs z → (zone_over zs ls ≡ None → IsAtOrUnder ls z.origin → ⊥)
    → first_zone o (zone_over zs ls) ≡ None → IsAtOrUnder (l ∷ ls) z.origin → ⊥
nobody_step zs l ls z (Some y) e m k h u = cc
nobody_step zs l ls z None e m k h u = ⊎_elim (λ p. nobody_at (l ∷ ls) zs z e m (sym p)) (λ v. k h v) (under_cases l ls z.origin u)

pub nobody_over : (zs : List Zone) (q : List (List ℕ)) (z : Zone) → AreNamed zs → Contains zs z → zone_over zs q ≡ None → IsAtOrUnder q z.origin → ⊥
nobody_over zs [] z named m h u = named z m (over_nothing z.origin u)
nobody_over zs (l ∷ ls) z named m h u = nobody_step zs l ls z (zone_at (l ∷ ls) zs) refl m (nobody_over zs ls z named m) h u

-- What the zones give.
pub looked_here : (zs : List Zone) (q : List (List ℕ)) (t : ℕ) (z : Zone) (soa : Record) → Some z ≡ zone_over zs q → IsNamed z → IsZone z → denial_of z ≡ Some soa → IsLooked zs q t (local_by soa z q t)
looked_here zs q t z soa e named rules d =
    let charge : IsInCharge zs q z = charge_is zs q z (sym e) in
    let k : IsZone z = rules in
    inl (z, charge, local_law z q t soa named (soa_at_origin z k) k.ttls d charge.over)

pub looked_nowhere : (zs : List Zone) (q : List (List ℕ)) (t : ℕ) → AreNamed zs → None ≡ zone_over zs q → IsLooked zs q t NotHere
looked_nowhere zs q t named e = inr (λ z m u. nobody_over zs q z named m (sym e) u, refl)

-- Origins that have a label.
labelled : (n : List (List ℕ)) → AreLabels n → n ≢ []
labelled [] h e = h
labelled (l ∷ ls) h e = absurd (cc)

-- The origin of a zone that keeps the rules is a name.
pub zones_named : (zs : List Zone) → AreZones zs → AreNamed zs
zones_named zs all z m e = let k = all z m in named z.origin k.1 e
  where
    named : (n : List (List ℕ)) → IsName n → n ≡ [] → ⊥
    named n k e = labelled n k.labels e
