-- What the rules of a zone give to the laws of its look-up.
use Rattle.std.proofs.Common.{◌≡◌, ⊎_elim, Bool, true, false, cond, Some, List, [], ◌∷◌, ◌++◌, refl, sym, ◌∙◌, ap, subst, eq-eqb}
use Rattle.std.specs.Prelude.{Contains, find}
use Rattle.std.proofs.lemmas.List.Elements.{Contains-append_left, Contains-append_right, Contains-append_cases}
use Rattle.rdata.specs.Data.{type_of}
use Rattle.rdata.specs.Records.{Record}
use Rattle.zone.specs.Zones.{Zone, soa_type}
use Rattle.zone.specs.Links.{lessened}
use Rattle.zone.specs.Ruled.{HasSoaAtOrigin, HasOneSoa, HasOneAlias, IsZone}
use Rattle.zone.specs.Look.{is_type, denial_by, denial_of}
use Rattle.zone.proofs.LawLists.{none_in, first_in, in_cases}

-- The one SOA.
the_soa : (z : Zone) (k : IsZone z) (s : Record) → Contains z.records s → type_of s.value ≡ soa_type → k.soa.1 ≡ s
the_soa z k s h e =
    let h' : Contains (k.soa.0 ++ k.soa.1 ∷ k.soa.2) s = subst (λ (xs : List Record). Contains xs s) k.soa.3 h in
    ⊎_elim (λ f. absurd (k.soa.6 s (Contains-append_left k.soa.0 k.soa.2 s f) e))
    (λ b. ⊎_elim (λ q. q) (λ m. absurd (k.soa.6 s (Contains-append_right k.soa.0 k.soa.2 s m) e)) (in_cases k.soa.1 s k.soa.2 b))
    (Contains-append_cases k.soa.0 (k.soa.1 ∷ k.soa.2) s h')

pub soa_at_origin : (z : Zone) → IsZone z → HasSoaAtOrigin z
soa_at_origin z k s h e = sym (ap (λ (w : Record). w.owner) (the_soa z k s h e)) ∙ k.soa.5

pub one_soa : (z : Zone) → IsZone z → HasOneSoa z
one_soa z k r s h m e f = ap (λ (w : Record). w.value) (sym (the_soa z k r h e) ∙ the_soa z k s m f)

pub one_alias_name : (z : Zone) → IsZone z → HasOneAlias z
one_alias_name z k r s h m o e f = k.alone r s h m o e

-- It has a negative answer.
find_some : (p : Record → Bool) (xs : List Record) (x : Record) → Contains xs x → p x ≡ true → (y : Record) × (find p xs ≡ Some y)
find_some p [] x h e = absurd (none_in x h)
find_some p (w ∷ xs) x h e = find_more p w xs (p w) refl (λ f. ⊎_elim (λ q. absurd (let g : p x ≡ false = sym (ap p q) ∙ f in cc)) (λ m. find_some p xs x m e) (in_cases w x xs h))
  where
    find_more : (p : Record → Bool) (w : Record) (xs : List Record) (b : Bool) → p w ≡ b → (b ≡ false → (y : Record) × (find p xs ≡ Some y)) → (y : Record) × (cond b (Some w) (find p xs) ≡ Some y)
    find_more p w xs true g k = (w, refl)
    find_more p w xs false g k = k refl

pub has_denial : (z : Zone) → IsZone z → (soa : Record) × (denial_of z ≡ Some soa)
has_denial z k =
    let stands : Contains z.records k.soa.1 = subst (λ (xs : List Record). Contains xs k.soa.1) (sym k.soa.3) (Contains-append_right k.soa.0 (k.soa.1 ∷ k.soa.2) k.soa.1 (first_in k.soa.1 k.soa.2)) in
    let m = find_some (is_type soa_type) z.records k.soa.1 stands (eq-eqb (type_of k.soa.1.value) soa_type k.soa.4) in
    (lessened m.0, ap denial_by m.1)
