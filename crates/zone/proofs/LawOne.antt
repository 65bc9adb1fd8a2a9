-- A question has one link, but for TTLs, order and repeats.
use Rattle.std.proofs.Common.{◌≡◌, ◌≢◌, ◌≤◌, ℕ, ◌⊎◌, inl, inr, ⊎_elim, Some, List, [], ◌∷◌, length, refl, sym, ◌∙◌, ap, subst, arith}
use Rattle.std.specs.Prelude.{Contains}
use Rattle.dname.specs.Labels.{star}
use Rattle.rdata.specs.Records.{Record}
use Rattle.zone.specs.Zones.{Zone, At, Exists, IsEncloser, cname_type, soa_type}
use Rattle.zone.specs.Links.{Link, Found, Alias, NoData, NxDomain, IsSource, IsFrom, HasNone, IsEmpty, IsDenial, Says, IsLink}
use Rattle.zone.specs.Ruled.{IsNamed, HasSoaAtOrigin, HasOneSoa, HasOneTtl, HasOneAlias}
use Rattle.zone.specs.Same.{Has, SameSet, SameLink}
use Rattle.zone.specs.Look.{denial_of, link_by}
use Rattle.zone.proofs.LawLists.{none_in, first_in, in_cases, same_over}
use Rattle.zone.proofs.LawTests.{uncut_is}
use Rattle.zone.proofs.LawLink.{link_law}

-- One source.
pub one_encloser : (z : Zone) (q e d : List (List ℕ)) → IsEncloser z q e → IsEncloser z q d → e ≡ d
one_encloser z q e d h k =
    let a : length d ≤ length e = h.longest d k.exists k.over in
    let b : length e ≤ length d = k.longest e h.exists h.over in
    same_over q e d h.over k.over (omega arith)

pub one_source : (z : Zone) (q r s : List (List ℕ)) → IsSource z q r → IsSource z q s → r ≡ s
one_source z q r s (inl h) (inl k) = h.1 ∙ sym k.1
one_source z q r s (inl h) (inr k) = absurd (k.0 h.0)
one_source z q r s (inr h) (inl k) = absurd (h.0 k.0)
one_source z q r s (inr h) (inr k) =
    let e : h.1.0 ≡ k.1.0 = one_encloser z q h.1.0 k.1.0 h.1.1 k.1.1 in
    h.1.2 ∙ (ap (λ (x : List (List ℕ)). star ∷ x) e ∙ sym k.1.2)

-- Sets of one record.
one_has : (r s x : Record) → r.owner ≡ s.owner → r.value ≡ s.value → Contains (r ∷ []) x → Has (s ∷ []) x
one_has r s x eo ev h = ⊎_elim
    (λ e. (s, first_in s [], (sym (ap (λ (w : Record). w.owner) e) ∙ eo, sym (ap (λ (w : Record). w.value) e) ∙ ev)))
    (λ k. absurd (none_in x k))
    (in_cases r x [] h)

one_set : (r s : Record) → r.owner ≡ s.owner → r.value ≡ s.value → SameSet (r ∷ []) (s ∷ [])
one_set r s eo ev = (λ x h. one_has r s x eo ev h, λ x h. one_has s r x (sym eo) (sym ev) h)

some_of : (rs : List Record) → rs ≢ [] → (r : Record) × Contains rs r
some_of [] n = absurd (n refl)
some_of (r ∷ rs) n = (r, first_in r rs)

-- One alias, one negative answer.
one_alias : (z : Zone) (s q : List (List ℕ)) (a b : Record) → HasOneAlias z → IsFrom z s q cname_type a → IsFrom z s q cname_type b → SameSet (a ∷ []) (b ∷ [])
one_alias z s q a b one h k =
    let m : At z s cname_type (record a { owner = s }) = h.1 in
    let n : At z s cname_type (record b { owner = s }) = k.1 in
    one_set a b (h.0 ∙ sym k.0) (one (record a { owner = s }) (record b { owner = s }) m.stands n.stands refl m.kind n.kind)

one_denial : (z : Zone) (a b : Record) → HasOneSoa z → IsDenial z a → IsDenial z b → SameSet (a ∷ []) (b ∷ [])
one_denial z a b one h k =
    let m : At z z.origin soa_type h.0 = h.1 in
    let n : At z z.origin soa_type k.0 = k.1 in
    let eo : h.0.owner ≡ k.0.owner = m.owner ∙ sym n.owner in
    let ev : h.0.value ≡ k.0.value = one h.0 k.0 m.stands n.stands m.kind n.kind in
    one_set a b (ap (λ (w : Record). w.owner) h.2 ∙ (eo ∙ sym (ap (λ (w : Record). w.owner) k.2)))
    (ap (λ (w : Record). w.value) h.2 ∙ (ev ∙ sym (ap (λ (w : Record). w.value) k.2)))

-- A set that is found leaves no place for another link.
found_apart : (z : Zone) (s q : List (List ℕ)) (t : ℕ) (set : List Record) → Says z s q t (Found set) → HasNone z s t → ⊥
found_apart z s q t set h n = let m = some_of set h.3 in let f : IsFrom z s q t m.0 = h.0 m.0 m.1 in n (record m.0 { owner = s }) f.1

alias_apart : (z : Zone) (s q : List (List ℕ)) (r : Record) → IsFrom z s q cname_type r → HasNone z s cname_type → ⊥
alias_apart z s q r h n = n (record r { owner = s }) h.1

denials_apart : (z : Zone) (s q : List (List ℕ)) → Exists z q ⊎ (IsEmpty z s → ⊥) → IsEmpty z s → (Exists z q → ⊥) → ⊥
denials_apart z s q (inl x) empty none = none x
denials_apart z s q (inr f) empty none = f empty

one_says : (z : Zone) (s q : List (List ℕ)) (t : ℕ) (k l : Link) → HasOneAlias z → HasOneSoa z → Says z s q t k → Says z s q t l → SameLink k l
one_says z s q t (Found set) (Found other) one soa h k =
    record { kinds = refl; records = (λ r m. (r, k.1 r (h.0 r m), (refl, refl)), λ r m. (r, h.1 r (k.0 r m), (refl, refl))) }
one_says z s q t (Found set) (Alias r) one soa h k = absurd (found_apart z s q t set h k.0)
one_says z s q t (Found set) (NoData r) one soa h k = absurd (found_apart z s q t set h k.0)
one_says z s q t (Found set) (NxDomain r) one soa h k = absurd (found_apart z s q t set h (k.0 t))
one_says z s q t (Alias r) (Found set) one soa h k = absurd (found_apart z s q t set k h.0)
one_says z s q t (Alias r) (Alias a) one soa h k = record { kinds = refl; records = one_alias z s q r a one h.1 k.1 }
one_says z s q t (Alias r) (NoData a) one soa h k = absurd (alias_apart z s q r h.1 k.1)
one_says z s q t (Alias r) (NxDomain a) one soa h k = absurd (alias_apart z s q r h.1 (k.0 cname_type))
one_says z s q t (NoData r) (Found set) one soa h k = absurd (found_apart z s q t set k h.0)
one_says z s q t (NoData r) (Alias a) one soa h k = absurd (alias_apart z s q a k.1 h.1)
one_says z s q t (NoData r) (NoData a) one soa h k = record { kinds = refl; records = one_denial z r a soa h.3 k.3 }
one_says z s q t (NoData r) (NxDomain a) one soa h k = absurd (denials_apart z s q h.2 k.0 k.1)
one_says z s q t (NxDomain r) (Found set) one soa h k = absurd (found_apart z s q t set k (h.0 t))
one_says z s q t (NxDomain r) (Alias a) one soa h k = absurd (alias_apart z s q a k.1 (h.0 cname_type))
one_says z s q t (NxDomain r) (NoData a) one soa h k = absurd (denials_apart z s q k.2 h.0 h.1)
one_says z s q t (NxDomain r) (NxDomain a) one soa h k = record { kinds = refl; records = one_denial z r a soa h.2 k.2 }

pub one_link : (z : Zone) (q : List (List ℕ)) (t : ℕ) (k l : Link) → HasOneAlias z → HasOneSoa z → IsLink z q t k → IsLink z q t l → SameLink k l
one_link z q t k l one soa h m =
    let same : h.says.0 ≡ m.says.0 = one_source z q h.says.0 m.says.0 h.says.1 m.says.1 in
    one_says z h.says.0 q t k l one soa h.says.2 (subst (λ (s : List (List ℕ)). Says z s q t l) (sym same) m.says.2)

-- Each link of a question is the one that the look-up gives.
pub link_is : (z : Zone) (q : List (List ℕ)) (t : ℕ) (soa : Record) (l : Link) → IsNamed z → HasSoaAtOrigin z → HasOneSoa z → HasOneTtl z → HasOneAlias z → denial_of z ≡ Some soa
    → IsLink z q t l → SameLink l (link_by soa z q t)
link_is z q t soa l named there one ttl alias h k =
    one_link z q t l (link_by soa z q t) alias one k (link_law z q t soa named there ttl h k.inside (uncut_is z q k.uncut))
