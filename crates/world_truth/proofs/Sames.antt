-- Records, sets and links that are the same but for TTLs, order and repeats.
use Rattle.std.proofs.Common.{◌≡◌, ℕ, inl, inr, List, [], ◌∷◌, refl, sym, ◌∙◌, ap, subst, arith}
use Rattle.std.specs.Prelude.{Contains}
use Rattle.dname.specs.Labels.{Name}
use Rattle.rdata.specs.Data.{type_of}
use Rattle.rdata.specs.Records.{Record}
use Rattle.zone.specs.Zones.{Zone}
use Rattle.zone.specs.Links.{Link, Found, Alias, NoData, NxDomain, IsLink}
use Rattle.zone.specs.Same.{Same, Has, SameSet, SameLink, records_of}
use Rattle.zone.proofs.LawLists.{none_in, first_in, in_cases}
use Rattle.world_truth.specs.Truths.{Shows}

pub same_back : (r s : Record) → Same r s → Same s r
same_back r s h = (sym h.0, sym h.1)

pub same_on : (r s t : Record) → Same r s → Same s t → Same r t
same_on r s t h k = (h.0 ∙ k.0, h.1 ∙ k.1)

pub same_type : (r s : Record) → Same r s → type_of r.value ≡ type_of s.value
same_type r s h = ap type_of h.1

pub has_itself : (rs : List Record) (r : Record) → Contains rs r → Has rs r
has_itself rs r m = (r, m, (refl, refl))

pub has_same : (rs : List Record) (r s : Record) → Same r s → Has rs s → Has rs r
has_same rs r s e (x, m, h) = (x, m, same_on r s x e h)

pub set_back : (rs ss : List Record) → SameSet rs ss → SameSet ss rs
set_back rs ss h = (h.1, h.0)

has_on : (rs ss : List Record) (r : Record) → ((x : Record) → Contains rs x → Has ss x) → Has rs r → Has ss r
has_on rs ss r h (x, m, e) = has_same ss r x e (h x m)

pub set_on : (rs ss ts : List Record) → SameSet rs ss → SameSet ss ts → SameSet rs ts
set_on rs ss ts h k = (λ r m. has_on ss ts r k.0 (h.0 r m), λ t m. has_on ss rs t h.1 (k.1 t m))

pub link_back : (k l : Link) → SameLink k l → SameLink l k
link_back k l h = record { kinds = sym h.kinds; records = set_back (records_of k) (records_of l) h.records }

pub link_on : (k l m : Link) → SameLink k l → SameLink l m → SameLink k m
link_on k l m h i = record { kinds = h.kinds ∙ i.kinds; records = set_on (records_of k) (records_of l) (records_of m) h.records i.records }

-- Sets of one record.
pub only_in : (r s : Record) → Contains (r ∷ []) s → r ≡ s
only_in r s m = elim (in_cases r s [] m) [
  | inl e ↦ e
  | inr n ↦ absurd (none_in s n)
]

pub one_same : (r s : Record) → SameSet (r ∷ []) (s ∷ []) → Same r s
one_same r s h =
    let (x, m, e) = h.0 r (first_in r []) in
    subst (λ (w : Record). Same r w) (sym (only_in s x m)) e

pub same_one : (r s : Record) → Same r s → SameSet (r ∷ []) (s ∷ [])
same_one r s e = (
  λ x m. (s, first_in s [], subst (λ (w : Record). Same w s) (only_in r x m) e),
  λ x m. (r, first_in r [], subst (λ (w : Record). Same w r) (only_in s x m) (same_back r s e)),
)

-- What a zone shows, by its kind.
pub found_shown : (z : Zone) (q : Name) (t : ℕ) (set : List Record) → Shows z q t (Found set) → (xs : List Record) × IsLink z q t (Found xs) × SameSet set xs
found_shown z q t set (Found xs, h, e) = (xs, h, e.records)
found_shown z q t set (Alias r, h, e) = absurd (omega (arith, e.kinds))
found_shown z q t set (NoData r, h, e) = absurd (omega (arith, e.kinds))
found_shown z q t set (NxDomain r, h, e) = absurd (omega (arith, e.kinds))

pub alias_shown : (z : Zone) (q : Name) (t : ℕ) (r : Record) → Shows z q t (Alias r) → (x : Record) × IsLink z q t (Alias x) × Same r x
alias_shown z q t r (Found xs, h, e) = absurd (omega (arith, e.kinds))
alias_shown z q t r (Alias x, h, e) = (x, h, one_same r x e.records)
alias_shown z q t r (NoData x, h, e) = absurd (omega (arith, e.kinds))
alias_shown z q t r (NxDomain x, h, e) = absurd (omega (arith, e.kinds))

pub no_data_shown : (z : Zone) (q : Name) (t : ℕ) (r : Record) → Shows z q t (NoData r) → (x : Record) × IsLink z q t (NoData x) × Same r x
no_data_shown z q t r (Found xs, h, e) = absurd (omega (arith, e.kinds))
no_data_shown z q t r (Alias x, h, e) = absurd (omega (arith, e.kinds))
no_data_shown z q t r (NoData x, h, e) = (x, h, one_same r x e.records)
no_data_shown z q t r (NxDomain x, h, e) = absurd (omega (arith, e.kinds))

pub nx_domain_shown : (z : Zone) (q : Name) (t : ℕ) (r : Record) → Shows z q t (NxDomain r) → (x : Record) × IsLink z q t (NxDomain x) × Same r x
nx_domain_shown z q t r (Found xs, h, e) = absurd (omega (arith, e.kinds))
nx_domain_shown z q t r (Alias x, h, e) = absurd (omega (arith, e.kinds))
nx_domain_shown z q t r (NoData x, h, e) = absurd (omega (arith, e.kinds))
nx_domain_shown z q t r (NxDomain x, h, e) = (x, h, one_same r x e.records)

pub link_itself : (l : Link) → SameLink l l
link_itself l = record { kinds = refl; records = (λ r m. has_itself (records_of l) r m, λ r m. has_itself (records_of l) r m) }
