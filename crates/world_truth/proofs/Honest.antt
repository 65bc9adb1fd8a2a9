-- An honest answer of a server that may be asked is the world's link.
use Rattle.std.proofs.Common.{◌≡◌, ◌≢◌, ℕ, true, false, inl, inr, List, [], ◌∷◌, ◌++◌, length, refl, sym, ◌∙◌, ap, subst, arith}
use Rattle.std.specs.Prelude.{Contains}
use Rattle.dname.specs.Labels.{Name, IsAtOrUnder}
use Rattle.rdata.specs.Data.{type_of}
use Rattle.rdata.specs.Records.{Record}
use Rattle.zone.specs.Zones.{Zone, At, IsUncut, cname_type, soa_type}
use Rattle.zone.specs.Links.{Link, Found, Alias, NoData, NxDomain, IsFrom, IsDenial, IsLink}
use Rattle.zone.specs.Same.{Same, SameSet, SameLink}
use Rattle.zone.proofs.LawLists.{none_in, first_in, later_in}
use Rattle.message_grammar.specs.Messages.{Header, Message}
use Rattle.authority.specs.Catalogs.{IsInCharge}
use Rattle.world_truth.specs.Worlds.{Address, World, Serves, IsWorld}
use Rattle.world_truth.specs.Truths.{Shows, IsTrueLink}
use Rattle.world_truth.specs.Serving.{AnswersFrom, Gives, Tells, MayServe}
use Rattle.world_truth.specs.Reading.{IsIn, IsFirst, IsFirstOf, IsDenied, Reads, IsAnswer}
use Rattle.world_truth.specs.Frames.{MayAsk}
use Rattle.world_truth.proofs.Sames.{only_in, same_on, same_one, same_type, link_on, found_shown, alias_shown, no_data_shown, nx_domain_shown}
use Rattle.world_truth.proofs.Nearest.{in_charge}

-- The record in the middle of a list stands in it.
pub middle_in : (front : List Record) (r : Record) (back : List Record) → Contains (front ++ r ∷ back) r
middle_in [] r back = first_in r back
middle_in (s ∷ front) r back = later_in s r (front ++ r ∷ back) (middle_in front r back)

pub first_stands : (rs : List Record) (t : ℕ) (r : Record) → IsFirst rs t r → Contains rs r
first_stands rs t r f = subst (λ (xs : List Record). Contains xs r) (sym f.is) (middle_in f.front r f.back)

first_of_stands : (rs : List Record) (q : Name) (t : ℕ) (r : Record) → IsFirstOf rs q t r → Contains rs r
first_of_stands rs q t r f = subst (λ (xs : List Record). Contains xs r) (sym f.is) (middle_in f.front r f.back)

-- What stands in a zone's link.
found_some : (z : Zone) (q : Name) (t : ℕ) (xs : List Record) → IsLink z q t (Found xs) → (r : Record) × Contains xs r
found_some z q t [] h = absurd (h.says.2.3 refl)
found_some z q t (r ∷ rs) h = (r, first_in r rs)

found_from : (z : Zone) (q : Name) (t : ℕ) (xs : List Record) (r : Record) → IsLink z q t (Found xs) → Contains xs r → (r.owner ≡ q) × (type_of r.value ≡ t)
found_from z q t xs r h m =
    let f : IsFrom z h.says.0 q t r = h.says.2.0 r m in
    let a : At z h.says.0 t (record r { owner = h.says.0 }) = f.1 in
    (f.0, a.kind)

pub found_types : (z : Zone) (q : Name) (t : ℕ) (set : List Record) (r : Record) → Shows z q t (Found set) → Contains set r → type_of r.value ≡ t
found_types z q t set r h m =
    let (xs, link, e) = found_shown z q t set h in
    let (x, n, s) = e.0 r m in
    same_type r x s ∙ (found_from z q t xs x link n).1

pub found_member : (z : Zone) (q : Name) (t : ℕ) (set : List Record) → Shows z q t (Found set) → (r : Record) × Contains set r
found_member z q t set h =
    let (xs, link, e) = found_shown z q t set h in
    let (x, n) = found_some z q t xs link in
    let (r, m, s) = e.1 x n in
    (r, m)

-- The alias that a zone shows: its owner and type, and that no record of the asked type stands beside it.
pub record IsShown (q : Name) (t : ℕ) (r : Record) : Type 0 where
  pub owner : r.owner ≡ q
  pub kind : type_of r.value ≡ cname_type
  pub other : t ≢ cname_type

pub alias_is : (z : Zone) (q : Name) (t : ℕ) (r : Record) → Shows z q t (Alias r) → IsShown q t r
alias_is z q t r h =
    let (x, link, e) = alias_shown z q t r h in
    let f : IsFrom z link.says.0 q cname_type x = link.says.2.1 in
    let a : At z link.says.0 cname_type (record x { owner = link.says.0 }) = f.1 in
    record {
      owner = e.0 ∙ f.0;
      kind = same_type r x e ∙ a.kind;
      other = λ s. link.says.2.0 (record x { owner = link.says.0 }) (subst (λ (u : ℕ). At z link.says.0 u (record x { owner = link.says.0 })) (sym s) a);
    }

denial_type : (z : Zone) (r x : Record) → Same r x → IsDenial z x → type_of r.value ≡ soa_type
denial_type z r x e d =
    let a : At z z.origin soa_type d.0 = d.1 in
    same_type r x e ∙ (ap (λ (w : Record). type_of w.value) d.2 ∙ a.kind)

pub no_data_type : (z : Zone) (q : Name) (t : ℕ) (r : Record) → Shows z q t (NoData r) → type_of r.value ≡ soa_type
no_data_type z q t r h = let (x, link, e) = no_data_shown z q t r h in denial_type z r x e link.says.2.3

pub nx_domain_type : (z : Zone) (q : Name) (t : ℕ) (r : Record) → Shows z q t (NxDomain r) → type_of r.value ≡ soa_type
nx_domain_type z q t r h = let (x, link, e) = nx_domain_shown z q t r h in denial_type z r x e link.says.2.2

-- What a server gives is read as what it shows.
pub found_in : (z : Zone) (q : Name) (t : ℕ) (m : Message) (set : List Record) → Gives z q t m (Found set) → (r : Record) × IsIn m.answer q t r
found_in z q t m set (aa, code, owned, shown) =
    let (r, n) = found_member z q t set shown in
    let (stands, owner) = owned.1 r n in
    (r, (stands, owner, found_types z q t set r shown n))

pub alias_in : (z : Zone) (q : Name) (t : ℕ) (m : Message) (r : Record) → Gives z q t m (Alias r) → IsIn m.answer q cname_type r
alias_in z q t m r (aa, code, stands, only, shown) = let is = alias_is z q t r shown in (stands, is.owner, is.kind)

nothing_in : (rs : List Record) (q : Name) (t : ℕ) (r : Record) → rs ≡ [] → IsIn rs q t r → ⊥
nothing_in rs q t r e h = none_in r (subst (λ (xs : List Record). Contains xs r) e h.0)

some_read : (q : Name) (t : ℕ) (m : Message) (set : List Record) → ((r : Record) → Contains set r → (s : Record) × IsIn m.answer q t s × Same r s) → set ≢ []
    → (s : Record) × IsIn m.answer q t s
some_read q t m [] h n = absurd (n refl)
some_read q t m (r ∷ rs) h n = let (s, i, e) = h r (first_in r rs) in (s, i)

one_denial : (f q : Name) (t : ℕ) (m : Message) (r soa x : Record) → m.authority ≡ x ∷ [] → IsDenied f q t m soa → Same r soa → Same r x
one_denial f q t m r soa x e d s =
    let stands = first_stands m.authority soa_type soa d.first in
    subst (λ (w : Record). Same r w) (sym (only_in x soa (subst (λ (xs : List Record). Contains xs soa) e stands))) s

codes_apart : (n : ℕ) → n ≡ 0 → n ≡ 3 → ⊥
codes_apart n a b = omega (arith, a, b)

read_found : (f q : Name) (t : ℕ) (m : Message) (z : Zone) (set taken : List Record) → Gives z q t m (Found set) → Reads f q t m (Found taken) → SameSet taken set
read_found f q t m z set taken (aa, code, owned, shown) (ok, from, all, some) = (
  λ r n. let (s, i, e) = from r n in (s, owned.0 s i.0 i.1, e),
  λ r n. let (stands, owner) = owned.1 r n in all r (stands, owner, found_types z q t set r shown n),
)

pub reads_shown : (f q : Name) (t : ℕ) (m : Message) (z : Zone) (k l : Link) → Gives z q t m k → Reads f q t m l → SameLink l k
reads_shown f q t m z (Found set) (Found taken) g r = record { kinds = refl; records = read_found f q t m z set taken g r }
reads_shown f q t m z (Found set) (Alias x) g r = let (s, i) = found_in z q t m set g in absurd (r.1 s i)
reads_shown f q t m z (Found set) (NoData x) g (ok, (soa, d, e)) = let (s, i) = found_in z q t m set g in absurd (d.answer s i)
reads_shown f q t m z (Found set) (NxDomain x) g (ok, (soa, d, e)) = absurd (codes_apart m.header.rcode g.1 ok)
reads_shown f q t m z (Alias x) (Found taken) (aa, code, stands, only, shown) (ok, from, all, some) =
    let (s, i) = some_read q t m taken from some in
    let is = alias_is z q t x shown in
    absurd (is.other (sym i.2 ∙ (same_type s x (only s i.0 i.1) ∙ is.kind)))
reads_shown f q t m z (Alias x) (Alias y) (aa, code, stands, only, shown) (ok, none, (s, first, e)) =
    record { kinds = refl; records = same_one y x (same_on y s x e (only s (first_of_stands m.answer q cname_type s first) first.owner)) }
reads_shown f q t m z (Alias x) (NoData y) g (ok, (soa, d, e)) = absurd (d.alias x (alias_in z q t m x g))
reads_shown f q t m z (Alias x) (NxDomain y) g (ok, (soa, d, e)) = absurd (d.alias x (alias_in z q t m x g))
reads_shown f q t m z (NoData x) (Found taken) g (ok, from, all, some) = let (s, i) = some_read q t m taken from some in absurd (nothing_in m.answer q t s g.2 i)
reads_shown f q t m z (NoData x) (Alias y) g (ok, none, (s, first, e)) =
    absurd (none_in s (subst (λ (xs : List Record). Contains xs s) g.2 (first_of_stands m.answer q cname_type s first)))
reads_shown f q t m z (NoData x) (NoData y) g (ok, (soa, d, e)) = record { kinds = refl; records = same_one y x (one_denial f q t m y soa x g.3 d e) }
reads_shown f q t m z (NoData x) (NxDomain y) g (ok, (soa, d, e)) = absurd (codes_apart m.header.rcode g.1 ok)
reads_shown f q t m z (NxDomain x) (Found taken) g (ok, from, all, some) = absurd (codes_apart m.header.rcode ok g.1)
reads_shown f q t m z (NxDomain x) (Alias y) g (ok, none, (s, first, e)) =
    absurd (none_in s (subst (λ (xs : List Record). Contains xs s) g.2 (first_of_stands m.answer q cname_type s first)))
reads_shown f q t m z (NxDomain x) (NoData y) g (ok, (soa, d, e)) = absurd (codes_apart m.header.rcode ok g.1)
reads_shown f q t m z (NxDomain x) (NxDomain y) g (ok, (soa, d, e)) = record { kinds = refl; records = same_one y x (one_denial f q t m y soa x g.3 d e) }

-- What a server gives is what its zone shows.
shows_given : (z : Zone) (q : Name) (t : ℕ) (m : Message) (k : Link) → Gives z q t m k → Shows z q t k
shows_given z q t m (Found set) g = g.3
shows_given z q t m (Alias r) g = g.4
shows_given z q t m (NoData r) g = g.4
shows_given z q t m (NxDomain r) g = g.4

-- The zone that a server answers from is in charge of the name where it has no cut over it.
serving_charge : (W : World) (a : Address) (f q : Name) (z : Zone) → IsWorld W → MayAsk W a f q → AnswersFrom W a q z → IsUncut z q → IsInCharge W.zones q z
serving_charge W a f q z w may from uncut =
    let (y, m, e) = w.hosts a f may.serves in
    let long = from.longest y m (subst (λ (n : Name). Serves W a n) (sym e) may.serves) (subst (λ (n : Name). IsAtOrUnder q n) (sym e) may.over) in
    in_charge W q z w from.stands from.over uncut (λ x held over. let short = may.unshadowed x held over in omega (arith, ap length e, long, short))

-- A message that is not truncated is told whole.
pub told_whole : (W : World) (a : Address) (q : Name) (t : ℕ) (m : Message) → MayServe W a q t m → m.header.tc ≡ false → Tells W a q t m
told_whole W a q t m (inl told) tc = told
told_whole W a q t m (inr (whole, told, cut)) tc = absurd (let e : true ≡ false = sym (ap (λ (h : Header). h.tc) cut.header) ∙ tc in cc)

pub honest_answer : (W : World) (a : Address) (f q : Name) (t : ℕ) (m : Message) (l : Link) → IsWorld W → MayAsk W a f q → MayServe W a q t m → IsAnswer f q t m l → IsTrueLink W q t l
honest_answer W a f q t m l w may serve answer = by_told (told_whole W a q t m serve answer.tc)
  where
    by_told : Tells W a q t m → IsTrueLink W q t l
    by_told (z, from, inl (c, over, refers)) = absurd (let e : true ≡ false = sym answer.aa ∙ refers.aa in cc)
    by_told (z, from, inr (k, gives)) =
        let (x, link, e) = shows_given z q t m k gives in
        (z, serving_charge W a f q z w may from link.uncut, (x, link, link_on l k x (reads_shown f q t m z k l gives answer.reads) e))
