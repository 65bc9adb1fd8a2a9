-- Links that are true of a name, in the cache and out of it.
use Rattle.std.proofs.Common.{◌≡◌, ℕ, Some, None, List, [], ◌∷◌, map, inl, inr, refl, sym, ◌∙◌, ap, subst}
use Rattle.std.specs.Prelude.{Contains}
use Rattle.dname.specs.Labels.{Name, IsAtOrUnder}
use Rattle.rdata.specs.Records.{Record}
use Rattle.rdata.specs.Sets.{with_ttl}
use Rattle.rdata.specs.Caps.{capped}
use Rattle.zone.specs.Zones.{Zone, cname_type}
use Rattle.zone.specs.Links.{Link, Found, Alias, NoData, NxDomain}
use Rattle.zone.specs.Same.{Same, Has, SameSet, SameLink}
use Rattle.zone.specs.Look.{Local, Linked}
use Rattle.zone.proofs.LawLists.{none_in, first_in, map_of, map_in}
use Rattle.authority.specs.Catalogs.{IsLooked}
use Rattle.message_grammar.specs.Messages.{Message}
use Rattle.wire.specs.declared.via.Via.{Via}
use Rattle.classify.specs.Classes.{Answer, class_of}
use Rattle.classify.proofs.Uses.{found_once}
use Rattle.limits.specs.Limits.{max_ttl}
use Rattle.classify.specs.Lifetimes.{received}
use Rattle.classify.proofs.Shortened.{received_same}
use Rattle.cache.specs.Keys.{Kind, NameError, Key}
use Rattle.cache.specs.Cached.{Hit, Question, after_keep, IsKept, EntryAnswers, IsHeld}
use Rattle.cache.proofs.Members.{kept_members}
use Rattle.world_truth.specs.Worlds.{World, IsWorld}
use Rattle.world_truth.specs.Truths.{IsTrueLink}
use Rattle.world_truth.specs.Replies.{Once}
use Rattle.world_truth.specs.Frames.{AreHeld}
use Rattle.world_truth.specs.Beneath.{MayDeny}
use Rattle.world_truth.proofs.Beneath.{error_beneath}
use Rattle.world_truth.proofs.Entries.{error_for_all, alias_for_all, found_as_alias, alias_as_found}
use Rattle.world_truth.proofs.Sames.{same_back, same_on}
use Rattle.world_truth.proofs.Grown.{local_is_true}
use Rattle.world_truth.proofs.Stays.{same_is_true, held_once}
use Rattle.cache.specs.Cached.{retimed}
use Rattle.resolution.specs.Jobs.{Source, Cached, Accepted, sent_from}
use Rattle.resolution.specs.Jobs as taken
use Rattle.laws.specs.Truthful.{IsOnce, IsTrueOnce, IsTrueEntry, AreTrueEntries}

-- A set that is read from a message has each record once.
pub class_once : (f q : Name) (t : ℕ) (via : Via) (m : Message) (l : Link) → class_of f q t via m ≡ Answer l → IsOnce l
class_once f q t via m (Found set) e = found_once f q t m via set e
class_once f q t via m (Alias r) e = tt
class_once f q t via m (NoData r) e = tt
class_once f q t via m (NxDomain r) e = tt

-- ---- other TTLs

module _ (f : Record → Record) (same : (r : Record) → Same (f r) r) where
  set_mapped : (rs : List Record) → SameSet (map f rs) rs
  set_mapped rs = (
    λ r m. let (x, mx, is) = map_of f rs r m in (x, mx, subst (λ (y : Record). Same y x) is (same x)),
    λ s m. (f s, map_in f rs s m, same_back (f s) s (same s)),
  )

  has_unmapped : (rs : List Record) (r : Record) → Has (map f rs) (f r) → Has rs r
  has_unmapped rs r (s, m, is) =
      let (x, mx, fx) = map_of f rs s m in
      (x, mx, same_on r (f r) x (same_back (f r) r (same r)) (same_on (f r) s x is (subst (λ (y : Record). Same y x) fx (same x))))

  once_mapped : (rs : List Record) → Once rs → Once (map f rs)
  once_mapped [] h = tt
  once_mapped (r ∷ rs) h = (λ has. h.0 (has_unmapped rs r has), once_mapped rs h.1)

  one_mapped : (r : Record) → SameSet (f r ∷ []) (r ∷ [])
  one_mapped r = set_mapped (r ∷ [])

capped_same : (r : Record) → Same (capped max_ttl r) r
capped_same r = (refl, refl)

ttl_same : (ttl : ℕ) (r : Record) → Same (with_ttl ttl r) r
ttl_same ttl r = (refl, refl)

retimed_same : (ttl : ℕ) (l : Link) → SameLink (retimed ttl l) l
retimed_same ttl (Found rs) = record { kinds = refl; records = set_mapped (with_ttl ttl) (ttl_same ttl) rs }
retimed_same ttl (Alias r) = record { kinds = refl; records = one_mapped (with_ttl ttl) (ttl_same ttl) r }
retimed_same ttl (NoData r) = record { kinds = refl; records = one_mapped (with_ttl ttl) (ttl_same ttl) r }
retimed_same ttl (NxDomain r) = record { kinds = refl; records = one_mapped (with_ttl ttl) (ttl_same ttl) r }

retimed_once : (ttl : ℕ) (l : Link) → IsOnce l → IsOnce (retimed ttl l)
retimed_once ttl (Found rs) h = once_mapped (with_ttl ttl) (ttl_same ttl) rs h
retimed_once ttl (Alias r) h = tt
retimed_once ttl (NoData r) h = tt
retimed_once ttl (NxDomain r) h = tt

received_once : (l : Link) → IsOnce l → IsOnce (received l)
received_once (Found rs) h = once_mapped (capped max_ttl) capped_same rs h
received_once (Alias r) h = tt
received_once (NoData r) h = tt
received_once (NxDomain r) h = tt

pub received_good : (W : World) (n : Name) (t : ℕ) (l : Link) → IsTrueOnce W n t l → IsTrueOnce W n t (received l)
received_good W n t l h = record { is = same_is_true W n t (received l) l (received_same l) h.is; once = received_once l h.once }

retimed_good : (W : World) (n : Name) (t ttl : ℕ) (l : Link) → IsTrueOnce W n t l → IsTrueOnce W n t (retimed ttl l)
retimed_good W n t ttl l h = record { is = same_is_true W n t (retimed ttl l) l (retimed_same ttl l) h.is; once = retimed_once ttl l h.once }

pub sent_good : (W : World) (n : Name) (t now : ℕ) (o : Source) (l : Link) → IsTrueOnce W n t l → IsTrueOnce W n t (sent_from now o l)
sent_good W n t now taken.Local l h = h
sent_good W n t now (Cached ttl since) l h = retimed_good W n t _ l h
sent_good W n t now (Accepted ttl since) l h = retimed_good W n t _ l h

-- ---- local links

pub local_good : (W : World) (zs : List Zone) (n : Name) (t : ℕ) (l : Link) → IsWorld W → AreHeld W zs → IsLooked zs n t (Linked l) → IsTrueOnce W n t l
local_good W zs n t l w held looked = record { is = local_is_true W zs n t l w held looked; once = once l looked }
  where
    once : (l : Link) → IsLooked zs n t (Linked l) → IsOnce l
    once (Found set) h = held_once W zs n t set w held h
    once (Alias r) h = tt
    once (NoData r) h = tt
    once (NxDomain r) h = tt

-- ---- entries of the cache

pub new_true : (W : World) (q : Name) (t : ℕ) (h : Hit) (k : Key) (e : Hit) → IsTrueOnce W q t h.link → IsKept q t h (k, e) → IsTrueEntry W k e.link
new_true W q t h k e good (is, some) =
    subst (λ (x : Key × Hit). IsTrueEntry W x.0 (x.1).link) (sym is) (q, t, refl, good)

pub kept_true : (W : World) (cap : ℕ) (q : Name) (t : ℕ) (h : Hit) (es : List (Key × Hit)) → AreTrueEntries W es → IsTrueOnce W q t h.link → AreTrueEntries W (after_keep cap q t h es)
kept_true W cap q t h es all good k e m = elim (kept_members cap q t h es (k, e) m) as (λ x. IsTrueEntry W k e.link) [
  | inl old ↦ all k e old
  | inr new ↦ new_true W q t h k e good new
]

-- What an entry answers is true of the question.
slot_of : {a b : Key} → a ≡ b → a.slot ≡ b.slot
slot_of e = ap (λ (k : Key). k.slot) e

name_of : {a b : Key} → a ≡ b → a.name ≡ b.name
name_of e = ap (λ (k : Key). k.name) e

one_kind : (a b : ℕ) → Kind a ≡ Kind b → a ≡ b
one_kind a b e = cc

kind_not_error : {P : Type 0} (a : ℕ) → Kind a ≡ NameError → P
kind_not_error a e = cc

error_not_kind : {P : Type 0} (a : ℕ) → NameError ≡ Kind a → P
error_not_kind a e = cc

none_not_some : {P X : Type 0} (x : X) → None ≡ Some x → P
none_not_some x e = cc

some_is : {X : Type 0} {x y : X} → Some x ≡ Some y → x ≡ y
some_is e = cc

at_question : (W : World) (n q : Name) (u t : ℕ) (l : Link) → n ≡ q → u ≡ t → IsTrueOnce W n u l → IsTrueOnce W q t l
at_question W n q u t l same kind h = subst (λ (x : Name). IsTrueOnce W x t l) same (subst (λ (v : ℕ). IsTrueOnce W n v l) kind h)

-- Each of these names above the question's may deny it.
abbrev pub Count : Question → Local → Type 0
Count a said = (p : Name) → Contains a.above p → MayDeny said p × IsAtOrUnder a.name p

module _ (W : World) (w : IsWorld W) (zs : List Zone) (held : AreHeld W zs) (a : Question) (said : Local) (looked : IsLooked zs a.name a.kind said) (count : Count a said) (k : Key) (given : Link) where
  answers_true : (e : Link) → IsTrueEntry W k e → EntryAnswers a k e given → IsTrueOnce W a.name a.kind given
  answers_true (Found rs) (n, u, key, good) (inl (at, is)) = kind_not_error u (slot_of (sym key ∙ at))
  answers_true (Found rs) (n, u, key, good) (inr (inl (at, is))) =
      subst (IsTrueOnce W a.name a.kind) (sym is) (at_question W n a.name u a.kind (Found rs) (name_of (sym key ∙ at)) (one_kind u a.kind (slot_of (sym key ∙ at))) good)
  answers_true (Found []) (n, u, key, good) (inr (inr (inl (at, other, is)))) = none_not_some given is
  answers_true (Found (r ∷ rs)) (n, u, key, good) (inr (inr (inl (at, other, is)))) =
      let here : IsTrueOnce W a.name cname_type (Found (r ∷ rs)) = at_question W n a.name u cname_type (Found (r ∷ rs)) (name_of (sym key ∙ at)) (one_kind u cname_type (slot_of (sym key ∙ at))) good in
      subst (IsTrueOnce W a.name a.kind) (some_is is) (record { is = found_as_alias W a.name a.kind (r ∷ rs) r w here.is (first_in r rs) other; once = tt })
  answers_true (Alias r) (n, u, key, good) (inl (at, is)) = kind_not_error cname_type (slot_of (sym key ∙ at))
  answers_true (Alias r) (n, u, key, good) (inr (inl (at, is))) =
      let asked : cname_type ≡ a.kind = one_kind cname_type a.kind (slot_of (sym key ∙ at)) in
      let here : IsTrueOnce W a.name u (Alias r) = at_question W n a.name u u (Alias r) (name_of (sym key ∙ at)) refl good in
      let set : IsTrueLink W a.name a.kind (Found (r ∷ [])) = subst (λ (v : ℕ). IsTrueLink W a.name v (Found (r ∷ []))) asked (alias_as_found W a.name u r w here.is) in
      subst (IsTrueOnce W a.name a.kind) (sym is) (record { is = set; once = ((λ h. none_in h.0 h.1), tt) })
  answers_true (Alias r) (n, u, key, good) (inr (inr (inl (at, other, is)))) =
      let here : IsTrueOnce W a.name u (Alias r) = at_question W n a.name u u (Alias r) (name_of (sym key ∙ at)) refl good in
      subst (IsTrueOnce W a.name a.kind) (some_is is) (record { is = alias_for_all W a.name u a.kind r w here.is other; once = tt })
  answers_true (NoData r) (n, u, key, good) (inl (at, is)) = kind_not_error u (slot_of (sym key ∙ at))
  answers_true (NoData r) (n, u, key, good) (inr (inl (at, is))) =
      subst (IsTrueOnce W a.name a.kind) (sym is) (at_question W n a.name u a.kind (NoData r) (name_of (sym key ∙ at)) (one_kind u a.kind (slot_of (sym key ∙ at))) good)
  answers_true (NoData r) (n, u, key, good) (inr (inr (inl (at, other, is)))) = none_not_some given is
  answers_true (NxDomain r) (n, u, key, good) (inl (at, is)) =
      let here : IsTrueOnce W a.name u (NxDomain r) = at_question W n a.name u u (NxDomain r) (name_of (sym key ∙ at)) refl good in
      subst (IsTrueOnce W a.name a.kind) (sym is) (record { is = error_for_all W a.name u a.kind r here.is; once = tt })
  answers_true (NxDomain r) (n, u, key, good) (inr (inl (at, is))) = error_not_kind a.kind (slot_of (sym key ∙ at))
  answers_true (NxDomain r) (n, u, key, good) (inr (inr (inl (at, other, is)))) = error_not_kind cname_type (slot_of (sym key ∙ at))
  answers_true (Found rs) (n, u, key, good) (inr (inr (inr (p, there, at, is)))) = kind_not_error u (slot_of (sym key ∙ at))
  answers_true (Alias r) (n, u, key, good) (inr (inr (inr (p, there, at, is)))) = kind_not_error cname_type (slot_of (sym key ∙ at))
  answers_true (NoData r) (n, u, key, good) (inr (inr (inr (p, there, at, is)))) = kind_not_error u (slot_of (sym key ∙ at))
  answers_true (NxDomain r) (n, u, key, good) (inr (inr (inr (p, there, at, is)))) =
      let above : IsTrueOnce W p u (NxDomain r) = at_question W n p u u (NxDomain r) (name_of (sym key ∙ at)) refl good in
      let (denies, under) = count p there in
      subst (IsTrueOnce W a.name a.kind) (sym is) (record { is = error_beneath W zs p a.name u a.kind r said w held looked denies under above.is; once = tt })

pub hit_good : (W : World) (zs : List Zone) (a : Question) (said : Local) (now : ℕ) (es : List (Key × Hit)) (h : Hit) → IsWorld W → AreHeld W zs → IsLooked zs a.name a.kind said → Count a said
    → AreTrueEntries W es → IsHeld a now es h → IsTrueOnce W a.name a.kind h.link
hit_good W zs a said now es h w held looked count all (k, e, there, lives, answers, ttl, since) = answers_true W w zs held a said looked count k h.link e.link (all k e there) answers
