-- What stands in the stores was once accepted, and what the zones at hand and the stores tell of a name.
use Rattle.std.proofs.Common.{◌≡◌, ℕ, ◌≤◌, ◌⊎◌, inl, inr, Some, List, [], ◌∷◌, Contains, refl, sym, ap, ◌∙◌, subst, arith}
use Rattle.dname.specs.Labels.{Name}
use Rattle.rdata.specs.Records.{Record}
use Rattle.rdata.specs.declared.addr.Addr.{Addr}
use Rattle.zone.specs.Zones.{a_type, cname_type}
use Rattle.zone.specs.Links.{Link, Found, Alias, NoData, NxDomain}
use Rattle.zone.specs.Look as local
use Rattle.authority.specs.Catalogs.{looked}
use Rattle.retry.specs.Penalties.{AreAtMost, same_addr}
use Rattle.retry.proofs.Steps.{looked_most}
use Rattle.referral.specs.Cuts.{Cut, Known}
use Rattle.frames.specs.Trimmed.{trimmed}
use Rattle.cache.specs.Keys.{Key, Kind, NameError, key_for}
use Rattle.cache.specs.Cached.{Hit, Question, EntryAnswers}
use Rattle.cache.specs.Failures.{FailedAsk}
use Rattle.resolution.specs.Jobs.{Home, Stores, level_of, Taken, IsCutOf}
use Rattle.resolution.specs.Rules.{Says, asked_of, above_by, Hits, Finds, Misses}
use Rattle.runs.specs.States.{Turn, OpenQuery}
use Rattle.runs.specs.Runs.{Earlier}
use Rattle.laws.specs.Failures.{SaysFailure, FailedLately, WasKnown}
use Rattle.laws.specs.Spent.{LearnsLink, IsFound, TellsOfNone, IsNotFound, HasNoAddress, IsAliasOf, MayStart}
use Rattle.laws.proofs.TimelyStores.{AreKept, Tells, hit_tells, looked_from, best_from}

-- ---- what an entry that answers says of its own link

apart_types : cname_type ≡ a_type → ⊥
apart_types e = omega (arith, e)

name_of : {a b : Key} → a ≡ b → a.name ≡ b.name
name_of e = ap (λ (k : Key). k.name) e

slot_of : {a b : Key} → a ≡ b → a.slot ≡ b.slot
slot_of e = ap (λ (k : Key). k.slot) e

kind_not_error : {P : Type 0} (a : ℕ) → Kind a ≡ NameError → P
kind_not_error a e = cc

-- A question, where these names above it count.
abbrev asking : Name → ℕ → List Name → Question
asking n t above = record { name = n; kind = t; above = above }

module _ (n : Name) (above : List Name) (m : Name) (u : ℕ) where
  answers_set : (l : Link) (set : List Record) → EntryAnswers (asking n a_type above) (key_for m u l) l (Found set) → (m ≡ n) × (u ≡ a_type) × (l ≡ Found set)
  answers_set (Found rs) set (inl h) = kind_not_error u (slot_of h.0)
  answers_set (Found rs) set (inr (inl h)) = let s : Kind u ≡ Kind a_type = slot_of h.0 in (name_of h.0, cc, sym h.1)
  answers_set (Found []) set (inr (inr (inl h))) = let s = h.2 in absurd (cc)
  answers_set (Found (r ∷ rs)) set (inr (inr (inl h))) = let s = h.2 in absurd (cc)
  answers_set (Found rs) set (inr (inr (inr (p, there, key, is)))) = kind_not_error u (slot_of key)
  answers_set (Alias r) set (inl h) = kind_not_error cname_type (slot_of h.0)
  answers_set (Alias r) set (inr (inl h)) = let s : Kind cname_type ≡ Kind a_type = slot_of h.0 in absurd (apart_types (cc))
  answers_set (Alias r) set (inr (inr (inl h))) = let s = h.2 in absurd (cc)
  answers_set (Alias r) set (inr (inr (inr (p, there, key, is)))) = kind_not_error cname_type (slot_of key)
  answers_set (NoData soa) set (inl h) = let s = h.1 in absurd (cc)
  answers_set (NoData soa) set (inr (inl h)) = let s = h.1 in absurd (cc)
  answers_set (NoData soa) set (inr (inr (inl h))) = let s = h.2 in absurd (cc)
  answers_set (NoData soa) set (inr (inr (inr (p, there, key, is)))) = absurd (cc)
  answers_set (NxDomain soa) set (inl h) = let s = h.1 in absurd (cc)
  answers_set (NxDomain soa) set (inr (inl h)) = let s = h.1 in absurd (cc)
  answers_set (NxDomain soa) set (inr (inr (inl h))) = let s = h.2 in absurd (cc)
  answers_set (NxDomain soa) set (inr (inr (inr (p, there, key, is)))) = absurd (cc)

  -- What answers and is no set tells that the name has no address, or is the error of a name above.
  answers_none : (l given : Link) → EntryAnswers (asking n a_type above) (key_for m u l) l given → IsNotFound given
      → ((m ≡ n) × TellsOfNone u l) ⊎ (Contains above m × ((soa : Record) × (l ≡ NxDomain soa)))
  answers_none (Found rs) given (inl h) none = kind_not_error u (slot_of h.0)
  answers_none (Found rs) given (inr (inl h)) none = absurd (none rs h.1)
  answers_none (Found rs) given (inr (inr (inl h))) none = let s : Kind u ≡ Kind cname_type = slot_of h.0 in inl (name_of h.0, cc)
  answers_none (Found rs) given (inr (inr (inr (p, there, key, is)))) none = kind_not_error u (slot_of key)
  answers_none (Alias r) given (inl h) none = inl (name_of h.0, tt)
  answers_none (Alias r) given (inr (inl h)) none = inl (name_of h.0, tt)
  answers_none (Alias r) given (inr (inr (inl h))) none = inl (name_of h.0, tt)
  answers_none (Alias r) given (inr (inr (inr (p, there, key, is)))) none = kind_not_error cname_type (slot_of key)
  answers_none (NoData soa) given (inl h) none = kind_not_error u (slot_of h.0)
  answers_none (NoData soa) given (inr (inl h)) none = let s : Kind u ≡ Kind a_type = slot_of h.0 in inl (name_of h.0, cc)
  answers_none (NoData soa) given (inr (inr (inl h))) none = let s = h.2 in absurd (cc)
  answers_none (NoData soa) given (inr (inr (inr (p, there, key, is)))) none = kind_not_error u (slot_of key)
  answers_none (NxDomain soa) given (inl h) none = inl (name_of h.0, tt)
  answers_none (NxDomain soa) given (inr (inl h)) none = inl (name_of h.0, tt)
  answers_none (NxDomain soa) given (inr (inr (inl h))) none = inl (name_of h.0, tt)
  answers_none (NxDomain soa) given (inr (inr (inr (p, there, key, is)))) none = inr (subst (Contains above) (sym (name_of key)) there, (soa, refl))

  answers_alias : (t : ℕ) (l : Link) (r : Record) → EntryAnswers (asking n t above) (key_for m u l) l (Alias r)
      → (m ≡ n) × ((l ≡ Alias r) ⊎ ((u ≡ cname_type) × ((rs : List Record) × (l ≡ Found (r ∷ rs)))))
  answers_alias t (Found rs) r (inl h) = let s = h.1 in absurd (cc)
  answers_alias t (Found rs) r (inr (inl h)) = let s = h.1 in absurd (cc)
  answers_alias t (Found []) r (inr (inr (inl h))) = let s = h.2 in absurd (cc)
  answers_alias t (Found (q ∷ rs)) r (inr (inr (inl h))) =
      let s : Kind u ≡ Kind cname_type = slot_of h.0 in
      let e : Some (Alias q) ≡ Some (Alias r) = h.2 in
      let same : q ≡ r = cc in
      (name_of h.0, inr (cc, (rs, ap (λ (x : Record). Found (x ∷ rs)) same)))
  answers_alias t (Found rs) r (inr (inr (inr (p, there, key, is)))) = absurd (cc)
  answers_alias t (Alias q) r (inl h) = let s = h.1 in absurd (cc)
  answers_alias t (Alias q) r (inr (inl h)) = let s = h.1 in absurd (cc)
  answers_alias t (Alias q) r (inr (inr (inl h))) = let e : Some (Alias q) ≡ Some (Alias r) = h.2 in (name_of h.0, inl (cc))
  answers_alias t (Alias q) r (inr (inr (inr (p, there, key, is)))) = absurd (cc)
  answers_alias t (NoData soa) r (inl h) = let s = h.1 in absurd (cc)
  answers_alias t (NoData soa) r (inr (inl h)) = let s = h.1 in absurd (cc)
  answers_alias t (NoData soa) r (inr (inr (inl h))) = let s = h.2 in absurd (cc)
  answers_alias t (NoData soa) r (inr (inr (inr (p, there, key, is)))) = absurd (cc)
  answers_alias t (NxDomain soa) r (inl h) = let s = h.1 in absurd (cc)
  answers_alias t (NxDomain soa) r (inr (inl h)) = let s = h.1 in absurd (cc)
  answers_alias t (NxDomain soa) r (inr (inr (inl h))) = let s = h.2 in absurd (cc)
  answers_alias t (NxDomain soa) r (inr (inr (inr (p, there, key, is)))) = absurd (cc)

module _ (port : ℕ) (home : Home) (run : List Turn) where
  -- Of a start that was kept what a frame can use is kept.
  abbrev pub IsKeptStart : Cut → Type 0
  IsKeptStart c = (s : Cut) × MayStart port home run s × (c ≡ trimmed s)

  -- What was kept was accepted; a cut that was kept is one of a start; no penalty is over 8; and each failure came.
  pub record AreTold (stores : Stores) : Type 0 where
    pub links : AreKept (λ n u e. Earlier (LearnsLink port n u e.link) run) stores.cache
    pub cuts : (n : Name) (c : Known) → Contains stores.delegations (n, c) → (n ≡ (c.cut).owner) × IsKeptStart c.cut
    pub low : AreAtMost 8 stores.penalties
    pub failures : (f : FailedAsk) (since : ℕ) → Contains stores.failures (f, since) → Earlier (SaysFailure port f.name f.kind f.server since) run

  pub low_level : (stores : Stores) → AreTold stores → (a : Addr) → level_of stores a ≤ 8
  low_level stores told a = looked_most 8 (same_addr a) stores.penalties told.low

  -- ---- what is found

  pub found_told : (now : ℕ) (n : Name) (t : ℕ) (old new : Stores) (l : Taken) → AreTold old → Finds home now n t old l new → AreTold new
  found_told now n t old new l told finds = elim finds.is [
    | inl (k, says, link, same) ↦ subst AreTold (sym same) told
    | inr (hit, hits) ↦ subst AreTold (sym hits.stores) (record { links = λ k e c. told.links k e (looked_from (asked_of home n t) now old.cache (k, e) c); cuts = told.cuts; low = told.low; failures = told.failures })
  ]

  told_hit : (now : ℕ) (n : Name) (t : ℕ) (old new : Stores) (l : Taken) (hit : Hit) → AreTold old → Hits home now n t old l hit new
      → Tells (λ m u e. Earlier (LearnsLink port m u e.link) run) (asked_of home n t) now hit
  told_hit now n t old new l hit told hits = hit_tells (λ m u e. Earlier (LearnsLink port m u e.link) run) (asked_of home n t) now old.cache hit told.links hits.found

  pub found_set : (now : ℕ) (n : Name) (old new : Stores) (l : Taken) (set : List Record) → AreTold old → Finds home now n a_type old l new → l.link ≡ Found set → IsFound port home run n set
  found_set now n old new l set told finds is = elim finds.is [
    | inl (k, says, link, same) ↦ inl (subst (λ (m : Link). Says home n a_type (local.Linked m)) (sym (ap (λ (x : Taken). x.link) link) ∙ is) says)
    | inr (hit, hits) ↦ inr (by_hit (told_hit now n a_type old new l hit told hits) (sym (ap (λ (x : Taken). x.link) hits.link) ∙ is))
  ]
    where
      by_hit : {hit : Hit} → Tells (λ m u e. Earlier (LearnsLink port m u e.link) run) (asked_of home n a_type) now hit → hit.link ≡ Found set → Earlier (LearnsLink port n a_type (Found set)) run
      by_hit tells e =
          let (name, kind, link) = answers_set n (above_by (looked home.zones n a_type) n) tells.at tells.kind tells.entry.link set
          (subst (EntryAnswers (asked_of home n a_type) (key_for tells.at tells.kind tells.entry.link) tells.entry.link) e tells.answers) in
          subst (λ (m : Name). Earlier (LearnsLink port m a_type (Found set)) run) name
          (subst (λ (u : ℕ). Earlier (LearnsLink port tells.at u (Found set)) run) kind (subst (λ (m : Link). Earlier (LearnsLink port tells.at tells.kind m) run) link tells.kept))

  pub found_none : (now : ℕ) (n : Name) (old new : Stores) (l : Taken) → AreTold old → Finds home now n a_type old l new → IsNotFound l.link → HasNoAddress port home run n
  found_none now n old new l told finds none = elim finds.is [
    | inl (k, says, link, same) ↦ inl (k, says, subst IsNotFound (ap (λ (x : Taken). x.link) link) none)
    | inr (hit, hits) ↦ inr (by_hit (told_hit now n a_type old new l hit told hits) (subst IsNotFound (ap (λ (x : Taken). x.link) hits.link) none))
  ]
    where
      by_hit : {hit : Hit} → Tells (λ m u e. Earlier (LearnsLink port m u e.link) run) (asked_of home n a_type) now hit → IsNotFound hit.link
          → ((t : ℕ) × (k : Link) × Earlier (LearnsLink port n t k) run × TellsOfNone t k)
          ⊎ ((p : Name) × (t : ℕ) × (soa : Record) × Contains (asked_of home n a_type).above p × Earlier (LearnsLink port p t (NxDomain soa)) run)
      by_hit {hit} tells none = elim (answers_none n (above_by (looked home.zones n a_type) n) tells.at tells.kind tells.entry.link hit.link tells.answers none) [
        | inl (name, says) ↦ inl (tells.kind, tells.entry.link, subst (λ (m : Name). Earlier (LearnsLink port m tells.kind tells.entry.link) run) name tells.kept, says)
        | inr (there, (soa, is)) ↦ inr (tells.at, tells.kind, soa, there, subst (λ (m : Link). Earlier (LearnsLink port tells.at tells.kind m) run) is tells.kept)
      ]

  pub found_alias : (now : ℕ) (n : Name) (t : ℕ) (old new : Stores) (l : Taken) (r : Record) → AreTold old → Finds home now n t old l new → l.link ≡ Alias r → IsAliasOf port home run n t r
  found_alias now n t old new l r told finds is = elim finds.is [
    | inl (k, says, link, same) ↦ inl (subst (λ (m : Link). Says home n t (local.Linked m)) (sym (ap (λ (x : Taken). x.link) link) ∙ is) says)
    | inr (hit, hits) ↦ inr (by_hit (told_hit now n t old new l hit told hits) (sym (ap (λ (x : Taken). x.link) hits.link) ∙ is))
  ]
    where
      by_hit : {hit : Hit} → Tells (λ m u e. Earlier (LearnsLink port m u e.link) run) (asked_of home n t) now hit → hit.link ≡ Alias r
          → (v : ℕ) × (k : Link) × Earlier (LearnsLink port n v k) run × ((k ≡ Alias r) ⊎ ((v ≡ cname_type) × ((rs : List Record) × (k ≡ Found (r ∷ rs)))))
      by_hit tells e =
          let (name, says) = answers_alias n (above_by (looked home.zones n t) n) tells.at tells.kind t tells.entry.link r
          (subst (EntryAnswers (asked_of home n t) (key_for tells.at tells.kind tells.entry.link) tells.entry.link) e tells.answers) in
          (tells.kind, tells.entry.link, subst (λ (m : Name). Earlier (LearnsLink port m tells.kind tells.entry.link) run) name tells.kept, says)

  pub found_name : (now : ℕ) (n : Name) (t : ℕ) (old new : Stores) (l : Taken) → Finds home now n t old l new → l.name ≡ n
  found_name now n t old new l finds = elim finds.is [ inl (k, says, link, same) ↦ ap (λ (x : Taken). x.name) link | inr (hit, hits) ↦ ap (λ (x : Taken). x.name) hits.link ]

  -- ---- where a search starts

  pub missed_told : (now : ℕ) (n : Name) (t : ℕ) (old new : Stores) (c : Cut) → AreTold old → Misses home now n t old c new → AreTold new
  missed_told now n t old new c told m =
      subst AreTold (sym m.stores) (record { links = told.links; cuts = λ d k h. told.cuts d k (best_from n now old.delegations (d, k) h); low = told.low; failures = told.failures })

-- A cut of a zone at hand is a start, and so are the hints.
pub local_start : (port : ℕ) (home : Home) (run : List Turn) (n : Name) (t : ℕ) (at : Name) (ns glue : List Record) (c : Cut) → Says home n t (local.Cut at ns glue) → IsCutOf at ns glue c → MayStart port home run c
local_start port home [] n t at ns glue c says is = inr (n, t, at, ns, glue, says, is)
local_start port home (turn ∷ past) n t at ns glue c says is = inl (local_start port home past n t at ns glue c says is)

-- ---- servers that failed

-- It was known in a step that served the query that the server had failed lately to answer the question.
abbrev pub KnownIn : ℕ → ℕ → List Turn → Name → ℕ → Addr → Type 0
KnownIn port k run n t a = Earlier (λ u before. (u.served ≡ OpenQuery k) × FailedLately port n t a u before) run

-- What is known in a run up to a step that serves the query is so in words, and back.
pub known_was : (port k : ℕ) (turn : Turn) (past : List Turn) (n : Name) (t : ℕ) (a : Addr) → KnownIn port k (turn ∷ past) n t a → WasKnown port k turn past n t a
known_was port k turn past n t a (inl (served, lately)) = inl lately
known_was port k turn past n t a (inr e) = inr e
