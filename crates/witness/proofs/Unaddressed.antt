-- A world in which a local zone delegates names to servers that have no address. Most of the servers' names do not
-- exist. No zone is served by anybody.
use Rattle.std.proofs.Common.{◌≡◌, ◌≢◌, ◌<◌, ◌≤◌, ◌+◌, ℕ, zero, suc, ◌⊎◌, inl, inr, false, None, List, [], ◌∷◌, ◌++◌, map, length, refl, sym, ◌∙◌, ap, subst, arith}
use Rattle.std.specs.Prelude.{Contains}
use Rattle.std.specs.List.{list_any}
use Rattle.std.proofs.lemmas.Bool.{or_parts, both_ways}
use Rattle.std.proofs.lemmas.List.Elements.{Contains-append_right}
use Rattle.dname.specs.Labels.{Name, root, folded, same_name, IsName}
use Rattle.dname.specs.Laws.{same_name-equal}
use Rattle.rdata.specs.Data.{Ns, type_of}
use Rattle.rdata.specs.Records.{Record}
use Rattle.zone.specs.Zones.{Zone, At, IsCut, IsBeneath, a_type}
use Rattle.zone.specs.Links.{IsFrom}
use Rattle.zone.specs.Ruled.{IsZone, IsNamed}
use Rattle.zone.specs.Faults.{fault_of}
use Rattle.zone.proofs.LawRules.{zone_is}
use Rattle.zone.proofs.LawLists.{none_in, first_in, later_in, in_cases, any_from, under_length}
use Rattle.authority.specs.Catalogs.{has_twins}
use Rattle.world_truth.specs.Worlds.{Address, World, IsParent, IsAddressOf, HaveOwnOrigins, IsWorld}
use Rattle.world_truth.specs.Sample.{server_name, lower_name, host_name, soa_data, entry}
use Rattle.resolution.specs.Jobs.{Home}
use Rattle.runs.specs.States.{Site}
use Rattle.laws.specs.Headline.{IsHomeIn}
use Rattle.witness.proofs.Talk.{l_label, host_is_name}
use Rattle.witness.proofs.Place.{each_of}

-- ---- names

-- A name with a number, the second byte of its first label.
abbrev pub numbered : ℕ → Name → Name
numbered c o = (110 ∷ c ∷ []) ∷ o

-- So many names right beneath the root, their numbers from `c` on. None of them exists.
abbrev pub absent : ℕ → ℕ → List Name
absent zero c = []
absent (suc k) c = numbered c root ∷ absent k (c + 1)

-- A cut of the local zone `l.`.
abbrev pub below : ℕ → Name
below b = (b ∷ []) ∷ lower_name

-- The servers of `x.l.` lie beneath four other cuts, whose sixteen servers each do not exist: 68 names in the order of
-- their look-ups, with numbers from 97 on, among which there is no capital letter.
abbrev pub outers : List Name
outers = numbered 97 (below 112) ∷ numbered 114 (below 113) ∷ numbered 131 (below 114) ∷ numbered 148 (below 115) ∷ []

abbrev pub cuts : List (Name × List Name)
cuts =
    (host_name, outers) ∷ (below 112, absent 16 98) ∷ (below 113, absent 16 115) ∷ (below 114, absent 16 132)
    ∷ (below 115, absent 16 149) ∷ []

abbrev pub owner_of : Name × List Name → Name
owner_of d = d.0

abbrev pub cut_names : List Name
cut_names = map owner_of cuts

-- ---- zones

abbrev pub served_by : Name → List Name → List Record
served_by cut [] = []
served_by cut (n ∷ ns) = entry cut (Ns n) ∷ served_by cut ns

abbrev pub delegating : List (Name × List Name) → List Record
delegating [] = []
delegating (d ∷ more) = served_by d.0 d.1 ++ delegating more

-- A zone with no name but its origin, and the zone with the cuts.
abbrev pub bare : Name → Zone
bare o = record { origin = o; records = entry o soa_data ∷ entry o (Ns server_name) ∷ [] }

abbrev pub top_zone : Zone
top_zone = bare root

abbrev pub cut_zone : Zone
cut_zone = record { origin = lower_name; records = entry lower_name soa_data ∷ entry lower_name (Ns server_name) ∷ delegating cuts }

abbrev pub world : World
world = record { zones = top_zone ∷ cut_zone ∷ map bare cut_names; hosts = []; locals = root ∷ lower_name ∷ []; hints = [] }

abbrev pub home : Home
home = record { zones = top_zone ∷ cut_zone ∷ []; hints = [] }

abbrev pub site : Site
site = record { home = home; port = 53; sockets = 4 }

-- ---- which zones there are

abbrev IsOneOf : Zone → Type 0
IsOneOf z = (top_zone ≡ z) ⊎ (cut_zone ≡ z) ⊎ ((o : Name) × Contains cut_names o × (bare o ≡ z))

bare_of : (ns : List Name) (z : Zone) → Contains (map bare ns) z → (o : Name) × Contains ns o × (bare o ≡ z)
bare_of [] z m = absurd (none_in z m)
bare_of (n ∷ ns) z m = elim (in_cases (bare n) z (map bare ns) m) [
  | inl same ↦ (n, first_in n ns, same)
  | inr more ↦ let (o, there, same) = bare_of ns z more in (o, later_in n o ns there, same)
]

bare_in : (ns : List Name) (o : Name) → Contains ns o → Contains (map bare ns) (bare o)
bare_in [] o m = absurd (none_in o m)
bare_in (n ∷ ns) o m = elim (in_cases n o ns m) [
  | inl same ↦ subst (λ (x : Name). Contains (map bare (n ∷ ns)) (bare x)) same (first_in (bare n) (map bare ns))
  | inr more ↦ later_in (bare n) (bare o) (map bare ns) (bare_in ns o more)
]

one_of : (z : Zone) → Contains world.zones z → IsOneOf z
one_of z m = elim (in_cases top_zone z (cut_zone ∷ map bare cut_names) m) as (λ x. IsOneOf z) [
  | inl same ↦ inl same
  | inr more ↦ elim (in_cases cut_zone z (map bare cut_names) more) as (λ x. IsOneOf z) [
    | inl same ↦ inr (inl same)
    | inr rest ↦ inr (inr (bare_of cut_names z rest))
  ]
]

top_there : Contains world.zones top_zone
top_there = first_in top_zone (cut_zone ∷ map bare cut_names)

cut_there : Contains world.zones cut_zone
cut_there = later_in top_zone cut_zone (cut_zone ∷ map bare cut_names) (first_in cut_zone (map bare cut_names))

bare_there : (o : Name) → Contains cut_names o → Contains world.zones (bare o)
bare_there o m = later_in top_zone (bare o) (cut_zone ∷ map bare cut_names) (later_in cut_zone (bare o) (map bare cut_names) (bare_in cut_names o m))

-- What is so of each zone.
each_zone : (P : Zone → Type 0) → P top_zone → P cut_zone → ((o : Name) → Contains cut_names o → P (bare o)) → (z : Zone) → Contains world.zones z → P z
each_zone P top cut others z m = elim (one_of z m) [
  | inl same ↦ subst P same top
  | inr (inl same) ↦ subst P same cut
  | inr (inr (o, there, same)) ↦ subst P same (others o there)
]

-- ---- their records

served : (P : Record → Type 0) (cut : Name) (ns : List Name) (rest : List Record) → ((n : Name) → P (entry cut (Ns n))) → ((r : Record) → Contains rest r → P r)
    → (r : Record) → Contains (served_by cut ns ++ rest) r → P r
served P cut [] rest own others r m = others r m
served P cut (n ∷ ns) rest own others r m = elim (in_cases (entry cut (Ns n)) r (served_by cut ns ++ rest) m) [
  | inl same ↦ subst P same (own n)
  | inr more ↦ served P cut ns rest own others r more
]

abbrev IsDelegating : List Name → Record → Type 0
IsDelegating ns r = (type_of r.value ≡ 2) × Contains ns r.owner

delegated_by : (ds : List (Name × List Name)) (r : Record) → Contains (delegating ds) r → IsDelegating (map owner_of ds) r
delegated_by [] r m = absurd (none_in r m)
delegated_by (d ∷ ds) r m = served (IsDelegating (map owner_of (d ∷ ds))) d.0 d.1 (delegating ds) (λ n. (refl, first_in d.0 (map owner_of ds)))
    (λ s k. let own = delegated_by ds s k in (own.0, later_in d.0 s.owner (map owner_of ds) own.1)) r m

delegates : (ds : List (Name × List Name)) (cut n : Name) (ns : List Name) → Contains ds (cut, n ∷ ns) → Contains (delegating ds) (entry cut (Ns n))
delegates [] cut n ns m = absurd (none_in (cut, n ∷ ns) m)
delegates (d ∷ ds) cut n ns m = elim (in_cases d (cut, n ∷ ns) ds m) [
  | inl same ↦ subst (λ (e : Name × List Name). Contains (delegating (e ∷ ds)) (entry cut (Ns n))) (sym same) (first_in (entry cut (Ns n)) (served_by cut ns ++ delegating ds))
  | inr more ↦ Contains-append_right (served_by d.0 d.1) (delegating ds) (entry cut (Ns n)) (delegates ds cut n ns more)
]

-- Each record of the zone with the cuts is at its origin, or delegates.
of_cut_zone : (P : Record → Type 0) → P (entry lower_name soa_data) → P (entry lower_name (Ns server_name)) → ((r : Record) → IsDelegating cut_names r → P r)
    → (r : Record) → Contains cut_zone.records r → P r
of_cut_zone P soa ns others r m = elim (in_cases (entry lower_name soa_data) r (entry lower_name (Ns server_name) ∷ delegating cuts) m) as (λ x. P r) [
  | inl same ↦ subst P same soa
  | inr more ↦ elim (in_cases (entry lower_name (Ns server_name)) r (delegating cuts) more) as (λ x. P r) [
    | inl same ↦ subst P same ns
    | inr rest ↦ others r (delegated_by cuts r rest)
  ]
]

-- There are SOA and NS records alone.
abbrev IsAuthority : Record → Type 0
IsAuthority r = (type_of r.value ≡ 6) ⊎ (type_of r.value ≡ 2)

authorities : (z : Zone) → Contains world.zones z → (r : Record) → Contains z.records r → IsAuthority r
authorities z m = each_zone (λ (y : Zone). (r : Record) → Contains y.records r → IsAuthority r)
    (each_of IsAuthority top_zone.records (inl refl, (inr refl, tt)))
    (of_cut_zone IsAuthority (inl refl) (inr refl) (λ r d. inr d.0))
    (λ o there. each_of IsAuthority (bare o).records (inl refl, (inr refl, tt)))
    z m

no_address : (n : Name) (a : Address) → IsAddressOf world n a → ⊥
no_address n a (inl (z, r, mz, m, owner, e)) = elim (authorities z mz r m) as (λ x. ⊥) [
  | inl soa ↦ omega (arith, soa, ap type_of e)
  | inr ns ↦ omega (arith, ns, ap type_of e)
]
no_address n a (inr (z, set, r, charge, link, m, e)) =
    let f : IsFrom z link.says.0 n a_type r = link.says.2.0 r m in
    let at : At z link.says.0 a_type (record r { owner = link.says.0 }) = f.1 in
    elim (authorities z charge.stands (record r { owner = link.says.0 }) at.stands) as (λ x. ⊥) [
      | inl soa ↦ omega (arith, soa, at.kind)
      | inr ns ↦ omega (arith, ns, at.kind)
    ]

-- ---- their rules

pub top_named : IsNamed top_zone
top_named r m = each_of (λ (x : Record). x.owner ≢ []) top_zone.records (λ e. cc, (λ e. cc, tt)) r m

pub cut_named : IsNamed cut_zone
cut_named = of_cut_zone (λ (r : Record). r.owner ≢ []) (λ e. cc) (λ e. cc) (λ r d. each_of (λ (o : Name). o ≢ []) cut_names (λ e. cc, (λ e. cc, (λ e. cc, (λ e. cc, (λ e. cc, tt))))) r.owner d.1)

bare_rules : (l : List ℕ) (ls : List (List ℕ)) → fault_of (bare (l ∷ ls)) ≡ None → IsZone (bare (l ∷ ls))
bare_rules l ls = zone_is (bare (l ∷ ls)) (λ r m. each_of (λ (x : Record). x.owner ≢ []) (bare (l ∷ ls)).records (λ e. cc, (λ e. cc, tt)) r m)

pub top_rules : IsZone top_zone
top_rules = bare_rules [] [] refl

pub cut_rules : IsZone cut_zone
cut_rules = zone_is cut_zone cut_named refl

rules : (z : Zone) → Contains world.zones z → IsZone z
rules = each_zone IsZone top_rules cut_rules (each_of (λ (o : Name). IsZone (bare o)) cut_names (
  bare_rules (120 ∷ []) lower_name refl,
  (
    bare_rules (112 ∷ []) lower_name refl,
    (
      bare_rules (113 ∷ []) lower_name refl,
      (bare_rules (114 ∷ []) lower_name refl, (bare_rules (115 ∷ []) lower_name refl, tt)),
    ),
  ),
))

below_is_name : (b : ℕ) → b < 256 → folded b ≡ b → IsName (below b)
below_is_name b fits lower = record { labels = (record { nonempty = omega arith; short = omega arith; bytes = (fits, lower, tt) }, (l_label, refl)); short = omega arith }

cut_is_name : (o : Name) → Contains cut_names o → IsName o
cut_is_name = each_of IsName cut_names
    (host_is_name, (below_is_name 112 (omega arith) refl, (below_is_name 113 (omega arith) refl, (below_is_name 114 (omega arith) refl, (below_is_name 115 (omega arith) refl, tt)))))

names : (z : Zone) → Contains world.zones z → IsName z.origin
names = each_zone (λ (z : Zone). IsName z.origin) (record { labels = refl; short = omega arith }) (record { labels = (l_label, refl); short = omega arith }) cut_is_name

parted_from : (zs : List Zone) → has_twins zs ≡ false → HaveOwnOrigins zs
parted_from [] h = tt
parted_from (z ∷ zs) h =
    let p = or_parts (list_any (λ (y : Zone). same_name y.origin z.origin) zs) (has_twins zs) h in (
      λ y m e. both_ways (list_any (λ (y : Zone). same_name y.origin z.origin) zs) p.0
          (any_from (λ (y : Zone). same_name y.origin z.origin) zs y m (same_name-equal y.origin z.origin e)),
      parted_from zs p.1,
    )

-- ---- its cuts

abbrev IsBelow : Name → Type 0
IsBelow o = IsBeneath o lower_name × (length o ≡ 3)

longer : (o : Name) → length o ≡ 3 → o ≢ lower_name
longer o long e = omega (arith, long, ap length e)

beneath : (o : Name) → Contains cut_names o → IsBelow o
beneath = each_of IsBelow cut_names
    (by 120, (by 112, (by 113, (by 114, (by 115, tt)))))
  where
    by : (b : ℕ) → IsBelow (below b)
    by b = ((((b ∷ []) ∷ [], refl), longer (below b) refl), refl)

-- A name is longer than the names above it.
shorter : (a b : Name) → IsBeneath a b → length b < length a
shorter a b (([], e), apart) = absurd (apart e)
shorter a b ((l ∷ front, e), apart) = let more = under_length (front ++ b) b (front, refl) in omega (arith, more, ap length e)

delegation : (o : Name) → Contains cut_names o → (r : Record) × At cut_zone o 2 r
delegation = each_of (λ (o : Name). (r : Record) × At cut_zone o 2 r) cut_names (
  by host_name (numbered 97 (below 112)) _ (0, omega arith, refl),
  (
    by (below 112) (numbered 98 root) _ (1, omega arith, refl),
    (
      by (below 113) (numbered 115 root) _ (2, omega arith, refl),
      (by (below 114) (numbered 132 root) _ (3, omega arith, refl), (by (below 115) (numbered 149 root) _ (4, omega arith, refl), tt)),
    ),
  ),
)
  where
    by : (o n : Name) (ns : List Name) → Contains cuts (o, n ∷ ns) → (r : Record) × At cut_zone o 2 r
    by o n ns m = (
      entry o (Ns n),
      record {
        stands = later_in (entry lower_name soa_data) (entry o (Ns n)) (entry lower_name (Ns server_name) ∷ delegating cuts)
            (later_in (entry lower_name (Ns server_name)) (entry o (Ns n)) (delegating cuts) (delegates cuts o n ns m));
        owner = refl;
        kind = refl;
      },
    )

parent : (o : Name) → Contains cut_names o → IsParent world o cut_zone × IsCut cut_zone o
parent o m =
    let (over, long) = beneath o m in (
      record { stands = cut_there; over = over; longest = λ y my above. let less = shorter o y.origin above in omega (arith, less, long) },
      (over.1, delegation o m),
    )

abbrev IsHere : Name → Zone → Type 0
IsHere c z = IsCut z c → Contains cut_names c

no_cut : (o c : Name) → IsCut (bare o) c → ⊥
no_cut o c (apart, (r, at)) = apart (sym at.owner ∙ each_of (λ (x : Record). x.owner ≡ o) (bare o).records (refl, (refl, tt)) r at.stands)

abbrev IsHereBy : Name → Record → Type 0
IsHereBy c r = r.owner ≡ c → Contains cut_names c

which_cut : (c : Name) (z : Zone) → Contains world.zones z → IsHere c z
which_cut c = each_zone (IsHere c) (λ k. absurd (no_cut root c k)) of_cuts (λ o there k. absurd (no_cut o c k))
  where
    of_cuts : IsHere c cut_zone
    of_cuts (apart, (r, at)) = of_cut_zone (IsHereBy c) (λ e. absurd (apart (sym e))) (λ e. absurd (apart (sym e))) (λ s d e. subst (Contains cut_names) e d.1) r at.stands at.owner

-- ---- it is well formed

abbrev IsDelegated : Zone → Type 0
IsDelegated z = (z.origin ≡ root) ⊎ Contains world.locals z.origin ⊎ ((p : Zone) × IsParent world z.origin p × IsCut p z.origin)

pub world_stands : IsWorld world
world_stands = record {
  zones = rules;
  names = names;
  parted = parted_from world.zones refl;
  rooted = (top_zone, top_there, refl);
  cuts = λ z c m cut. let here = which_cut c z m cut in (bare c, bare_there c here, refl);
  delegated = each_zone IsDelegated (inl refl) (inr (inl (later_in root lower_name (lower_name ∷ []) (first_in lower_name []))))
      (λ o there. let p = parent o there in inr (inr (cut_zone, p.0, p.1)));
  servers = λ c n a named address. absurd (no_address n a address);
  hosts = λ a o serves. absurd (none_in serves.0 serves.1);
  hints = λ a m. absurd (none_in a m);
  start = inl (first_in root (lower_name ∷ []));
}

-- The resolver holds the root's zone and the one with the cuts.
abbrev IsHomeZone : Zone → Type 0
IsHomeZone z = Contains world.zones z × Contains world.locals z.origin

held : (z : Zone) → Contains home.zones z → IsHomeZone z
held = each_of IsHomeZone home.zones
    ((top_there, first_in root (lower_name ∷ [])), ((cut_there, later_in root lower_name (lower_name ∷ []) (first_in lower_name [])), tt))

abbrev IsHeldIfLocal : Zone → Type 0
IsHeldIfLocal z = Contains world.locals z.origin → Contains home.zones z

holds : (z : Zone) → Contains world.zones z → IsHeldIfLocal z
holds = each_zone IsHeldIfLocal (λ l. first_in top_zone (cut_zone ∷ [])) (λ l. later_in top_zone cut_zone (cut_zone ∷ []) (first_in cut_zone []))
    (λ o there l. absurd (let (over, long) = beneath o there in let short = each_of (λ (x : Name). length x ≤ 2) world.locals (omega arith, (omega arith, tt)) o l in omega (arith, short, long)))

pub at_home : IsHomeIn world home
at_home = record { held = λ z. (held z, λ h. holds z h.0 h.1); hints = λ a m. absurd (none_in a m) }
