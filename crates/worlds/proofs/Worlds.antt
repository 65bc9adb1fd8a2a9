-- The tests of a world's rules, and the rules.
use Rattle.std.proofs.Common.{◌≡◌, ◌≢◌, ◌≤◌, ℕ, ◌⊎◌, ⊎_elim, inl, inr, false, not, nat_eq, Option, Some, None, List, [], ◌∷◌, ◌++◌, length, refl, sym, ◌∙◌, ap, subst, arith}
use Rattle.std.specs.Prelude.{Contains}
use Rattle.std.specs.List.{list_any}
use Rattle.std.specs.Cmp.Lexicographic.{pointwise, bytes_decides}
use Rattle.std.proofs.lemmas.Bool.{eqb-true, eq-eqb}
use Rattle.dname.specs.Labels.{Name, root, AreLabels, IsName}
use Rattle.rdata.specs.Data.{Datum, Ipv4, Ns, Cname, Soa, Ptr, Mx, Txt, Ipv6, Srv, type_of}
use Rattle.rdata.specs.Records.{Record}
use Rattle.zone.specs.Zones.{Zone, At, IsCut, IsBeneath, a_type, ns_type}
use Rattle.zone.specs.Links.{Found, Alias, NoData, NxDomain}
use Rattle.zone.specs.Look.{Local, Linked, Cut, NotHere, is_type, owns}
use Rattle.zone.specs.Ruled.{IsZone, IsNamed}
use Rattle.zone.specs.Same.{SameLink}
use Rattle.zone.proofs.LawLists.{none_in, first_in}
use Rattle.zone.proofs.LawZones.{has_denial as some_denial}
use Rattle.authority.specs.Catalogs.{IsInCharge, IsLooked, AreNamed, has_twins, zone_over, looked, looked_in, AreZones}
use Rattle.authority.specs.OneAnswer.{SameLocal}
use Rattle.authority.proofs.Ascents.{looked_by}
use Rattle.authority.proofs.Charges.{charge_is, looked_here, looked_nowhere}
use Rattle.authority.proofs.OneAnswers.{one_answer}
use Rattle.world_truth.specs.Worlds.{Address, Host, World, Serves, IsOrigin, IsParent, IsServerName, IsAddressOf, HaveOwnOrigins}
use Rattle.worlds.specs.Rules.{has_name, has_origin, serves, makes_cut, has_loose_cuts, is_above, is_between, delegates, has_undelegated, is_missed, zone_misses, look_misses, target_misses, has_lame_cuts, has_idle_host, has_bad_hint, lacks_start}
use Rattle.worlds.specs.Refusals.{HasCutZones, IsDelegated}
use Rattle.worlds.proofs.Decided.{Yes, No, no_not, yes_not, yes_un, no_un, yes_and, no_and, yes_or, no_or, yes_any, no_any, no_as, yes_as, yes_same, yes_under, no_less}

-- Names, origins, servers.
pub yes_name : (n : Name) (ns : List Name) → Yes (has_name n ns) (Contains ns n)
yes_name n ns = yes_as (λ p. subst (λ (m : Name). Contains ns m) p.2 p.1) (λ h. (n, h, refl)) (yes_any (λ m. yes_same m n) ns)

pub yes_origin : (n : Name) (zs : List Zone) → Yes (has_origin n zs) ((z : Zone) × Contains zs z × (z.origin ≡ n))
yes_origin n zs = yes_any (λ z. yes_same z.origin n) zs

yes_bytes : (a b : List ℕ) → Yes (pointwise nat_eq a b) (a ≡ b)
yes_bytes a b = record { so = (bytes_decides a b).0; test = (bytes_decides a b).1 }

pub yes_serves : (a : Address) (o : Name) (hs : List Host) → Yes (serves a o hs) ((h : Host) × Contains hs h × (h.address ≡ a) × Contains h.origins o)
yes_serves a o hs = yes_as (λ p. (p.0, p.1, p.2.0, p.2.1)) (λ p. (p.0, p.1, (p.2, p.3))) (yes_any (λ h. yes_and (yes_bytes h.address a) (yes_name o h.origins)) hs)

yes_type : (t : ℕ) (r : Record) → Yes (is_type t r) (type_of r.value ≡ t)
yes_type t r = record { so = eqb-true (type_of r.value) t; test = eq-eqb (type_of r.value) t }

yes_makes : (o : Name) (r : Record) → Yes (makes_cut o r) ((type_of r.value ≡ ns_type) × (r.owner ≢ o))
yes_makes o r = yes_and (yes_type ns_type r) (yes_un (yes_same r.owner o))

-- No two zones of one origin.
pub parted_is : (zs : List Zone) → No (has_twins zs) (HaveOwnOrigins zs)
parted_is [] = record { so = λ h. tt; test = λ p. refl }
parted_is (z ∷ zs) = no_or (no_any (λ y. no_un (yes_same y.origin z.origin)) zs) (parted_is zs)

-- Each cut is an origin.
pub cuts_are : (W : World) → No (has_loose_cuts W.zones W.zones) (HasCutZones W)
cuts_are W = no_as
    (λ h z c m k. let at : At z c ns_type k.1.0 = k.1.1 in
    let found = h z m k.1.0 at.stands (at.kind, λ e. k.0 (sym at.owner ∙ e)) in
    (found.0, found.1, found.2 ∙ at.owner))
    (λ h z m r n p. h z r.owner m (p.1, (r, record { stands = n; owner = refl; kind = p.0 })))
    (no_any (λ z. no_any (λ r. no_and (yes_makes z.origin r) (no_not (yes_origin r.owner W.zones))) z.records) W.zones)

-- Each zone is placed.
yes_above : (o : Name) (p : Zone) → Yes (is_above o p) (IsBeneath o p.origin)
yes_above o p = yes_and (yes_under o p.origin) (yes_un (yes_same o p.origin))

yes_owns : (o : Name) (p : Zone) → Yes (owns ns_type o p.records) ((r : Record) × At p o ns_type r)
yes_owns o p = yes_as (λ h. (h.0, record { stands = h.1; owner = h.2.0; kind = h.2.1 })) (λ h. let at : At p o ns_type h.0 = h.1 in (h.0, at.stands, (at.owner, at.kind)))
    (yes_any (λ r. yes_and (yes_same r.owner o) (yes_type ns_type r)) p.records)

abbrev Longest : World → Name → Zone → Type 0
Longest W o p = (y : Zone) → Contains W.zones y → IsBeneath o y.origin → length y.origin ≤ length p.origin

yes_longest : (W : World) (o : Name) (p : Zone) → Yes (not (list_any (is_between o p.origin) W.zones)) (Longest W o p)
yes_longest W o p = yes_not (no_any (λ y. no_and (yes_above o y) (no_less (length p.origin) (length y.origin))) W.zones)

yes_delegates : (W : World) (o : Name) (p : Zone) → Yes (delegates W.zones o p) ((IsBeneath o p.origin × ((r : Record) × At p o ns_type r)) × Longest W o p)
yes_delegates W o p = yes_and (yes_and (yes_above o p) (yes_owns o p)) (yes_longest W o p)

pub placed_are : (W : World) → No (has_undelegated W.zones W.locals W.zones) (IsDelegated W)
placed_are W = no_as
    (λ h z m. elim (h z m) [ inl (inl e) ↦ inl e | inl (inr n) ↦ inr (inl n) | inr p ↦ inr (inr (from_above z.origin p)) ])
    (λ h z m. elim (h z m) [ inl e ↦ inl (inl e) | inr (inl n) ↦ inl (inr n) | inr (inr p) ↦ inr (to_above z.origin p) ])
    (no_any (λ z. no_not (yes_or (yes_or (yes_same z.origin root) (yes_name z.origin W.locals)) (yes_any (yes_delegates W z.origin) W.zones))) W.zones)
  where
    from_above : (o : Name) → (p : Zone) × Contains W.zones p × ((IsBeneath o p.origin × ((r : Record) × At p o ns_type r)) × Longest W o p) → (p : Zone) × IsParent W o p × IsCut p o
    from_above o (p, m, ((b, s), l)) = (p, record { stands = m; over = b; longest = l }, (b.1, s))

    to_above : (o : Name) → (p : Zone) × IsParent W o p × IsCut p o → (p : Zone) × Contains W.zones p × ((IsBeneath o p.origin × ((r : Record) × At p o ns_type r)) × Longest W o p)
    to_above o (p, k, c) = let i : IsParent W o p = k in (p, i.stands, ((i.over, c.1), i.longest))

-- The addresses of a server serve its cut.
abbrev Serving : List Host → Name → Datum → Type 0
Serving hs c d = (a : Address) → d ≡ Ipv4 a → (h : Host) × Contains hs h × (h.address ≡ a) × Contains h.origins c

same_address : (a b : Address) → Ipv4 b ≡ Ipv4 a → b ≡ a
same_address a b e = cc

same_target : (m n : Name) → Ns n ≡ Ns m → n ≡ m
same_target m n e = cc

same_set : (rs ss : List Record) → Linked (Found ss) ≡ Linked (Found rs) → ss ≡ rs
same_set rs ss e = cc

no_missed : (hs : List Host) (c : Name) (d : Datum) → No (is_missed hs c d) (Serving hs c d)
no_missed hs c (Ipv4 b) = no_as (λ p a e. subst (λ (x : Address). (h : Host) × Contains hs h × (h.address ≡ x) × Contains h.origins c) (same_address a b e) p) (λ f. f b refl) (no_not (yes_serves b c hs))
no_missed hs c (Ns n) = record { so = λ h a e. absurd (cc); test = λ p. refl }
no_missed hs c (Cname n) = record { so = λ h a e. absurd (cc); test = λ p. refl }
no_missed hs c (Soa s) = record { so = λ h a e. absurd (cc); test = λ p. refl }
no_missed hs c (Ptr n) = record { so = λ h a e. absurd (cc); test = λ p. refl }
no_missed hs c (Mx p n) = record { so = λ h a e. absurd (cc); test = λ p. refl }
no_missed hs c (Txt ts) = record { so = λ h a e. absurd (cc); test = λ p. refl }
no_missed hs c (Ipv6 b) = record { so = λ h a e. absurd (cc); test = λ p. refl }
no_missed hs c (Srv v) = record { so = λ h a e. absurd (cc); test = λ p. refl }

abbrev InZones : List Zone → List Host → Name → Name → Type 0
InZones zs hs c n = (z : Zone) → Contains zs z → (r : Record) → Contains z.records r → r.owner ≡ n → Serving hs c r.value

no_zone : (zs : List Zone) (hs : List Host) (c n : Name) → No (list_any (zone_misses hs c n) zs) (InZones zs hs c n)
no_zone zs hs c n = no_any (λ z. no_any (λ r. no_and (yes_same r.owner n) (no_missed hs c r.value)) z.records) zs

abbrev InSet : List Host → Name → Local → Type 0
InSet hs c l = (set : List Record) → l ≡ Linked (Found set) → (r : Record) → Contains set r → Serving hs c r.value

no_look : (hs : List Host) (c : Name) (l : Local) → No (look_misses hs c l) (InSet hs c l)
no_look hs c (Linked (Found set)) = no_as (λ p other e. subst (λ (rs : List Record). (r : Record) → Contains rs r → Serving hs c r.value) (same_set other set e) p) (λ f. f set refl) (no_any (λ r. no_missed hs c r.value) set)
no_look hs c (Linked (Alias r)) = record { so = λ h a e. absurd (cc); test = λ p. refl }
no_look hs c (Linked (NoData r)) = record { so = λ h a e. absurd (cc); test = λ p. refl }
no_look hs c (Linked (NxDomain r)) = record { so = λ h a e. absurd (cc); test = λ p. refl }
no_look hs c (Cut d ns glue) = record { so = λ h a e. absurd (cc); test = λ p. refl }
no_look hs c NotHere = record { so = λ h a e. absurd (cc); test = λ p. refl }

abbrev Targeted : List Zone → List Host → Name → Datum → Type 0
Targeted zs hs c d = (n : Name) → d ≡ Ns n → InZones zs hs c n × InSet hs c (looked zs n a_type)

no_target : (zs : List Zone) (hs : List Host) (c : Name) (d : Datum) → No (target_misses zs hs c d) (Targeted zs hs c d)
no_target zs hs c (Ipv4 b) = record { so = λ h a e. absurd (cc); test = λ p. refl }
no_target zs hs c (Ns n) = no_as (λ p m e. subst (λ (x : Name). InZones zs hs c x × InSet hs c (looked zs x a_type)) (same_target m n e) p) (λ f. f n refl) (no_or (no_zone zs hs c n) (no_look hs c (looked zs n a_type)))
no_target zs hs c (Cname n) = record { so = λ h a e. absurd (cc); test = λ p. refl }
no_target zs hs c (Soa s) = record { so = λ h a e. absurd (cc); test = λ p. refl }
no_target zs hs c (Ptr n) = record { so = λ h a e. absurd (cc); test = λ p. refl }
no_target zs hs c (Mx p n) = record { so = λ h a e. absurd (cc); test = λ p. refl }
no_target zs hs c (Txt ts) = record { so = λ h a e. absurd (cc); test = λ p. refl }
no_target zs hs c (Ipv6 b) = record { so = λ h a e. absurd (cc); test = λ p. refl }
no_target zs hs c (Srv v) = record { so = λ h a e. absurd (cc); test = λ p. refl }

-- What the zones give is what the look-up gives.
zone_named : (z : Zone) → IsZone z → IsName z.origin → IsNamed z
zone_named z rules name r m e = let u = rules.inside r m in labelled u.0 z.origin name.labels (sym u.1 ∙ e)
  where
    labelled : (f n : Name) → AreLabels n → f ++ n ≡ [] → ⊥
    labelled [] [] l e = l
    labelled [] (x ∷ xs) l e = cc
    labelled (x ∷ f) n l e = cc

origins_named : (zs : List Zone) → AreZones zs → AreNamed zs
origins_named zs all z m e = absurd (labelled z.origin (let k = all z m in name_labels z.origin k.1) e)
  where
    name_labels : (n : Name) → IsName n → AreLabels n
    name_labels n k = k.labels

    labelled : (n : Name) → AreLabels n → n ≡ [] → ⊥
    labelled [] l e = l
    labelled (x ∷ xs) l e = cc

looked_at : (zs : List Zone) (q : Name) (t : ℕ) → AreZones zs → (o : Option Zone) → zone_over zs q ≡ o → IsLooked zs q t (looked zs q t)
looked_at zs q t all None e = subst (λ (l : Local). IsLooked zs q t l) (sym (ap (looked_in q t) e)) (looked_nowhere zs q t (origins_named zs all) (sym e))
looked_at zs q t all (Some z) e =
    let charge : IsInCharge zs q z = charge_is zs q z e in
    let k : IsZone z × IsName z.origin = all z charge.stands in
    let denial = some_denial z k.0 in
    subst (λ (l : Local). IsLooked zs q t l) (looked_by zs q t z denial.0 (sym e) denial.1) (looked_here zs q t z denial.0 (sym e) (zone_named z k.0 k.1) k.0 denial.1)

pub looked_is : (zs : List Zone) (q : Name) (t : ℕ) → AreZones zs → IsLooked zs q t (looked zs q t)
looked_is zs q t all = looked_at zs q t all (zone_over zs q) refl

-- The servers of a cut serve it.
abbrev Reached : World → Zone → Record → Type 0
Reached W z r = (type_of r.value ≡ ns_type) × (r.owner ≢ z.origin) → Targeted W.zones W.hosts r.owner r.value

lame_are : (W : World) → No (has_lame_cuts W.zones W.hosts W.zones) ((z : Zone) → Contains W.zones z → (r : Record) → Contains z.records r → Reached W z r)
lame_are W = no_any (λ z. no_any (λ r. no_and (yes_makes z.origin r) (no_target W.zones W.hosts r.owner r.value)) z.records) W.zones

abbrev AreServers : World → Type 0
AreServers W = (c n : Name) (a : Address) → IsServerName W c n → IsAddressOf W n a → Serves W a c

-- What the look-up finds is what the definition says is found.
found_also : (zs : List Zone) (n : Name) (z : Zone) (set : List Record) (l : Local) → SameLocal l (Linked (Found set)) → (r : Record) → Contains set r
    → (other : List Record) × (l ≡ Linked (Found other)) × ((s : Record) × Contains other s × (s.value ≡ r.value))
found_also zs n z set (Linked (Found other)) same r m = let k : SameLink (Found other) (Found set) = same in let x = k.records.1 r m in (other, refl, (x.0, x.1, sym x.2.1))
found_also zs n z set (Linked (Alias s)) same r m = let k : SameLink (Alias s) (Found set) = same in absurd (omega (arith, k.kinds))
found_also zs n z set (Linked (NoData s)) same r m = let k : SameLink (NoData s) (Found set) = same in absurd (omega (arith, k.kinds))
found_also zs n z set (Linked (NxDomain s)) same r m = let k : SameLink (NxDomain s) (Found set) = same in absurd (omega (arith, k.kinds))
found_also zs n z set (Cut d ns glue) same r m = absurd same
found_also zs n z set NotHere same r m = absurd same

served_so : (W : World) → AreZones W.zones → has_twins W.zones ≡ false → ((z : Zone) → Contains W.zones z → (r : Record) → Contains z.records r → Reached W z r) → AreServers W
served_so W all apart h c n a (z, r, m, cut, at, e) address =
    let k : At z c ns_type r = at in
    let t = h z m r k.stands (k.kind, λ o. cut.0 (sym k.owner ∙ o)) n e in
    subst (Serves W a) k.owner (elim address [
      | inl (y, s, my, ms, owner, value) ↦ t.0 y my s ms owner a value
      | inr (y, set, s, charge, link, ms, value) ↦
          let x = found_also W.zones n y set (looked W.zones n a_type)
          (one_answer W.zones n a_type (looked W.zones n a_type) (Linked (Found set)) apart (λ z i. let q = all z i in q.0) (looked_is W.zones n a_type all) (inl (y, charge, link))) s ms in
          t.1 x.0 x.1 x.2.0 x.2.1 a (x.2.2 ∙ value)
    ])

served_back : (W : World) → AreZones W.zones → AreServers W → (z : Zone) → Contains W.zones z → (r : Record) → Contains z.records r → Reached W z r
served_back W all h z m r mr p n e =
    let name : IsServerName W r.owner n = (z, r, m, (p.1, (r, record { stands = mr; owner = refl; kind = p.0 })), record { stands = mr; owner = refl; kind = p.0 }, e) in (
      λ y my s ms owner a value. h r.owner n a name (inl (y, s, my, ms, owner, value)),
      λ set is s ms a value. h r.owner n a name (looked_address W n all set is s ms a value),
    )
  where
    looked_address : (W : World) (n : Name) → AreZones W.zones → (set : List Record) → looked W.zones n a_type ≡ Linked (Found set) → (s : Record) → Contains set s → (a : Address) → s.value ≡ Ipv4 a → IsAddressOf W n a
    looked_address W n all set is s ms a value = elim (subst (λ (l : Local). IsLooked W.zones n a_type l) is (looked_is W.zones n a_type all)) [
      | inl (y, charge, link) ↦ inr (y, set, s, charge, link, ms, value)
      | inr (none, bad) ↦ absurd (cc)
    ]

pub servers_are : (W : World) → AreZones W.zones → has_twins W.zones ≡ false → No (has_lame_cuts W.zones W.hosts W.zones) (AreServers W)
servers_are W all apart = no_as (served_so W all apart) (served_back W all) (lame_are W)

-- Servers serve zones that there are.
pub hosts_are : (W : World) → No (has_idle_host W.zones W.hosts) ((a : Address) (o : Name) → Serves W a o → IsOrigin W o)
hosts_are W = no_as
    (λ h a o s. h s.0 s.1 o s.3)
    (λ h x m o n. h x.address o (x, m, refl, n))
    (no_any (λ h. no_any (λ o. no_not (yes_origin o W.zones)) h.origins) W.hosts)

-- Hints serve the root, and there is a start.
pub hints_are : (W : World) → No (has_bad_hint W.hosts W.hints) ((a : Address) → Contains W.hints a → Serves W a root)
hints_are W = no_any (λ a. no_not (yes_serves a root W.hosts)) W.hints

pub start_is : (hints : List Address) (locals : List Name) → No (lacks_start hints locals) (Contains locals root ⊎ ((a : Address) × Contains hints a))
start_is [] locals = no_as (λ p. inl p) (λ p. ⊎_elim (λ c. c) (λ a. absurd (none_in a.0 a.1)) p) (no_not (yes_name root locals))
start_is (a ∷ hints) locals = record { so = λ h. inr (a, first_in a hints); test = λ p. refl }
