-- The rules of a well formed world (RFC 1034, sections 4.2 and 5.3.2) as tests: true where a rule is broken.
use Rattle.std.specs.Prelude.{Bool, false, ◌&&◌, ◌||◌, not, nat_eq, nat_lt, List, [], ◌∷◌, length}
use Rattle.std.specs.List.{list_any}
use Rattle.std.specs.Cmp.Lexicographic.{pointwise}
use Rattle.dname.specs.Labels.{Name, root, same_name, is_under}
use Rattle.rdata.specs.Data.{Datum, Ipv4, Ns}
use Rattle.rdata.specs.Records.{Record}
use Rattle.zone.specs.Zones.{Zone, a_type, ns_type}
use Rattle.zone.specs.Links.{Link, Found, Alias, NoData, NxDomain}
use Rattle.zone.specs.Look.{Local, Linked, Cut, NotHere, is_type, is_owned, owns}
use Rattle.authority.specs.Catalogs.{looked}
use Rattle.world_truth.specs.Worlds.{Address, Host}

abbrev pub has_name : Name → List Name → Bool
has_name n ns = list_any (λ (m : Name). same_name m n) ns

abbrev pub has_origin : Name → List Zone → Bool
has_origin n zs = list_any (λ (z : Zone). same_name z.origin n) zs

-- The server at that address serves the zone of that origin.
abbrev pub serves_at : Address → Name → Host → Bool
serves_at a o h = pointwise nat_eq h.address a && has_name o h.origins

abbrev pub serves : Address → Name → List Host → Bool
serves a o hs = list_any (serves_at a o) hs

-- A record that makes a cut in the zone of that origin.
abbrev pub makes_cut : Name → Record → Bool
makes_cut o r = is_type ns_type r && not (same_name r.owner o)

-- A cut is not an origin.
abbrev pub is_loose : List Zone → Name → Record → Bool
is_loose zs o r = makes_cut o r && not (has_origin r.owner zs)

abbrev pub has_loose_cut : List Zone → Zone → Bool
has_loose_cut zs z = list_any (is_loose zs z.origin) z.records

abbrev pub has_loose_cuts : List Zone → List Zone → Bool
has_loose_cuts zs ys = list_any (has_loose_cut zs) ys

-- A zone is neither the root's nor local, and no zone right above has its origin as a cut.
abbrev pub is_above : Name → Zone → Bool
is_above o p = is_under o p.origin && not (same_name o p.origin)

abbrev pub is_between : Name → Name → Zone → Bool
is_between o p y = is_above o y && nat_lt (length p) (length y.origin)

abbrev pub delegates : List Zone → Name → Zone → Bool
delegates zs o p = is_above o p && owns ns_type o p.records && not (list_any (is_between o p.origin) zs)

abbrev pub is_placed : List Zone → List Name → Name → Bool
is_placed zs locals o = same_name o root || has_name o locals || list_any (delegates zs o) zs

abbrev pub has_undelegated : List Zone → List Name → List Zone → Bool
has_undelegated zs locals ys = list_any (λ (z : Zone). not (is_placed zs locals z.origin)) ys

-- An address of a server of a cut does not serve the cut.
abbrev pub is_missed : List Host → Name → Datum → Bool
is_missed hs c (Ipv4 a) = not (serves a c hs)
is_missed _ _ _ = false

abbrev pub some_missed : List Host → Name → List Record → Bool
some_missed hs c rs = list_any (λ (r : Record). is_missed hs c r.value) rs

abbrev pub is_missed_at : List Host → Name → Name → Record → Bool
is_missed_at hs c n r = is_owned n r && is_missed hs c r.value

abbrev pub zone_misses : List Host → Name → Name → Zone → Bool
zone_misses hs c n z = list_any (is_missed_at hs c n) z.records

abbrev pub link_misses : List Host → Name → Link → Bool
link_misses hs c (Found set) = some_missed hs c set
link_misses hs c (Alias r) = false
link_misses hs c (NoData soa) = false
link_misses hs c (NxDomain soa) = false

abbrev pub look_misses : List Host → Name → Local → Bool
look_misses hs c (Linked l) = link_misses hs c l
look_misses hs c (Cut d ns glue) = false
look_misses hs c NotHere = false

abbrev pub target_misses : List Zone → List Host → Name → Datum → Bool
target_misses zs hs c (Ns n) = list_any (zone_misses hs c n) zs || look_misses hs c (looked zs n a_type)
target_misses _ _ _ _ = false

abbrev pub is_lame : List Zone → List Host → Name → Record → Bool
is_lame zs hs o r = makes_cut o r && target_misses zs hs r.owner r.value

abbrev pub has_lame_cut : List Zone → List Host → Zone → Bool
has_lame_cut zs hs z = list_any (is_lame zs hs z.origin) z.records

abbrev pub has_lame_cuts : List Zone → List Host → List Zone → Bool
has_lame_cuts zs hs ys = list_any (has_lame_cut zs hs) ys

-- A server names an origin without a zone.
abbrev pub serves_nothing : List Zone → Host → Bool
serves_nothing zs h = list_any (λ (o : Name). not (has_origin o zs)) h.origins

abbrev pub has_idle_host : List Zone → List Host → Bool
has_idle_host zs hs = list_any (serves_nothing zs) hs

-- A hint does not serve the root; there is no hint and the root is not local.
abbrev pub has_bad_hint : List Host → List Address → Bool
has_bad_hint hs hints = list_any (λ (a : Address). not (serves a root hs)) hints

abbrev pub lacks_start : List Address → List Name → Bool
lacks_start [] locals = not (has_name root locals)
lacks_start (a ∷ hints) locals = false
