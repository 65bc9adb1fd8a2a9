-- The class of a message that was accepted as a reply (RFC 1034, section 5.3.3; RFC 2308, sections 2 and 5; RFC 2181,
-- section 5.4.1). The ask was for the name q and the type t, to a server of the zone f, over UDP or TCP.
use Rattle.std.specs.Prelude.{ℕ, Bool, false, ◌&&◌, ◌||◌, not, cond, nat_eq, min, Option, Some, None, List, [], ◌∷◌, take, filter, find}
use Rattle.std.specs.List.{list_any}
use Rattle.limits.specs.Limits.{max_referral_servers, max_glue}
use Rattle.dname.specs.Labels.{Name, same_name, is_under}
use Rattle.rdata.specs.Data.{Datum, Ns}
use Rattle.rdata.specs.Records.{Record}
use Rattle.rdata.specs.Selected.{records_at}
use Rattle.rdata.specs.Sets.{one_set, lowest_ttl}
use Rattle.message_grammar.specs.Messages.{Message}
use Rattle.zone.specs.Zones.{a_type, ns_type, cname_type, soa_type}
use Rattle.zone.specs.Links.{Link, Found, Alias, NoData, NxDomain}
use Rattle.zone.specs.Look.{is_type}
use Rattle.wire.specs.declared.via.Via.{Via}
use Rattle.wire.specs.declared.via.Via.TheVariants.{Udp, Tcp}
use Rattle.classify.specs.declared.class.Failure.{Failure}
use Rattle.classify.specs.declared.class.Failure.TheVariants.{BadCode, NoAuthority, Empty, Foreign, TruncatedOverTcp}

-- A link; a cut, its NS set, the addresses of its servers that are used, and the lowest TTL of all these; a reply that
-- was truncated over UDP; a reply of no use.
pub data Class : Type 0 where
  Answer : Link → Class
  Referral : Name → List Record → List Record → ℕ → Class
  Truncated : Class
  Failed : Failure → Class

-- The first record of a type.
abbrev pub first_of : ℕ → List Record → Option Record
first_of t rs = find (is_type t) rs

-- A link is an answer only with the bit AA.
abbrev pub answer_by : Message → Link → Class
answer_by m l = cond m.header.aa (Answer l) (Failed NoAuthority)

-- Of a referral's servers, the first A records that stand at or under the zone of the server that was asked.
abbrev pub names_server : Name → Datum → Bool
names_server n (Ns target) = same_name target n
names_server _ _ = false

abbrev pub is_taken : Name → List Record → Record → Bool
is_taken f servers r = is_type a_type r && is_under r.owner f && list_any (λ (s : Record). names_server r.owner s.value) servers

abbrev pub addresses_of : Name → List Record → List Record → List Record
addresses_of f servers additional = take max_glue (filter (is_taken f servers) additional)

abbrev pub refer : Name → List Record → List Record → Class
refer c servers addresses = Referral c servers addresses (min (lowest_ttl servers) (lowest_ttl addresses))

abbrev pub refer_by : Name → Name → List Record → Message → Class
refer_by f c servers m = refer c servers (addresses_of f servers m.additional)

-- The set of the cut's first NS records: what stands behind them is not read, whether or not they repeat each other.
abbrev pub servers_of : Name → Message → List Record
servers_of c m = one_set (take max_referral_servers (records_at c ns_type m.authority))

-- The lines of the table, the last one first. A referral leads strictly beneath the zone and over the name.
abbrev pub leads_down : Name → Name → Name → Bool
leads_down f q c = is_under c f && not (same_name c f) && is_under q c

abbrev pub by_cut : Name → Name → Message → Name → Class
by_cut f q m c = cond (leads_down f q c) (refer_by f c (servers_of c m) m) (Failed Foreign)

abbrev pub by_servers : Name → Name → Message → Option Record → Class
by_servers f q m None = Failed Empty
by_servers f q m (Some r) = by_cut f q m r.owner

-- A negative answer has an SOA over the name, at or under the zone; the first one counts.
abbrev pub denial_by : ℕ → Record → Link
denial_by rcode soa = cond (nat_eq rcode 3) (NxDomain soa) (NoData soa)

abbrev pub denies : Name → Name → Name → Bool
denies f q owner = is_under q owner && is_under owner f

abbrev pub by_denial : Name → Name → Message → Option Record → Class
by_denial f q m None = cond (nat_eq m.header.rcode 3) (Failed Empty) (by_servers f q m (first_of ns_type m.authority))
by_denial f q m (Some soa) = cond (denies f q soa.owner) (answer_by m (denial_by m.header.rcode soa)) (Failed Foreign)

-- An alias of the name, whatever the RCODE: the first of several, with the lowest of their TTLs.
abbrev pub by_alias : Name → Name → Message → List Record → Class
by_alias f q m [] = by_denial f q m (first_of soa_type m.authority)
by_alias f q m (r ∷ rs) = answer_by m (Alias r)

-- The records of the name and the type, as one set.
abbrev pub by_set : Name → Name → Message → List Record → Class
by_set f q m [] = by_alias f q m (one_set (records_at q cname_type m.answer))
by_set f q m (r ∷ rs) = cond (nat_eq m.header.rcode 3) (Failed BadCode) (answer_by m (Found (r ∷ rs)))

abbrev pub by_code : Name → Name → ℕ → Message → Class
by_code f q t m =
    cond (nat_eq m.header.rcode 0 || nat_eq m.header.rcode 3) (by_set f q m (one_set (records_at q t m.answer))) (Failed BadCode)

-- A reply that was truncated over UDP: the ask is sent again over TCP (RFC 2181, section 9).
abbrev pub truncated_over : Via → Class
truncated_over Udp = Truncated
truncated_over Tcp = Failed TruncatedOverTcp

-- The class of a message: the first line that fits.
abbrev pub class_of : Name → Name → ℕ → Via → Message → Class
class_of f q t via m = cond m.header.tc (truncated_over via) (by_code f q t m)
