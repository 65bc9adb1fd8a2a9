-- The rules that records of a zone meet (RFC 1034, sections 3.6.2 and 4.2.1; RFC 2181, sections 5.2
-- and 10.1; RFC 4592, section 4), as tests: true where a rule is broken.
use Rattle.std.specs.Prelude.{Bool, ◌&&◌, ◌||◌, not, nat_eq, length}
use Rattle.std.specs.List.{list_any}
use Rattle.dname.specs.Labels.{is_under}
use Rattle.dname.specs.Stars.{is_wildcard, has_inner_star as star_inside}
use Rattle.rdata.specs.Data.{same_data}
use Rattle.rdata.specs.Records.{Record, same_set}
use Rattle.zone.specs.Zones.{Zone, ns_type, cname_type, soa_type}
use Rattle.zone.specs.Look.{is_type, is_owned, of_type, owns, is_cut, is_beneath_cut, is_address}

-- SOA records are other than exactly one, owned by the origin.
abbrev pub lacks_soa : Zone → Bool
lacks_soa z = not (nat_eq (length (of_type soa_type z.records)) 1 && owns soa_type z.origin z.records)

-- No NS record at the origin.
abbrev pub lacks_servers : Zone → Bool
lacks_servers z = not (owns ns_type z.origin z.records)

-- An owner is not at or under the origin.
abbrev pub has_foreign_owner : Zone → Bool
has_foreign_owner z = list_any (λ (r : Record). not (is_under r.owner z.origin)) z.records

-- A CNAME beside any other record than its own repeat.
abbrev pub clashes : Record → Record → Bool
clashes r s = is_owned r.owner s && not (same_data r.value s.value)

abbrev pub has_cname_clash : Zone → Bool
has_cname_clash z = list_any (λ (r : Record). is_type cname_type r && list_any (clashes r) z.records) z.records

-- The TTLs of two records of one set differ.
abbrev pub differs : Record → Record → Bool
differs r s = same_set r s && not (nat_eq r.ttl s.ttl)

abbrev pub has_mixed_ttls : Zone → Bool
has_mixed_ttls z = list_any (λ (r : Record). list_any (differs r) z.records) z.records

-- Beneath a cut other data than A and AAAA, or at a cut other data than NS, A and AAAA.
abbrev pub is_out_of_place : Zone → Record → Bool
is_out_of_place z r = not (is_address r) && (is_beneath_cut z r.owner || (is_cut z r.owner && not (is_type ns_type r)))

abbrev pub has_data_at_cut : Zone → Bool
has_data_at_cut z = list_any (is_out_of_place z) z.records

-- A label `*` stands in an owner other than as its first.
abbrev pub has_inner_star : Zone → Bool
has_inner_star z = list_any (λ (r : Record). star_inside r.owner) z.records

-- NS or SOA at an owner whose first label is `*`.
abbrev pub is_wildcard_authority : Record → Bool
is_wildcard_authority r = is_wildcard r.owner && (is_type ns_type r || is_type soa_type r)

abbrev pub has_wildcard_authority : Zone → Bool
has_wildcard_authority z = list_any is_wildcard_authority z.records

-- An owner whose first label is `*` beneath a cut.
abbrev pub is_wildcard_beneath : Zone → Record → Bool
is_wildcard_beneath z r = is_wildcard r.owner && is_beneath_cut z r.owner

abbrev pub has_wildcard_beneath_cut : Zone → Bool
has_wildcard_beneath_cut z = list_any (is_wildcard_beneath z) z.records
