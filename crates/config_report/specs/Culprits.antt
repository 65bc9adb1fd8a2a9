-- What is said of records that are no zone.
use Rattle.std.specs.Prelude.{ℕ, Bool, false, ◌&&◌, not, find, Option, Some, None, List, ◌++◌, codes}
use Rattle.std.specs.List.{list_any}
use Rattle.dname.specs.Labels.{is_under, same_name}
use Rattle.dname.specs.Stars.{has_inner_star}
use Rattle.dname.specs.Text.{name_text}
use Rattle.rdata.specs.Records.{Record}
use Rattle.rdata.specs.Types.{type_by, type_word}
use Rattle.rdata.specs.declared.rtype.RType.{RType}
use Rattle.zone.specs.Zones.{Zone, ns_type, cname_type, soa_type}
use Rattle.zone.specs.Look.{is_type}
use Rattle.zone.specs.Rules.{clashes, differs, is_out_of_place, is_wildcard_authority, is_wildcard_beneath}
use Rattle.zone.specs.declared.fault.ZoneError.{ZoneError}
use Rattle.zone.specs.declared.fault.ZoneError.TheVariants.{Soa, NoServers, ForeignOwner, CnameClash, MixedTtls, DataAtCut, InnerStar, WildcardAuthority, WildcardBeneathCut, Memory}
use Rattle.rdata.specs.Data.{type_of}
use Rattle.config_report.specs.Sentences.{rule_sentence}
use Rattle.config_report.specs.Shown.{shown_text}

-- The record breaks the rule, in a zone of these records. What is missing is no record.
abbrev pub breaks : Zone → ZoneError → Record → Bool
breaks z Soa r = is_type soa_type r && not (same_name r.owner z.origin)
breaks z NoServers r = false
breaks z ForeignOwner r = not (is_under r.owner z.origin)
breaks z CnameClash r = is_type cname_type r && list_any (clashes r) z.records
breaks z MixedTtls r = list_any (differs r) z.records
breaks z DataAtCut r = is_out_of_place z r
breaks z InnerStar r = has_inner_star r.owner
breaks z WildcardAuthority r = is_wildcard_authority r
breaks z WildcardBeneathCut r = is_wildcard_beneath z r
breaks z Memory r = false

-- The type of what is missing at the origin.
abbrev pub rule_type : ZoneError → ℕ
rule_type NoServers = ns_type
rule_type _ = soa_type

abbrev pub word_of : Option RType → List ℕ
word_of None = codes ""
word_of (Some t) = type_word t

-- The path, the owner, the type and the sentence.
abbrev pub rule_text : List ℕ → List (List ℕ) → ℕ → ZoneError → List ℕ
rule_text path owner type e =
    shown_text path ++ codes ": " ++ name_text owner ++ codes " " ++ word_of (type_by type) ++ codes ": " ++ rule_sentence e ++ codes "\n"

abbrev pub said_of_rule : List ℕ → Zone → ZoneError → Option Record → List ℕ
said_of_rule path z e None = rule_text path z.origin (rule_type e) e
said_of_rule path z e (Some r) = rule_text path r.owner (type_of r.value) e

-- Of the first record that breaks the rule; where none does, of what is missing at the origin.
abbrev pub zone_report_text : List ℕ → Zone → ZoneError → List ℕ
zone_report_text path z e = said_of_rule path z e (find (breaks z e) z.records)
