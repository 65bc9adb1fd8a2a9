-- The laws that the functions of this crate state.
use Rattle.std.specs.Prelude.{◌≡◌, ◌↔◌, ℕ, ◌<◌, ◌≤◌, min, true, List, length, take, Contains}
use Rattle.dname.specs.Labels.{Name, root, IsAtOrUnder}
use Rattle.rdata.specs.Data.{Ipv4, Ns}
use Rattle.rdata.specs.Records.{Record}
use Rattle.rdata.specs.Selected.{records_at}
use Rattle.rdata.specs.Sets.{lowest_ttl}
use Rattle.limits.specs.Limits.{max_referral_servers, max_glue}
use Rattle.message_grammar.specs.Messages.{Message}
use Rattle.zone.specs.Zones.{ns_type, cname_type}
use Rattle.zone.specs.Links.{Link, Found, Alias}
use Rattle.zone.specs.Same.{Has, SameLink}
use Rattle.wire.specs.declared.via.Via.{Via}
use Rattle.wire.specs.declared.via.Via.TheVariants.{Udp}
use Rattle.world_truth.specs.Worlds.{Address}
use Rattle.world_truth.specs.Reading.{IsAnswer, IsReferralTo, NamesServer, GivesAddress}
use Rattle.world_truth.specs.Replies.{Once}
use Rattle.classify.specs.Classes.{Answer, Referral, Truncated, class_of}

-- The servers of a referral: its message names each of them, and of its first NS records none is left out, TTLs aside.
pub record AreServers (m : Message) (c : Name) (servers : List Record) : Type 0 where
  pub owner : (r : Record) → Contains servers r → r.owner ≡ c
  pub named : (r : Record) → Contains servers r → (n : Name) × (r.value ≡ Ns n) × NamesServer m c n
  pub all : (r : Record) → Contains (take max_referral_servers (records_at c ns_type m.authority)) r → Has servers r
  pub few : length servers ≤ max_referral_servers

-- One of these servers has this name.
abbrev pub IsServer : List Record → Name → Type 0
IsServer servers n = (s : Record) × Contains servers s × (s.value ≡ Ns n)

-- The addresses of a referral: its message gives each of them, and none of these servers is left out before there are
-- as many as are taken.
pub record AreAddresses (f : Name) (m : Message) (c : Name) (servers addresses : List Record) : Type 0 where
  pub given : (r : Record) → Contains addresses r → (a : Address) × (r.value ≡ Ipv4 a) × GivesAddress f m c a
  pub all : length addresses < max_glue → (r : Record) (a : Address) → Contains m.additional r → r.value ≡ Ipv4 a → IsServer servers r.owner → IsAtOrUnder r.owner f → Contains addresses r
  pub few : length addresses ≤ max_glue

-- A message that is used as an answer is one.
abbrev pub AnswerIsRead : Type 0
AnswerIsRead = (f q : Name) (t : ℕ) (via : Via) (m : Message) (l : Link) → class_of f q t via m ≡ Answer l → IsAnswer f q t m l

-- A message that is followed as a referral is one, with these servers and addresses.
abbrev pub ReferralIsRead : Type 0
ReferralIsRead = (f q : Name) (t : ℕ) (via : Via) (m : Message) (c : Name) (servers addresses : List Record) (ttl : ℕ) → class_of f q t via m ≡ Referral c servers addresses ttl
    → IsReferralTo f q t m c × AreServers m c servers × AreAddresses f m c servers addresses

-- A referral that is followed leads over the name that was asked for.
abbrev pub ReferralIsOver : Type 0
ReferralIsOver = (f q : Name) (t : ℕ) (via : Via) (m : Message) (c : Name) (servers addresses : List Record) (ttl : ℕ) → class_of f q t via m ≡ Referral c servers addresses ttl → IsAtOrUnder q c

-- The TTL of a referral is the lowest of its servers' and its addresses' (RFC 2181, section 5.2).
abbrev pub ReferralIsLowest : Type 0
ReferralIsLowest = (f q : Name) (t : ℕ) (via : Via) (m : Message) (c : Name) (servers addresses : List Record) (ttl : ℕ) → class_of f q t via m ≡ Referral c servers addresses ttl
    → ttl ≡ min (lowest_ttl servers) (lowest_ttl addresses)

-- A message that is an answer is used as one, with the same link but for TTLs, order and repeats; one that is a
-- referral is followed.
abbrev pub AnswerIsUsed : Type 0
AnswerIsUsed = (f q : Name) (t : ℕ) (via : Via) (m : Message) (l : Link) → IsAnswer f q t m l → (k : Link) × (class_of f q t via m ≡ Answer k) × SameLink k l

abbrev pub ReferralIsFollowed : Type 0
ReferralIsFollowed = (f q : Name) (t : ℕ) (via : Via) (m : Message) (c : Name) → IsReferralTo f q t m c
    → (servers : List Record) × (addresses : List Record) × (ttl : ℕ) × (class_of f q t via m ≡ Referral c servers addresses ttl)

-- A set that is used has each record once, TTLs aside.
abbrev pub FoundIsOnce : Type 0
FoundIsOnce = (f q : Name) (t : ℕ) (via : Via) (m : Message) (set : List Record) → class_of f q t via m ≡ Answer (Found set) → Once set

-- Where CNAME is asked for, an alias is found, and not followed.
abbrev pub CnameIsFound : Type 0
CnameIsFound = (f q : Name) (via : Via) (m : Message) (r : Record) → class_of f q cname_type via m ≡ Answer (Alias r) → ⊥

-- An ask is sent again over TCP just where its reply over UDP was truncated.
abbrev pub TruncatedIsOverUdp : Type 0
TruncatedIsOverUdp = (f q : Name) (t : ℕ) (via : Via) (m : Message) → (class_of f q t via m ≡ Truncated) ↔ ((via ≡ Udp) × (m.header.tc ≡ true))

-- Every owner of authority records ends with the root's label.
abbrev pub EndInRoot : Message → Type 0
EndInRoot m = (r : Record) → Contains m.authority r → IsAtOrUnder r.owner root

-- An answer of a zone's server would be the same answer of a root server. A referral would not: the zone decides which
-- addresses are used.
abbrev pub AnswerIsOfRoot : Type 0
AnswerIsOfRoot = (f q : Name) (t : ℕ) (via : Via) (m : Message) (l : Link) → EndInRoot m → class_of f q t via m ≡ Answer l → class_of root q t via m ≡ Answer l
