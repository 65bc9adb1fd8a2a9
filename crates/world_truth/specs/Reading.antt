-- What a message is taken for once it is accepted as a reply to the question (q, t) that was asked under
-- the zone f of a frame, TTLs aside (RFC 1034, section 5.3.3; RFC 2308, sections 2 and 5; RFC 2181, section
-- 5.4.1). What is neither an answer nor a referral is not used.
use Rattle.std.specs.Prelude.{◌≡◌, ◌≢◌, ℕ, true, false, ◌⊎◌, List, [], ◌∷◌, ◌++◌, Contains}
use Rattle.dname.specs.Labels.{Name, IsAtOrUnder}
use Rattle.rdata.specs.Data.{Ns, Ipv4, type_of}
use Rattle.rdata.specs.Records.{Record}
use Rattle.zone.specs.Zones.{IsBeneath, ns_type, cname_type, soa_type}
use Rattle.zone.specs.Links.{Link, Found, Alias, NoData, NxDomain}
use Rattle.zone.specs.Same.{Same, Has}
use Rattle.message_grammar.specs.Messages.{Message}
use Rattle.world_truth.specs.Worlds.{Address}

-- A record of that owner and type in a section; none.
abbrev pub IsIn : List Record → Name → ℕ → Record → Type 0
IsIn rs q t r = Contains rs r × (r.owner ≡ q) × (type_of r.value ≡ t)

abbrev pub HasNo : List Record → Name → ℕ → Type 0
HasNo rs q t = (r : Record) → IsIn rs q t r → ⊥

-- The first record of a type in a section; the first of an owner and a type.
pub record IsFirst (rs : List Record) (t : ℕ) (r : Record) : Type 0 where
  pub front : List Record
  pub back : List Record
  pub is : rs ≡ front ++ r ∷ back
  pub kind : type_of r.value ≡ t
  pub before : (s : Record) → Contains front s → type_of s.value ≢ t

pub record IsFirstOf (rs : List Record) (q : Name) (t : ℕ) (r : Record) : Type 0 where
  pub front : List Record
  pub back : List Record
  pub is : rs ≡ front ++ r ∷ back
  pub owner : r.owner ≡ q
  pub kind : type_of r.value ≡ t
  pub before : HasNo front q t

-- A negative answer: no record of the name and the type in the answer and no CNAME of the name, though records of other
-- names may stand there; and an SOA over the name, at or under the frame's zone, of which the first in the
-- authority section counts (RFC 2308, section 2.2).
pub record IsDenied (f q : Name) (t : ℕ) (m : Message) (soa : Record) : Type 0 where
  pub answer : HasNo m.answer q t
  pub alias : HasNo m.answer q cname_type
  pub first : IsFirst m.authority soa_type soa
  pub over : IsAtOrUnder q soa.owner
  pub inside : IsAtOrUnder soa.owner f

-- The link that an answer gives: the records of the name and the type; where there are none, the first
-- CNAME of the name, whatever the RCODE; where there is none, a negative answer.
abbrev pub Reads : Name → Name → ℕ → Message → Link → Type 0
Reads f q t m (Found set) =
    (m.header.rcode ≡ 0) × ((r : Record) → Contains set r → (s : Record) × IsIn m.answer q t s × Same r s)
    × ((s : Record) → IsIn m.answer q t s → Has set s) × (set ≢ [])
Reads f q t m (Alias r) = ((m.header.rcode ≡ 0) ⊎ (m.header.rcode ≡ 3)) × HasNo m.answer q t × ((s : Record) × IsFirstOf m.answer q cname_type s × Same r s)
Reads f q t m (NoData r) = (m.header.rcode ≡ 0) × ((soa : Record) × IsDenied f q t m soa × Same r soa)
Reads f q t m (NxDomain r) = (m.header.rcode ≡ 3) × ((soa : Record) × IsDenied f q t m soa × Same r soa)

-- The message is taken for an answer that gives this link: whole, and with authority.
pub record IsAnswer (f q : Name) (t : ℕ) (m : Message) (l : Link) : Type 0 where
  pub tc : m.header.tc ≡ false
  pub aa : m.header.aa ≡ true
  pub reads : Reads f q t m l

-- The message is taken for a referral to the cut c: the owner of the first NS record in authority, strictly
-- under the frame's zone and over the name, where neither an answer nor a negative answer stands.
pub record IsReferralTo (f q : Name) (t : ℕ) (m : Message) (c : Name) : Type 0 where
  pub tc : m.header.tc ≡ false
  pub rcode : m.header.rcode ≡ 0
  pub answer : HasNo m.answer q t
  pub alias : HasNo m.answer q cname_type
  pub soa : (r : Record) → Contains m.authority r → type_of r.value ≢ soa_type
  pub first : (r : Record) × IsFirst m.authority ns_type r × (r.owner ≡ c)
  pub beneath : IsBeneath c f
  pub over : IsAtOrUnder q c

-- A name that a referral gives for a server of its cut, and an address of such a name: only of names at or
-- under the frame's zone.
abbrev pub NamesServer : Message → Name → Name → Type 0
NamesServer m c n = (r : Record) × IsIn m.authority c ns_type r × (r.value ≡ Ns n)

abbrev pub GivesAddress : Name → Message → Name → Address → Type 0
GivesAddress f m c a = (n : Name) × (r : Record) × NamesServer m c n × IsAtOrUnder n f × Contains m.additional r × (r.owner ≡ n) × (r.value ≡ Ipv4 a)
