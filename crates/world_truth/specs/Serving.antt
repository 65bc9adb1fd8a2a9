-- What a server of a world may say to a question (RFC 1034, section 4.3.2), TTLs aside.
use Rattle.std.specs.Prelude.{◌≡◌, ℕ, ◌≤◌, true, false, ◌⊎◌, List, [], ◌∷◌, length, Contains}
use Rattle.dname.specs.Labels.{Name, IsAtOrUnder}
use Rattle.rdata.specs.Data.{Ns, type_of}
use Rattle.rdata.specs.Records.{Record}
use Rattle.zone.specs.Zones.{Zone, At, IsCutOver, a_type, ns_type, aaaa_type}
use Rattle.zone.specs.Links.{Link, Found, Alias, NoData, NxDomain}
use Rattle.zone.specs.Same.{Same, Has}
use Rattle.message_grammar.specs.Messages.{Message}
use Rattle.world_truth.specs.Worlds.{Address, World, Serves}
use Rattle.world_truth.specs.Truths.{Shows}

-- The zone that a server answers from: of those that it serves, the one with the longest origin over the
-- name (RFC 1034, section 4.3.2, step 2).
pub record AnswersFrom (W : World) (a : Address) (q : Name) (z : Zone) : Type 0 where
  pub stands : Contains W.zones z
  pub served : Serves W a z.origin
  pub over : IsAtOrUnder q z.origin
  pub longest : (y : Zone) → Contains W.zones y → Serves W a y.origin → IsAtOrUnder q y.origin → length y.origin ≤ length z.origin

-- An address of a server of the cut, as some zone that is served there has it.
abbrev pub IsServersAddress : World → Address → Zone → Name → Record → Type 0
IsServersAddress W a z c r =
    ((type_of r.value ≡ a_type) ⊎ (type_of r.value ≡ aaaa_type)) × ((s : Record) × At z c ns_type s × (s.value ≡ Ns r.owner))
    × ((y : Zone) × Contains W.zones y × Serves W a y.origin × Has y.records r)

-- A referral to the cut c: its whole NS set, and any addresses of its servers (RFC 1034, section 4.3.2,
-- step 3b).
pub record Refers (W : World) (a : Address) (z : Zone) (c : Name) (m : Message) : Type 0 where
  pub aa : m.header.aa ≡ false
  pub rcode : m.header.rcode ≡ 0
  pub answer : m.answer ≡ []
  pub only : (r : Record) → Contains m.authority r → (s : Record) × At z c ns_type s × Same r s
  pub whole : (s : Record) → At z c ns_type s → Has m.authority s
  pub addresses : (r : Record) → Contains m.additional r → IsServersAddress W a z c r

-- Of these records those of owner q are the ones of `set`.
abbrev pub AreOwned : Name → List Record → List Record → Type 0
AreOwned q rs set = ((r : Record) → Contains rs r → r.owner ≡ q → Contains set r) × ((r : Record) → Contains set r → Contains rs r × (r.owner ≡ q))

-- The zone's link of the question, with authority (RFC 1034, section 4.3.2, steps 3a and 3c; RFC 2308,
-- section 2). Behind an alias a server may go on as it likes, and so with either RCODE; of a negative answer the SOA
-- stands alone.
abbrev pub Gives : Zone → Name → ℕ → Message → Link → Type 0
Gives z q t m (Found set) = (m.header.aa ≡ true) × (m.header.rcode ≡ 0) × AreOwned q m.answer set × Shows z q t (Found set)
Gives z q t m (Alias r) =
    (m.header.aa ≡ true) × ((m.header.rcode ≡ 0) ⊎ (m.header.rcode ≡ 3)) × Contains m.answer r
    × ((s : Record) → Contains m.answer s → s.owner ≡ q → Same s r) × Shows z q t (Alias r)
Gives z q t m (NoData soa) = (m.header.aa ≡ true) × (m.header.rcode ≡ 0) × (m.answer ≡ []) × (m.authority ≡ soa ∷ []) × Shows z q t (NoData soa)
Gives z q t m (NxDomain soa) = (m.header.aa ≡ true) × (m.header.rcode ≡ 3) × (m.answer ≡ []) × (m.authority ≡ soa ∷ []) × Shows z q t (NxDomain soa)

-- A whole answer: a referral where a cut stands over the name, and otherwise the link.
abbrev pub Tells : World → Address → Name → ℕ → Message → Type 0
Tells W a q t m = (z : Zone) × AnswersFrom W a q z × (((c : Name) × IsCutOver z q c × Refers W a z c m) ⊎ ((l : Link) × Gives z q t m l))

-- What is left of a whole message: TC is set, and any records are gone (RFC 2181, section 9).
pub record IsTruncationOf (whole m : Message) : Type 0 where
  pub header : m.header ≡ record whole.header { tc = true }
  pub answer : (r : Record) → Contains m.answer r → Contains whole.answer r
  pub authority : (r : Record) → Contains m.authority r → Contains whole.authority r
  pub additional : (r : Record) → Contains m.additional r → Contains whole.additional r

-- What the server at an address may answer to the question (q, t).
abbrev pub MayServe : World → Address → Name → ℕ → Message → Type 0
MayServe W a q t m = Tells W a q t m ⊎ ((whole : Message) × Tells W a q t whole × IsTruncationOf whole m)
