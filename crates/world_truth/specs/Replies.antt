-- The right reply to a question (RFC 1034, sections 3.6.2 and 4.3.2; RFC 2308, section 2).
use Rattle.std.specs.Prelude.{◌≡◌, ℕ, true, false, ◌⊎◌, List, [], ◌∷◌, ◌++◌, length}
use Rattle.dname.specs.Labels.{Name}
use Rattle.rdata.specs.Records.{Record}
use Rattle.zone.specs.Links.{Link, Found, Alias, NoData, NxDomain}
use Rattle.zone.specs.Same.{Has, SameSet}
use Rattle.message_grammar.specs.Messages.{Message, IsMessage, internet}
use Rattle.world_truth.specs.Worlds.{World}
use Rattle.world_truth.specs.Truths.{Truth, SameList}

-- A reply, with that one question, in class IN (RFC 1035, section 4.1).
pub record IsReplyTo (q : Name) (t : ℕ) (m : Message) : Type 0 where
  pub qr : m.header.qr ≡ true
  pub question : m.questions ≡ record { name = q; qtype = t; qclass = internet } ∷ []

-- A truncated reply: no records (RFC 2181, section 9).
pub record IsBare (m : Message) : Type 0 where
  pub tc : m.header.tc ≡ true
  pub answer : m.answer ≡ []
  pub authority : m.authority ≡ []
  pub additional : m.additional ≡ []

-- No record stands twice, TTLs aside.
abbrev pub Once : List Record → Type 0
Once [] = Unit {0}
Once (r ∷ rs) = (Has rs r → ⊥) × Once rs

-- How a link ends a reply: its records behind the aliases, its RCODE, and its SOA in authority (RFC 2308,
-- section 2). An NXDOMAIN has its RCODE behind aliases too.
abbrev pub Ends : Link → List Record → ℕ → List Record → Type 0
Ends (Found set) rs rcode authority = (rs ≡ set) × Once set × (rcode ≡ 0) × (authority ≡ [])
Ends (Alias r) rs rcode authority = ⊥
Ends (NoData soa) rs rcode authority = (rs ≡ []) × (rcode ≡ 0) × (authority ≡ soa ∷ [])
Ends (NxDomain soa) rs rcode authority = (rs ≡ []) × (rcode ≡ 3) × (authority ≡ soa ∷ [])

-- A whole reply: the truth's aliases in order, and then its end; TTLs are the resolver's own.
pub record IsWhole (W : World) (q : Name) (t : ℕ) (m : Message) : Type 0 where
  pub tc : m.header.tc ≡ false
  pub chain : List Record
  pub rest : List Record
  pub last : Link
  pub truth : Truth W q t chain last
  pub answer : m.answer ≡ chain ++ rest
  pub ends : Ends last rest m.header.rcode m.authority
  pub additional : m.additional ≡ []

-- The bytes are the right reply to the question (q, t): truncated, or whole.
abbrev pub IsRight : World → Name → ℕ → List ℕ → Type 0
IsRight W q t bytes = (m : Message) × IsMessage bytes m × IsReplyTo q t m × (IsBare m ⊎ IsWhole W q t m)

-- Two whole replies say the same, TTLs aside: the same RCODE, the same aliases one by one in order, the same
-- records behind them, as many and in any order, and the same authority.
pub record IsSameReply (W : World) (q : Name) (t : ℕ) (m n : Message) (a : IsWhole W q t m) (b : IsWhole W q t n) : Type 0 where
  pub rcode : m.header.rcode ≡ n.header.rcode
  pub aliases : SameList a.chain b.chain
  pub set : SameSet a.rest b.rest
  pub count : length a.rest ≡ length b.rest
  pub authority : SameSet m.authority n.authority
