-- The laws about worlds that the functions of this crate state.
use Rattle.std.specs.Prelude.{◌≡◌, ◌≢◌, ℕ, false, List, [], ◌∷◌, ◌++◌, length, Contains}
use Rattle.dname.specs.Labels.{Name, IsName}
use Rattle.rdata.specs.Data.{Cname}
use Rattle.rdata.specs.Records.{Record}
use Rattle.zone.specs.Zones.{Zone, IsUncut, cname_type}
use Rattle.zone.specs.Links.{Link, Found, Alias, NxDomain, IsLink}
use Rattle.zone.specs.Ruled.{IsZone}
use Rattle.zone.specs.Same.{SameLink}
use Rattle.zone.specs.Look.{Linked}
use Rattle.authority.specs.Catalogs.{IsInCharge, IsLooked}
use Rattle.message_grammar.specs.Messages.{Message, IsMessage}
use Rattle.world_truth.specs.Worlds.{Address, World, IsWorld}
use Rattle.world_truth.specs.Truths.{IsTrueLink, ChainLeads, Truth, SameList}
use Rattle.world_truth.specs.Replies.{Once, IsWhole, IsRight, IsSameReply}
use Rattle.world_truth.specs.Serving.{MayServe}
use Rattle.world_truth.specs.Reading.{IsAnswer, IsReferralTo}
use Rattle.world_truth.specs.Frames.{AreHeld, MayAsk, IsGood}

-- No cut of the zone in charge of a name stands over the name.
abbrev pub ChargeIsUncut : Type 0
ChargeIsUncut = (W : World) (q : Name) (z : Zone) → IsWorld W → IsInCharge W.zones q z → IsUncut z q

-- One zone is in charge of a name.
abbrev pub OneInCharge : Type 0
OneInCharge = (W : World) (q : Name) (y z : Zone) → IsWorld W → IsInCharge W.zones q y → IsInCharge W.zones q z → y ≡ z

-- Each name has a zone in charge.
abbrev pub SomeInCharge : Type 0
SomeInCharge = (W : World) (q : Name) → IsWorld W → IsName q → (z : Zone) × IsInCharge W.zones q z

-- Each question has a link in a world.
abbrev pub SomeTrueLink : Type 0
SomeTrueLink = (W : World) (q : Name) (t : ℕ) → IsWorld W → IsName q → (l : Link) × IsTrueLink W q t l

-- A question has one link in a world, but for TTLs, order and repeats.
abbrev pub OneTrueLink : Type 0
OneTrueLink = (W : World) (q : Name) (t : ℕ) (k l : Link) → IsWorld W → IsTrueLink W q t k → IsTrueLink W q t l → SameLink k l

-- The same aliases in order, and the same end.
pub record IsSameTruth (c : List Record) (k : Link) (d : List Record) (l : Link) : Type 0 where
  pub chain : SameList c d
  pub last : SameLink k l

-- A question has one truth at most.
abbrev pub OneTruth : Type 0
OneTruth = (W : World) (q : Name) (t : ℕ) (c d : List Record) (k l : Link) → IsWorld W → Truth W q t c k → Truth W q t d l → IsSameTruth c k d l

-- A chain of nine aliases has no truth.
abbrev pub NineHaveNone : Type 0
NineHaveNone = (W : World) (q : Name) (t : ℕ) (aliases : List Record) (n : Name) (c : List Record) (l : Link) → IsWorld W → ChainLeads W t q aliases n → length aliases ≡ 9 → Truth W q t c l → ⊥

-- Where CNAME is asked for, no alias is followed: a CNAME is what is found.
abbrev pub CnameIsPlain : Type 0
CnameIsPlain = (W : World) (q : Name) (c : List Record) (l : Link) → Truth W q cname_type c l → c ≡ []

-- A chain grows by the alias at its end.
abbrev pub ChainGrows : Type 0
ChainGrows = (W : World) (t : ℕ) (from to n : Name) (chain : List Record) (r : Record) → ChainLeads W t from chain to → IsTrueLink W to t (Alias r) → r.value ≡ Cname n → ChainLeads W t from (chain ++ r ∷ []) n

-- However two whole replies to one question are read, they say the same.
abbrev pub OneWhole : Type 0
OneWhole = (W : World) (q : Name) (t : ℕ) (m n : Message) → IsWorld W → (a : IsWhole W q t m) (b : IsWhole W q t n) → IsSameReply W q t m n a b

-- Two right replies to one question that are not truncated are whole, and say the same.
abbrev pub OneReply : Type 0
OneReply = (W : World) (q : Name) (t : ℕ) (a b : List ℕ) (m n : Message) → IsWorld W → IsRight W q t a → IsRight W q t b → IsMessage a m → IsMessage b n
    → m.header.tc ≡ false → n.header.tc ≡ false → (x : IsWhole W q t m) × (y : IsWhole W q t n) × IsSameReply W q t m n x y

-- An honest answer of a server that may be asked is the world's link.
abbrev pub HonestAnswer : Type 0
HonestAnswer = (W : World) (a : Address) (f q : Name) (t : ℕ) (m : Message) (l : Link) → IsWorld W → MayAsk W a f q → MayServe W a q t m → IsAnswer f q t m l → IsTrueLink W q t l

-- What an honest referral of such a server gives may be kept and used.
abbrev pub HonestReferral : Type 0
HonestReferral = (W : World) (a : Address) (f q : Name) (t : ℕ) (m : Message) (c : Name) → IsWorld W → MayAsk W a f q → MayServe W a q t m → IsReferralTo f q t m c → IsGood W f q m c

-- What is true of a name for one type serves for others: an NXDOMAIN for all types; an alias for all but
-- CNAME, and for CNAME as the set that is found; a CNAME that was found as the alias for all other types.
abbrev pub ErrorForAll : Type 0
ErrorForAll = (W : World) (q : Name) (t u : ℕ) (soa : Record) → IsTrueLink W q t (NxDomain soa) → IsTrueLink W q u (NxDomain soa)

abbrev pub AliasForAll : Type 0
AliasForAll = (W : World) (q : Name) (t u : ℕ) (r : Record) → IsWorld W → IsTrueLink W q t (Alias r) → u ≢ cname_type → IsTrueLink W q u (Alias r)

abbrev pub FoundAsAlias : Type 0
FoundAsAlias = (W : World) (q : Name) (u : ℕ) (set : List Record) (r : Record) → IsWorld W → IsTrueLink W q cname_type (Found set) → Contains set r → u ≢ cname_type → IsTrueLink W q u (Alias r)

abbrev pub AliasAsFound : Type 0
AliasAsFound = (W : World) (q : Name) (t : ℕ) (r : Record) → IsWorld W → IsTrueLink W q t (Alias r) → IsTrueLink W q cname_type (Found (r ∷ []))

-- What differs from what is true in TTLs, order and repeats alone is true.
abbrev pub SameIsTrue : Type 0
SameIsTrue = (W : World) (q : Name) (t : ℕ) (k l : Link) → SameLink k l → IsTrueLink W q t l → IsTrueLink W q t k

-- What is true stays true under whatever changes TTLs, order and repeats alone.
abbrev pub StaysTrue : Type 0
StaysTrue = (change : Link → Link) → ((l : Link) → SameLink (change l) l) → (W : World) (q : Name) (t : ℕ) (l : Link) → IsTrueLink W q t l → IsTrueLink W q t (change l)

-- What a zone finds has each record once, whatever its TTL.
abbrev pub FoundIsOnce : Type 0
FoundIsOnce = (z : Zone) (q : Name) (t : ℕ) (set : List Record) → IsZone z → IsLink z q t (Found set) → Once set

-- So has what the zones find that the resolver holds.
abbrev pub HeldIsOnce : Type 0
HeldIsOnce = (W : World) (zs : List Zone) (q : Name) (t : ℕ) (set : List Record) → IsWorld W → AreHeld W zs → IsLooked zs q t (Linked (Found set)) → Once set
