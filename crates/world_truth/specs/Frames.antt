-- When a server may be asked, and what keeps it so.
use Rattle.std.specs.Prelude.{◌≡◌, ◌≤◌, ◌⊎◌, ◌↔◌, List, length, Contains}
use Rattle.dname.specs.Labels.{Name, IsAtOrUnder}
use Rattle.rdata.specs.Data.{Ns, Ipv4}
use Rattle.rdata.specs.Records.{Record}
use Rattle.zone.specs.Zones.{Zone}
use Rattle.message_grammar.specs.Messages.{Message}
use Rattle.world_truth.specs.Worlds.{Address, World, Serves, IsServerName}
use Rattle.world_truth.specs.Reading.{NamesServer, GivesAddress}

-- A zone that the resolver itself holds.
abbrev pub IsHeld : World → Zone → Type 0
IsHeld W z = Contains W.zones z × Contains W.locals z.origin

-- These are the zones that the resolver holds.
abbrev pub AreHeld : World → List Zone → Type 0
AreHeld W zs = (z : Zone) → Contains zs z ↔ IsHeld W z

-- No zone that the resolver holds is over q with a longer origin than n: none lies between n and q.
abbrev pub IsUnshadowed : World → Name → Name → Type 0
IsUnshadowed W n q = (z : Zone) → IsHeld W z → IsAtOrUnder q z.origin → length z.origin ≤ length n

-- What is so whenever a server is asked for q as a server of the zone f.
pub record MayAsk (W : World) (a : Address) (f q : Name) : Type 0 where
  pub serves : Serves W a f
  pub over : IsAtOrUnder q f
  pub unshadowed : IsUnshadowed W f q

-- What is so of a cut, the names of its servers and their addresses, wherever they are kept. It speaks of
-- no question: the same cut may serve for one name and be shadowed for another.
pub record IsDelegation (W : World) (c : Name) (names : List Name) (addresses : List Address) : Type 0 where
  pub servers : (n : Name) → Contains names n → IsServerName W c n
  pub serve : (a : Address) → Contains addresses a → Serves W a c

-- What an honest referral gives: names of servers of its cut, addresses that serve it, and each server of
-- the cut may be asked for the same name.
pub record IsGood (W : World) (f q : Name) (m : Message) (c : Name) : Type 0 where
  pub names : (n : Name) → NamesServer m c n → IsServerName W c n
  pub addresses : (a : Address) → GivesAddress f m c a → Serves W a c
  pub asks : (a : Address) → Serves W a c → MayAsk W a c q

-- A frame: the zone whose servers are asked, their names, and the addresses known so far.
pub record Frame : Type 0 where
  pub zone : Name
  pub names : List Name
  pub addresses : List Address

-- What is so of each frame for q from its start on, with addresses or without.
pub record IsFrame (W : World) (q : Name) (f : Frame) : Type 0 where
  pub over : IsAtOrUnder q f.zone
  pub unshadowed : IsUnshadowed W f.zone q
  pub servers : (n : Name) → Contains f.names n → IsServerName W f.zone n
  pub serve : (a : Address) → Contains f.addresses a → Serves W a f.zone

-- The frame with one address more.
pub record IsGrown (f : Frame) (a : Address) (g : Frame) : Type 0 where
  pub zone : g.zone ≡ f.zone
  pub names : g.names ≡ f.names
  pub addresses : (b : Address) → Contains g.addresses b → Contains f.addresses b ⊎ (b ≡ a)

-- A frame as it starts.
abbrev pub frame_at : Name → List Name → List Address → Frame
frame_at zone names addresses = record { zone = zone; names = names; addresses = addresses }

-- These names are targets of these NS records; these addresses stand in these A records.
abbrev pub AreTargets : List Name → List Record → Type 0
AreTargets names servers = (n : Name) → Contains names n → (r : Record) × Contains servers r × (r.value ≡ Ns n)

abbrev pub AreAddresses : List Address → List Record → Type 0
AreAddresses addresses glue = (a : Address) → Contains addresses a → (r : Record) × Contains glue r × (r.value ≡ Ipv4 a)

-- These names and addresses are taken from a referral to the cut c under the zone f.
pub record AreTaken (f : Name) (m : Message) (c : Name) (names : List Name) (addresses : List Address) : Type 0 where
  pub names_from : (n : Name) → Contains names n → NamesServer m c n
  pub addresses_from : (a : Address) → Contains addresses a → GivesAddress f m c a
