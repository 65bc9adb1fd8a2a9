-- The SOA of a negative answer as it is stored: its three names in wire form, one behind the other.
use Rattle.std.specs.Prelude.{ℕ, ◌≤◌, List, take, drop, length}
use Rattle.dname.specs.Wire.{IsNameWire}
use Rattle.rdata.specs.Data.{Authority, Soa}
use Rattle.rdata.specs.Records.{Record}

-- The SOA record of a zone without its TTL.
pub record Denied : Type 0 where
  pub owner : List (List ℕ)
  pub soa : Authority

abbrev pub denied : ℕ → Denied → Record
denied ttl d = record { owner = d.owner; ttl = ttl; value = Soa d.soa }

-- The names in the order in which they are stored, where the first has the size n and the second m.
abbrev pub first_wire : ℕ → List ℕ → List ℕ
first_wire n bs = take n bs

abbrev pub second_wire : ℕ → ℕ → List ℕ → List ℕ
second_wire n m bs = take m (drop n bs)

abbrev pub third_wire : ℕ → ℕ → List ℕ → List ℕ
third_wire n m bs = drop m (drop n bs)

pub record AreNames (n m : ℕ) (bs : List ℕ) : Type 0 where
  pub first : IsNameWire (first_wire n bs)
  pub second : IsNameWire (second_wire n m bs)
  pub third : IsNameWire (third_wire n m bs)
  pub long : n ≤ length bs
  pub rest : m ≤ length (drop n bs)
