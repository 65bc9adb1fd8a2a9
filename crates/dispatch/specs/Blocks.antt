-- The blocks of addresses, and in which of them servers are asked (RFC 6890).
use Rattle.std.specs.Prelude.{◌≡◌, ◌↔◌, ℕ, Bool, true, List, cond, ◌==◌, nat_lt, Any, IsTrue, slice_index}
use Rattle.rdata.specs.declared.addr.Addr.{Addr}
use Rattle.dispatch.specs.declared.blocks.Block.{Block}
use Rattle.dispatch.specs.declared.blocks.Block.TheVariants.{Public, ThisNetwork, Loopback, Multicast}
use Rattle.dispatch.specs.declared.blocks.Reach.{Reach}

-- By the first byte.
abbrev pub block_at : ℕ → Block
block_at first = cond (first == 0) ThisNetwork (cond (first == 127) Loopback (cond (nat_lt first 224) Public Multicast))

abbrev pub block_in : List ℕ → Block
block_in address = block_at (slice_index address 0)

-- Public addresses are always asked, others as it says.
abbrev pub reaches : Reach → Block → Bool
reaches r Public = true
reaches r ThisNetwork = r.this_network
reaches r Loopback = r.loopback
reaches r Multicast = r.multicast

abbrev pub HasHintIn : List Addr → Block → Type 0
HasHintIn hints block = Any (λ (a : Addr). block_in a.0 ≡ block) hints

-- Beside the public block, those in which one of the hints lies.
pub record IsReach (hints : List Addr) (r : Reach) : Type 0 where
  pub this_network : IsTrue r.this_network ↔ HasHintIn hints ThisNetwork
  pub loopback : IsTrue r.loopback ↔ HasHintIn hints Loopback
  pub multicast : IsTrue r.multicast ↔ HasHintIn hints Multicast
