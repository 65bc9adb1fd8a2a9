-- What is printed of a whole script.
use Rattle.std.specs.Prelude.{◌≡◌, ℕ, List, ◌++◌, replicate}
use Rattle.world_truth.specs.Worlds.{World}
use Rattle.script.specs.Orders.{Order}
use Rattle.engine.specs.declared.settings.Settings.{Settings}
use Rattle.network.specs.Networks.{Network}
use Rattle.simnet.specs.Beginnings.{IsNetworkOf}
use Rattle.play.specs.Plays.{State, Plays, beginning, last_line}

-- What a resolver is set to in a script.
abbrev pub settings : Settings
settings = record { cache = 1024; delegations = 1024; penalties = 1024; failures = 1024; sockets = 16; port = 53; seed = replicate 32 0 }

-- Nothing happened yet in a network of that world.
pub record IsReady (W : World) (s : State) : Type 0 where
  pub network : Network
  pub made : IsNetworkOf W settings network
  pub is : s ≡ beginning network

-- The text is what is printed of these orders in that world, and a last line: how many replies were right, of how many that
-- were counted. Each of them was right.
pub record IsPlayed (W : World) (orders : List Order) (text : List ℕ) : Type 0 where
  pub begin : State
  pub ready : IsReady W begin
  pub end : State
  pub plays : Plays orders begin end
  pub right : (end.seen).count.right ≡ (end.seen).count.replies
  pub is : text ≡ (end.seen).text ++ last_line (end.seen).count
