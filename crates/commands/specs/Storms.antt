-- What is printed of scripts that a worker each asks by in one network, and why nothing is.
use Rattle.std.specs.Prelude.{◌≡◌, ◌⊎◌, ℕ, List, [], ◌∷◌, ◌++◌, Option, codes, decimal}
use Rattle.std.specs.declared.alloc.Global.{Global}
use Rattle.world_truth.specs.Worlds.{World}
use Rattle.script.specs.Orders.{Order, asks_of}
use Rattle.simnet.specs.Beginnings.{IsNetworkOf}
use Rattle.play.specs.Played.{settings}
use Rattle.storm.specs.Counts.{Network, IsStorm}
use Rattle.storm.specs.declared.count.Totals.{Totals}
use Rattle.pool.specs.declared.fault.PoolError.{PoolError}
use Rattle.commands.specs.Scripts.{Holds, HoldsNo, HoldsWorld, HoldsNoWorld}
use Rattle.commands.specs.declared.fault.Fault.{Fault}
use Rattle.commands.specs.declared.fault.Fault.TheVariants.{Memory, Pool}

-- The text is there, and it is read as these orders: `at` and `ask` alone.
abbrev pub HoldsAsks : Option (Option (List ℕ)) → List Order → Type 0
HoldsAsks known orders = Holds asks_of known orders

abbrev pub HoldsNoAsks : (List ℕ → Option (Option (List ℕ))) → List ℕ → Fault → Type 0
HoldsNoAsks held file f = HoldsNo asks_of held file f

-- So are several, one after the other; `known` is what is known to stand at a path.
abbrev pub HoldAsks : {X : Type 0} → (X → Option (Option (List ℕ))) → List X → List (List Order) → Type 0
HoldAsks known [] [] = Unit {0}
HoldAsks known [] (orders ∷ scripts) = ⊥
HoldAsks known (path ∷ paths) [] = ⊥
HoldAsks known (path ∷ paths) (orders ∷ scripts) = HoldsAsks (known path) orders × HoldAsks known paths scripts

-- The first of them that is refused counts, under its own path; `bytes` gives a path's bytes. Running out of memory leaves all open.
abbrev pub RefusesOne : {X : Type 0} → (List ℕ → Option (Option (List ℕ))) → (X → List ℕ) → List X → Fault → Type 0
RefusesOne held bytes [] f = f ≡ Memory
RefusesOne held bytes (path ∷ paths) f =
    HoldsNoAsks held (bytes path) f ⊎ ((orders : List Order) × HoldsAsks (held (bytes path)) orders × RefusesOne held bytes paths f)

-- What the workers did does not close, or memory was wanting.
abbrev pub IsRunFault : Fault → Type 0
IsRunFault f = (f ≡ Memory) ⊎ ((e : PoolError) × (f ≡ Pool e))

-- The totals are those of the scripts, a worker for each, in a network of that world that did nothing before.
pub record IsStormIn (W : World) (scripts : List (List Order)) (totals : Totals) : Type 0 where
  pub start : Network
  pub made : IsNetworkOf W settings start
  pub storm : IsStorm Global start scripts totals

-- How many replies there were, and how many of those that count were right: those to recursive queries that are no
-- SERVFAIL, and all of them are.
abbrev pub storm_lines : Totals → List ℕ
storm_lines t = codes "replies " ++ (decimal t.replies ++ (codes "\nhistory ok\nright " ++ (decimal (t.count).right ++ codes "\n")))

-- What the scripts print in the world that the text says.
pub record PrintsStorm {X : Type 0} (known : X → Option (Option (List ℕ))) (world : Option (Option (List ℕ))) (scripts : List X) (text : List ℕ) : Type 0 where
  pub W : World
  pub stands : HoldsWorld world W
  pub orders : List (List Order)
  pub held : HoldAsks known scripts orders
  pub totals : Totals
  pub stormed : IsStormIn W orders totals
  pub is : text ≡ storm_lines totals

-- What the scripts print in that world.
pub record PrintsIn {X : Type 0} (W : World) (known : X → Option (Option (List ℕ))) (scripts : List X) (text : List ℕ) : Type 0 where
  pub orders : List (List Order)
  pub held : HoldAsks known scripts orders
  pub totals : Totals
  pub stormed : IsStormIn W orders totals
  pub is : text ≡ storm_lines totals

-- Workers asked by the scripts, and what they did is refused.
abbrev pub FailsToClose : {X : Type 0} → (X → Option (Option (List ℕ))) → List X → Fault → Type 0
FailsToClose known scripts f = (orders : List (List Order)) × HoldAsks known scripts orders × IsRunFault f

-- The world stands, and a script is none, or what the workers did is refused.
pub record StormFails {X : Type 0} (held : List ℕ → Option (Option (List ℕ))) (world : List ℕ) (bytes : X → List ℕ) (scripts : List X) (fault : Fault) : Type 0 where
  pub W : World
  pub stands : HoldsWorld (held world) W
  pub fails : RefusesOne held bytes scripts fault ⊎ FailsToClose (λ p. held (bytes p)) scripts fault

-- The world's faults count before those of the scripts, and these before the workers'.
abbrev pub IsNoStorm : {X : Type 0} → (List ℕ → Option (Option (List ℕ))) → List ℕ → (X → List ℕ) → List X → Fault → Type 0
IsNoStorm held world bytes scripts f = HoldsNoWorld held world f ⊎ StormFails held world bytes scripts f
