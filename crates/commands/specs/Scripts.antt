-- What is printed of a script in a world, and why nothing is.
use Rattle.std.specs.Prelude.{◌≡◌, ◌⊎◌, ℕ, List, Option, Some, None, Result, Ok, Err}
use Rattle.world_truth.specs.Worlds.{World as WorldSpec}
use Rattle.text_lines.specs.declared.fault.LineError.{LineError}
use Rattle.script.specs.Orders.{Order, script_of}
use Rattle.play.specs.Played.{IsPlayed}
use Rattle.world_text.specs.Worlds.{IsWorldOf, IsNoWorld}
use Rattle.world_text.specs.declared.world_fault.WorldFault.{WorldFault}
use Rattle.world_text.specs.declared.world_fault.WorldFault.TheVariants as of
use Rattle.commands.specs.Texts.{MayHold}
use Rattle.commands.specs.declared.fault.Fault.{Fault}
use Rattle.commands.specs.declared.fault.Fault.TheVariants.{File, Zone, Script, Block, World, Unreadable, Memory}

-- The text is there, and it says that world.
pub record HoldsWorld (known : Option (Option (List ℕ))) (W : WorldSpec) : Type 0 where
  pub text : List ℕ
  pub held : MayHold known (Some text)
  pub says : IsWorldOf text W

-- The text is there, and that is why it says no world.
pub record IsRefusedFor (known : Option (Option (List ℕ))) (fault : WorldFault) : Type 0 where
  pub text : List ℕ
  pub held : MayHold known (Some text)
  pub fails : IsNoWorld text fault

-- The text is there, and it is read as these orders.
abbrev pub Holds : (List ℕ → Result (List Order) LineError) → Option (Option (List ℕ)) → List Order → Type 0
Holds read known orders = (text : List ℕ) × MayHold known (Some text) × (read text ≡ Ok orders)

-- The text is not there, or can't be read so, which is told under the path that was asked for. `held` is what is known to
-- stand at a path. Running out of memory leaves all open.
abbrev pub HoldsNo : {T : Type 0} → (List ℕ → Result T LineError) → (List ℕ → Option (Option (List ℕ))) → List ℕ → Fault → Type 0
HoldsNo read held file (Unreadable path) = (path.now ≡ file) × MayHold (held file) None
HoldsNo read held file (Script path e) = (path.now ≡ file) × ((text : List ℕ) × MayHold (held file) (Some text) × (read text ≡ Err e))
HoldsNo read held file Memory = Unit {0}
HoldsNo _ _ _ _ = ⊥

-- As a script.
abbrev pub HoldsOrders : Option (Option (List ℕ)) → List Order → Type 0
HoldsOrders known orders = Holds script_of known orders

abbrev pub HoldsNoOrders : (List ℕ → Option (Option (List ℕ))) → List ℕ → Fault → Type 0
HoldsNoOrders held file f = HoldsNo script_of held file f

-- The text is not there, or the first of its lines, its blocks and the rules of a world that fails is named, under the
-- path that was asked for.
abbrev pub HoldsNoWorld : (List ℕ → Option (Option (List ℕ))) → List ℕ → Fault → Type 0
HoldsNoWorld held file (Unreadable path) = (path.now ≡ file) × MayHold (held file) None
HoldsNoWorld held file (Script path e) = (path.now ≡ file) × IsRefusedFor (held file) (of.Line e)
HoldsNoWorld held file (File path e) = (path.now ≡ file) × IsRefusedFor (held file) (of.File e)
HoldsNoWorld held file (Block path line e) = (path.now ≡ file) × IsRefusedFor (held file) (of.Zone line e)
HoldsNoWorld held file (World path e) = (path.now ≡ file) × IsRefusedFor (held file) (of.World e)
HoldsNoWorld held file Memory = Unit {0}
HoldsNoWorld _ _ _ = ⊥

-- What the script's orders print in the world that the text says.
pub record PrintsScript (world script : Option (Option (List ℕ))) (text : List ℕ) : Type 0 where
  pub W : WorldSpec
  pub stands : HoldsWorld world W
  pub orders : List Order
  pub held : HoldsOrders script orders
  pub played : IsPlayed W orders text

-- The world stands, and the script is none.
pub record FailsBehind (held : List ℕ → Option (Option (List ℕ))) (world script : List ℕ) (fault : Fault) : Type 0 where
  pub W : WorldSpec
  pub stands : HoldsWorld (held world) W
  pub fails : HoldsNoOrders held script fault

-- The world's faults count before the script's, each under its own path.
abbrev pub IsNoScript : (List ℕ → Option (Option (List ℕ))) → List ℕ → List ℕ → Fault → Type 0
IsNoScript held world script f = HoldsNoWorld held world f ⊎ FailsBehind held world script f
