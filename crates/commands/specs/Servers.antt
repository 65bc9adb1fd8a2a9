-- What is printed of a server, which resolver it is, and why there is none.
use Rattle.std.specs.Prelude.{◌≡◌, ◌⊎◌, ℕ, Bool, true, false, List, [], ◌∷◌, ◌++◌, Option, Some, None, IfSome, Result, Ok, Err, codes, decimal, map}
use Rattle.std.specs.Borrow.{Bor}
use Rattle.rdata.specs.Text.{ipv4_text}
use Rattle.rdata.specs.declared.addr.Addr.{Addr}
use Rattle.zone.specs.Zones.{Zone as ZoneSpec}
use Rattle.events.specs.declared.path.Endpoint.{Endpoint}
use Rattle.config.specs.Configs.{Config, End, LocalZone, config_of}
use Rattle.runs.specs.States.{State}
use Rattle.dispatch.specs.Blocks.{IsReach}
use Rattle.server.specs.declared.context.Bounds.{Bounds}
use Rattle.server.specs.declared.fault.ServeError.{ServeError}
use Rattle.server.specs.declared.fault.ServeError.TheVariants as loops
use Rattle.server_start.specs.Resolvers.{IsDescribed}
use Rattle.commands.specs.Faults.{IsReported}
use Rattle.commands.specs.Scripts.{HoldsNo}
use Rattle.commands.specs.Texts.{MayHold}
use Rattle.commands.specs.Zones.{HoldsZone, HoldsNoZone}
use Rattle.commands.specs.declared.fault.Fault.{Fault}
use Rattle.commands.specs.declared.fault.Fault.TheVariants.{Unreadable, Settings, Memory, Socket, Threads}

-- The text is read as the file of a server that listens there.
pub record Describes (text : List ℕ) (at : End) : Type 0 where
  pub config : Config
  pub is : config_of text ≡ Ok config
  pub listens : config.listen ≡ at

-- The text is there, and it is read so.
pub record HoldsConfig (known : Option (Option (List ℕ))) : Type 0 where
  pub text : List ℕ
  pub held : MayHold known (Some text)
  pub at : End
  pub describes : Describes text at

abbrev pub end_of : Endpoint → End
end_of e = record { address = (e.address).0; port = e.port }

-- The line that says where clients are served.
abbrev pub address_line : List ℕ → ℕ → List ℕ
address_line address port = codes "listening " ++ ipv4_text address ++ codes " " ++ decimal port ++ codes "\n"

-- It names the address, and the port, which is any where 0 is asked for.
pub record NamesEnd (at : End) (text : List ℕ) : Type 0 where
  pub port : ℕ
  pub bound : (port ≡ at.port) ⊎ (at.port ≡ 0)
  pub is : text ≡ address_line at.address port

-- The file says where to listen, and that is printed.
pub record PrintsAddress (known : Option (Option (List ℕ))) (text : List ℕ) : Type 0 where
  pub holds : HoldsConfig known
  pub names : NamesEnd holds.at text

-- Why the sockets are not bound.
abbrev pub IsUnbound : Fault → Type 0
IsUnbound Socket = Unit {0}
IsUnbound Memory = Unit {0}
IsUnbound _ = ⊥

-- ---- The server that is started.

-- A server that does not run yet: its resolver, and the bounds of its loops.
pub record Prepared : Type 0 where
  pub resolver : State
  pub bounds : Bounds

-- ---- The resolver that is started. `held` is what is known to stand at a path.

-- The zones are those in the files, one for each line that names one, in their order.
abbrev pub AreZonesIn : (List ℕ → Option (Option (List ℕ))) → List LocalZone → List ZoneSpec → Type 0
AreZonesIn held [] [] = Unit {0}
AreZonesIn held [] (z ∷ zs) = ⊥
AreZonesIn held (l ∷ ls) [] = ⊥
AreZonesIn held (l ∷ ls) (z ∷ zs) = HoldsZone (held l.file) l.origin z × AreZonesIn held ls zs

-- The first of the lines whose file holds no zone counts, under that file's path. Running out of memory leaves all open.
abbrev pub LacksZone : (List ℕ → Option (Option (List ℕ))) → List LocalZone → Fault → Type 0
LacksZone held [] f = f ≡ Memory
LacksZone held (l ∷ ls) f = HoldsNoZone held l.file l.origin f ⊎ ((z : ZoneSpec) × HoldsZone (held l.file) l.origin z × LacksZone held ls f)

-- It is the seed that the file states, where it states one.
abbrev pub IsSeedOf : Config → List ℕ → Type 0
IsSeedOf c seed = IfSome c.seed (λ stated. stated ≡ seed)

-- As many streams, workers and loops as the file says, and servers are asked in the blocks of its hints.
pub record IsBounded (config : Config) (b : Bounds) : Type 0 where
  pub streams : b.streams ≡ config.streams
  pub workers : b.workers ≡ config.workers
  pub clients : b.clients ≡ config.clients
  pub loops : b.loops ≡ config.loops
  pub hints : List Addr
  pub hinted : map (λ (a : Addr). a.0) hints ≡ config.hints
  pub reach : IsReach hints b.reach

-- Its resolver has the hints and the settings that the file says, and these zones, and has done nothing yet; its loops
-- have the bounds that the file says.
pub record IsMadeWith (config : Config) (zones : List ZoneSpec) (made : Prepared) : Type 0 where
  pub seed : List ℕ
  pub seeded : IsSeedOf config seed
  pub is : IsDescribed config zones seed made.resolver
  pub bounds : IsBounded config made.bounds

-- The same, with the zones that the file says.
pub record IsMadeOf (held : List ℕ → Option (Option (List ℕ))) (config : Config) (made : Prepared) : Type 0 where
  pub zones : List ZoneSpec
  pub local : AreZonesIn held config.locals zones
  pub is : IsMadeWith config zones made

-- It is the server that this text describes.
pub record IsServer (held : List ℕ → Option (Option (List ℕ))) (text : List ℕ) (made : Prepared) : Type 0 where
  pub config : Config
  pub reads : config_of text ≡ Ok config
  pub is : IsMadeOf held config made

-- It is the server that the text at this path describes.
pub record IsServerAt (held : List ℕ → Option (Option (List ℕ))) (path : List ℕ) (made : Prepared) : Type 0 where
  pub text : List ℕ
  pub there : MayHold (held path) (Some text)
  pub is : IsServer held text made

-- This server is there exactly where the status is 0.
abbrev pub StartsWith : Prepared → ℕ → Option Prepared → Type 0
StartsWith made status server = ((status ≡ 0) × (server ≡ Some made)) ⊎ ((status ≡ 0 → ⊥) × (server ≡ None))

-- The server that the text at the path describes is there exactly where the status is 0.
abbrev pub Starts : (List ℕ → Option (Option (List ℕ))) → List ℕ → ℕ → Option Prepared → Type 0
Starts held path status server =
    ((status ≡ 0) × ((made : Prepared) × (server ≡ Some made) × IsServerAt held path made)) ⊎ ((status ≡ 0 → ⊥) × (server ≡ None))

-- ---- The server that does not start.

-- The file states no seed, and no random bytes can be read.
pub record LacksSeed (c : Config) (fault : Fault) : Type 0 where
  pub unstated : c.seed ≡ None
  pub path : Bor (List ℕ)
  pub source : path.now ≡ codes "/dev/urandom"
  pub is : fault ≡ Unreadable path

-- Why a file whose zones are read gives no resolver: the source of random bytes, or what it sets.
abbrev pub IsUnmade : Config → Fault → Type 0
IsUnmade c f = LacksSeed c f ⊎ ((f ≡ Settings) ⊎ (f ≡ Memory))

-- Why a file that is read gives no resolver: a file of its zones, or the same.
abbrev pub IsStartFault : (List ℕ → Option (Option (List ℕ))) → Config → Fault → Type 0
IsStartFault held c f = LacksZone held c.locals f ⊎ IsUnmade c f

-- The text at the path is read, and gives no resolver, or the sockets of that are not bound.
pub record FailsToStart (held : List ℕ → Option (Option (List ℕ))) (path : List ℕ) (fault : Fault) : Type 0 where
  pub text : List ℕ
  pub there : MayHold (held path) (Some text)
  pub config : Config
  pub reads : config_of text ≡ Ok config
  pub fails : IsStartFault held config fault ⊎ IsUnbound fault

-- The faults of the file itself count first, and those of the sockets last.
abbrev pub IsNoServer : (List ℕ → Option (Option (List ℕ))) → List ℕ → Fault → Type 0
IsNoServer held path f = HoldsNo config_of held path f ⊎ FailsToStart held path f

-- ---- The server that was run.

-- The fault of a server that can't be run.
abbrev pub serve_fault : ServeError → Fault
serve_fault loops.Memory = Memory
serve_fault loops.Clock = Threads
serve_fault loops.Threads = Threads

-- Of a server that ended nothing was written, and of one that can't be run the line of its fault.
abbrev pub IsToldOf : Result Unit ServeError → Option (List ℕ) → Option (List ℕ) → ℕ → Type 0
IsToldOf (Ok _) err err2 n = (n ≡ 0) × (err2 ≡ err)
IsToldOf (Err e) err err2 n = IsReported (serve_fault e) err err2 n

-- A server was run where its sockets are bound, and what came of it was told; where none are, that was told.
abbrev pub IsServed : Bool → Option (List ℕ) → Option (List ℕ) → ℕ → Type 0
IsServed true err err2 n = (done : Result Unit ServeError) × IsToldOf done err err2 n
IsServed false err err2 n = IsReported Socket err err2 n
