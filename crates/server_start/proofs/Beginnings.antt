-- A resolver that was made of a file is the one that the file describes, and has done nothing yet.
use Rattle.std.proofs.Common.{◌≡◌, ℕ, List, Result, Ok, Err, IfOk, map, subst}
use Rattle.std.specs.Prelude.{MatchResult}
use Rattle.rdata.specs.declared.addr.Addr.{Addr}
use Rattle.zone.specs.Zones.{Zone}
use Rattle.config.specs.Configs.{Config}
use Rattle.runs.specs.States.{State}
use Rattle.engine.specs.declared.settings.Settings.{Settings}
use Rattle.engine.specs.Beginnings.{IsMade, IsBegun}
use Rattle.server_start.specs.Resolvers.{IsDescribed, settings_in}

pub described : {E : Type 0} (Q : E → Type 0) (c : Config) (zones : List Zone) (seed : List ℕ) (hints : List Addr) → map (λ (a : Addr). a.0) hints ≡ c.hints
    → (s : Settings) → s ≡ settings_in c seed → (made : Result State E) → MatchResult made (IsMade zones hints s) Q → IfOk made (IsDescribed c zones seed)
described Q c zones seed hints hinted s same (Ok made) is = record { hints = hints; hinted = hinted; is = subst (λ t. IsMade zones hints t made) same is }
described Q c zones seed hints hinted s same (Err e) refused = tt

pub begun : {E : Type 0} (Q : E → Type 0) (zones : List Zone) (hints : List Addr) (s : Settings) (made : Result State E) → MatchResult made (IsMade zones hints s) Q → IfOk made IsBegun
begun Q zones hints s (Ok made) is = record { zones = zones; hints = hints; settings = s; is = is }
begun Q zones hints s (Err e) refused = tt
