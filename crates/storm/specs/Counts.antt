-- The replies of a history, counted and judged.
use Rattle.std.specs.Prelude.{◌≡◌, ℕ, ◌+◌, Option, Some, None, List, [], ◌∷◌}
use Rattle.world_truth.specs.Worlds.{World}
use Rattle.script.specs.Orders.{Order}
use Rattle.network.specs.Networks.{NetworkAction, Reply, WasSent, WasAsked, MoreDue}
pub use Rattle.network.specs.Networks.{Network}
use Rattle.score.specs.Clients.{Queries, query_of}
use Rattle.score.specs.Counts.{IsCountedFor}
use Rattle.score.specs.declared.count.Count.{Count}
use Rattle.storm.specs.Lists.{AsksAll}
use Rattle.storm.specs.Runs.{Entry, IsRunOf, AreRight, AreNumbered, out_of}
use Rattle.storm.specs.declared.query.StormQuery.{StormQuery}
use Rattle.storm.specs.declared.count.Totals.{Totals}

abbrev pub none_yet : Count
none_yet = record { replies = 0; right = 0 }

-- What an action adds.
abbrev pub Counts : World → Queries → NetworkAction → Count → Count → Type 0
Counts W clients (Reply client way bytes cause) old new = IsCountedFor W (query_of clients client) bytes old new
Counts W clients (WasSent k) old new = new ≡ old
Counts W clients (WasAsked k) old new = new ≡ old
Counts W clients MoreDue old new = new ≡ old

abbrev pub CountsOut : World → Queries → List NetworkAction → Count → Count → Type 0
CountsOut W clients [] old new = new ≡ old
CountsOut W clients (a ∷ out) old new = (middle : Count) × Counts W clients a old middle × CountsOut W clients out middle new

abbrev pub CountsStep : World → Queries → Option (List NetworkAction) → Count → Count → Type 0
CountsStep W clients (Some out) old new = CountsOut W clients out old new
CountsStep W clients None old new = new ≡ old

-- The entries of a history, the oldest first.
abbrev pub CountsAll : {A : Type 0} → World → Queries → List (Entry A) → Count → Count → Type 0
CountsAll W clients [] old new = new ≡ old
CountsAll W clients (e ∷ h) old new = (middle : Count) × CountsStep W clients (out_of e.out) old middle × CountsAll W clients h middle new

-- How many replies came out.
abbrev pub replies_in : List NetworkAction → ℕ
replies_in [] = 0
replies_in (Reply client way bytes cause ∷ out) = replies_in out + 1
replies_in (WasSent k ∷ out) = replies_in out
replies_in (WasAsked k ∷ out) = replies_in out
replies_in (MoreDue ∷ out) = replies_in out

abbrev pub replies_of : Option (List NetworkAction) → ℕ
replies_of (Some out) = replies_in out
replies_of None = 0

-- How many a history shows.
abbrev pub replies_shown : {A : Type 0} → List (Entry A) → ℕ
replies_shown [] = 0
replies_shown (e ∷ h) = replies_of (out_of e.out) + replies_shown h

-- The totals are those of one legal history of all workers in one network, each of whom worked off its own list.
pub record IsTotalOf {A : Type 0} (start : Network) (clients : Queries) (queries : List (List (StormQuery A))) (totals : Totals) : Type 0 where
  pub history : List (Entry A)
  pub lists : List (List (Entry A))
  pub run : IsRunOf start queries history lists
  pub right : AreRight start history
  pub numbered : AreNumbered history
  pub replies : totals.replies ≡ replies_shown history
  pub counts : CountsAll start.world clients history none_yet totals.count

-- The same of scripts, a worker for each; and every reply that was counted is right.
pub record IsStorm (A : Type 0) (start : Network) (scripts : List (List Order)) (totals : Totals) : Type 0 where
  pub clients : Queries
  pub queries : List (List (StormQuery A))
  pub asks : AsksAll scripts [] queries clients
  pub total : IsTotalOf start clients queries totals
  pub all_right : (totals.count).right ≡ (totals.count).replies
