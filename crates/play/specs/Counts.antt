-- What comes out of a network, as it is counted: replies to recursive queries, and the asks that are left.
use Rattle.std.specs.Prelude.{◌≡◌, List, [], ◌∷◌}
use Rattle.wire.specs.declared.via.Via.TheVariants.{Udp, Tcp}
use Rattle.world_truth.specs.Worlds.{World}
use Rattle.network.specs.Networks.{NetworkAction, Reply, WasSent, WasAsked, MoreDue}
use Rattle.score.specs.Clients.{Queries, query_of}
use Rattle.score.specs.Counts.{IsCountedFor}
use Rattle.score.specs.Sends.{left_mark}
use Rattle.score.specs.declared.sends.Mark.{Mark}
use Rattle.score.specs.declared.count.Count.{Count}

-- The asks that an action shows.
abbrev pub mark_of : NetworkAction → List Mark
mark_of (Reply client way bytes cause) = []
mark_of (WasSent k) = left_mark Udp ∷ []
mark_of (WasAsked k) = left_mark Tcp ∷ []
mark_of MoreDue = []

-- What an action adds to the count.
abbrev pub Counts : World → Queries → NetworkAction → Count → Count → Type 0
Counts W queries (Reply client way bytes cause) old new = IsCountedFor W (query_of queries client) bytes old new
Counts W queries (WasSent k) old new = new ≡ old
Counts W queries (WasAsked k) old new = new ≡ old
Counts W queries MoreDue old new = new ≡ old

abbrev pub CountsAll : World → Queries → List NetworkAction → Count → Count → Type 0
CountsAll W queries [] old new = new ≡ old
CountsAll W queries (a ∷ rest) old new = (middle : Count) × Counts W queries a old middle × CountsAll W queries rest middle new
