-- Local and cached chains are answered: chains of links that stand in the local zones and in the cache (RFC 1034,
-- section 5.3.3, step 1).
use Rattle.std.specs.Prelude.{◌≡◌, ℕ, ◌≤◌, true, Some, List, [], ◌∷◌, length}
use Rattle.rdata.specs.Types.{type_number}
use Rattle.wire.specs.declared.via.Via.{Via}
use Rattle.front.specs.Queries.{IsRequest}
use Rattle.front.specs.declared.queries.Request.TheVariants as request
use Rattle.front.specs.declared.queries.Query.{Query}
use Rattle.resolution.specs.Jobs.{Taken}
use Rattle.resolution.specs.Held.{IsHeldChain}
use Rattle.runs.specs.States.{Client, Action, Own, Turn, Plain, client_query, recursive, Site, State, moved}
use Rattle.runs.specs.Messages.{outcome_of, IsReply}
use Rattle.runs.specs.Steps.{Step}
use Rattle.runs.specs.Runs.{Run}

-- A recursive query with a chain that is held, of at most eight aliases, is answered with it in the very step in which it
-- comes, and nothing is sent.
abbrev pub RepliesHeld : Site → State → Turn → Type 0
RepliesHeld site old t =
    (now client : ℕ) (way : Via) (bytes : List ℕ) (out : List Action) (q : Query Plain) (chain : List Taken) (last : Taken)
    → t.event ≡ Client now client way bytes → t.out ≡ Some out → IsRequest bytes (request.Query q) → recursive q ≡ true → length chain ≤ 8
    → IsHeldChain site.home (moved old t.event).clock (type_number q.kind) (old.stores).cache q.name chain last
    → (t.served ≡ Own) × ((action : Action) × IsReply (client_query client way q) (outcome_of (moved old t.event).clock chain last) action × (out ≡ action ∷ []))

abbrev pub HeldIsReplied : Type 0
HeldIsReplied = (site : Site) (past : List Turn) (old : State) (t : Turn) (new : State) → Run site past old → Step old t.event t.served t.out new → RepliesHeld site old t
