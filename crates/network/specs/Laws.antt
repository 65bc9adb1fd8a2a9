-- The laws that the function of this crate states, and the lists of events that they speak of.
use Rattle.std.specs.Prelude.{◌≡◌, ℕ, ◌⊎◌, true, Option, Some, None, List, [], ◌∷◌, length, Contains}
use Rattle.rdata.specs.Types.{type_number}
use Rattle.message_grammar.specs.Messages.{Question}
use Rattle.causes.specs.declared.cause.Cause.{Cause}
use Rattle.wire.specs.declared.via.Via.{Via}
use Rattle.front.specs.Openings.{Opening}
use Rattle.front.specs.Queries.{IsRequest}
use Rattle.front.specs.declared.queries.Query.{Query}
use Rattle.front.specs.declared.queries.Request.{Request}
use Rattle.front.specs.declared.queries.Request.TheVariants as request
use Rattle.front.specs.declared.queries.Refusal.{Refusal}
use Rattle.world_truth.specs.Worlds.{World, IsWorld}
use Rattle.runs.specs.States.{Plain, recursive, Turn, Site, State, IsNew}
use Rattle.runs.specs.Steps.{Step}
use Rattle.runs.specs.Runs.{Run, Always}
use Rattle.laws.specs.Headline.{IsHonest, IsHomeIn, IsRightReply}
use Rattle.laws.specs.Headline as resolver
use Rattle.network.specs.Networks.{NetworkEvent, Client, NetworkAction, Reply, Network, Reaches, shown, NetworkStep}

-- An event and what came out, `None` where memory was wanting.
pub record Line : Type 0 where
  pub event : NetworkEvent
  pub out : Option (List NetworkAction)

-- A network of that world whose resolver has done nothing yet.
pub record IsFresh (W : World) (site : Site) (s : Network) : Type 0 where
  pub world : s.world ≡ W
  pub resolver : IsNew site s.resolver
  pub sends : s.sends ≡ []

-- These lines, the newest first, lead from a fresh network to that one.
abbrev pub NetworkRun : World → Site → List Line → Network → Type 0
NetworkRun W site [] s = IsFresh W site s
NetworkRun W site (l ∷ past) s = (old : Network) × NetworkRun W site past old × NetworkStep old l.event l.out s

abbrev pub Throughout : (Line → List Line → Type 0) → List Line → Type 0
Throughout P [] = Unit {0}
Throughout P (l ∷ past) = P l past × Throughout P past

abbrev pub Shows : Option (List NetworkAction) → NetworkAction → Type 0
Shows None action = ⊥
Shows (Some out) action = Contains out action

-- On this line this client's bytes come by this way, and that is what they ask.
abbrev pub BringsOf : Line → ℕ → Via → Request Plain → Type 0
BringsOf l client way asked = (now : ℕ) × (bytes : List ℕ) × (l.event ≡ Client now client way bytes) × IsRequest bytes asked

-- On this line no client's bytes come.
abbrev pub IsOfNoClient : NetworkEvent → Type 0
IsOfNoClient (Client now client way bytes) = ⊥
IsOfNoClient _ = Unit {0}

-- Where a client's bytes come on a line, its reply is to them. Else it is to a recursive query that came on an
-- earlier line.
abbrev pub IsTo : Line → List Line → ℕ → Via → Query Plain → Type 0
IsTo l past client way query = BringsOf l client way (request.Query query)
    ⊎ (IsOfNoClient l.event × (recursive query ≡ true) × ((m : Line) × Contains past m × BringsOf m client way (request.Query query)))

-- A reply answers a query of its client; where that is recursive the reply is right.
pub record IsAnswered (W : World) (l : Line) (past : List Line) (client : ℕ) (way : Via) (bytes : List ℕ) : Type 0 where
  pub query : Query Plain
  pub to : IsTo l past client way query
  pub right : recursive query ≡ true → IsRightReply W way query.name (type_number query.kind) bytes

-- Or it refuses bytes of its client that came on its own line and are no query to be answered.
abbrev pub RefusesLine : Line → ℕ → Via → Type 0
RefusesLine l client way = (refusal : Refusal) × (start : Opening) × (echo : Option Question) × BringsOf l client way (request.Refuse refusal start echo)

abbrev pub RepliesAreRight : World → Line → List Line → Type 0
RepliesAreRight W l past = (client : ℕ) (way : Via) (bytes : List ℕ) (c : Option Cause) → Shows l.out (Reply client way bytes c)
    → RefusesLine l client way ⊎ IsAnswered W l past client way bytes

-- In every list of events each reply to a recursive query is right: in a well formed world whose local zones and
-- hints are the resolver's, with no premise on any message.
abbrev pub NetworkHeadline : Type 0
NetworkHeadline = (W : World) (site : Site) (lines : List Line) (s : Network) → IsWorld W → IsHomeIn W site.home → NetworkRun W site lines s
    → Throughout (RepliesAreRight W) lines

-- ---- the same by the steps of the resolver

-- No reply goes out on this line.
abbrev pub IsQuiet : Line → Type 0
IsQuiet l = (client : ℕ) (way : Via) (bytes : List ℕ) (c : Option Cause) → Shows l.out (Reply client way bytes c) → ⊥

-- The line is this step of the resolver: its event reaches the resolver as the step's, and all that the step does
-- comes out.
pub record Mirrors (l : Line) (t : Turn) : Type 0 where
  pub old : Network
  pub new : State
  pub reaches : Reaches old l.event (Some t.event)
  pub step : Step (old.resolver) t.event t.served t.out new
  pub out : l.out ≡ shown (length old.sends) t.out

-- These are the resolver's steps on these lines, in their order; a line without a step is quiet.
abbrev pub Follows : List Line → List Turn → Type 0
Follows [] run = run ≡ []
Follows (l ∷ past) run = (IsQuiet l × Follows past run) ⊎ ((t : Turn) × (before : List Turn) × (run ≡ t ∷ before) × Mirrors l t × Follows past before)

-- The lines are a run of the resolver, in which every message that it accepts is one that the asked server may
-- send, and each reply is to the very query that its step serves.
pub record IsResolverRun (W : World) (site : Site) (lines : List Line) (s : Network) : Type 0 where
  pub run : List Turn
  pub legal : Run site run s.resolver
  pub follows : Follows lines run
  pub honest : IsHonest W site.port run
  pub right : Always (resolver.RepliesAreRight W) run

-- So is every list of events.
abbrev pub NetworkIsRun : Type 0
NetworkIsRun = (W : World) (site : Site) (lines : List Line) (s : Network) → IsWorld W → IsHomeIn W site.home → NetworkRun W site lines s
    → IsResolverRun W site lines s
