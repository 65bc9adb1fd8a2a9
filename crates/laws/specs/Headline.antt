-- The theorem: every reply is right. Take a well formed world whose local zones and hints are the resolver's, and a run
-- in which servers send only what they may. Then each reply to a recursive query is a SERVFAIL, or is truncated as it
-- should be, or says the whole truth of the question and nothing else.
use Rattle.std.specs.Prelude.{◌≡◌, ◌∷◌, ℕ, ◌<◌, ◌⊎◌, true, Option, List, [], length, Contains}
use Rattle.dname.specs.Labels.{Name}
use Rattle.rdata.specs.Types.{type_number}
use Rattle.rdata.specs.declared.addr.Addr.{Addr}
use Rattle.message_grammar.specs.Messages.{Message, IsMessage, encoding}
use Rattle.causes.specs.declared.cause.Cause.{Cause}
use Rattle.wire.specs.declared.via.Via.{Via}
use Rattle.wire.specs.declared.via.Via.TheVariants.{Udp}
use Rattle.world_truth.specs.Worlds.{World, IsWorld}
use Rattle.world_truth.specs.Serving.{MayServe}
use Rattle.world_truth.specs.Frames.{AreHeld}
use Rattle.world_truth.specs.Replies.{IsReplyTo, IsBare, IsWhole}
use Rattle.resolution.specs.Jobs.{Home}
use Rattle.runs.specs.States.{Reply, Turn, ClientQuery, recursive, Ask, Site, State}
use Rattle.runs.specs.Runs.{Run, Always, GivesOut, Accepts}
use Rattle.runs.specs.Replies.{IsServedFor, Refuses}

-- Every message that is accepted is one that the asked server may send to the question.
abbrev pub IsHonest : World → ℕ → List Turn → Type 0
IsHonest W port run = Always (λ t past. (k : ℕ) (a : Ask) (m : Message) → Accepts port k a m t past → MayServe W (a.server).0 a.name a.kind m) run

-- The resolver holds the world's local zones, and its hints are the world's.
pub record IsHomeIn (W : World) (home : Home) : Type 0 where
  pub held : AreHeld W home.zones
  pub hints : (a : Addr) → Contains home.hints a → Contains W.hints a.0

-- SERVFAIL (RFC 1035, section 4.1.1): RCODE 2, and no records.
pub record IsServfail (q : Name) (t : ℕ) (bytes : List ℕ) : Type 0 where
  pub message : Message
  pub is : IsMessage bytes message
  pub to : IsReplyTo q t message
  pub rcode : (message.header).rcode ≡ 2
  pub answer : message.answer ≡ []
  pub authority : message.authority ≡ []
  pub additional : message.additional ≡ []

-- A whole reply that says the truth of the question.
pub record IsRightWhole (W : World) (q : Name) (t : ℕ) (bytes : List ℕ) : Type 0 where
  pub message : Message
  pub is : IsMessage bytes message
  pub to : IsReplyTo q t message
  pub whole : IsWhole W q t message

-- A reply that was truncated over UDP (RFC 1035, section 4.2.1; RFC 2181, section 9): without records, its header that
-- of a right reply but for TC, and that one would have more than 512 bytes.
pub record IsTruncated (W : World) (way : Via) (q : Name) (t : ℕ) (bytes : List ℕ) : Type 0 where
  pub over : way ≡ Udp
  pub message : Message
  pub is : IsMessage bytes message
  pub to : IsReplyTo q t message
  pub bare : IsBare message
  pub whole : Message
  pub whole_to : IsReplyTo q t whole
  pub right : IsWhole W q t whole
  pub header : message.header ≡ record whole.header { tc = true }
  pub long : 512 < length (encoding whole)

abbrev pub IsRightReply : World → Via → Name → ℕ → List ℕ → Type 0
IsRightReply W way q t bytes = IsServfail q t bytes ⊎ IsTruncated W way q t bytes ⊎ IsRightWhole W q t bytes

-- A reply of a step goes to the client whose query the step serves, or refuses bytes that are no query; and to every
-- recursive query that the step serves it is right.
pub record IsRightAnswer (W : World) (t : Turn) (past : List Turn) (client : ℕ) (way : Via) (bytes : List ℕ) (c : Option Cause) : Type 0 where
  pub to : Refuses (Reply client way bytes c) t ⊎ ((who : ClientQuery) × (who.client ≡ client) × (who.way ≡ way) × IsServedFor who t past)
  pub right : (who : ClientQuery) → IsServedFor who t past → recursive who.query ≡ true → IsRightReply W who.way (who.query).name (type_number (who.query).kind) bytes

abbrev pub RepliesAreRight : World → Turn → List Turn → Type 0
RepliesAreRight W t past = (client : ℕ) (way : Via) (bytes : List ℕ) (c : Option Cause) → GivesOut t.out (Reply client way bytes c) → IsRightAnswer W t past client way bytes c

-- The same in each well formed world that has these local zones and hints, where servers were honest.
abbrev pub IsRightInWorlds : Site → Turn → List Turn → Type 0
IsRightInWorlds site t past = (W : World) → IsWorld W → IsHomeIn W site.home → IsHonest W site.port (t ∷ past) → RepliesAreRight W t past

-- Every reply is right up to which servers were honest, whatever they send later.
abbrev pub Headline : Type 0
Headline = (W : World) (site : Site) (run : List Turn) (s : State) → IsWorld W → IsHomeIn W site.home → Run site run s
    → Always (λ t past. IsHonest W site.port (t ∷ past) → RepliesAreRight W t past) run
