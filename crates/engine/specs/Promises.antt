-- The promises of a step of the resolver: the laws of every run, for its newest step.
use Rattle.std.specs.Prelude.{ℕ, Option, List, ◌∷◌}
use Rattle.runs.specs.States.{Event, Action, Served, Turn, Site, State}
use Rattle.runs.specs.Steps.{Step}
use Rattle.runs.specs.Runs.{Run}
use Rattle.runs.specs.Laws.{IsAtClockOf, HearsAccepted, HearsTcp}
use Rattle.laws.specs.Headline.{IsRightInWorlds}
use Rattle.laws.specs.Truthful.{IsTrueInWorlds}
use Rattle.laws.specs.Replies.{RepliesAre}
use Rattle.laws.specs.Caused.{IsExplained}
use Rattle.laws.specs.Failures.{IsSpentFor}
use Rattle.laws.specs.Spent.{AsksFailedTwice}
use Rattle.laws.specs.Laws.{GivesOneAction, ComesOnce, RepliesOnce, IsNotOver, HasFewAsks, AreOpenByRun, HaveOwnLines, LeavesOthers, ServesInOrder, TellsAtTicks}
use Rattle.laws.specs.LookUps.{HasFewLookUps, HadAllLookUps, IsShort}
use Rattle.laws.specs.Words.{DrawsInOrder}
use Rattle.laws.specs.FirstStates.{HasFirstRoom}
use Rattle.laws.specs.Meant.{IsServedRightly, EndsAtHand, AsksNoFailing, AreOfRun}
use Rattle.laws.specs.OwnWork.{MovesByOwnWork}
use Rattle.laws.specs.Determined.{HasOneOutcome, IsOneReading}
use Rattle.laws.specs.Times.{IsInTime}
use Rattle.laws.specs.Searches.{AreOfSearches}
use Rattle.laws.specs.Steps.{AsksOn, AsksAgain, AsksReferred, RepliesAnswer, KeepsAlias}
use Rattle.laws.specs.Opens.{OpensFrames}
use Rattle.laws.specs.NewSearches.{SearchesCome}
use Rattle.laws.specs.Held.{RepliesHeld}
use Rattle.laws.specs.Looks.{CachesAnswer, FindsKept}
use Rattle.laws.specs.KeptFailures.{CachesAccepted, FindsFailures}

-- The laws of runs, for one step. The steps in `past` led from a new resolver to the state `old`, the step `turn` led
-- on to `new`, and each law of runs holds of it. A field is a law's predicate of a step, by its name; its words stand in
-- the crate of that law.
pub record Keeps (site : Site) (past : List Turn) (old : State) (turn : Turn) (new : State) (legal : Run site past old) (step : Step old turn.event turn.served turn.out new) : Type 0 where
  -- Where servers were honest, replies are right (Headline) and the resolver's data are true (HeldIsTrue).
  pub right : IsRightInWorlds site turn past
  pub truth : IsTrueInWorlds site (turn ∷ past) new
  -- Replies are in time, and each failure has its cause (RepliesAreTimely, EveryFailureIsSpent, FailedIsAskedTwice).
  pub timely : RepliesAre site.home (IsExplained site.port site.home) turn past
  pub spent : RepliesAre site.home (IsSpentFor site.port site.home) turn past
  pub twice : AsksFailedTwice site.port site.home (turn ∷ past)
  -- One action (OneAction); one coming, one reply, 40 asks (OneComing, OneReply, NeverAgain, FewAsks).
  pub action : GivesOneAction turn past
  pub coming : (k : ℕ) → ComesOnce k turn past
  pub reply : (k : ℕ) → RepliesOnce k turn past
  pub never_again : (k : ℕ) → IsNotOver k turn past
  pub asks : HasFewAsks (turn ∷ past)
  -- 64 turns of servers' names, and short steps (FewLookUps, LookUpsAreSpent, StepsAreShort).
  pub look_ups : HasFewLookUps site (turn ∷ past) new (old, legal, step)
  pub looked_out : HadAllLookUps site past old turn new legal step
  pub short : IsShort old turn new step
  -- One open ask a query, like no other (OpenByRun, OneLine); by words of the seed, in stores of the first size
  -- (WordsInOrder, RoomStays).
  pub waits : AreOpenByRun site.port (turn ∷ past) new.queries
  pub line : HaveOwnLines new.queries
  pub words : DrawsInOrder site (turn ∷ past) new (old, legal, step)
  pub room : HasFirstRoom site (turn ∷ past) new (old, legal, step)
  -- The clock is the run's (ClockOfRun). Whom a step serves, what is over at once, whom it asks, and the fields of open
  -- queries (ServedIsMeant, AtHandIsReplied, NobodyFailingIsAsked, OpenIsOfRun).
  pub clock : IsAtClockOf site (turn ∷ past) new
  pub served : IsServedRightly site past old turn
  pub at_hand : EndsAtHand turn
  pub free : AsksNoFailing old turn new
  pub shown : AreOfRun site (turn ∷ past) new (old, legal, step)
  -- One outcome, where memory does not run out, and one reading of it (OneStep, OneReading).
  pub one : HasOneOutcome old turn new
  pub reading : IsOneReading old turn new step
  -- What is accepted is used, and no other query is changed (AcceptedIsHeard, TcpIsHeard, OthersStay).
  pub accepted : HearsAccepted site old turn
  pub tcp : HearsTcp old turn
  pub others : LeavesOthers old turn new
  -- Where memory ran out, the stores are as the query's own work left them (OrderIsKept).
  pub starved : MovesByOwnWork site old turn new
  -- Due queries in order, and nothing late (DueInOrder, MoreDueAtTicks, NothingIsLate).
  pub order : ServesInOrder old turn new
  pub more_due : TellsAtTicks turn past
  pub late : (k : ℕ) → IsInTime k turn past
  -- What a step does at once for the search of the query that it serves (AskIsOfSearch, LostIsAskedOn,
  -- TruncatedIsAskedAgain, ReferralIsAsked, AnswerIsReplied, AliasIsKept).
  pub ask : AreOfSearches new.queries
  pub lost : AsksOn site past old turn new
  pub truncated : AsksAgain site past old turn new
  pub referral : AsksReferred site past old turn new
  pub answered : RepliesAnswer site past old turn new
  pub alias : KeepsAlias site past old turn new
  -- Which frames open, and where searches come from (FramesOpenInSteps, NewIsOpened).
  pub opens : OpensFrames site old turn new step
  pub searches : SearchesCome site old turn new step
  -- Local and cached chains are answered; what is accepted is cached, and found (HeldIsReplied, AcceptedIsLooked,
  -- KeptIsFound, FailureIsLooked, FailureIsFound).
  pub held : RepliesHeld site old turn
  pub looked : CachesAnswer site old turn new step
  pub kept : FindsKept site (turn ∷ past) new (old, legal, step)
  pub fails : CachesAccepted site old turn new step
  pub failing : FindsFailures site (turn ∷ past) new (old, legal, step)

abbrev pub turn_of : Event → Served → Option (List Action) → Turn
turn_of event served out = record { event = event; served = served; out = out }

-- A step: some query is served, by the rules of steps. Whichever steps led from a new resolver to the state that it was
-- lent, with this one added they keep the laws.
pub record Steps (old : State) (event : Event) (out : Option (List Action)) (new : State) : Type 0 where
  pub served : Served
  pub step : Step old event served out new
  pub promises : (site : Site) (past : List Turn) (legal : Run site past old) → Keeps site past old (turn_of event served out) new legal step
