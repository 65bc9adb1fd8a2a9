-- A query that is answered at once, by what is at hand.
use Rattle.std.proofs.Common.{◌≡◌, ◌≤◌, inr, ℕ, zero, true, Option, Some, None, is_some, Result, Ok, Err, List, [], refl, sym, subst, IfOk, arith}
use Rattle.std.proofs.Math.Nat.{min-eq_left}
use Rattle.std.specs.Prelude.{min, max, IfSome, MatchOption}
use Rattle.memory.specs.declared.Starved.{Starved}
use Rattle.limits.specs.Limits.{max_aliases}
use Rattle.rdata.specs.Types.{type_number}
use Rattle.wire.specs.declared.via.Via.{Via}
use Rattle.front.specs.declared.queries.Query.{Query}
use Rattle.front.specs.declared.queries.Request.TheVariants as request
use Rattle.resolution.specs.Jobs.{Stores, Taken, Done, job_at}
use Rattle.lookup.specs.Held.{IsAtHand}
use Rattle.iterate.specs.Beginnings.{AnswersWith}
use Rattle.runs.specs.States.{Event, Action, Client, Plain, State, AreApart, client_query, recursive, job_for, latest, moved}
use Rattle.runs.specs.Messages.{outcome_of}
use Rattle.runs.specs.Steps.{Ends}
use Rattle.typed.specs.Events.{Parsed, ReadAs, HasBytes}
use Rattle.typed.specs.declared.action.TypedActions.{TypedActions}
use Rattle.typed.specs.Views.{said_listed}
use Rattle.engine.specs.AtHand.{HasEnd, HasAnswer, IsAnsweredNow, IsAnsweredAt}
use Rattle.engine.specs.Histories.{written_of, TypedMoves}
use Rattle.engine.specs.Promises.{Steps}
use Rattle.engine.specs.ResolverStates.{IsSound}
use Rattle.engine.specs.Turns.{Turns}
use Rattle.engine.proofs.Called.{lost_after, lost_work, begins_known, resolved, handles_query, turns_handled, turns_gone}
use Rattle.engine.proofs.Lift.{halts_same}
use Rattle.engine.proofs.Stepped.{stepped, stepped_is_sound}

none_used : (most : ℕ) → zero ≤ most
none_used most = omega arith

-- ---- at the moment of the clock

-- A clock is at most at the latest moment.
pub known_at : (s : State) (q : Query Plain) (last : Taken) (stores : Stores) → IsSound s → AnswersWith (s.site).home s.clock (job_at q.name (type_number q.kind) (min s.clock latest)) s.stores last stores
    → AnswersWith (s.site).home s.clock (job_for s.clock q) s.stores last stores
known_at s q last stores sound known = subst (λ (n : ℕ). AnswersWith (s.site).home s.clock (job_at q.name (type_number q.kind) n) s.stores last stores) (min-eq_left sound.clock) known

module _ (s : State) (client : ℕ) (way : Via) (q : Query Plain) (last : Taken) (stores : Stores) (sound : IsSound s) (wants : recursive q ≡ true)
    (known : AnswersWith (s.site).home s.clock (job_for s.clock q) s.stores last stores) where
  abbrev mid : State
  mid = record s { stores = stores }

  at_hand : IsAtHand (s.site).home s.clock (type_number q.kind) (s.stores).cache q.name max_aliases
  at_hand = record { aliases = []; last = last; few = none_used max_aliases; held = (known.held, known.ends) }

  pub gone_now : {A : Type 0} (e : Starved) → IsAnsweredNow {A = A} s client way q (Err e) mid
  gone_now e = record {
    at_hand = at_hand;
    handled = lost_work s q mid wants (lost_after s mid q (Done [] last) known.over stores mid sound refl known.advances (halts_same mid mid refl));
  }

  pub answered_now : {A : Type 0} (r : Result (TypedActions A) Starved)
      → IfOk r (λ said. Ends mid (client_query client way q) s.opened (outcome_of s.clock [] last) stores (said_listed said.first said.more_due) mid) → IsAnsweredNow s client way q r mid
  answered_now (Ok said) ends =
      let who = client_query client way q in
      let out = said_listed said.first said.more_due in
      record {
        at_hand = at_hand;
        handled = handles_query s client way q out mid (resolved s who out mid wants (begins_known s mid who [] last known.over stores out mid sound refl refl known.advances ends));
      }
  answered_now (Err e) ends = gone_now e

-- ---- at the moment at which it comes

module _ (s mid : State) (moment client : ℕ) (way : Via) (q : Query Plain) (heard : mid ≡ record s { clock = max s.clock (min moment latest) }) where
  has_end : IsAtHand (mid.site).home mid.clock (type_number q.kind) (mid.stores).cache q.name max_aliases → HasEnd s (min moment latest) q
  has_end there = inr (subst (λ (z : State). IsAtHand (z.site).home z.clock (type_number q.kind) (z.stores).cache q.name max_aliases) heard there)

  answered_at : {A : Type 0} (r : Result (TypedActions A) Starved) (new : State) → IsAnsweredNow mid client way q r new → IsAnsweredAt s moment client way q r new
  answered_at (Ok said) new now =
      let out = said_listed said.first said.more_due in
      record {
        has = has_end now.at_hand;
        turns = λ bytes asks. subst (λ (z : State). Turns z (Client moment client way bytes) (Some out) new) heard (turns_handled mid moment client way bytes (request.Query q) out new asks now.handled);
      }
  answered_at (Err e) new now = record {
    has = has_end now.at_hand;
    turns = λ bytes asks. subst (λ (z : State). Turns z (Client moment client way bytes) None new) heard (turns_gone mid moment client way bytes (request.Query q) new asks now.handled);
  }

  pub some_at : {A : Type 0} (o : Option (Result (TypedActions A) Starved)) (new : State) → is_some o ≡ true → MatchOption o (new ≡ mid) (λ r. IsAnsweredNow mid client way q r new)
      → MatchOption o (new ≡ s) (λ r. IsAnsweredAt s moment client way q r new)
  some_at None new some same = cc
  some_at (Some r) new some now = answered_at r new now

-- ---- as a step

module _ {R : Type 0} (was new : State) (event : Event) (out : R → Option (List Action)) (apart : AreApart new.queries) where
  abbrev pub Leaves : Option R → Type 0
  Leaves o = MatchOption o (new ≡ was) (λ r. Turns (moved was event) event (out r) new)

  pub sound_after : (o : Option R) → IsSound was → Leaves o → IsSound new
  sound_after None sound same = subst IsSound (sym same) sound
  sound_after (Some r) sound turns = stepped_is_sound was (moved was event) event refl new apart (out r) turns sound

  pub steps_after : (o : Option R) → Leaves o → IfSome o (λ r. Steps was event (out r) new)
  steps_after None same = tt
  steps_after (Some r) turns = stepped was (moved was event) event refl new apart (out r) turns

-- ---- as a step of the machine whose events were read

pub answers : {A : Type 0} (parsed : Parsed) (o : Option (Result (TypedActions A) Starved)) (s new : State) → HasBytes parsed → MatchOption o (new ≡ s) (λ r. HasAnswer s parsed)
    → ((e : Event) → ReadAs e parsed → IfSome o (λ r. Steps s e (written_of r) new)) → MatchOption o (new ≡ s) (λ r. HasAnswer s parsed × TypedMoves s parsed r new)
answers parsed None s new bytes has steps = has
answers parsed (Some r) s new bytes has steps = (has, (bytes.event, bytes.reads, steps bytes.event bytes.reads))
