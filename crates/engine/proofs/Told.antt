-- What is said of an event's bytes, whichever they are, is said of an event that was read so.
use Rattle.std.proofs.Common.{◌≡◌, ℕ, false, Option, Some, None, List, Result, Ok, Err, refl, sym, ◌∙◌, subst}
use Rattle.std.specs.Result.{IfOk, OnErr, IsErr, IsOkAnd, MatchResult}
use Rattle.runs.specs.States.{Event, Action, State}
use Rattle.typed.specs.Views.{said_listed}
use Rattle.typed.specs.declared.action.TypedAction.{TypedAction}
use Rattle.typed.specs.declared.action.TypedActions.{TypedActions}
use Rattle.engine.specs.Replies.{if_any}
use Rattle.engine.specs.Turns.{Turns}

pub only_first : {A : Type 0} (first : Option (TypedAction A)) → said_listed first false ≡ if_any first
only_first None = refl
only_first (Some a) = refl

pub given : (s new : State) (e : Event) (out listed : List Action) → listed ≡ out → Turns s e (Some out) new → Turns s e (Some listed) new
given s new e out listed is h = subst (λ (o : List Action). Turns s e (Some o) new) (sym is) h

-- What is made of the action that a part of the state gives.
abbrev pub IsAlone : {A E F : Type 0} → Result (Option (TypedAction A)) E → Result (TypedActions A) F → Type 0
IsAlone r t = MatchResult r (λ o. IsOkAnd t (λ a. (a.first ≡ o) × (said_listed a.first a.more_due ≡ if_any o))) (λ _. IsErr t)

pub alone_ok : {A E F : Type 0} (s new : State) (e x : Event) (r : Result (Option (TypedAction A)) E) (t : Result (TypedActions A) F) → IsAlone r t → e ≡ x
    → IfOk r (λ o. Turns s x (Some (if_any o)) new) → IfOk t (λ a. Turns s e (Some (said_listed a.first a.more_due)) new)
alone_ok s new e x (Ok o) (Ok a) m is h =
    subst (λ (z : Event). Turns s z (Some (said_listed a.first a.more_due)) new) (sym is) (given s new x (if_any o) (said_listed a.first a.more_due) m.1 h)
alone_ok s new e x (Ok o) (Err d) m is h = absurd m
alone_ok s new e x (Err d) (Ok a) m is h = absurd (cc)
alone_ok s new e x (Err d) (Err b) m is h = tt

pub alone_err : {A E F : Type 0} (s new : State) (e x : Event) (r : Result (Option (TypedAction A)) E) (t : Result (TypedActions A) F) → IsAlone r t → e ≡ x
    → OnErr r (Turns s x None new) → OnErr t (Turns s e None new)
alone_err s new e x (Ok o) (Ok a) m is h = tt
alone_err s new e x (Ok o) (Err d) m is h = absurd m
alone_err s new e x (Err d) (Ok a) m is h = absurd (cc)
alone_err s new e x (Err d) (Err b) m is h = subst (λ (z : Event). Turns s z None new) (sym is) h

pub alone_quiet : {A E F : Type 0} (r : Result (Option (TypedAction A)) E) (t : Result (TypedActions A) F) → IsAlone r t → IsOkAnd r (λ o. o ≡ None) → IsOkAnd t (λ a. a.first ≡ None)
alone_quiet (Ok o) (Ok a) m h = m.0 ∙ h
alone_quiet (Ok o) (Err d) m h = absurd m
alone_quiet (Err d) t m h = absurd h

-- What holds at each moment holds at one.
pub ok_at : {X E : Type 0} (r : Result X E) (P : X → ℕ → Type 0) (now : ℕ) → IfOk r (λ x. (n : ℕ) → P x n) → IfOk r (λ x. P x now)
ok_at (Ok x) P now h = h now
ok_at (Err d) P now h = tt

pub err_at : {X E : Type 0} (r : Result X E) (P : ℕ → Type 0) (now : ℕ) → OnErr r ((n : ℕ) → P n) → OnErr r (P now)
err_at (Ok x) P now h = tt
err_at (Err d) P now h = h now
