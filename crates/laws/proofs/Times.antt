-- Nothing is sent for a query once its time is up.
use Rattle.std.proofs.Common.{◌≡◌, ◌≢◌, ℕ, ◌+◌, ◌<◌, max, ◌⊎◌, inl, inr, true, List, [], ◌∷◌, Contains, sym, ap, ◌∙◌, subst, arith}
use Rattle.lru.proofs.Splits.{Contains-nil}
use Rattle.runs.specs.States.{Action, OpenQuery, Turn, ClientQuery, Open, Site, State, moved, moment}
use Rattle.runs.specs.Steps.{Step}
use Rattle.runs.specs.Runs.{Run, Earlier, GivesOut, Came, clock_of, is_ask, asks_in}
use Rattle.runs.proofs.Clocks.{clock_of_run}
use Rattle.laws.specs.Times.{CameLately, NothingIsLate}
use Rattle.laws.proofs.Fates.{IsOneAsk, IsDated}
use Rattle.laws.proofs.Orders.{IsStep, one_step, run_orderly, none_given}
use Rattle.laws.proofs.Discipline.{each_step}

-- The query came ten seconds before this moment.
abbrev IsDatedBy : ℕ → ℕ → Turn → List Turn → Type 0
IsDatedBy k deadline u before = ((who : ClientQuery) × Came (OpenQuery k) who u before) × (deadline ≡ clock_of (u ∷ before) + 10000)

abbrev AreDated : List Turn → State → Type 0
AreDated run s = (q : Open) → Contains s.queries q → Earlier (IsDatedBy q.number (q.job).deadline) run

pub along : (P Q : Turn → List Turn → Type 0) → ((u : Turn) (before : List Turn) → P u before → Q u before) → (run : List Turn) → Earlier P run → Earlier Q run
along P Q f [] e = e
along P Q f (t ∷ past) (inl h) = inl (f t past h)
along P Q f (t ∷ past) (inr e) = inr (along P Q f past e)

pub clock_then : (site : Site) (past : List Turn) (t : Turn) (old : State) → Run site past old → (moved old t.event).clock ≡ clock_of (t ∷ past)
clock_then site past t old legal = ap (λ (n : ℕ). max n (moment t.event)) (clock_of_run site past old legal).0

dated_by : (past : List Turn) (t : Turn) (old : State) → (moved old t.event).clock ≡ clock_of (t ∷ past) → AreDated past old → (q : Open) → t.served ≡ OpenQuery q.number → IsDated (moved old t.event) t.event q
    → Earlier (IsDatedBy q.number (q.job).deadline) (t ∷ past)
dated_by past t old clock all q served (inl (p, c, number, same)) =
    inr (along (IsDatedBy p.number (p.job).deadline) (IsDatedBy q.number (q.job).deadline)
    (λ u before h. (subst (λ (k : ℕ). (who : ClientQuery) × Came (OpenQuery k) who u before) number h.0, same ∙ h.1)) past (all p c))
dated_by past t old clock all q served (inr ((moment, who, bytes, event, reads), deadline)) =
    inl ((who, record { is_served = served; moment = moment; bytes = bytes; event = event; reads = reads }), deadline ∙ ap (λ (n : ℕ). n + 10000) clock)

run_dated : (site : Site) (run : List Turn) (s : State) → Run site run s → AreDated run s
run_dated site [] s new = λ q c. absurd (Contains-nil q (subst (λ (l : List Open). Contains l q) new.queries c))
run_dated site (t ∷ past) s (old, legal, step) = one (run_dated site past old legal)
  where
    is : IsStep site.port t old s
    is = one_step site past t old s legal step (run_orderly site past old legal).below

    one : AreDated past old → AreDated (t ∷ past) s
    one all q c = elim (is.from_old q c) [
      | inl d ↦ inr (all q d.0)
      | inr d ↦ dated_by past t old (clock_then site past t old legal) all q d.0 d.5
    ]

pub nothing_is_late : NothingIsLate
nothing_is_late site run s legal k = each_step
    (λ t past. t.served ≡ OpenQuery k → (action : Action) → GivesOut t.out action → is_ask action ≡ true → Earlier (CameLately k (clock_of (t ∷ past))) (t ∷ past)) site one run s legal
  where
    one : (past : List Turn) (t : Turn) (old new : State) → Run site past old → Step old t.event t.served t.out new
        → t.served ≡ OpenQuery k → (action : Action) → GivesOut t.out action → is_ask action ≡ true → Earlier (CameLately k (clock_of (t ∷ past))) (t ∷ past)
    one past t old new before step served action given ask = by (is.ends k served)
      where
        is : IsStep site.port t old new
        is = one_step site past t old new before step (run_orderly site past old before).below

        late : (after : Open) → Contains new.queries after → after.number ≡ k → Earlier (CameLately k (clock_of (t ∷ past))) (t ∷ past)
        late after c number = elim (is.from_old after c) [
          | inl d ↦ absurd (d.1 (served ∙ ap OpenQuery (sym number)))
          | inr d ↦
              let clock = clock_then site past t old before in
              let due = d.4 in
              let early : clock_of (t ∷ past) < (after.job).deadline = subst (λ (n : ℕ). n < (after.job).deadline) clock (omega arith) in
              along (IsDatedBy after.number (after.job).deadline) (CameLately k (clock_of (t ∷ past)))
              (λ u earlier h. (subst (λ (n : ℕ). (who : ClientQuery) × Came (OpenQuery n) who u earlier) number h.0, subst (λ (n : ℕ). clock_of (t ∷ past) < n) h.1 early))
              (t ∷ past) (dated_by past t old clock (run_dated site past old before) after d.0 d.5)
        ]

        by : ((after : Open) × Contains new.queries after × (after.number ≡ k) × IsOneAsk site.port after.ask t.out) ⊎ ((asks_in t.out ≡ 0) × ((q : Open) → Contains new.queries q → q.number ≢ k)) → Earlier (CameLately k (clock_of (t ∷ past))) (t ∷ past)
        by (inl (after, c, number, asked)) = late after c number
        by (inr (none, shut)) = absurd (none_given t.out action none given ask)
