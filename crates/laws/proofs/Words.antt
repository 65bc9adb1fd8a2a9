-- The words of the seed's stream are taken in order.
use Rattle.std.proofs.Common.{◌≡◌, ℕ, zero, suc, inl, inr, List, [], ◌∷◌, refl, ap, ◌∙◌, subst}
use Rattle.rand_chacha.specs.ChaCha.{ChaCha, of_seed}
use Rattle.runs.specs.States.{Turn, Site, State, moved, word_of, word_taken}
use Rattle.runs.specs.Messages.{IsSent}
use Rattle.runs.specs.Runs.{Run, asks_in}
use Rattle.runs.proofs.Clocks.{clock_of_run}
use Rattle.laws.specs.Words.{drawn, IsByWord, Draws, AreDrawn, WordsInOrder}
use Rattle.laws.specs.FirstStates.{first_of}
use Rattle.laws.proofs.Fates.{KeepsWords, Fate, passes, ends, waits, turn_fate}
use Rattle.laws.proofs.Orders.{reply_counts, own_counts, ask_given, run_orderly}

-- One step: what it takes is what it gives.
pub record OneDraw (start : ChaCha) (site : Site) (old : State) (t : Turn) (new : State) (m : ℕ) : Type 0 where
  pub n : ℕ
  pub draws : Draws start site old t m n
  pub generator : new.generator ≡ drawn n start

keeps_draw : (start : ChaCha) (site : Site) (old : State) (t : Turn) (new : State) (m : ℕ) → old.generator ≡ drawn m start → asks_in t.out ≡ 0 → KeepsWords (moved old t.event) t.out new → OneDraw start site old t new m
keeps_draw start site old t new m was none (inl e) = record { n = m; draws = inl (none, inl refl); generator = e ∙ was }
keeps_draw start site old t new m was none (inr (starved, e)) = record { n = suc m; draws = inl (none, inr (starved, refl)); generator = e ∙ ap word_taken was }

step_draw : (start : ChaCha) (site : Site) (old : State) (t : Turn) (new : State) (m : ℕ) → old.site ≡ site → old.generator ≡ drawn m start → Fate (moved old t.event) t.event t.served t.out new → OneDraw start site old t new m
step_draw start site old t new m here was (passes none gives others opened words) = keeps_draw start site old t new m was (own_counts t.event t.served t.out none gives) words
step_draw start site old t new m here was (ends q there served others opened out words) = keeps_draw start site old t new m was (reply_counts t.out out) words
step_draw start site old t new m here was (waits after served are from alike asked later (e, by) dated) = record {
  n = suc m;
  draws = inr (
    refl,
    (
      after.number,
      after.ask,
      asked.action,
      served,
      ask_given (old.site).port after.ask t.out asked,
      subst (λ (x : Site). IsSent x.port after.ask asked.action) here asked.sent,
      subst (λ (g : ChaCha). IsByWord old after.number after.ask (word_of g)) was by,
    ),
  );
  generator = e ∙ ap word_taken was;
}

pub drawn_run : (start : ChaCha) (site : Site) (run : List Turn) (s : State) → Run site run s → Type 0
drawn_run start site run s legal = (n : ℕ) × AreDrawn start site run s legal n × (s.generator ≡ drawn n start)

first_seed : (site : Site) (run : List Turn) (s : State) → Run site run s → List ℕ
first_seed site [] s new = (new.seeded).0
first_seed site (t ∷ past) s (old, legal, step) = first_seed site past old legal

take_in_order : (site : Site) (run : List Turn) (s : State) (legal : Run site run s) → drawn_run (of_seed (first_seed site run s legal)) site run s legal
unfolding first_seed drawn_run
take_in_order site [] s new = (zero, (refl, (new.seeded).1), (new.seeded).1)
take_in_order site (t ∷ past) s (old, legal, step) =
    let (m, before, was) = take_in_order site past old legal in
    let here : old.site ≡ site = (clock_of_run site past old legal).1 in
    let d = step_draw (of_seed (first_seed site past old legal)) site old t s m here was (turn_fate (moved old t.event) t.event t.served t.out s (run_orderly site past old legal).below step.turn) in
    (d.n, (m, before, d.draws, d.generator), d.generator)

first_is_seeded : (site : Site) (run : List Turn) (s : State) (legal : Run site run s) → (first_of site run s legal).generator ≡ of_seed (first_seed site run s legal)
unfolding first_seed
first_is_seeded site [] s new = (new.seeded).1
first_is_seeded site (t ∷ past) s (old, legal, step) = first_is_seeded site past old legal

pub words_in_order : WordsInOrder
unfolding drawn_run
words_in_order site run s legal = let (n, taken, is) = take_in_order site run s legal in (first_seed site run s legal, first_is_seeded site run s legal, n, taken)
