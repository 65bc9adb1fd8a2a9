-- Which fault counts, and what is printed.
use Rattle.std.proofs.Common.{subst, inr, ◌⊎◌, ℕ, List, string_bytes, Global, String}
use Rattle.std.specs.Prelude.{Option}
use Rattle.std.proofs.lemmas.Result.{IfOk-weaker, IfErr-weaker}
use Rattle.commands.specs.Storms.{FailsToClose, HoldAsks, RefusesOne}
use Rattle.commands.proofs.storm_scripts.storm.Goals as goal

pub returns-clause-ok : goal.returns-clause-ok
returns-clause-ok g c =
    IfOk-weaker c.storm_in.result _ _
    (λ s h. record {
      W = c.in_ok-world.world;
      stands = c.in_ok-world.ensures.ok;
      orders = h.orders;
      held = subst (λ (held : List ℕ → Option (Option (List ℕ))). HoldAsks {X = String Global} (λ p. held (string_bytes p)) c.args.scripts.now h.orders) c.worlds_at.ensures.keeps h.held;
      totals = h.totals;
      stormed = h.stormed;
      is = h.is;
    })
    c.storm_in.ensures.ok

pub returns-clause-err : goal.returns-clause-err
returns-clause-err g c =
    IfErr-weaker c.storm_in.result _ _
    (λ f h. inr (record {
      W = c.in_ok-world.world;
      stands = c.in_ok-world.ensures.ok;
      fails = subst
          (λ (held : List ℕ → Option (Option (List ℕ))). RefusesOne {X = String Global} held string_bytes c.args.scripts.now f ⊎ FailsToClose {X = String Global} (λ p. held (string_bytes p)) c.args.scripts.now f)
          c.worlds_at.ensures.keeps h;
    }))
    c.storm_in.ensures.err
