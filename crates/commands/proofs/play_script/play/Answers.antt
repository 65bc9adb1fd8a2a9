-- The world is its text's, and the orders are those of the script.
use Rattle.std.proofs.Common.{◌≡◌, inr, subst, sym, map, ℕ, List, Option, Result, Ok, Err, IfErr, IsErrAnd}
use Rattle.script.specs.Orders.{order_seen}
use Rattle.commands.specs.declared.fault.Fault.{Fault}
use Rattle.commands.specs.Scripts.{HoldsOrders, HoldsNoOrders}
use Rattle.commands.proofs.play_script.play.Goals as goal

refused : {T : Type 0} (r : Result T Fault) (e : Fault) (Q : Fault → Type 0) → IsErrAnd r (λ f. f ≡ e) → Q e → IfErr r Q
refused (Ok x) e Q is h = absurd is
refused (Err f) e Q is h = subst Q (sym is) h

pub returns-in_err-orders-clause-err : goal.returns-in_err-orders-clause-err
returns-in_err-orders-clause-err g c =
    let f = c.in_err-orders.field-0.0 in
    refused c.from_residual-in_err-orders.result f _ c.from_residual-in_err-orders.ensures.1
    (inr (record {
      W = c.in_ok-world.world;
      stands = c.in_ok-world.ensures.ok;
      fails = subst (λ (held : List ℕ → Option (Option (List ℕ))). HoldsNoOrders held c.args.script.now f) c.world_at.ensures.keeps c.in_err-orders.ensures.err;
    }))

pub returns-clause-ok : goal.returns-clause-ok
returns-clause-ok g c =
    let orders = map order_seen c.in_ok-orders.orders.items in
    record {
      W = c.in_ok-world.world;
      stands = c.in_ok-world.ensures.ok;
      orders = orders;
      held = subst (λ (held : List ℕ → Option (Option (List ℕ))). HoldsOrders (held c.args.script.now) orders) c.world_at.ensures.keeps c.in_ok-orders.ensures.ok;
      played = c.in_ok-play.ensures;
    }
