-- One script more, and the scripts of all paths.
use Rattle.std.proofs.Common.{◌∙◌, sym, subst, ℕ, List, map, string_bytes, Vec, Global, String}
use Rattle.std.specs.Prelude.{Option}
use Rattle.std.proofs.lemmas.List.{take_all}
use Rattle.script.specs.Orders.{order_seen}
use Rattle.script.specs.declared.order.Order.{Order}
use Rattle.commands.specs.Storms.{HoldsAsks, HoldAsks, RefusesOne}
use Rattle.commands.specs.declared.fault.Fault.{Fault}
use Rattle.commands.proofs.Storms.{asks_step, refuses_at, err_weaker}
use Rattle.commands.proofs.storm_scripts.asks_at_all.Goals as goal

pub loop-path-preserved : goal.loop-path-preserved
loop-path-preserved g c = (
  c.asks_at.ensures.keeps ∙ c.loop-path.invariant.0,
  asks_step (λ p. g.T.Texts.held c.args.texts.now (string_bytes p)) (λ (s : Vec (Order Global) Global). map order_seen s.items) c.args.paths.now c.loop-path.path-index c.path-item.result c.loop-path.scripts.items _
      c.in_ok-orders.orders c.loop-path-test.true c.path-item.is c.loop-path.invariant.1
      (subst (λ (held : List ℕ → Option (Option (List ℕ))). HoldsAsks (held (string_bytes c.path-item.result)) (map order_seen c.in_ok-orders.orders.items)) c.loop-path.invariant.0 (rw c.as_str.ensures.value at c.in_ok-orders.ensures.ok))
      c.in_ok-push.ensures.items,
)

pub returns-clause-ok : goal.returns-clause-ok
returns-clause-ok g c =
    subst (λ ps. HoldAsks (λ p. g.T.Texts.held c.args.texts.now (string_bytes p)) ps (map (λ (s : Vec (Order Global) Global). map order_seen s.items) c.loop-path.scripts.items))
    (take_all c.loop-path.path-index c.args.paths.now c.loop-path-test.false)
    c.loop-path.invariant.1

pub returns-in_err-orders-clause-err : goal.returns-in_err-orders-clause-err
returns-in_err-orders-clause-err g c =
    err_weaker c.from_residual.result _ _
    (λ (f : Fault) is. subst (λ (e : Fault). RefusesOne {X = String Global} (g.T.Texts.held c.args.texts.now) string_bytes c.args.paths.now e) (sym is)
    (refuses_at (g.T.Texts.held c.args.texts.now) (λ (p : String Global). string_bytes p) c.args.paths.now _ c.loop-path.path-index c.path-item.result _ c.loop-path-test.true c.path-item.is c.loop-path.invariant.1
    (rw c.loop-path.invariant.0 at (rw c.as_str.ensures.value at c.in_err-orders.ensures.err))))
    c.from_residual.ensures.1
