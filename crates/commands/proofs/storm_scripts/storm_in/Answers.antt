-- Which fault counts, and what is printed.
use Rattle.std.proofs.Common.{sym, subst, inl, inr, ◌⊎◌, map, string_bytes, Vec, Global, String}
use Rattle.script.specs.Orders.{order_seen}
use Rattle.script.specs.declared.order.Order.{Order}
use Rattle.commands.specs.Storms.{FailsToClose, RefusesOne}
use Rattle.commands.specs.declared.fault.Fault.{Fault}
use Rattle.commands.proofs.Storms.{err_weaker}
use Rattle.commands.proofs.storm_scripts.storm_in.Goals as goal

pub returns-in_err-scripts-clause-err : goal.returns-in_err-scripts-clause-err
returns-in_err-scripts-clause-err g c =
    err_weaker c.from_residual.result _ _
    (λ (f : Fault) is. inl (subst (λ (e : Fault). RefusesOne {X = String Global} (g.T.Texts.held c.args.texts.now) string_bytes c.args.paths.now e) (sym is) c.in_err-scripts.ensures.err))
    c.from_residual.ensures.1

pub returns-in_err-totals-clause-err : goal.returns-in_err-totals-clause-err
returns-in_err-totals-clause-err g c =
    err_weaker c.from_residual-in_err-totals.result _ _
    (λ (f : Fault) is. inr (subst (λ (e : Fault). FailsToClose {X = String Global} (λ p. g.T.Texts.held c.args.texts.now (string_bytes p)) c.args.paths.now e) (sym is)
    (map (λ (s : Vec (Order Global) Global). map order_seen s.items) c.in_ok-scripts.scripts.items, c.in_ok-scripts.ensures.ok, c.in_err-totals.ensures.err)))
    c.from_residual-in_err-totals.ensures.1

pub returns-clause-ok : goal.returns-clause-ok
returns-clause-ok g c = record {
  orders = map (λ (s : Vec (Order Global) Global). map order_seen s.items) c.in_ok-scripts.scripts.items;
  held = c.in_ok-scripts.ensures.ok;
  totals = c.in_ok-totals.totals;
  stormed = c.in_ok-totals.ensures.ok;
  is = c.in_ok-storm_text.ensures;
}
