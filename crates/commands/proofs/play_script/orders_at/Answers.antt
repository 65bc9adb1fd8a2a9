-- The text at the path is read as orders, or why it is not.
use Rattle.std.proofs.Common.{refl, subst, sym, ℕ, List, Some}
use Rattle.script.specs.Orders.{script_of}
use Rattle.commands.specs.Scripts.{HoldsNoOrders}
use Rattle.commands.specs.Texts.{MayHold}
use Rattle.commands.specs.declared.fault.Fault.{Fault}
use Rattle.commands.proofs.Scripts.{bad_line, unread}
use Rattle.commands.proofs.Storms.{err_weaker}
use Rattle.commands.proofs.play_script.orders_at.Goals as goal

pub returns-in-Ok-clause-ok : goal.returns-in-Ok-clause-ok
returns-in-Ok-clause-ok g c =
    let there : MayHold (g.T.Texts.held c.args.texts.now c.args.path.now) (Some c.as_str.result.now) =
    subst (λ (text : List ℕ). MayHold (g.T.Texts.held c.args.texts.now c.args.path.now) (Some text)) (sym c.as_str.ensures.value) c.in_ok-text.ensures.ok in
    (c.as_str.result.now, there, c.in-Ok.ensures)

pub returns-clause-err : goal.returns-clause-err
returns-clause-err g c =
    let there : MayHold (g.T.Texts.held c.args.texts.now c.args.path.now) (Some c.as_str.result.now) =
    subst (λ (text : List ℕ). MayHold (g.T.Texts.held c.args.texts.now c.args.path.now) (Some text)) (sym c.as_str.ensures.value) c.in_ok-text.ensures.ok in
    subst (HoldsNoOrders (g.T.Texts.held c.args.texts.now) c.args.path.now) (sym c.of_line.ensures) (bad_line script_of (g.T.Texts.held c.args.texts.now) c.args.path c.as_str.result.now there c.in-Err.error c.in-Err.ensures)

pub returns-in_err-text-clause-err : goal.returns-in_err-text-clause-err
returns-in_err-text-clause-err g c =
    let P : Fault → Type 0 = HoldsNoOrders (g.T.Texts.held c.args.texts.now) c.args.path.now in
    err_weaker c.from_residual.result _ _ (λ (f : Fault) is. subst P (sym is) (unread P c.args.path _ c.in_err-text.ensures.err (λ none. (refl, none)) tt)) c.from_residual.ensures.1
