-- The text at the path says the world, or why there is none.
use Rattle.std.proofs.Common.{refl, subst, sym, ℕ, List, Some}
use Rattle.commands.specs.Scripts.{HoldsNoWorld}
use Rattle.commands.specs.Texts.{MayHold}
use Rattle.commands.specs.declared.fault.Fault.{Fault}
use Rattle.commands.proofs.Scripts.{no_world, unread}
use Rattle.commands.proofs.Storms.{err_weaker}
use Rattle.commands.proofs.storm_scripts.worlds_at.Goals as goal

pub returns-in-Ok-clause-ok : goal.returns-in-Ok-clause-ok
returns-in-Ok-clause-ok g c =
    let there : MayHold (g.T.Texts.held c.args.texts.now c.args.path.now) (Some c.as_str.result.now) =
    subst (λ (text : List ℕ). MayHold (g.T.Texts.held c.args.texts.now c.args.path.now) (Some text)) (sym c.as_str.ensures.value) c.in_ok-text.ensures.ok in
    record { text = c.as_str.result.now; held = there; says = c.in-Ok.ensures.says }

pub returns-clause-err : goal.returns-clause-err
returns-clause-err g c =
    let there : MayHold (g.T.Texts.held c.args.texts.now c.args.path.now) (Some c.as_str.result.now) =
    subst (λ (text : List ℕ). MayHold (g.T.Texts.held c.args.texts.now c.args.path.now) (Some text)) (sym c.as_str.ensures.value) c.in_ok-text.ensures.ok in
    subst (HoldsNoWorld (g.T.Texts.held c.args.texts.now) c.args.path.now) (sym c.of_world.ensures) (no_world (g.T.Texts.held c.args.texts.now) c.args.path c.as_str.result.now c.in-Err.error there c.in-Err.ensures.says)

pub returns-in_err-text-clause-err : goal.returns-in_err-text-clause-err
returns-in_err-text-clause-err g c =
    let P : Fault → Type 0 = HoldsNoWorld (g.T.Texts.held c.args.texts.now) c.args.path.now in
    err_weaker c.from_residual.result _ _ (λ (f : Fault) is. subst P (sym is) (unread P c.args.path _ c.in_err-text.ensures.err (λ none. (refl, none)) tt)) c.from_residual.ensures.1
