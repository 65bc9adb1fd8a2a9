use Rattle.std.proofs.Common.{◌≡◌, ⊎_elim, rules}
use Rattle.std.proofs.lemmas.Result.{IfOk-weaker}
use Rattle.rdata.specs.Types.{type_number}
use Rattle.wire.specs.declared.error.WireError.TheVariants.{Memory}
use Rattle.worlds.proofs.Replied.{right_bytes, no_message}
use Rattle.worlds.proofs.judging.judge.Goals as goal

pub returns-in-Ok : goal.returns-in-Ok
returns-in-Ok g c =
    IfOk-weaker c.is_right-right.result _ _
    (λ b k. right_bytes c.args.world.now c.args.name.now (type_number c.args.kind) c.args.bytes.now c.in-Ok.reply b c.in-Ok.ensures.read k) c.is_right-right.ensures

pub returns-in-Err : goal.returns-in-Err
returns-in-Err g c =
    let other : c.in-Err.field-0 ≡ Memory → ⊥ = search rules in
    no_message c.args.world.now c.args.name.now (type_number c.args.kind) c.args.bytes.now (⊎_elim (λ e. absurd (other e)) (λ none. none) c.in-Err.ensures.refused)
