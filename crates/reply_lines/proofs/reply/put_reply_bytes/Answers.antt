-- Bytes are a message, or nothing is printed.
use Rattle.std.proofs.Common.{rules, ◌≡◌, ⊎_elim, inl, inr, refl}
use Rattle.std.proofs.lemmas.Result.{on_ok_weaker}
use Rattle.wire.specs.declared.error.WireError.TheVariants.{Memory}
use Rattle.reply_lines.proofs.reply.put_reply_bytes.Goals as goal

pub returns-in-Ok-clause-ok : goal.returns-in-Ok-clause-ok
returns-in-Ok-clause-ok g c =
    on_ok_weaker c.put_reply.result (λ printed. inl (c.in-Ok.message, c.in-Ok.ensures.read, printed)) c.put_reply.ensures.ok

pub returns-in-Err-clause-ok : goal.returns-in-Err-clause-ok
returns-in-Err-clause-ok g c =
    let other : c.in-Err.field-0 ≡ Memory → ⊥ = search rules in
    inr (λ m is. ⊎_elim (λ e. absurd (other e)) (λ none. absurd (none m is)) c.in-Err.ensures.refused, refl)
