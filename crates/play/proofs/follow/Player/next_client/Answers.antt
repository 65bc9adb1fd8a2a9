-- The number that there is.
use Rattle.std.proofs.Common.{◌≡◌, ◌+◌, ℕ, Option, Result, Ok, Err, IfOk, length, subst}
use Rattle.std.specs.Prelude.{IfSome}
use Rattle.std.specs.Result.{result_ok}
use Rattle.play.proofs.follow.Player.next_client.Goals as goal

kept : {T E : Type 0} (r : Result T E) (P : T → Type 0) → IfSome (result_ok r) P → IfOk r P
kept (Ok x) P h = h
kept (Err e) P h = tt

pub returns : goal.returns
returns g c =
    let number = length ((c.args.self.now).show).clients + 1 in
    kept c.ok_or.result (λ n. n ≡ number) (subst (λ (o : Option ℕ). IfSome o (λ n. n ≡ number)) c.ok_or.ensures.ok_part c.next.ensures)
