-- What is said of a result of which only a part is known.
use Rattle.std.proofs.Common.{◌≡◌, inl, sym, subst, Result, Ok, Err, Option, IfOk, IfSome, OnErr}
use Rattle.std.specs.Result.{result_ok}
use Rattle.memory.specs.declared.Starved.{Starved}
use Rattle.book.specs.Books.{TicketView}
use Rattle.typed.specs.Events.{Parsed}
use Rattle.server.specs.Passages.{IsGiven}
use Rattle.pool.specs.Closings.{EntersAndGives, IsEventRefused}
use Rattle.pool.specs.declared.fault.PoolError.{PoolError}
use Rattle.pool.specs.declared.fault.PoolError.TheVariants.{Differs, Forgot, Memory, Stranger}

-- What holds in any case holds of a refusal.
pub at_err : {T E P : Type 0} (r : Result T E) → P → OnErr r P
at_err (Ok x) h = tt
at_err (Err e) h = h

-- However an event was refused, the ticket is as it is where memory was refused.
pub refused_any : (t u : TicketView) (e : PoolError) → IsEventRefused t u e → IsEventRefused t u Memory
refused_any t u Memory h = h
refused_any t u Stranger h = inl h
refused_any t u Differs h = absurd h
refused_any t u Forgot h = absurd h

module _ {S O : Type 0} (moves : S → Parsed → Result O Starved → S → Type 0) (begins : S → Type 0) where
  -- What is kept of a step was given, where it was not refused.
  pub kept_of : {X : Type 0} (t u : TicketView) (parsed : Parsed) (r : Result O X) (kept : Option O) → kept ≡ result_ok r
      → IfOk r (λ out. EntersAndGives moves begins t parsed out u) → IfSome kept (IsGiven moves begins parsed)
  kept_of t u parsed (Ok out) kept is gives = subst (λ v. IfSome v (IsGiven moves begins parsed)) (sym is) (record { before = t; after = u; gives = gives })
  kept_of t u parsed (Err e) kept is gives = subst (λ v. IfSome v (IsGiven moves begins parsed)) (sym is) tt
