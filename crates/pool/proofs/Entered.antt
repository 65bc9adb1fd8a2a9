-- What an event that was put at once did to a ticket.
use Rattle.std.proofs.Common.{Option, Some, None, Result, Ok, Err, IfOk}
use Rattle.std.specs.Prelude.{IfSome}
use Rattle.memory.specs.declared.Starved.{Starved}
use Rattle.book.specs.Books.{BookView, TicketView, Gives}
use Rattle.pool.specs.Closings.{EntersAndGives}

module _ {S E O : Type 0} (moves : S → E → Result O Starved → S → Type 0) (begins : S → Type 0) (p q : BookView S E O) (t u : TicketView) (event : E) where
  pub entered : (o : Option (Result O Starved)) → IfSome o (λ r. IfOk r (λ out. Gives moves begins p t event out q u)) → IfSome o (λ r. IfOk r (λ out. EntersAndGives moves begins t event out u))
  entered None gives = tt
  entered (Some (Ok out)) gives =
      let takes = gives.takes in
      record {
        entry = gives.entry;
        last = gives.last;
        enters = record { worker = takes.worker; number = takes.number; event_is = takes.event_is; ticket = takes.ticket };
        gave = gives.gave;
      }
  entered (Some (Err e)) gives = tt
