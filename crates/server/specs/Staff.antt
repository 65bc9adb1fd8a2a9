-- Who works at a server's ends.
use Rattle.std.specs.Prelude.{◌≡◌, ℕ, List}
use Rattle.book.specs.Books.{TicketView, first_tickets}
use Rattle.dispatch.specs.Roles.{loop_count}

-- One ticket for each loop where so many take clients' datagrams, in order. No event was put by any of them.
abbrev pub IsStaffed : ℕ → List TicketView → Type 0
IsStaffed takers tickets = tickets ≡ first_tickets (loop_count takers)
