use Rattle.std.proofs.Common.{◌+◌, ◌∙◌, ap, sym, inr, refl, rules}
use Rattle.book.specs.Histories.{line}
use Rattle.book.specs.Books.{book_view, ticket_view}
use Rattle.book.proofs.Steps.{grown, stood, on_err}
use Rattle.book.proofs.book.Book.put.Goals as goal

pub invariant_of-self : goal.invariant_of-self
invariant_of-self g c =
    let b = c.self.inside in
    let p = book_view b.state b.entries b.counts.items b.tail.items b.tail.capacity in
    let t = ticket_view c.ticket.inside.worker c.ticket.inside.count in (
      c.count_up.ensures.shares ∙ ap (λ n. n + 1) c.self.invariant.0 ∙ sym c.count_up.ensures.entries,
      grown g.M.Machine.moves g.M.Machine.begins p _ (line t.worker t.count c.args.event c.step-out.result) c.self.invariant.1 (search rules)
          (record { step = search rules; number = search rules; entries = c.count_up.ensures.entries; counts = rw (sym c.ticket.view_is) at c.count_up.ensures.counts; tail = search rules; keep = search rules }),
    )

pub returns-clause-err : goal.returns-clause-err
returns-clause-err g c =
    let b = c.self.inside in
    let p = book_view b.state b.entries b.counts.items b.tail.items b.tail.capacity in
    let t = ticket_view c.ticket.inside.worker c.ticket.inside.count in
    on_err c.shelve-answer.result (inr
    (stood g.M.Machine.moves g.M.Machine.begins p c.args.self.now _ t c.args.ticket.now c.count_up.new.ticket c.args.event c.args.event c.step-out.result
    c.self.view_is c.ticket.view_is (rw (sym c.ticket.view_is) at c.count_up.ensures.ticket) refl
    (record { step = search rules; number = search rules; entries = c.count_up.ensures.entries; counts = rw (sym c.ticket.view_is) at c.count_up.ensures.counts; tail = search rules; keep = search rules })))
