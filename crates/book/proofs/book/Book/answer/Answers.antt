use Rattle.std.proofs.Common.{◌+◌, ◌∙◌, ap, sym, refl, rules}
use Rattle.book.specs.Histories.{line}
use Rattle.book.specs.Books.{book_view, ticket_view}
use Rattle.book.proofs.Steps.{grown, stood, unkept, gave, on_err}
use Rattle.book.proofs.book.Book.answer.Goals as goal

pub invariant_of-self-2 : goal.invariant_of-self-2
invariant_of-self-2 g c =
    let b = c.self.inside in
    let p = book_view b.state b.entries b.counts.items b.tail.items b.tail.capacity in
    let t = ticket_view c.ticket.inside.worker c.ticket.inside.count in
    let e = line t.worker t.count c.args.event.now c.in_ok-out.out in (
      c.count_up.ensures.shares ∙ ap (λ n. n + 1) c.self.invariant.0 ∙ sym c.count_up.ensures.entries,
      grown g.M.Machine.moves g.M.Machine.begins p _ e c.self.invariant.1 (search rules)
          (record { step = c.in_ok-out.ensures.1; number = search rules; entries = c.count_up.ensures.entries; counts = rw (sym c.ticket.view_is) at c.count_up.ensures.counts; tail = unkept g.M.Machine.moves g.M.Machine.begins p e c.self.invariant.1 (search rules); keep = search rules }),
    )

pub returns-clause-ok : goal.returns-clause-ok
returns-clause-ok g c =
    let b = c.self.inside in
    let p = book_view b.state b.entries b.counts.items b.tail.items b.tail.capacity in
    let t = ticket_view c.ticket.inside.worker c.ticket.inside.count in
    let e = line t.worker t.count c.args.event.now c.in_ok-out.out in
    gave g.M.Machine.moves g.M.Machine.begins p c.args.self.now _ t c.args.ticket.now c.count_up.new.ticket c.args.event.now c.in_ok-out.out
    c.self.view_is c.ticket.view_is (rw (sym c.ticket.view_is) at c.count_up.ensures.ticket) c.self.invariant.1 (search rules)
    (record { step = c.in_ok-out.ensures.1; number = search rules; entries = c.count_up.ensures.entries; counts = rw (sym c.ticket.view_is) at c.count_up.ensures.counts; tail = unkept g.M.Machine.moves g.M.Machine.begins p e c.self.invariant.1 (search rules); keep = search rules })

pub returns-clause-err : goal.returns-clause-err
returns-clause-err g c =
    let b = c.self.inside in
    let p = book_view b.state b.entries b.counts.items b.tail.items b.tail.capacity in
    let t = ticket_view c.ticket.inside.worker c.ticket.inside.count in
    let e = line t.worker t.count c.args.event.now c.in_ok-out.out in
    on_err c.in_ok-out.out
    (stood g.M.Machine.moves g.M.Machine.begins p c.args.self.now _ t c.args.ticket.now c.count_up.new.ticket c.args.event.now c.args.event.now c.in_ok-out.out
    c.self.view_is c.ticket.view_is (rw (sym c.ticket.view_is) at c.count_up.ensures.ticket) refl
    (record { step = c.in_ok-out.ensures.1; number = search rules; entries = c.count_up.ensures.entries; counts = rw (sym c.ticket.view_is) at c.count_up.ensures.counts; tail = unkept g.M.Machine.moves g.M.Machine.begins p e c.self.invariant.1 (search rules); keep = search rules }))
