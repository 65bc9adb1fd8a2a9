-- The work of one worker, line by line.
use Rattle.std.proofs.Common.{◌≡◌, ℕ, Result, List, [], ◌∷◌, ◌++◌, refl, sym, ap, ◌∙◌, subst, append_assoc, append-nil}
use Rattle.memory.specs.declared.Starved.{Starved}
use Rattle.book.specs.Histories.{Line}
use Rattle.book.specs.Books.{TicketView}
use Rattle.pool.specs.Closings.{Part, part}
use Rattle.workers.specs.Working.{Follows, Goes, Did, Entered}

module _ {Q E O : Type 0} (event_of : Q → E) (follow_ups : E → Result O Starved → List E) where
  -- one line more, with all that is to come behind it
  behind : (es ds rest : List (Line E O)) (e : Line E O) (all : List Q) → ds ≡ es ++ e ∷ [] → Follows event_of follow_ups (es ++ e ∷ rest) all [] → Follows event_of follow_ups (ds ++ rest) all []
  behind es ds rest e all is h = subst (λ l. Follows event_of follow_ups l all []) (sym (append_assoc es (e ∷ []) rest) ∙ ap (λ l. l ++ rest) (sym is)) h

  -- the first follow-up event is run
  pub runs : (all left : List Q) (es ds : List (Line E O)) (next : E) (before waiting later : List E) → Goes event_of follow_ups all es left before
      → Entered follow_ups next es ds waiting later → before ≡ next ∷ waiting → Goes event_of follow_ups all ds left later
  runs all left es ds next before waiting later h n popped =
      let g : Goes event_of follow_ups all es left (next ∷ waiting) = subst (λ w. Goes event_of follow_ups all es left w) popped h in
      record { goes = λ rest more. behind es ds rest n.entry all n.entries (g.goes (n.entry ∷ rest) (n.event_is, subst (λ w. Follows event_of follow_ups rest left w) n.waits more)) }

  -- the next query is put
  pub puts : (all left : List Q) (query : Q) (event : E) (es ds : List (Line E O)) (before later : List E) → event ≡ event_of query → before ≡ []
      → Goes event_of follow_ups all es (query ∷ left) [] → Entered follow_ups event es ds before later → Goes event_of follow_ups all ds left later
  puts all left query event es ds before later is none g n =
      record {
        goes = λ rest h. behind es ds rest n.entry all n.entries
            (g.goes (n.entry ∷ rest) (n.event_is ∙ is, subst (λ w. Follows event_of follow_ups rest left w) (n.waits ∙ ap (λ w. w ++ follow_ups n.entry.event n.entry.out) none) h));
      }

  -- nothing is left
  pub ends : (all left : List Q) (es : List (Line E O)) → left ≡ [] → Goes event_of follow_ups all es left [] → Follows event_of follow_ups es all []
  ends all left es none g = subst (λ l. Follows event_of follow_ups l all []) (append-nil es) (g.goes [] (none, refl))

  -- what a worker hands back
  pub did : (w : ℕ) (qs : List Q) (t : TicketView) (es : List (Line E O)) (p : Part E O) → p ≡ part t es → t.worker ≡ w → Follows event_of follow_ups es qs [] → Did event_of follow_ups w qs p
  did w qs t es p is own h = record { own = ap (λ q. q.ticket.worker) is ∙ own; follows = subst (λ q. Follows event_of follow_ups q.lines qs []) (sym is) h }
