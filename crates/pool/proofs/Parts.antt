-- A whole history, and the parts of its workers.
use Rattle.std.proofs.Common.{◌≡◌, ℕ, ◌<◌, ◌≤◌, Result, List, [], ◌∷◌, ◌++◌, reverse, length, All, Any, sym, ap, subst}
use Rattle.std.proofs.lemmas.List.{reverse-append, reverse-reverse}
use Rattle.std.proofs.lemmas.List.Elements.{All-nil, All-cons, All-head, All-tail, All-push, All-same, All-weaker}
use Rattle.memory.specs.declared.Starved.{Starved}
use Rattle.book.specs.Histories.{Line, lines_of, LeadsMachine}
use Rattle.book.specs.Books.{BookView, TicketView, IsHistory}
use Rattle.pool.specs.Closings.{Part, OneEach, Closes}

turned : {X : Type 0} (P : X → Type 0) (xs : List X) → All P xs → All P (reverse xs)
turned P [] h = h
turned P (x ∷ xs) h = All-same P (reverse (x ∷ xs)) (reverse xs ++ x ∷ []) (reverse-append (x ∷ []) xs)
    (All-push P (reverse xs) x (turned P xs (All-tail P x xs h)) (All-head P x xs h))

-- what was seen of equal lists
pub same_lists : {E O : Type 0} (h l : List (Line E O)) (parts ps : List (Part E O)) → l ≡ h → ps ≡ parts
    → All (λ q. lines_of q.ticket.worker l ≡ q.lines) ps → All (λ q. lines_of q.ticket.worker h ≡ q.lines) parts
same_lists {E} {O} h l parts ps is are all =
    subst (λ (v : List (Part E O)). All (λ q. lines_of q.ticket.worker h ≡ q.lines) v) are
    (subst (λ (v : List (Line E O)). All (λ q. lines_of q.ticket.worker v ≡ q.lines) ps) is all)

module _ {S E O : Type 0} (moves : S → E → Result O Starved → S → Type 0) where
  -- each line is one of the workers'
  workers_of : (n : ℕ) (start : S) (es : List (Line E O)) (t : S) → LeadsMachine moves n start es t → All (λ e. e.worker < n) es
  workers_of n start [] t h = All-nil (λ (e : Line E O). e.worker < n)
  workers_of n start (e ∷ es) t h = All-cons (λ (d : Line E O). d.worker < n) e es h.3 (workers_of n start es h.0 h.1)

  -- the whole history of a book, with a ticket for each worker and the list of each
  pub closed : (begins : S → Type 0) (p : BookView S E O) (parts : List (Part E O)) (h : List (Line E O)) → p.entries ≤ p.keep → h ≡ reverse p.tail
      → IsHistory moves begins p h → OneEach p.counts parts → All (λ q. lines_of q.ticket.worker h ≡ q.lines) parts → Closes moves begins p parts h
  closed begins p parts h few is history tickets lists =
      let n = length p.counts in
      let inside : All (λ (e : Line E O). e.worker < n) h =
      All-same (λ (e : Line E O). e.worker < n) h (reverse (reverse h)) (sym (reverse-reverse h))
      (turned (λ (e : Line E O). e.worker < n) (reverse h) (workers_of n history.start (reverse h) p.state history.legal)) in
      record {
        whole = few;
        kept = is;
        history = history;
        tickets = tickets;
        shuffle = record {
          lists = lists;
          others = All-weaker (λ (e : Line E O). e.worker < n) (λ (e : Line E O). Any (λ (q : Part E O). q.ticket.worker ≡ e.worker) parts)
              (λ e small. let a = tickets.each e.worker small in (a.0, a.1, a.2, a.3, ap (λ (s : TicketView). s.worker) a.4)) h inside;
        };
      }
