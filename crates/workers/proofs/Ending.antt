-- From what each worker did to what all of them did.
use Rattle.std.proofs.Common.{◌≡◌, ℕ, zero, suc, ◌<◌, Result, Ok, Err, IfOk, List, [], ◌∷◌, ◌++◌, map, reverse, length, get_or, refl, sym, ap, ◌∙◌, subst, inl, inr, not-suc-le-zero, arith}
use Rattle.std.proofs.lemmas.List.{get_or-map, length-map, length-append, get_or_append_left, get_or_at}
use Rattle.std.proofs.lemmas.Bool.{cases_eq}
use Rattle.memory.specs.declared.Starved.{Starved}
use Rattle.book.specs.Histories.{Line, lines_of, LeadsMachine}
use Rattle.book.specs.Books.{BookView, TicketView, ticket_view, first_tickets}
use Rattle.pool.specs.Closings.{Part, part, Closes}
use Rattle.workers.specs.Working.{Follows, Did}
use Rattle.workers.specs.Runs.{HaveRun}

first_tickets_long : (n : ℕ) → length (first_tickets n) ≡ n
first_tickets_long zero = refl
first_tickets_long (suc n) = let more = length-append (first_tickets n) (ticket_view n 0 ∷ []) in let below = first_tickets_long n in omega (arith, more, below)

first_tickets_at : (n i : ℕ) (d : TicketView) → i < n → get_or (first_tickets n) i d ≡ ticket_view i 0
first_tickets_at zero i d small = absurd (not-suc-le-zero small)
first_tickets_at (suc n) i d small =
    let long = first_tickets_long n in
    elim (cases_eq i n) as (λ c. get_or (first_tickets n ++ ticket_view n 0 ∷ []) i d ≡ ticket_view i 0) [
      | inl last ↦ get_or_at (first_tickets n) (ticket_view n 0) [] d i (long ∙ sym last) ∙ ap (λ k. ticket_view k 0) (sym last)
      | inr other ↦ let below : i < n = omega (arith, small, other) in
          get_or_append_left (first_tickets n) (ticket_view n 0 ∷ []) d i (omega (arith, long, below)) ∙ first_tickets_at n i d below
    ]

-- an element's list, whatever is read past the end
listed : {V Q : Type 0} (items : V → List Q) (vs : List V) (i : ℕ) → i < length vs → (P : List Q → Type 0) → ((v : V) → P (items (get_or vs i v))) → P (get_or (map items vs) i [])
listed items [] i small P h = absurd (not-suc-le-zero small)
listed items (v ∷ vs) i small P h = subst P (sym (get_or-map items (v ∷ vs) i v [] small)) (h v)

-- two facts of one outcome
pub both : {X Y : Type 0} (r : Result X Y) (P Q R : X → Type 0) → ((x : X) → P x → Q x → R x) → IfOk r P → IfOk r Q → IfOk r R
both (Ok x) P Q R f p q = f x p q
both (Err y) P Q R f p q = tt

module _ {Q E O : Type 0} (event_of : Q → E) (follow_ups : E → Result O Starved → List E) where
  -- each worker worked off its own list
  abbrev EachDid : List (List Q) → List (Part E O) → Type 0
  EachDid queries parts = (w : ℕ) → w < length queries → Did event_of follow_ups w (get_or queries w []) (get_or parts w (part (ticket_view 0 0) []))

  each_did : {V : Type 0} (items : V → List Q) (vs : List V) (tickets : List TicketView) (parts : List (Part E O)) → tickets ≡ first_tickets (length vs)
      → ((i : ℕ) (t : TicketView) (v : V) (k : Part E O) → i < length tickets → Did event_of follow_ups (get_or tickets i t).worker (items (get_or vs (get_or tickets i t).worker v)) (get_or parts i k))
      → EachDid (map items vs) parts
  each_did {V} items vs tickets parts are did w small =
      let nothing : Part E O = part (ticket_view 0 0) [] in
      let long = length-map vs items in
      let inside : w < length vs = omega (arith, long, small) in
      let issued : length tickets ≡ length vs = ap length are ∙ first_tickets_long (length vs) in
      let own : (get_or tickets w (ticket_view 0 0)).worker ≡ w = ap (λ s. s.worker) (ap (λ l. get_or l w (ticket_view 0 0)) are ∙ first_tickets_at (length vs) w (ticket_view 0 0) inside) in
      listed items vs w inside (λ qs. Did event_of follow_ups w qs (get_or parts w nothing))
      (λ v. subst (λ u. Did event_of follow_ups u (items (get_or vs u v)) (get_or parts w nothing)) own (did w (ticket_view 0 0) v nothing (omega (arith, issued, inside))))

module _ {S Q E O : Type 0} (moves : S → E → Result O Starved → S → Type 0) (begins : S → Type 0) (event_of : Q → E) (follow_ups : E → Result O Starved → List E) where
  have_run : (queries : List (List Q)) (parts : List (Part E O)) (lists : List (List (Line E O))) (p : BookView S E O) (h : List (Line E O))
      → length parts ≡ length queries → EachDid event_of follow_ups queries parts → Closes moves begins p parts h
      → lists ≡ map (λ k. k.lines) parts → HaveRun moves begins event_of follow_ups queries h lists
  have_run queries parts lists p h all each closes is =
      let n = length queries in
      let nothing : Part E O = part (ticket_view 0 0) [] in
      let workers : length p.counts ≡ n = sym (closes.tickets).many ∙ all in
      let handed_in : (w : ℕ) → w < n → get_or lists w [] ≡ (get_or parts w nothing).lines =
      λ w small. ap (λ l. get_or l w []) is ∙ get_or-map (λ k. k.lines) parts w nothing [] (omega (arith, all, small)) in
      let kept : (w : ℕ) → w < n → lines_of w h ≡ (get_or parts w nothing).lines =
      λ w small. subst (λ v. lines_of v h ≡ (get_or parts w nothing).lines) (each w small).own ((closes.shuffle).lists w nothing (omega (arith, all, small))) in
      record {
        start = (closes.history).start;
        begun = (closes.history).begun;
        state = p.state;
        legal = subst (λ k. LeadsMachine moves k (closes.history).start (reverse h) p.state) workers (closes.history).legal;
        many = ap length is ∙ length-map parts (λ k. k.lines) ∙ all;
        kept = λ w small. kept w small ∙ sym (handed_in w small);
        worked = λ w small. subst (λ es. Follows event_of follow_ups es (get_or queries w []) []) (sym (kept w small)) (each w small).follows;
      }

  -- a run of workers whose tickets are those of the book
  pub closed_run : {V : Type 0} (items : V → List Q) (vs : List V) (tickets : List TicketView) (parts : List (Part E O)) (lists : List (List (Line E O))) (p : BookView S E O) (h : List (Line E O))
      → tickets ≡ first_tickets (length vs) → length parts ≡ length tickets
      → ((i : ℕ) (t : TicketView) (v : V) (k : Part E O) → i < length tickets → Did event_of follow_ups (get_or tickets i t).worker (items (get_or vs (get_or tickets i t).worker v)) (get_or parts i k))
      → Closes moves begins p parts h → lists ≡ map (λ k. k.lines) parts → HaveRun moves begins event_of follow_ups (map items vs) h lists
  closed_run items vs tickets parts lists p h are many did closes is =
      let issued = first_tickets_long (length vs) in
      let long = length-map vs items in
      let as_many : length parts ≡ length (map items vs) = omega (arith, many, ap length are, issued, long) in
      have_run (map items vs) parts lists p h as_many (each_did event_of follow_ups items vs tickets parts are did) closes is
