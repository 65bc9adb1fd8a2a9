-- A book with one more line, and a book whose whole history is handed out.
use Rattle.std.proofs.Common.{◌≡◌, ℕ, zero, suc, ◌+◌, ◌<◌, ◌≤◌, true, false, cond, eqb, Result, List, [], ◌∷◌, ◌++◌, reverse, length, take, get_or, set, refl, sym, ap, ◌∙◌, subst, inl, inr, arith, length-append, IfOk, OnErr, Ok, Err}
use Rattle.std.proofs.lemmas.List.{take_all, take-take, reverse-append, reverse-reverse, length-reverse, length-set, get_or-set_other}
use Rattle.std.proofs.lemmas.List.Elements.{filter-append}
use Rattle.std.proofs.lemmas.Grind.{get_or-set_at}
use Rattle.std.proofs.lemmas.Bool.Decides.{eqb_tells}
use Rattle.memory.specs.declared.Starved.{Starved}
use Rattle.book.specs.Histories.{Line, line, lines_of, count_of, LeadsMachine, IsLast}
use Rattle.book.specs.Books.{BookView, TicketView, ticket_view, Reached, IsHistory, Adds, Takes, Stands, Gives}

take_again : {X : Type 0} → (k : ℕ) (x : X) (xs : List X) → take k (x ∷ take k xs) ≡ take k (x ∷ xs)
take_again zero x xs = refl
take_again (suc k) x xs = ap (λ l. x ∷ l) (take-take k (suc k) xs (omega arith))

module _ {E O : Type 0} where
  count_same : (e : Line E O) (w : ℕ) (es : List (Line E O)) → eqb e.worker w ≡ true → count_of w (e ∷ es) ≡ count_of w es + 1
  count_same e w es h = ap (λ b. length (cond b (e ∷ lines_of w es) (lines_of w es))) h ∙ omega arith

  count_other : (e : Line E O) (w : ℕ) (es : List (Line E O)) → eqb e.worker w ≡ false → count_of w (e ∷ es) ≡ count_of w es
  count_other e w es h = ap (λ b. length (cond b (e ∷ lines_of w es) (lines_of w es))) h

  counts_on : (cs : List ℕ) (e : Line E O) (es : List (Line E O)) → e.worker < length cs → e.number ≡ count_of e.worker es
      → ((w : ℕ) → w < length cs → get_or cs w 0 ≡ count_of w es)
      → (w : ℕ) → w < length cs → get_or (set cs e.worker (e.number + 1)) w 0 ≡ count_of w (e ∷ es)
  counts_on cs e es inside number all w small = elim (eqb_tells e.worker w) [
    | inl same ↦ get_or-set_at cs e.worker w (e.number + 1) 0 (sym same.1) inside
        ∙ ap (λ n. n + 1) (number ∙ ap (λ v. count_of v es) same.1) ∙ sym (count_same e w es same.0)
    | inr other ↦ get_or-set_other cs e.worker w (e.number + 1) 0 (λ h. other.1 (sym h)) ∙ all w small ∙ sym (count_other e w es other.0)
  ]

  count_end : (e : Line E O) (w : ℕ) (es : List (Line E O)) → count_of w (es ++ e ∷ []) ≡ count_of w (e ∷ es)
  count_end e w es = ap length (filter-append (λ (l : Line E O). eqb l.worker w) es (e ∷ []))
      ∙ length-append (lines_of w es) (lines_of w (e ∷ [])) ∙ elim (eqb_tells e.worker w) [
        | inl same ↦ ap (λ n. count_of w es + n) (count_same e w [] same.0) ∙ sym (count_same e w es same.0)
        | inr other ↦ ap (λ n. count_of w es + n) (count_other e w [] other.0) ∙ omega arith ∙ sym (count_other e w es other.0)
      ]

  count_cons : (w : ℕ) (e : Line E O) (es ds : List (Line E O)) → count_of w es ≡ count_of w ds → count_of w (e ∷ es) ≡ count_of w (e ∷ ds)
  count_cons w e es ds h = elim (eqb_tells e.worker w) [
    | inl same ↦ count_same e w es same.0 ∙ ap (λ n. n + 1) h ∙ sym (count_same e w ds same.0)
    | inr other ↦ count_other e w es other.0 ∙ h ∙ sym (count_other e w ds other.0)
  ]

  count_reverse : (w : ℕ) (es : List (Line E O)) → count_of w (reverse es) ≡ count_of w es
  count_reverse w [] = refl
  count_reverse w (e ∷ es) = ap (count_of w) (reverse-append (e ∷ []) es) ∙ count_end e w (reverse es) ∙ count_cons w e (reverse es) es (count_reverse w es)

module _ {S E O : Type 0} (moves : S → E → Result O Starved → S → Type 0) (begins : S → Type 0) where
  -- one more line
  pub grown : (p q : BookView S E O) (e : Line E O) → Reached moves begins p → e.worker < length p.counts → Adds moves p e q → Reached moves begins q
  grown p q e r inside a =
      let f = r.fits in
      let long : length q.counts ≡ length p.counts = ap length a.counts ∙ length-set p.counts e.worker (e.number + 1) in
      let number : e.number ≡ count_of e.worker r.lines = a.number ∙ f.counts e.worker inside in
      let legal : LeadsMachine moves (length p.counts) r.start (e ∷ r.lines) q.state = (p.state, f.legal, a.step, inside, number) in
      record {
        start = r.start;
        begun = r.begun;
        lines = e ∷ r.lines;
        fits = record {
          legal = subst (λ n. LeadsMachine moves n r.start (e ∷ r.lines) q.state) (sym long) legal;
          entries = a.entries ∙ ap (λ n. n + 1) f.entries ∙ omega arith;
          counts = λ w small. ap (λ cs. get_or cs w 0) a.counts ∙ counts_on p.counts e r.lines inside number f.counts w (subst (λ n. w < n) long small);
          tail = a.tail ∙ ap (λ l. take p.keep (e ∷ l)) f.tail ∙ take_again p.keep e r.lines ∙ ap (λ k. take k (e ∷ r.lines)) (sym a.keep);
        };
      }

  -- nothing is forgotten, so that the last lines are all of them
  pub told : (p : BookView S E O) (h : List (Line E O)) → Reached moves begins p → p.entries ≤ p.keep → h ≡ reverse p.tail → IsHistory moves begins p h
  told p h r few is =
      let f = r.fits in
      let all : h ≡ reverse r.lines = is ∙ ap reverse (f.tail ∙ take_all p.keep r.lines (subst (λ n. n ≤ p.keep) f.entries few)) in
      record {
        start = r.start;
        begun = r.begun;
        legal = subst (λ l. LeadsMachine moves (length p.counts) r.start l p.state) (sym (ap reverse all ∙ reverse-reverse r.lines)) f.legal;
        entries = f.entries ∙ sym (ap length all ∙ length-reverse r.lines);
        counts = λ w small. f.counts w small ∙ sym (ap (count_of w) all ∙ count_reverse w r.lines);
      }

  -- one more line, told of the book and the ticket as they were handed in
  pub stood : (p p' q : BookView S E O) (t t' u : TicketView) (event kept : E) (out : Result O Starved) → p ≡ p' → t ≡ t' → u ≡ ticket_view t.worker (t.count + 1) → kept ≡ event
      → Adds moves p (line t.worker t.count kept out) q → Stands moves p' t' event q u
  stood p p' q t t' u event kept out here this next same adds =
      let stands : Stands moves p t event q u = record { entry = line t.worker t.count kept out; takes = record { worker = refl; number = refl; event_is = same; adds = adds; ticket = next } } in
      subst (λ b. Stands moves b t' event q u) here (subst (λ v. Stands moves p v event q u) this stands)

  -- a book that keeps no lines has none, whichever comes
  pub unkept : (p : BookView S E O) (e : Line E O) → Reached moves begins p → p.keep ≡ 0 → p.tail ≡ take p.keep (e ∷ p.tail)
  unkept p e r none = r.fits.tail ∙ ap (λ k. take k r.lines) none ∙ sym (ap (λ k. take k (e ∷ p.tail)) none)

  -- the line of a step is the newest of a history
  newest : (p q : BookView S E O) (e : Line E O) → Reached moves begins p → e.worker < length p.counts → Adds moves p e q → IsLast moves begins e
  newest p q e r inside a = record {
    workers = length p.counts;
    start = r.start;
    begun = r.begun;
    older = r.lines;
    state = q.state;
    legal = (p.state, r.fits.legal, a.step, inside, a.number ∙ r.fits.counts e.worker inside);
  }

  -- what a line says of a step that was not refused
  pub given : (p q : BookView S E O) (t u : TicketView) (event kept : E) (e : Line E O) (out : Result O Starved) → out ≡ e.out → kept ≡ event
      → IsLast moves begins e → Takes moves p t kept e q u → IfOk out (λ o. Gives moves begins p t event o q u)
  given p q t u event kept e (Err starved) is same last takes = tt
  given p q t u event kept e (Ok o) is same last takes = record {
    entry = e;
    last = last;
    takes = record { worker = takes.worker; number = takes.number; event_is = takes.event_is ∙ same; adds = takes.adds; ticket = takes.ticket };
    gave = sym is;
  }

  -- the same of a step whose line is not made, told of the book and the ticket as they were handed in
  pub gave : (p p' q : BookView S E O) (t t' u : TicketView) (event : E) (out : Result O Starved) → p ≡ p' → t ≡ t' → u ≡ ticket_view t.worker (t.count + 1)
      → Reached moves begins p → t.worker < length p.counts → Adds moves p (line t.worker t.count event out) q → IfOk out (λ o. Gives moves begins p' t' event o q u)
  gave p p' q t t' u event out here this next r inside adds =
      let e = line t.worker t.count event out in
      let all : IfOk out (λ o. Gives moves begins p t event o q u) =
      given p q t u event event e out refl refl (newest p q e r inside adds) (record { worker = refl; number = refl; event_is = refl; adds = adds; ticket = next }) in
      subst (λ b. IfOk out (λ o. Gives moves begins b t' event o q u)) here (subst (λ v. IfOk out (λ o. Gives moves begins p v event o q u)) this all)

  -- a line that was taken stands
  pub restood : (p q : BookView S E O) (t u : TicketView) (event kept : E) (e : Line E O) → kept ≡ event → Takes moves p t kept e q u → Stands moves p t event q u
  restood p q t u event kept e same takes = record {
    entry = e;
    takes = record { worker = takes.worker; number = takes.number; event_is = takes.event_is ∙ same; adds = takes.adds; ticket = takes.ticket };
  }

pub on_err : {T E P : Type 0} (r : Result T E) → P → OnErr r P
on_err (Ok x) h = tt
on_err (Err e) h = h
