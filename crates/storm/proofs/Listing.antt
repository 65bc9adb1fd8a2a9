-- Scripts line by line.
use Rattle.std.proofs.Common.{◌≡◌, ℕ, Bool, inl, inr, List, [], ◌∷◌, ◌++◌, map, refl, sym, ap, ◌∙◌, subst}
use Rattle.std.proofs.lemmas.List.{map-append}
use Rattle.dname.specs.Labels.{Name}
use Rattle.rdata.specs.declared.rtype.RType.{RType}
use Rattle.wire.specs.declared.via.Via.{Via}
use Rattle.script.specs.Orders.{Order as OrderSpec, at, ask, raw, carry, truncate, lose, run, tick, order_seen}
use Rattle.score.specs.Clients.{Queries}
use Rattle.script.specs.declared.order.Order.{Order}
use Rattle.script.specs.declared.order.Order.TheVariants as given
use Rattle.storm.specs.Lists.{AsksOne, AsksQueries, AsksAll, HasOther, OneHasOther}
use Rattle.storm.specs.declared.query.StormQuery.{StormQuery}

-- The moment behind these lines.
abbrev pub moment_after : ℕ → List OrderSpec → ℕ
moment_after now [] = now
moment_after now (at n ∷ os) = moment_after n os
moment_after now (ask name kind by rd ∷ os) = moment_after now os
moment_after now (raw bytes by ∷ os) = moment_after now os
moment_after now (carry k ∷ os) = moment_after now os
moment_after now (truncate k ∷ os) = moment_after now os
moment_after now (lose k ∷ os) = moment_after now os
moment_after now (run ∷ os) = moment_after now os
moment_after now (tick ∷ os) = moment_after now os

-- So far these queries were asked, and this is the moment.
pub record Listed {A : Type 0} (os : List OrderSpec) (old : Queries) (qs : List (StormQuery A)) (now : ℕ) (new : Queries) : Type 0 where
  pub moment : now ≡ moment_after 0 os
  pub asks : AsksQueries 0 os old qs new

pub no_line : {A : Type 0} (old : Queries) → Listed {A = A} [] old [] 0 old
no_line old = record { moment = refl; asks = (refl, refl) }

-- ---- one line more

later : (now : ℕ) (os : List OrderSpec) (n : ℕ) → moment_after now (os ++ at n ∷ []) ≡ n
later now [] n = refl
later now (at m ∷ os) n = later m os n
later now (ask name kind by rd ∷ os) n = later now os n
later now (raw bytes by ∷ os) n = later now os n
later now (carry k ∷ os) n = later now os n
later now (truncate k ∷ os) n = later now os n
later now (lose k ∷ os) n = later now os n
later now (run ∷ os) n = later now os n
later now (tick ∷ os) n = later now os n

unmoved : (now : ℕ) (os : List OrderSpec) (name : Name) (kind : RType) (by : Via) (rd : Bool) → moment_after now (os ++ ask name kind by rd ∷ []) ≡ moment_after now os
unmoved now [] name kind by rd = refl
unmoved now (at m ∷ os) name kind by rd = unmoved m os name kind by rd
unmoved now (ask it of way wish ∷ os) name kind by rd = unmoved now os name kind by rd
unmoved now (raw bytes way ∷ os) name kind by rd = unmoved now os name kind by rd
unmoved now (carry k ∷ os) name kind by rd = unmoved now os name kind by rd
unmoved now (truncate k ∷ os) name kind by rd = unmoved now os name kind by rd
unmoved now (lose k ∷ os) name kind by rd = unmoved now os name kind by rd
unmoved now (run ∷ os) name kind by rd = unmoved now os name kind by rd
unmoved now (tick ∷ os) name kind by rd = unmoved now os name kind by rd

waits : {A : Type 0} (now : ℕ) (os : List OrderSpec) (old : Queries) (qs : List (StormQuery A)) (new : Queries) (n : ℕ) → AsksQueries now os old qs new → AsksQueries now (os ++ at n ∷ []) old qs new
waits now [] old qs new n h = h
waits now (at m ∷ os) old qs new n h = waits m os old qs new n h
waits now (ask name kind by rd ∷ os) old qs new n (q, rest, middle, is, one, more) = (q, rest, middle, is, one, waits now os middle rest new n more)
waits now (raw bytes by ∷ os) old qs new n h = absurd h
waits now (carry k ∷ os) old qs new n h = absurd h
waits now (truncate k ∷ os) old qs new n h = absurd h
waits now (lose k ∷ os) old qs new n h = absurd h
waits now (run ∷ os) old qs new n h = absurd h
waits now (tick ∷ os) old qs new n h = absurd h

module _ {A : Type 0} (name : Name) (kind : RType) (by : Via) (rd : Bool) (q : StormQuery A) (new : Queries) where
  asks_then : (now : ℕ) (os : List OrderSpec) (old : Queries) (qs : List (StormQuery A)) (middle : Queries) → AsksQueries now os old qs middle
      → AsksOne (moment_after now os) name kind by rd q middle new → AsksQueries now (os ++ ask name kind by rd ∷ []) old (qs ++ q ∷ []) new
  asks_then now [] old qs middle (none, same) one =
      (q, [], new, ap (λ (l : List (StormQuery A)). l ++ q ∷ []) none, subst (λ (m : Queries). AsksOne now name kind by rd q m new) same one, (refl, refl))
  asks_then now (at m ∷ os) old qs middle h one = asks_then m os old qs middle h one
  asks_then now (ask it of way wish ∷ os) old qs middle (p, rest, between, is, first, more) one =
      (p, rest ++ q ∷ [], between, ap (λ (l : List (StormQuery A)). l ++ q ∷ []) is, first, asks_then now os between rest middle more one)
  asks_then now (raw bytes way ∷ os) old qs middle h one = absurd h
  asks_then now (carry k ∷ os) old qs middle h one = absurd h
  asks_then now (truncate k ∷ os) old qs middle h one = absurd h
  asks_then now (lose k ∷ os) old qs middle h one = absurd h
  asks_then now (run ∷ os) old qs middle h one = absurd h
  asks_then now (tick ∷ os) old qs middle h one = absurd h

pub at_more : {A O : Type 0} (view : O → OrderSpec) (xs : List O) (x : O) (old : Queries) (qs : List (StormQuery A)) (now n : ℕ) (new : Queries) → Listed (map view xs) old qs now new
    → view x ≡ at n → Listed (map view (xs ++ x ∷ [])) old qs n new
at_more {A} {O} view xs x old qs now n new h is =
    let lines : map view xs ++ at n ∷ [] ≡ map view (xs ++ x ∷ []) = ap (λ (o : OrderSpec). map view xs ++ o ∷ []) (sym is) ∙ sym (map-append view xs (x ∷ [])) in
    subst (λ (os : List OrderSpec). Listed os old qs n new) lines (record { moment = sym (later 0 (map view xs) n); asks = waits 0 (map view xs) old qs new n h.asks })

pub ask_more : {A O : Type 0} (view : O → OrderSpec) (xs : List O) (x : O) (old : Queries) (qs ps : List (StormQuery A)) (now : ℕ) (middle new : Queries) (name : Name) (kind : RType) (by : Via) (rd : Bool) (q : StormQuery A)
    → Listed (map view xs) old qs now middle → view x ≡ ask name kind by rd → AsksOne now name kind by rd q middle new → ps ≡ qs ++ q ∷ []
    → Listed (map view (xs ++ x ∷ [])) old ps now new
ask_more {A} {O} view xs x old qs ps now middle new name kind by rd q h is one longer =
    let lines : map view xs ++ ask name kind by rd ∷ [] ≡ map view (xs ++ x ∷ []) = ap (λ (o : OrderSpec). map view xs ++ o ∷ []) (sym is) ∙ sym (map-append view xs (x ∷ [])) in
    let here : AsksOne (moment_after 0 (map view xs)) name kind by rd q middle new = subst (λ (n : ℕ). AsksOne n name kind by rd q middle new) h.moment one in
    let list : Listed (map view xs ++ ask name kind by rd ∷ []) old (qs ++ q ∷ []) now new = record {
      moment = h.moment ∙ sym (unmoved 0 (map view xs) name kind by rd);
      asks = asks_then name kind by rd q new 0 (map view xs) old qs middle h.asks here;
    } in
    subst (λ (l : List (StormQuery A)). Listed (map view (xs ++ x ∷ [])) old l now new) (sym longer) (subst (λ (os : List OrderSpec). Listed os old (qs ++ q ∷ []) now new) lines list)

-- ---- one script more

all_then : {A : Type 0} (scripts : List (List OrderSpec)) (script : List OrderSpec) (old : Queries) (lists : List (List (StormQuery A))) (middle : Queries) (list : List (StormQuery A)) (new : Queries)
    → AsksAll scripts old lists middle → AsksQueries 0 script middle list new → AsksAll (scripts ++ script ∷ []) old (lists ++ list ∷ []) new
all_then {A} [] script old lists middle list new (none, same) one =
    (list, [], new, ap (λ (l : List (List (StormQuery A))). l ++ list ∷ []) none, subst (λ (m : Queries). AsksQueries 0 script m list new) same one, (refl, refl))
all_then {A} (first ∷ scripts) script old lists middle list new (l, rest, between, is, asks, more) one =
    (l, rest ++ list ∷ [], between, ap (λ (ls : List (List (StormQuery A))). ls ++ list ∷ []) is, asks, all_then scripts script between rest middle list new more one)

pub script_more : {A X Y : Type 0} (view : X → List OrderSpec) (items : Y → List (StormQuery A)) (xs : List X) (x : X) (ys zs : List Y) (y : Y) (old middle new : Queries)
    → AsksAll (map view xs) old (map items ys) middle → AsksQueries 0 (view x) middle (items y) new → zs ≡ ys ++ y ∷ []
    → AsksAll (map view (xs ++ x ∷ [])) old (map items zs) new
script_more {A} {X} {Y} view items xs x ys zs y old middle new h one longer =
    let scripts : map view xs ++ view x ∷ [] ≡ map view (xs ++ x ∷ []) = sym (map-append view xs (x ∷ [])) in
    let lists : map items ys ++ items y ∷ [] ≡ map items zs = sym (map-append items ys (y ∷ [])) ∙ ap (λ (l : List Y). map items l) (sym longer) in
    subst (λ (ls : List (List (StormQuery A))). AsksAll (map view (xs ++ x ∷ [])) old ls new) lists
    (subst (λ (ss : List (List OrderSpec)). AsksAll ss old (map items ys ++ items y ∷ []) new) scripts
    (all_then (map view xs) (view x) old (map items ys) middle (items y) new h one))

-- ---- a line of another kind

is_other : {H : Type 0} (o : Order H) → ((n : ℕ) → o ≡ given.At n → ⊥) → ((n : Name) (t : RType) (v : Via) (r : Bool) → o ≡ given.Ask n t v r → ⊥) → HasOther (order_seen o ∷ [])
is_other (given.At n) no_at no_ask = no_at n refl
is_other (given.Ask n t v r) no_at no_ask = no_ask n t v r refl
is_other (given.Raw bytes v) no_at no_ask = tt
is_other (given.Carry n) no_at no_ask = tt
is_other (given.Truncate n) no_at no_ask = tt
is_other (given.Lose n) no_at no_ask = tt
is_other given.Run no_at no_ask = tt
is_other given.Tick no_at no_ask = tt

among : (os ps : List OrderSpec) (o : OrderSpec) → HasOther (o ∷ []) → HasOther (os ++ o ∷ ps)
among [] ps (at n) h = absurd h
among [] ps (ask name kind by rd) h = absurd h
among [] ps (raw bytes by) h = tt
among [] ps (carry k) h = tt
among [] ps (truncate k) h = tt
among [] ps (lose k) h = tt
among [] ps run h = tt
among [] ps tick h = tt
among (at n ∷ os) ps o h = among os ps o h
among (ask name kind by rd ∷ os) ps o h = among os ps o h
among (raw bytes by ∷ os) ps o h = tt
among (carry k ∷ os) ps o h = tt
among (truncate k ∷ os) ps o h = tt
among (lose k ∷ os) ps o h = tt
among (run ∷ os) ps o h = tt
among (tick ∷ os) ps o h = tt

pub other_among : {H : Type 0} (script front rest : List (Order H)) (o : Order H) → script ≡ front ++ o ∷ rest → ((n : ℕ) → o ≡ given.At n → ⊥)
    → ((n : Name) (t : RType) (v : Via) (r : Bool) → o ≡ given.Ask n t v r → ⊥) → HasOther (map order_seen script)
other_among {H} script front rest o is no_at no_ask =
    subst HasOther (sym (map-append order_seen front (o ∷ rest)) ∙ ap (map order_seen) (sym is)) (among (map order_seen front) (map order_seen rest) (order_seen o) (is_other o no_at no_ask))

one_among : (ss ts : List (List OrderSpec)) (s : List OrderSpec) → HasOther s → OneHasOther (ss ++ s ∷ ts)
one_among [] ts s h = inl h
one_among (r ∷ ss) ts s h = inr (one_among ss ts s h)

pub script_among : {X : Type 0} (view : X → List OrderSpec) (scripts front rest : List X) (x : X) → scripts ≡ front ++ x ∷ rest → HasOther (view x) → OneHasOther (map view scripts)
script_among {X} view scripts front rest x is h =
    subst OneHasOther (sym (map-append view front (x ∷ rest)) ∙ ap (map view) (sym is)) (one_among (map view front) (map view rest) (view x) h)
