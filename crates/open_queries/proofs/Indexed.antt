-- The indexes stay those of the open queries, as one comes and as one goes.
use Rattle.std.proofs.Common.{◌≡◌, ◌≢◌, ℕ, Bool, true, false, cond, nat_eq, inl, inr, Option, Some, None, Result, Ok, Err, OnOk, OnErr, IsErr, List, [], refl, sym, ◌∙◌, ap, subst, arith, slice_index_or, eq-eqb, eqb-true}
use Rattle.std.specs.List.{Contains}
use Rattle.std.specs.Map.{lookup}
use Rattle.std.proofs.lemmas.Bool.{cases_eq, false_from_ne_true}
use Rattle.slab.specs.Slab.{Slab, get, values, Updates}
use Rattle.asks.specs.declared.ask.AskKey.{AskKey}
use Rattle.asks.specs.declared.ask.Waiting.{Waiting}
use Rattle.asks.specs.Waits.{waiting, AreSame, IsChanged}
use Rattle.rdata.specs.declared.addr.Addr.{Addr}
use Rattle.runs.specs.States.{Path, ByUdp, ByTcp, Open, due_moment}
use Rattle.runs.specs.Steps.{AreOthers, AreWith}
use Rattle.open_queries.specs.Lookups.{IsOnStream, IsFreeBy, IsFree, HasNo, IsTheOne}
use Rattle.open_queries.specs.Indexes.{udp_ask, number_by, tcp_ask, is_number, held, LeadsTo, WaitsAs, StreamsTo, AreIndexed}
use Rattle.open_queries.proofs.Slots.{held as in_slots, held-there}
use Rattle.open_queries.proofs.Apart.{remaining, taken-apart, put_in, put-apart}

-- No queries.
no_member : (slots : List (Option Open)) → slots ≡ [] → (q : Open) → Contains (in_slots slots) q → ⊥
no_member slots e q there =
    let there_none : Contains {X = Open} [] q = subst (λ (z : List (Option Open)). Contains (in_slots z) q) e there in
    omega (arith, there_none.1)

no_slot : (slots : List (Option Open)) → slots ≡ [] → (i : ℕ) (q : Open) → slice_index_or slots i None ≡ Some q → ⊥
no_slot slots e i q at = let clash : None ≡ Some q = sym (ap (λ (z : List (Option Open)). slice_index_or z i None) e) ∙ at in cc

pub none_indexed : (s : Slab Open) (keys streams : List (ℕ × ℕ)) (asks : List (ℕ × Waiting)) → s.slots ≡ [] → keys ≡ [] → streams ≡ [] → asks ≡ [] → AreIndexed s keys streams asks
none_indexed s keys streams asks slots_is keys_is streams_is asks_is = record {
  apart = λ i j v w at_i at_j same. absurd (no_slot s.slots slots_is i v at_i);
  keyed = λ n. subst (λ (z : List (ℕ × ℕ)). LeadsTo s n (lookup (nat_eq n) z)) (sym keys_is) (λ q there same. no_member s.slots slots_is q there);
  streamed = λ n. subst (λ (z : List (ℕ × ℕ)). StreamsTo (values s) n (lookup (nat_eq n) z)) (sym streams_is) (λ q there on. no_member s.slots slots_is q there);
  waits = λ n. subst (λ (z : List (ℕ × Waiting)). WaitsAs (values s) n (waiting z n)) (sym asks_is) (λ q there same. no_member s.slots slots_is q there);
}

-- The same in other places.
pub same_indexed : (s t : Slab Open) (keys more streams flows : List (ℕ × ℕ)) (asks after : List (ℕ × Waiting)) → AreIndexed s keys streams asks → t ≡ record s { capacity = t.capacity }
    → ((n : ℕ) → lookup (nat_eq n) more ≡ lookup (nat_eq n) keys) → ((n : ℕ) → lookup (nat_eq n) flows ≡ lookup (nat_eq n) streams) → AreSame asks after → AreIndexed t more flows after
same_indexed s t keys more streams flows asks after h slots same flow still =
    subst (λ (z : Slab Open). AreIndexed z more flows after) (sym slots) record {
      apart = λ i j v w at_i at_j alike. h.apart i j v w at_i at_j alike;
      keyed = λ n. subst (λ (o : Option ℕ). LeadsTo s n o) (sym (same n)) (h.keyed n);
      streamed = λ n. subst (λ (o : Option ℕ). StreamsTo (values s) n o) (sym (flow n)) (h.streamed n);
      waits = λ n. subst (λ (o : Option Waiting). WaitsAs (values s) n o) (sym (still n)) (h.waits n);
    }

-- More room leaves the queries.
pub same_values : (s t : Slab Open) (qs : List Open) → t ≡ record s { capacity = t.capacity } → values s ≡ qs → values t ≡ qs
same_values s t qs roomier is = ap (λ (z : Slab Open). values z) roomier ∙ is

-- What a change at one number leaves at that one, and at others.
at_it : {T : Type 0} (number n : ℕ) (w o r : Option T) → r ≡ cond (nat_eq number n) w o → n ≡ number → r ≡ w
at_it {T} number n w o r e same = e ∙ ap (λ (b : Bool). cond {A = Option T} b w o) (eq-eqb number n (sym same))

elsewhere : {T : Type 0} (number n : ℕ) (w o r : Option T) → r ≡ cond (nat_eq number n) w o → n ≢ number → r ≡ o
elsewhere {T} number n w o r e differs = e ∙ ap (λ (b : Bool). cond {A = Option T} b w o) (false_from_ne_true (nat_eq number n) (λ t. differs (sym (eqb-true number n t))))

-- ---- one more

module _ (old new : Slab Open) (key : ℕ) (added : Open) (vacant : get old key ≡ None) (updates : Updates old new key (Some added)) (keys more streams flows : List (ℕ × ℕ)) (asks after : List (ℕ × Waiting)) (was : AreIndexed old keys streams asks) (fresh : HasNo (values old) added.number) (free : IsFree (values old) added.ask) (placed : (n : ℕ) → lookup (nat_eq n) more ≡ cond (nat_eq added.number n) (Some key) (lookup (nat_eq n) keys)) (streamed : (n : ℕ) → lookup (nat_eq n) flows ≡ cond (is_number n (tcp_ask added.ask)) (Some added.number) (lookup (nat_eq n) streams)) (set : IsChanged added.number (Some (held added)) asks after) where
  with_it : AreWith added (values old) (values new)
  with_it = put_in old new key added was.apart vacant updates fresh

  none_still : (n : ℕ) → n ≢ added.number → HasNo (values old) n → HasNo (values new) n
  none_still n differs none = λ q there same. elim (with_it.only q there) [ inl is ↦ differs (sym same ∙ ap (λ (x : Open). x.number) is) | inr before ↦ none q before.0 same ]

  leads_still : (n : ℕ) → n ≢ added.number → (o : Option ℕ) → LeadsTo old n o → LeadsTo new n o
  leads_still n differs None none = none_still n differs none
  leads_still n differs (Some k) h =
      let other : k ≢ key = λ e. let clash : None ≡ Some h.0 = sym vacant ∙ sym (ap (λ (j : ℕ). get old j) e) ∙ h.1 in cc in
      (h.0, updates.others k other ∙ h.1, h.2)

  the_added : IsTheOne (values new) added.number added
  the_added = record { stands = with_it.is; number_is = refl; alone = λ q there same. elim (with_it.only q there) [ inl is ↦ is | inr before ↦ absurd (before.1 same) ] }

  waits_still : (n : ℕ) → n ≢ added.number → (o : Option Waiting) → WaitsAs (values old) n o → WaitsAs (values new) n o
  waits_still n differs None none = none_still n differs none
  waits_still n differs (Some w) h = (
    h.0,
    record {
      stands = with_it.stay h.0 (h.1).stands (λ e. differs (sym (h.1).number_is ∙ e));
      number_is = (h.1).number_is;
      alone = λ q there same. elim (with_it.only q there) [
        | inl is ↦ absurd (differs (sym same ∙ ap (λ (x : Open). x.number) is))
        | inr before ↦ (h.1).alone q before.0 same
      ];
    },
    h.2,
  )

  streams_still : (n : ℕ) → (IsOnStream n added → ⊥) → (o : Option ℕ) → StreamsTo (values old) n o → StreamsTo (values new) n o
  streams_still n not_it None none = λ q there on. elim (with_it.only q there) [ inl is ↦ not_it (subst (λ (x : Open). IsOnStream n x) is on) | inr before ↦ none q before.0 on ]
  streams_still n not_it (Some k) h =
      let other : (h.0).number ≢ added.number = fresh h.0 (h.1).stands in (
        h.0,
        record {
          stands = with_it.stay h.0 (h.1).stands other;
          number_is = (h.1).number_is;
          alone = λ q there same. elim (with_it.only q there) [
            | inl is ↦ absurd (other ((h.1).number_is ∙ sym same ∙ ap (λ (x : Open). x.number) is))
            | inr before ↦ (h.1).alone q before.0 same
          ];
        },
        h.2,
        λ p there on. elim (with_it.only p there) [ inl is ↦ absurd (not_it (subst (λ (x : Open). IsOnStream n x) is on)) | inr before ↦ h.3 p before.0 on ],
      )

  streamed_by : (path : Path) (server : Addr) (id : ℕ) → (added.ask).path ≡ path → IsFreeBy (values old) path server id
      → ((n : ℕ) → lookup (nat_eq n) flows ≡ cond (is_number n (number_by path)) (Some added.number) (lookup (nat_eq n) streams)) → (n : ℕ) → StreamsTo (values new) n (lookup (nat_eq n) flows)
  streamed_by (ByUdp sock) server id is none put n =
      let not_it : IsOnStream n added → ⊥ = λ on. let clash : ByUdp sock ≡ ByTcp n = sym is ∙ on in cc in
      subst (λ (o : Option ℕ). StreamsTo (values new) n o) (sym (put n)) (streams_still n not_it (lookup (nat_eq n) streams) (was.streamed n))
  streamed_by (ByTcp t) server id is none put n = elim (cases_eq n t) [
    | inl same ↦ subst (λ (o : Option ℕ). StreamsTo (values new) n o) (sym (at_it t n (Some added.number) (lookup (nat_eq n) streams) (lookup (nat_eq n) flows) (put n) same)) (
      added,
      the_added,
      is ∙ ap ByTcp (sym same),
      λ p there on. elim (with_it.only p there) [ inl e ↦ ap (λ (x : Open). x.number) e | inr before ↦ absurd (none p before.0 (on ∙ ap ByTcp same)) ],
    )
    | inr differs ↦
        let not_it : IsOnStream n added → ⊥ = λ on. let same : ByTcp t ≡ ByTcp n = sym is ∙ on in let equal : n ≡ t = cc in differs equal in
        subst (λ (o : Option ℕ). StreamsTo (values new) n o) (sym (elsewhere t n (Some added.number) (lookup (nat_eq n) streams) (lookup (nat_eq n) flows) (put n) differs))
        (streams_still n not_it (lookup (nat_eq n) streams) (was.streamed n))
  ]

  keyed_with : (n : ℕ) → LeadsTo new n (lookup (nat_eq n) more)
  keyed_with n = elim (cases_eq n added.number) [
    | inl same ↦ subst (λ (o : Option ℕ). LeadsTo new n o) (sym (at_it added.number n (Some key) (lookup (nat_eq n) keys) (lookup (nat_eq n) more) (placed n) same)) (added, updates.changed, sym same)
    | inr differs ↦ subst (λ (o : Option ℕ). LeadsTo new n o) (sym (elsewhere added.number n (Some key) (lookup (nat_eq n) keys) (lookup (nat_eq n) more) (placed n) differs)) (leads_still n differs (lookup (nat_eq n) keys) (was.keyed n))
  ]

  waits_with : (n : ℕ) → WaitsAs (values new) n (waiting after n)
  waits_with n = elim (cases_eq n added.number) [
    | inl same ↦ subst (λ (m : ℕ). WaitsAs (values new) m (waiting after m)) (sym same) (subst (λ (o : Option Waiting). WaitsAs (values new) added.number o) (sym set.now_is) (added, the_added, refl))
    | inr differs ↦ subst (λ (o : Option Waiting). WaitsAs (values new) n o) (sym (set.others n differs)) (waits_still n differs (waiting asks n) (was.waits n))
  ]

  with_indexed : AreIndexed new more flows after
  with_indexed = record {
    apart = put-apart old new key added was.apart vacant updates fresh;
    keyed = keyed_with;
    streamed = streamed_by (added.ask).path (added.ask).server (added.ask).id refl free streamed;
    waits = waits_with;
  }

-- What holds where memory was wanting.
pub at_err : {T E P : Type 0} (r : Result T E) → P → OnErr r P
at_err (Ok x) h = tt
at_err (Err e) h = h

pub not_ok : {T E : Type 0} (P : Type 0) (r : Result T E) → IsErr r → OnOk r P
not_ok P (Ok x) h = let clash : false ≡ true = h in cc
not_ok P (Err e) h = tt

-- What was set is what the query waits for.
abbrev pub wait_of : Option AskKey → ℕ → Waiting
wait_of ask due = record { ask = ask; due = due }

set_held : (number : ℕ) (added : Open) (ask : Option AskKey) (due : ℕ) (asks after : List (ℕ × Waiting)) → number ≡ added.number → ask ≡ udp_ask added.ask → due ≡ due_moment added
    → IsChanged number (Some (wait_of ask due)) asks after → IsChanged added.number (Some (held added)) asks after
set_held number added ask due asks after number_is ask_is due_is h =
    let same : wait_of ask due ≡ held added = λ i. record { ask = ask_is i; due = due_is i } in
    subst (λ (n : ℕ). IsChanged n (Some (held added)) asks after) number_is (subst (λ (v : Waiting). IsChanged number (Some v) asks after) same h)

-- What was read of the query is what it has.
pub record IsRead (added : Open) (number : ℕ) (over : Option ℕ) (ask : Option AskKey) (due : ℕ) : Type 0 where
  pub number_is : number ≡ added.number
  pub over_is : over ≡ tcp_ask added.ask
  pub ask_is : ask ≡ udp_ask added.ask
  pub due_is : due ≡ due_moment added

pub put_indexed : (old new : Slab Open) (key : ℕ) (added : Open) (number : ℕ) (over : Option ℕ) (ask : Option AskKey) (due : ℕ) (keys more streams flows : List (ℕ × ℕ)) (asks after : List (ℕ × Waiting))
    → IsRead added number over ask due → get old key ≡ None → Updates old new key (Some added) → AreIndexed old keys streams asks → HasNo (values old) added.number → IsFree (values old) added.ask
    → ((n : ℕ) → lookup (nat_eq n) more ≡ cond (nat_eq number n) (Some key) (lookup (nat_eq n) keys)) → ((n : ℕ) → lookup (nat_eq n) flows ≡ cond (is_number n over) (Some number) (lookup (nat_eq n) streams))
    → IsChanged number (Some (wait_of ask due)) asks after → AreIndexed new more flows after
put_indexed old new key added number over ask due keys more streams flows asks after read vacant updates was fresh free placed streamed set =
    with_indexed old new key added vacant updates keys more streams flows asks after was fresh free
    (λ n. placed n ∙ ap (λ (m : ℕ). cond {A = Option ℕ} (nat_eq m n) (Some key) (lookup (nat_eq n) keys)) read.number_is)
    (λ n. streamed n ∙ (λ i. cond {A = Option ℕ} (is_number n (read.over_is i)) (Some (read.number_is i)) (lookup (nat_eq n) streams)))
    (set_held number added ask due asks after read.number_is read.ask_is read.due_is set)

-- ---- one fewer

pub dropped_of : (w : Open) (over : Option ℕ) (streams flows : List (ℕ × ℕ)) → over ≡ tcp_ask w.ask → ((n : ℕ) → lookup (nat_eq n) flows ≡ cond (is_number n over) None (lookup (nat_eq n) streams))
    → (n : ℕ) → lookup (nat_eq n) flows ≡ cond (is_number n (tcp_ask w.ask)) None (lookup (nat_eq n) streams)
dropped_of w over streams flows over_is h n = h n ∙ ap (λ (o : Option ℕ). cond {A = Option ℕ} (is_number n o) None (lookup (nat_eq n) streams)) over_is

module _ (old new : Slab Open) (number key : ℕ) (w : Open) (there : get old key ≡ Some w) (number_is : w.number ≡ number) (updates : Updates old new key None) (keys fewer streams flows : List (ℕ × ℕ)) (asks after : List (ℕ × Waiting)) (was : AreIndexed old keys streams asks) (dropped : (n : ℕ) → lookup (nat_eq n) fewer ≡ cond (nat_eq number n) None (lookup (nat_eq n) keys)) (left : (n : ℕ) → lookup (nat_eq n) flows ≡ cond (is_number n (tcp_ask w.ask)) None (lookup (nat_eq n) streams)) (cleared : IsChanged number None asks after) where
  others : AreOthers number (values old) (values new)
  others = subst (λ (n : ℕ). AreOthers n (values old) (values new)) number_is (remaining old new key w was.apart there updates)

  gone : (n : ℕ) → n ≡ number → HasNo (values new) n
  gone n same = λ p in_new is. (others.only p in_new).1 (is ∙ same)

  none_left : (n : ℕ) → HasNo (values old) n → HasNo (values new) n
  none_left n none = λ p in_new same. none p (others.only p in_new).0 same

  leads_left : (n : ℕ) → n ≢ number → (o : Option ℕ) → LeadsTo old n o → LeadsTo new n o
  leads_left n differs None none = none_left n none
  leads_left n differs (Some k) h =
      let other : k ≢ key = λ e.
      let at_key : get old key ≡ Some h.0 = sym (ap (λ (j : ℕ). get old j) e) ∙ h.1 in
      let is : h.0 ≡ w = cc in
      differs (sym h.2 ∙ ap (λ (x : Open). x.number) is ∙ number_is)
      in
      (h.0, updates.others k other ∙ h.1, h.2)

  waits_left : (n : ℕ) → n ≢ number → (o : Option Waiting) → WaitsAs (values old) n o → WaitsAs (values new) n o
  waits_left n differs None none = none_left n none
  waits_left n differs (Some v) h = (
    h.0,
    record {
      stands = others.stay h.0 (h.1).stands (λ e. differs (sym (h.1).number_is ∙ e));
      number_is = (h.1).number_is;
      alone = λ p in_new same. (h.1).alone p (others.only p in_new).0 same;
    },
    h.2,
  )

  it_stood : Contains (values old) w
  it_stood = held-there old.slots key w there

  streams_left : (n : ℕ) → (IsOnStream n w → ⊥) → (o : Option ℕ) → StreamsTo (values old) n o → StreamsTo (values new) n o
  streams_left n not_it None none = λ p in_new on. none p (others.only p in_new).0 on
  streams_left n not_it (Some k) h =
      let other : (h.0).number ≢ number = λ e. not_it (subst (λ (x : Open). IsOnStream n x) (sym ((h.1).alone w it_stood (number_is ∙ sym e ∙ (h.1).number_is))) h.2) in (
        h.0,
        record { stands = others.stay h.0 (h.1).stands other; number_is = (h.1).number_is; alone = λ p in_new same. (h.1).alone p (others.only p in_new).0 same },
        h.2,
        λ p in_new on. h.3 p (others.only p in_new).0 on,
      )

  -- Two on one stream have one number.
  one_stream : (n : ℕ) (p q : Open) → Contains (values old) p → IsOnStream n p → Contains (values old) q → IsOnStream n q → (o : Option ℕ) → StreamsTo (values old) n o → p.number ≡ q.number
  one_stream n p q in_p on_p in_q on_q None none = absurd (none p in_p on_p)
  one_stream n p q in_p on_p in_q on_q (Some k) h = h.3 p in_p on_p ∙ sym (h.3 q in_q on_q)

  streamed_by_left : (path : Path) → (w.ask).path ≡ path → ((n : ℕ) → lookup (nat_eq n) flows ≡ cond (is_number n (number_by path)) None (lookup (nat_eq n) streams)) → (n : ℕ) → StreamsTo (values new) n (lookup (nat_eq n) flows)
  streamed_by_left (ByUdp sock) is gone_is n =
      let not_it : IsOnStream n w → ⊥ = λ on. let clash : ByUdp sock ≡ ByTcp n = sym is ∙ on in cc in
      subst (λ (o : Option ℕ). StreamsTo (values new) n o) (sym (gone_is n)) (streams_left n not_it (lookup (nat_eq n) streams) (was.streamed n))
  streamed_by_left (ByTcp t) is gone_is n = elim (cases_eq n t) [
    | inl same ↦ subst (λ (o : Option ℕ). StreamsTo (values new) n o) (sym (at_it t n None (lookup (nat_eq n) streams) (lookup (nat_eq n) flows) (gone_is n) same))
        (λ p in_new on.
        let were = others.only p in_new in
        were.1 (one_stream n p w were.0 on it_stood (is ∙ ap ByTcp (sym same)) (lookup (nat_eq n) streams) (was.streamed n) ∙ number_is))
    | inr differs ↦
        let not_it : IsOnStream n w → ⊥ = λ on. let same : ByTcp t ≡ ByTcp n = sym is ∙ on in let equal : n ≡ t = cc in differs equal in
        subst (λ (o : Option ℕ). StreamsTo (values new) n o) (sym (elsewhere t n None (lookup (nat_eq n) streams) (lookup (nat_eq n) flows) (gone_is n) differs))
        (streams_left n not_it (lookup (nat_eq n) streams) (was.streamed n))
  ]

  keyed_without : (n : ℕ) → LeadsTo new n (lookup (nat_eq n) fewer)
  keyed_without n = elim (cases_eq n number) [
    | inl same ↦ subst (λ (o : Option ℕ). LeadsTo new n o) (sym (at_it number n None (lookup (nat_eq n) keys) (lookup (nat_eq n) fewer) (dropped n) same)) (gone n same)
    | inr differs ↦ subst (λ (o : Option ℕ). LeadsTo new n o) (sym (elsewhere number n None (lookup (nat_eq n) keys) (lookup (nat_eq n) fewer) (dropped n) differs)) (leads_left n differs (lookup (nat_eq n) keys) (was.keyed n))
  ]

  waits_without : (n : ℕ) → WaitsAs (values new) n (waiting after n)
  waits_without n = elim (cases_eq n number) [
    | inl same ↦ subst (λ (o : Option Waiting). WaitsAs (values new) n o) (sym (ap (λ (m : ℕ). waiting after m) same ∙ cleared.now_is)) (gone n same)
    | inr differs ↦ subst (λ (o : Option Waiting). WaitsAs (values new) n o) (sym (cleared.others n differs)) (waits_left n differs (waiting asks n) (was.waits n))
  ]

  pub without_indexed : AreIndexed new fewer flows after
  without_indexed = record {
    apart = taken-apart old new key w was.apart there updates;
    keyed = keyed_without;
    streamed = streamed_by_left (w.ask).path refl left;
    waits = waits_without;
  }
