-- Every reply that a script counts is right.
use Rattle.std.proofs.Common.{◌≡◌, refl, ℕ, zero, suc, ◌+◌, ◌-◌, ◌<◌, ◌≤◌, ◌⊎◌, inl, inr, ⊎_elim, Bool, true, false, cond, nat_eq, Option, Some, None, List, [], ◌∷◌, ◌++◌, length, take, sym, ◌∙◌, ap, subst, arith}
use Rattle.std.specs.Prelude.{Contains, slice_get}
use Rattle.std.proofs.lemmas.Bool.Decides.{nat_tests}
use Rattle.std.proofs.lemmas.List.{length_push}
use Rattle.zone.proofs.LawLists.{first_in, later_in, in_cases}
use Rattle.dname.specs.Labels.{Name}
use Rattle.rdata.specs.Types.{type_number}
use Rattle.causes.specs.declared.cause.Cause.{Cause}
use Rattle.wire.specs.declared.via.Via.{Via}
use Rattle.wire.specs.declared.via.Via.TheVariants.{Udp, Tcp}
use Rattle.message_grammar.specs.Messages.{encoding}
use Rattle.front.specs.Queries.{IsRequest}
use Rattle.front.specs.declared.queries.Query.{Query}
use Rattle.front.specs.declared.queries.Request.{Request}
use Rattle.front.specs.declared.queries.Request.TheVariants as request
use Rattle.front.proofs.Single.{asked_once}
use Rattle.world_truth.specs.Worlds.{World, IsWorld}
use Rattle.world_truth.specs.Replies.{IsRight}
use Rattle.runs.specs.States.{Plain, Site, recursive}
use Rattle.laws.specs.Headline.{IsHomeIn, IsRightReply}
use Rattle.script.specs.Orders.{Order, at, ask, raw, carry, truncate, lose, run, tick}
use Rattle.network.specs.Networks.{Network, NetworkEvent, Client, CarryTruncated, Lose, Tick, NetworkAction, Reply, WasSent, WasAsked, MoreDue, NetworkStep}
use Rattle.network.specs.Laws.{Line, IsFresh, NetworkRun, NetworkHeadline, RefusesLine, IsAnswered}
use Rattle.network.proofs.Follows.{heard_of}
use Rattle.score.specs.Clients.{Queries, recursive_in, known, query_for, query_of}
use Rattle.score.specs.Counts.{IsFailure, IsRightFor, IsCountedFor}
use Rattle.score.specs.Sends.{way_at, taken_off}
use Rattle.score.specs.declared.sends.Mark.{Mark}
use Rattle.score.specs.declared.count.Count.{Count}
use Rattle.play.specs.Counts.{Counts, CountsAll}
use Rattle.play.specs.Plays.{Seen, State, out_of, Happens, Occurs, SendsQuery, coming, without, Carries, take_truncated, Runs, Does, Plays, beginning, last_line}
use Rattle.play.specs.Shown.{client_of}
use Rattle.play.specs.Played.{IsReady, IsPlayed}

-- ---- clients and their numbers

positive : (k : ℕ) → nat_eq (suc k) 0 ≡ false
positive k = grind (arith, nat_tests)

one_less : (k : ℕ) → suc k - 1 ≡ k
one_less k = omega arith

query_next : (queries : Queries) (c : ℕ) → query_of queries (suc c) ≡ known (slice_get queries c)
query_next queries c = rw (positive c, one_less c) refl

known_before : {X : Type 0} (xs ys : List X) (i : ℕ) → i < length xs → slice_get (xs ++ ys) i ≡ slice_get xs i
known_before [] ys i lt = absurd (omega (arith, lt))
known_before (x ∷ xs) ys zero lt = refl
known_before (x ∷ xs) ys (suc i) lt = known_before xs ys i (omega (arith, lt))

known_last : {X : Type 0} (xs : List X) (y : X) (i : ℕ) → i ≡ length xs → slice_get (xs ++ y ∷ []) i ≡ Some y
known_last [] y zero is = refl
known_last [] y (suc i) is = absurd (omega (arith, is))
known_last (x ∷ xs) y zero is = absurd (omega (arith, is))
known_last (x ∷ xs) y (suc i) is = known_last xs y i (omega (arith, is))

older : (queries : Queries) (q : Option (Query Plain)) (c : ℕ) → c ≤ length queries → query_of (queries ++ q ∷ []) c ≡ query_of queries c
older queries q zero le = refl
older queries q (suc c) le =
    query_next (queries ++ q ∷ []) c ∙ ap known (known_before queries (q ∷ []) c (omega (arith, le))) ∙ sym (query_next queries c)

newest : (queries : Queries) (q : Option (Query Plain)) (c : ℕ) → c ≡ length queries → query_of (queries ++ q ∷ []) (suc c) ≡ q
newest queries q c is = query_next (queries ++ q ∷ []) c ∙ ap known (known_last queries q c is)

-- What each client of the lines asks is known under its number.
pub record Knows (queries : Queries) (c : ℕ) (bytes : List ℕ) : Type 0 where
  pub below : c ≤ length queries
  pub is : (asked : Request Plain) → IsRequest bytes asked → query_of queries c ≡ recursive_in asked

abbrev pub KnowsAll : List Line → Queries → Type 0
KnowsAll lines queries = (l : Line) → Contains lines l → (now c : ℕ) (way : Via) (bytes : List ℕ) → l.event ≡ Client now c way bytes → Knows queries c bytes

-- ---- one reply

right_reply : (W : World) (way : Via) (n : Name) (t : ℕ) (bytes : List ℕ) → IsRightReply W way n t bytes → IsFailure bytes ⊎ IsRight W n t bytes
right_reply W way n t bytes (inl failed) = inl (failed.message, failed.is, failed.rcode)
right_reply W way n t bytes (inr (inl short)) = inr (short.message, short.is, short.to, inl short.bare)
right_reply W way n t bytes (inr (inr whole)) = inr (whole.message, whole.is, whole.to, inr whole.whole)

by_wish : (b : Bool) (p q : Query Plain) → cond b (Some p) None ≡ Some q → (b ≡ true) × (p ≡ q)
by_wish true p q e = (refl, cc)
by_wish false p q e = absurd (cc)

module _ (W : World) (l : Line) (past : List Line) (queries : Queries) (knows : KnowsAll (l ∷ past) queries) where
  to_refused : (client : ℕ) (way : Via) → RefusesLine l client way → query_of queries client ≡ None
  to_refused client way (refusal, start, echo, (now, bytes, is, asked)) = (knows l (first_in l past) now client way bytes is).is (request.Refuse refusal start echo) asked

  to_query : (client : ℕ) (way : Via) (bytes : List ℕ) → RefusesLine l client way ⊎ IsAnswered W l past client way bytes → (q : Query Plain)
      → query_of queries client ≡ Some q → IsFailure bytes ⊎ IsRightFor W q bytes
  to_query client way bytes (inl refused) q e = let none = to_refused client way refused in absurd (cc)
  to_query client way bytes (inr answered) q e =
      let (m, among, (now, sent, is, asked)) = heard_of l past client way answered.query answered.to in
      let (wish, same) = by_wish (recursive answered.query) answered.query q (sym ((knows m among now client way sent is).is (request.Query answered.query) asked) ∙ e) in
      subst (λ (p : Query Plain). IsFailure bytes ⊎ IsRightFor W p bytes) same (right_reply W way (answered.query).name (type_number (answered.query).kind) bytes (answered.right wish))

-- ---- the count

abbrev pub IsEven : Count → Type 0
IsEven c = c.right ≡ c.replies

module _ (W : World) where
  count_even : (o : Option (Query Plain)) (bytes : List ℕ) → ((q : Query Plain) → o ≡ Some q → IsFailure bytes ⊎ IsRightFor W q bytes) → (old new : Count)
      → IsCountedFor W o bytes old new → IsEven old → IsEven new
  count_even None bytes all old new same even = subst IsEven (sym same) even
  count_even (Some q) bytes all old new (inl (failed, same)) even = subst IsEven (sym same) even
  count_even (Some q) bytes all old new (inr (whole, inl (right, one))) even = subst IsEven (sym one) (ap (λ (n : ℕ). n + 1) even)
  count_even (Some q) bytes all old new (inr (whole, inr (wrong, one))) even = ⊎_elim (λ failed. absurd (whole failed)) (λ right. absurd (wrong right)) (all q refl)

  abbrev pub AllRight : Queries → List NetworkAction → Type 0
  AllRight queries out = (client : ℕ) (way : Via) (bytes : List ℕ) (c : Option Cause) → Contains out (Reply client way bytes c) → (q : Query Plain)
      → query_of queries client ≡ Some q → IsFailure bytes ⊎ IsRightFor W q bytes

  action_even : (queries : Queries) (a : NetworkAction) (rest : List NetworkAction) → AllRight queries (a ∷ rest) → (old new : Count) → Counts W queries a old new → IsEven old → IsEven new
  action_even queries (Reply client way bytes c) rest all old new counts even =
      count_even (query_of queries client) bytes (all client way bytes c (first_in (Reply client way bytes c) rest)) old new counts even
  action_even queries (WasSent k) rest all old new same even = subst IsEven (sym same) even
  action_even queries (WasAsked k) rest all old new same even = subst IsEven (sym same) even
  action_even queries MoreDue rest all old new same even = subst IsEven (sym same) even

  out_even : (queries : Queries) (out : List NetworkAction) → AllRight queries out → (old new : Count) → CountsAll W queries out old new → IsEven old → IsEven new
  out_even queries [] all old new same even = subst IsEven (sym same) even
  out_even queries (a ∷ rest) all old new (middle, one, more) even =
      out_even queries rest (λ client way bytes c among. all client way bytes c (later_in a _ rest among)) middle new more (action_even queries a rest all old middle one even)

-- ---- events, orders, scripts

-- Lines that led here, whose clients are known, and a count that is even.
pub record KeptIn (W : World) (site : Site) (s : Seen) : Type 0 where
  pub lines : List Line
  pub run : NetworkRun W site lines s.network
  pub world : (s.network).world ≡ W
  pub knows : KnowsAll lines s.clients
  pub even : IsEven s.count

module _ (W : World) (site : Site) (law : NetworkHeadline) (well : IsWorld W) (home : IsHomeIn W site.home) where
  abbrev pub Kept : Seen → Type 0
  Kept s = KeptIn W site s

  out_right : (event : NetworkEvent) (out : Option (List NetworkAction)) (lines : List Line) (s : Network) (queries : Queries)
      → NetworkRun W site (record { event = event; out = out } ∷ lines) s → KnowsAll (record { event = event; out = out } ∷ lines) queries → AllRight W queries (out_of out)
  out_right event None lines s queries ran knows client way bytes c among q e = let gone = among.1 in absurd (omega arith)
  out_right event (Some out) lines s queries ran knows client way bytes c among q e =
      to_query W (record { event = event; out = Some out }) lines queries knows client way bytes
      ((law W site (record { event = event; out = Some out } ∷ lines) s well home ran).0 client way bytes c among) q e

  happens_kept : (event : NetworkEvent) (old new : Seen) (k : Kept old) (h : Happens event old new) → (new.network).world ≡ W
      → KnowsAll (record { event = event; out = h.out } ∷ k.lines) old.clients → Kept new
  happens_kept event old new k h world knows =
      let ran : NetworkRun W site (record { event = event; out = h.out } ∷ k.lines) new.network = (old.network, k.run, h.step) in
      record {
        lines = record { event = event; out = h.out } ∷ k.lines;
        run = ran;
        world = world;
        knows = subst (KnowsAll (record { event = event; out = h.out } ∷ k.lines)) (sym h.clients) knows;
        even = out_even W old.clients (out_of h.out) (out_right event h.out k.lines new.network old.clients ran knows) old.count new.count
            (subst (λ (V : World). CountsAll V old.clients (out_of h.out) old.count new.count) world h.counts) k.even;
      }

  step_world : (old : Network) (event : NetworkEvent) (out : Option (List NetworkAction)) (new : Network) → NetworkStep old event out new → new.world ≡ old.world
  step_world old event out new (inl (none, quiet, same)) = ap (λ (s : Network). s.world) same
  step_world old event out new (inr (inl (starved, same))) = ap (λ (s : Network). s.world) same
  step_world old event out new (inr (inr passes)) = passes.world

  -- A line of no client.
  others : (event : NetworkEvent) (out : Option (List NetworkAction)) (lines : List Line) (queries : Queries) → client_of event ≡ None → KnowsAll lines queries
      → KnowsAll (record { event = event; out = out } ∷ lines) queries
  others event out lines queries none knows l among now c way bytes is =
      ⊎_elim (λ (same : record { event = event; out = out } ≡ l). let clash : None ≡ Some c = sym none ∙ ap client_of (ap (λ (x : Line). x.event) same ∙ is) in absurd (cc))
      (λ before. knows l before now c way bytes is) (in_cases (record { event = event; out = out }) l lines among)

  -- The line of a client that has the next number.
  module _ (lines : List Line) (queries : Queries) (q : Option (Query Plain)) (knows : KnowsAll lines queries) where
    still : KnowsAll lines (queries ++ q ∷ [])
    still l among now c way bytes is =
        let k = knows l among now c way bytes is in
        record {
          below = let le = k.below in let long = length_push queries q in omega (arith, le, long);
          is = λ asked reads. older queries q c k.below ∙ k.is asked reads;
        }

    newly : (out : Option (List NetworkAction)) (moment : ℕ) (by : Via) (sent : List ℕ) (heard_as : Request Plain) → IsRequest sent heard_as → q ≡ recursive_in heard_as
        → KnowsAll (record { event = Client moment (length queries + 1) by sent; out = out } ∷ lines) (queries ++ q ∷ [])
    newly out moment by sent heard_as hears wish l among now c way bytes is =
        ⊎_elim (λ same. its_own (ap (λ (x : Line). x.event) same ∙ is)) (λ before. still l before now c way bytes is)
        (in_cases (record { event = Client moment (length queries + 1) by sent; out = out }) l lines among)
      where
        its_own : Client moment (length queries + 1) by sent ≡ Client now c way bytes → Knows (queries ++ q ∷ []) c bytes
        its_own e =
            let number : length queries + 1 ≡ c = cc in
            let same_bytes : sent ≡ bytes = cc in
            let next : suc (length queries) ≡ c = omega (arith, number) in
            record {
              below = let long = length_push queries q in omega (arith, number, long);
              is = λ asked reads. ap (query_of (queries ++ q ∷ [])) (sym next) ∙ newest queries q (length queries) refl
                  ∙ wish ∙ ap recursive_in (asked_once bytes heard_as asked (subst (λ (b : List ℕ). IsRequest b heard_as) same_bytes hears) reads);
            }

  occurs_kept : (event : NetworkEvent) (old new : State) → client_of event ≡ None → Kept old.seen → Occurs event old new → Kept new.seen
  occurs_kept event old new none k (moment, h) =
      happens_kept event old.seen new.seen k h (step_world (old.seen).network event h.out (new.seen).network h.step ∙ k.world) (others event h.out k.lines (old.seen).clients none k.knows)

  marks_kept : (marks : List Mark) (s : State) → Kept s.seen → Kept ((without marks s).seen)
  marks_kept marks s k = record { lines = k.lines; run = k.run; world = k.world; knows = k.knows; even = k.even }

  asks_kept : (way : Via) (bytes : List ℕ) (old new : State) → Kept old.seen → SendsQuery way bytes old new → Kept new.seen
  asks_kept way bytes old new k (queries, (q, (asked, hears, wish), grown), (moment, h)) =
      let begun : Kept (record old.seen { clients = queries }) = record {
        lines = k.lines;
        run = k.run;
        world = k.world;
        knows = subst (KnowsAll k.lines) (sym grown) (still k.lines (old.seen).clients q k.knows);
        even = k.even;
      } in
      happens_kept (Client old.moment (length (old.seen).clients + 1) way bytes) (record old.seen { clients = queries }) new.seen begun h
      (step_world (old.seen).network (Client old.moment (length (old.seen).clients + 1) way bytes) h.out (new.seen).network h.step ∙ k.world)
      (subst (KnowsAll (record { event = Client old.moment (length (old.seen).clients + 1) way bytes; out = h.out } ∷ k.lines)) (sym grown)
      (newly k.lines (old.seen).clients q k.knows h.out old.moment way bytes asked hears wish))

  coming_none : (moment k : ℕ) (way : Option Via) → client_of (coming moment k way) ≡ None
  coming_none moment k None = refl
  coming_none moment k (Some Udp) = refl
  coming_none moment k (Some Tcp) = refl

  carries_kept : (k : ℕ) (old new : State) → Kept old.seen → Carries k old new → Kept new.seen
  carries_kept k old new kept carries =
      occurs_kept (coming old.moment k (way_at (old.seen).sends k)) (without (taken_off (old.seen).sends k) old) new (coming_none old.moment k (way_at (old.seen).sends k))
      (marks_kept (taken_off (old.seen).sends k) old kept) carries

  runs_kept : (rounds : ℕ) (old new : State) → Kept old.seen → Runs rounds old new → Kept new.seen
  runs_kept zero old new kept (none, same) = subst (λ (s : State). Kept s.seen) (sym same) kept
  runs_kept (suc rounds) old new kept (k, middle, lowest, carries, more) = runs_kept rounds middle new (carries_kept k old middle kept carries) more

  does_kept : (o : Order) (old new : State) → Kept old.seen → Does o old new → Kept new.seen
  does_kept (at n) old new kept same = subst (λ (s : State). Kept s.seen) (sym same) kept
  does_kept (ask name kind way rd) old new kept asks =
      asks_kept way (encoding (query_for (length (old.seen).clients + 1) name (type_number kind) rd)) old new kept asks
  does_kept (raw bytes way) old new kept asks = asks_kept way (take 65535 bytes) old new kept asks
  does_kept (carry k) old new kept carries = carries_kept k old new kept carries
  does_kept (truncate k) old new kept occurs =
      occurs_kept (CarryTruncated old.moment k) (without (take_truncated (old.seen).sends k (way_at (old.seen).sends k)) old) new refl
      (marks_kept (take_truncated (old.seen).sends k (way_at (old.seen).sends k)) old kept) occurs
  does_kept (lose k) old new kept occurs =
      occurs_kept (Lose old.moment k) (without (taken_off (old.seen).sends k) old) new refl (marks_kept (taken_off (old.seen).sends k) old kept) occurs
  does_kept run old new kept (rounds, runs) = runs_kept rounds old new kept runs
  does_kept tick old new kept occurs = occurs_kept (Tick old.moment) old new refl kept occurs

  pub plays_kept : (os : List Order) (old new : State) → Kept old.seen → Plays os old new → Kept new.seen
  plays_kept [] old new kept same = subst (λ (s : State). Kept s.seen) (sym same) kept
  plays_kept (o ∷ os) old new kept (middle, does, more) = plays_kept os middle new (does_kept o old middle kept does) more

-- Of a whole script.
counted_is_right : (W : World) (site : Site) (orders : List Order) (s : Network) (new : State) → NetworkHeadline → IsWorld W → IsHomeIn W site.home → IsFresh W site s
    → Plays orders (beginning s) new → IsEven (new.seen).count
counted_is_right W site orders s new law well home fresh plays =
    (plays_kept W site law well home orders (beginning s) new
    (record { lines = []; run = fresh; world = fresh.world; knows = λ l among. let gone = among.1 in absurd (omega arith); even = refl }) plays).even

pub is_played : (W : World) (orders : List Order) (begin end : State) (text : List ℕ) → NetworkHeadline → IsWorld W → IsReady W begin → Plays orders begin end
    → text ≡ (end.seen).text ++ last_line (end.seen).count → IsPlayed W orders text
is_played W orders begin end text law well ready plays is =
    let made = (ready.made).resolver in
    record {
      begin = begin;
      ready = ready;
      end = end;
      plays = plays;
      right = counted_is_right W ((ready.network).resolver).site orders ready.network end law well made.home (ready.made).fresh
          (subst (λ (s : State). Plays orders s end) ready.is plays);
      is = is;
    }
