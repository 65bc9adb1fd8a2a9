-- A cached failure goes down by one at most for each that is cached and each that is used.
use Rattle.std.proofs.Common.{◌≡◌, ◌≢◌, ℕ, zero, suc, ◌+◌, ◌-◌, ◌≤◌, ◌<◌, ◌⊎◌, inl, inr, Bool, true, false, cond, Option, Some, None, List, [], ◌∷◌, Contains, refl, sym, ap, ◌∙◌, subst, arith}
use Rattle.std.proofs.lemmas.Bool.{lt-ltb}
use Rattle.rdata.specs.declared.addr.Addr.{Addr}
use Rattle.wire.specs.declared.via.Via.{Via}
use Rattle.message_grammar.specs.Messages.{Message}
use Rattle.front.specs.declared.queries.Request.{Request}
use Rattle.front.specs.declared.queries.Request.TheVariants as request
use Rattle.lru_laws.specs.Orders.{IsWithin}
use Rattle.lru_laws.proofs.Kept.{by_test}
use Rattle.lru_laws.proofs.Places.{within_put, within_kept, within_used, within_found}
use Rattle.classify.specs.Classes.{class_of}
use Rattle.cache.specs.Failures.{FailedAsk, same_failed, after_failed}
use Rattle.cache.specs.FailureLaws.{same_failed_exact}
use Rattle.cache.proofs.Failed.{found_is}
use Rattle.resolution.specs.Jobs.{Home, Stores, with_told, Search, ask_of, is_server_failure, Job, Input, Start, Told, TimedOut, TcpFailed, Point}
use Rattle.resolution.specs.Rules.{PassesOver, Rule, takes, asks, follows, restarts, skips, hears, descends, gives_up, Rules, Enters}
use Rattle.resolution.proofs.Passing.{found_failures, missed_failures}
use Rattle.runs.specs.States.{Event, Client, Datagram, TcpReply, Tick, Action, Served, OpenQuery, Turn, Plain, via_of, Open, Site, State, moved}
use Rattle.runs.specs.States as event
use Rattle.runs.specs.Messages.{Brings}
use Rattle.runs.specs.Steps.{IsInput, IsOpened, at_once, crowded, admitted, IsHandled, IsIgnored, ServesOpen, IsTicked, IsTurn, Step}
use Rattle.runs.specs.Runs.{Run}
use Rattle.runs.proofs.Clocks.{clock_of_run}
use Rattle.laws.specs.KeptFailures.{rule_uses, rules_uses, enters_failed, call_failures, step_failures, AcceptsFailure, FailureIsLooked, is_one, IsFailureSince, FailureIsFound}
use Rattle.laws.specs.Opens.{Call, handled_call, hears_call, either_call, ticked_call, turn_call, step_call}
use Rattle.laws.proofs.Discipline.{open_by_run}
use Rattle.laws.proofs.FailureKept.{class_failures}
use Rattle.laws.proofs.FollowedStores.{comes_stores}
use Rattle.laws.proofs.Looked.{told_is}
use Rattle.laws.proofs.NewSearches.{told_accepts, IsCallFor, turn_for}
use Rattle.laws.proofs.OrderlyLists.{same_number}
use Rattle.laws.proofs.Room.{room_stays}
use Rattle.laws.proofs.Skipped.{same_after}
use Rattle.laws.proofs.TimelyOpens.{not_nobody}

abbrev Failures : Type 0
Failures = List (FailedAsk × ℕ)

-- ---- places

module _ (f : FailedAsk) (since : ℕ) where
  -- Among the first n at most.
  abbrev IsNear : ℕ → Failures → Type 0
  IsNear n es = (m : ℕ) × (m ≤ n) × IsWithin same_failed m f since es

  near_same : (n : ℕ) (old new : Failures) → new ≡ old → IsNear n old → IsNear (n + 0) new
  near_same n old new e (m, le, w) = subst (IsNear (n + 0)) (sym e) (m, omega (arith, le), w)

  near_passed : (now k n : ℕ) (s : Search) (fs : Failures) (t : Search) (gs : Failures) → PassesOver now k s fs t gs → IsNear n fs → IsNear (n + k) gs
  near_passed now zero n s fs t gs (same, is) near = near_same n fs gs is near
  near_passed now (suc k) n s fs t gs (mid, held, server, before, next, fails, one, is) near =
      let (m, le, w) = near_passed now k n s fs mid held before near in
      subst (IsNear (n + suc k)) (sym is) (suc m, omega (arith, le), within_used same_failed same_failed_exact m f (ask_of mid server) since held w)

  module _ (home : Home) (now : ℕ) where
    near_rule : (n : ℕ) (a b : Point) → (rule : Rule home now a b) → IsNear n (a.stores).failures → IsNear (n + rule_uses home now a b rule) (b.stores).failures
    near_rule n a b (takes l t g u j) near = near_same n (a.stores).failures (b.stores).failures (found_failures home now _ _ a.stores l b.stores g) near
    near_rule n a b (asks c t m u j) near = near_same n (a.stores).failures (b.stores).failures (missed_failures home now _ _ a.stores c b.stores m) near
    near_rule n a b (follows l r t is few u j e) near = near_same n (a.stores).failures (b.stores).failures (ap (λ (x : Stores). x.failures) e) near
    near_rule n a b (restarts l d front back t is whole fresh dead u j e) near = near_same n (a.stores).failures (b.stores).failures (ap (λ (x : Stores). x.failures) e) near
    near_rule n a b (skips k s u rest failures t searches passes free v j e) near =
        subst (IsNear (n + suc k)) (sym (ap (λ (x : Stores). x.failures) e)) (near_passed now (suc k) n s (a.stores).failures u failures passes near)
    near_rule n a b (hears before around rest m l marks t turn g h u j) near = near_same n (a.stores).failures (b.stores).failures (found_failures home now _ _ a.stores l b.stores g) near
    near_rule n a b (descends s rest m c t turn k u j) near = near_same n (a.stores).failures (b.stores).failures (missed_failures home now _ _ a.stores c b.stores k) near
    near_rule n a b (gives_up s around rest t up u j e) near = near_same n (a.stores).failures (b.stores).failures (ap (λ (x : Stores). x.failures) e) near

    near_rules : (n count : ℕ) (a b : Point) → (rules : Rules home now count a b) → IsNear n (a.stores).failures → IsNear (n + rules_uses home now count a b rules) (b.stores).failures
    near_rules n zero a b e near = near_same n (a.stores).failures (b.stores).failures (ap (λ (p : Point). (p.stores).failures) e) near
    near_rules n (suc count) a b (mid, before, rule) near =
        let x = rules_uses home now count a mid before in
        let y = rule_uses home now mid b rule in
        let same : n + x + y ≡ n + (x + y) = omega arith in
        subst (λ (z : ℕ). IsNear z (b.stores).failures) same (near_rule (n + x) mid b rule (near_rules n count a mid before near))

-- ---- what an input does

-- The failures after one was cached, if one was.
abbrev took : ℕ → ℕ → Option FailedAsk → Failures → Failures
took cap now None es = es
took cap now (Some f) es = after_failed cap f now es

told_took : (now : ℕ) (server : Addr) (m : Message) (s : Search) (stores : Stores) → (with_told now s server m stores).failures ≡ took stores.failures_cap now (cond (is_server_failure m) (Some (ask_of s server)) None) stores.failures
told_took now server m s stores = by (is_server_failure m)
  where
    by : (b : Bool) → cond b (after_failed stores.failures_cap (ask_of s server) now stores.failures) stores.failures ≡ took stores.failures_cap now (cond b (Some (ask_of s server)) None) stores.failures
    by true = refl
    by false = refl

enters_took : (now : ℕ) (input : Input) (j : Job) (stores : Stores) (p : Point) → (h : Enters now input j stores p) → (p.stores).failures ≡ took stores.failures_cap now (enters_failed now input j stores p h) stores.failures
enters_took now Start j stores p h = ap (λ (x : Point). (x.stores).failures) h
enters_took now (Told via server m) j stores p (inl (none, h)) = ap (λ (x : Point). (x.stores).failures) h
enters_took now (Told via server m) j stores p (inr (s, rest, top, h)) =
    class_failures now server s rest (class_of (s.frame).zone s.name s.kind via m) j (with_told now s server m stores) p h ∙ told_took now server m s stores
enters_took now (TimedOut server) j stores p h = ap (λ (x : Point). (x.stores).failures) h
enters_took now (TcpFailed server) j stores p h = ap (λ (x : Point). (x.stores).failures) h

some_ask : (f g : FailedAsk) → Some f ≡ Some g → f ≡ g
some_ask f g e = cc

near_took : (f : FailedAsk) (since cap now n : ℕ) (o : Option FailedAsk) (es : Failures) → o ≢ Some f → n + is_one o ≤ cap → IsNear f since n es → IsNear f since (n + is_one o) (took cap now o es)
near_took f since cap now n None es other few near = near_same f since n es es refl near
near_took f since cap now n (Some g) es other few (m, le, w) =
    let apart : same_failed f g ≡ false = by_test (same_failed f g) (λ e. absurd (other (ap Some (sym (same_failed_exact.equal f g e))))) (λ e. e) in
    (suc m, omega (arith, le), within_kept same_failed same_failed_exact cap m f g since now es apart (omega (arith, le, few)) w)

near_first : (f : FailedAsk) (cap now : ℕ) (o : Option FailedAsk) (es : Failures) → o ≡ Some f → IsNear f now 1 (took cap now o es)
near_first f cap now o es e = subst (λ (x : Option FailedAsk). IsNear f now 1 (took cap now x es)) (sym e) (1, omega arith, within_put same_failed same_failed_exact cap f now es)

-- ---- of a call

-- What is left of the stores by a step's call, or without one.
abbrev AreLeft : (s : State) → Option (Call s) → State → Type 0
AreLeft s None new = new.stores ≡ s.stores
AreLeft s (Some call) new = new.stores ≡ call.after

module _ (f : FailedAsk) (since n : ℕ) (s new : State) where
  near_made : (made : Option (Call s)) → AreLeft s made new → (call_failures s made).failed ≢ Some f → n + is_one (call_failures s made).failed ≤ (s.stores).failures_cap → IsNear f since n (s.stores).failures
      → IsNear f since (n + (is_one (call_failures s made).failed + (call_failures s made).uses)) (new.stores).failures
  near_made None left other few near = near_same f since n (s.stores).failures (new.stores).failures (ap (λ (x : Stores). x.failures) left) near
  near_made (Some call) left other few near =
      let a = call.advances in
      let o = enters_failed s.clock call.input call.old s.stores a.first a.enters in
      let x = rules_uses (s.site).home s.clock a.count a.first a.last a.rules in
      let first = subst (IsNear f since (n + is_one o)) (sym (enters_took s.clock call.input call.old s.stores a.first a.enters)) (near_took f since (s.stores).failures_cap s.clock n o (s.stores).failures other few near) in
      let after = near_rules f since (s.site).home s.clock (n + is_one o) a.count a.first a.last a.rules first in
      let same : n + is_one o + x ≡ n + (is_one o + x) = omega arith in
      let stores : new.stores ≡ (a.last).stores = left ∙ same_after (s.site).home s.clock a.last call.next call.new call.after a.leaves in
      subst (λ (z : ℕ). IsNear f since z (new.stores).failures) same (subst (λ (st : Stores). IsNear f since (n + is_one o + x) st.failures) (sym stores) after)

near_kept : (f : FailedAsk) (s new : State) (made : Option (Call s)) → AreLeft s made new → (call_failures s made).failed ≡ Some f → IsNear f s.clock (1 + (call_failures s made).uses) (new.stores).failures
near_kept f s new None left is = absurd (cc)
near_kept f s new (Some call) left is =
    let a = call.advances in
    let o = enters_failed s.clock call.input call.old s.stores a.first a.enters in
    let x = rules_uses (s.site).home s.clock a.count a.first a.last a.rules in
    let first = subst (IsNear f s.clock 1) (sym (enters_took s.clock call.input call.old s.stores a.first a.enters)) (near_first f (s.stores).failures_cap s.clock o (s.stores).failures is) in
    let after = near_rules f s.clock (s.site).home s.clock 1 a.count a.first a.last a.rules first in
    let stores : new.stores ≡ (a.last).stores = left ∙ same_after (s.site).home s.clock a.last call.next call.new call.after a.leaves in
    subst (λ (st : Stores). IsNear f s.clock (1 + x) st.failures) (sym stores) after

-- ---- of a step

module _ (s : State) (served : Served) (new : State) where
  same_left : new ≡ s → AreLeft s None new
  same_left e = ap (λ (x : State). x.stores) e

  handled_left : (client : ℕ) (way : Via) (asked : Request Plain) (out : List Action) → (h : IsHandled s client way asked served out new) → AreLeft s (handled_call s client way asked served out new h) new
  handled_left client way request.Drop out h = same_left h.2
  handled_left client way (request.Refuse refusal start echo) out h = same_left h.2
  handled_left client way (request.Query q) out (inl (rd, h)) = same_left h.state
  handled_left client way (request.Query q) out (inr (rd, h)) = by h.opened
    where
      by : IsOpened s (record { client = client; way = way; query = q }) h.next h.job h.stores served out new → new.stores ≡ h.stores
      by (at_once is over comes) = comes_stores s _ _ _ h.next h.job h.stores out new comes
      by (crowded is asking many e) = ap (λ (x : State). x.stores) e.state
      by (admitted is asking few comes) = comes_stores s _ _ _ h.next h.job h.stores out new comes

  hears_left : (e : Event) (out : List Action) → (h : ServesOpen s e served out new) → AreLeft s (hears_call s e served out new h) new
  hears_left e out h = let v = h.serves in comes_stores s _ _ _ v.next v.job v.stores out new v.comes

  either_left : (e : Event) (out : List Action) → (h : IsIgnored s e served out new ⊎ ServesOpen s e served out new) → AreLeft s (either_call s e served out new h) new
  either_left e out (inl h) = same_left h.state
  either_left e out (inr h) = hears_left e out h

  ticked_left : (now : ℕ) (out : List Action) → (h : IsTicked s now served out new) → AreLeft s (ticked_call s now served out new h) new
  ticked_left now out (inl h) = same_left h.state
  ticked_left now out (inr (first, inl h, followed)) = ap (λ (x : State). x.stores) (h.ends).state
  ticked_left now out (inr (first, inr h, followed)) = hears_left (Tick now) first h

  turn_left : (e : Event) (out : Option (List Action)) → out ≢ None → (h : IsTurn s e served out new) → AreLeft s (turn_call s e served out new h) new
  turn_left e None some h = absurd (some refl)
  turn_left (Client now client way bytes) (Some out) some (asked, reads, h) = handled_left client way asked out h
  turn_left (Datagram now sock from bytes) (Some out) some h = either_left (Datagram now sock from bytes) out h
  turn_left (TcpReply now number bytes) (Some out) some h = either_left (TcpReply now number bytes) out h
  turn_left (event.TcpFailed now number) (Some out) some h = either_left (event.TcpFailed now number) out h
  turn_left (Tick now) (Some out) some h = ticked_left now out h

-- ---- over a run

fourth : (a b c d w x y z : ℕ) → a ∷ b ∷ c ∷ d ∷ [] ≡ w ∷ x ∷ y ∷ z ∷ [] → d ≡ z
fourth a b c d w x y z e = cc

same_cap : (site : Site) (past : List Turn) (old : State) (t : Turn) (new : State) → (legal : Run site past old) → Step old t.event t.served t.out new → (new.stores).failures_cap ≡ (old.stores).failures_cap
same_cap site past old t new legal step = fourth _ _ _ _ _ _ _ _ (room_stays site (t ∷ past) new (old, legal, step) ∙ sym (room_stays site past old legal))

near_run : (site : Site) (run : List Turn) (s : State) (legal : Run site run s) (f : FailedAsk) (since n : ℕ) → IsFailureSince site f since run s legal n → n < (s.stores).failures_cap → IsNear f since (n + 1) (s.stores).failures
near_run site [] s new f since n none few = absurd none
near_run site (t ∷ past) s (old, legal, step) f since n (fed, inl (kept, at, count)) few =
    let left = turn_left (moved old t.event) t.served s t.event t.out fed step.turn in
    let near = near_kept f (moved old t.event) s (step_call old t s step) left kept in
    let same : 1 + (step_failures old t s step).uses ≡ n + 1 = omega (arith, count) in
    subst (λ (x : ℕ). IsNear f x (n + 1) (s.stores).failures) (sym at) (subst (λ (x : ℕ). IsNear f (moved old t.event).clock x (s.stores).failures) same near)
near_run site (t ∷ past) s (old, legal, step) f since n (fed, inr (other, (m, before, count))) few =
    let cap = same_cap site past old t s legal step in
    let x = step_failures old t s step in
    let less : m < (old.stores).failures_cap = omega (arith, count, few, cap) in
    let room : m + 1 + is_one x.failed ≤ (old.stores).failures_cap = omega (arith, count, few, cap) in
    let near = near_run site past old legal f since m before less in
    let left = turn_left (moved old t.event) t.served s t.event t.out fed step.turn in
    let same : m + 1 + (is_one x.failed + x.uses) ≡ n + 1 = omega (arith, count) in
    subst (λ (z : ℕ). IsNear f since z (s.stores).failures) same (near_made f since (m + 1) (moved old t.event) s (step_call old t s step) left other room near)

pub failure_is_found : FailureIsFound
failure_is_found site run s legal f since n later kept few young =
    let (m, le, w) = near_run site run s legal f since n kept few in
    found_is later f (s.stores).failures since (within_found same_failed m f since (s.stores).failures w) ∙ lt-ltb (later - since) 30000 young

-- ---- what is accepted is what is kept

enters_fails : (now : ℕ) (input : Input) (j : Job) (stores : Stores) (p : Point) → (h : Enters now input j stores p) → (via : Via) (server : Addr) (m : Message) (sought : Search) (others : List Search)
    → input ≡ Told via server m → j.searches ≡ sought ∷ others → is_server_failure m ≡ true → enters_failed now input j stores p h ≡ Some (ask_of sought server)
enters_fails now Start j stores p h via server m sought others told searches is = absurd (cc)
enters_fails now (Told v a n) j stores p (inl (none, h)) via server m sought others told searches is = absurd (cc)
enters_fails now (Told v a n) j stores p (inr (s, rest, top, h)) via server m sought others told searches is =
    let same : s ≡ sought = cc in
    let from : a ≡ server = cc in
    let message : n ≡ m = cc in
    (λ i. cond (is_server_failure (message i)) (Some (ask_of (same i) (from i))) None) ∙ ap (λ (b : Bool). cond b (Some (ask_of sought server)) None) is
enters_fails now (TimedOut a) j stores p h via server m sought others told searches is = absurd (cc)
enters_fails now (TcpFailed a) j stores p h via server m sought others told searches is = absurd (cc)

-- A failure that is kept is that of a message for a search.
abbrev IsFailureBy : Input → Job → FailedAsk → Type 0
IsFailureBy input j f =
    (via : Via) × (server : Addr) × (m : Message) × (sought : Search) × (others : List Search)
    × (input ≡ Told via server m) × (j.searches ≡ sought ∷ others) × (is_server_failure m ≡ true) × (f ≡ ask_of sought server)

failed_enters : (now : ℕ) (input : Input) (j : Job) (stores : Stores) (p : Point) (f : FailedAsk) → (h : Enters now input j stores p) → enters_failed now input j stores p h ≡ Some f → IsFailureBy input j f
failed_enters now Start j stores p f h is = absurd (cc)
failed_enters now (Told via server m) j stores p f (inl nothing) is = absurd (cc)
failed_enters now (Told via server m) j stores p f (inr (s, rest, top, h)) is = by (is_server_failure m) refl is
  where
    by : (b : Bool) → is_server_failure m ≡ b → cond b (Some (ask_of s server)) None ≡ Some f → IsFailureBy (Told via server m) j f
    by true fails e = (via, server, m, s, rest, refl, top, fails, sym (some_ask (ask_of s server) f e))
    by false fails e = absurd (cc)
failed_enters now (TimedOut server) j stores p f h is = absurd (cc)
failed_enters now (TcpFailed server) j stores p f h is = absurd (cc)

module _ (s : State) (port : ℕ) (here : (s.site).port ≡ port) where
  hears_fails : (e : Event) (served : Served) (out : List Action) (new : State) → (h : ServesOpen s e served out new) → (q : Open) (sought : Search) (others : List Search) (m : Message)
      → h.query ≡ q → (q.job).searches ≡ sought ∷ others → Brings port q.ask e m → is_server_failure m ≡ true → (call_failures s (hears_call s e served out new h)).failed ≡ Some (ask_of sought (q.ask).server)
  hears_fails e served out new h q sought others m same searches brings fails =
      let a = (h.serves).advances in
      enters_fails s.clock h.input (h.query).job s.stores a.first a.enters (via_of ((h.query).ask).path) ((h.query).ask).server m sought others
      (told_is s port e h.query h.input m here h.brings (subst (λ (x : Open). Brings port x.ask e m) (sym same) brings))
      (ap (λ (x : Open). (x.job).searches) same ∙ searches) fails
      ∙ ap (λ (x : Open). Some (ask_of sought (x.ask).server)) same

  turn_fails : (e : Event) (served : Served) (out : List Action) (new : State) → (turn : IsTurn s e served (Some out) new) → (q : Open) (sought : Search) (others : List Search) (m : Message)
      → ((p : Open) → Contains s.queries p → p.number ≡ q.number → p ≡ q) → served ≡ OpenQuery q.number → (q.job).searches ≡ sought ∷ others → Brings port q.ask e m → is_server_failure m ≡ true
      → (call_failures s (turn_call s e served (Some out) new turn)).failed ≡ Some (ask_of sought (q.ask).server)
  turn_fails (Client now client way bytes) served out new turn q sought others m one is searches b fails = absurd b
  turn_fails (Datagram now sock from bytes) served out new (inl h) q sought others m one is searches b fails = absurd (not_nobody q.number (sym h.served_is ∙ is))
  turn_fails (Datagram now sock from bytes) served out new (inr h) q sought others m one is searches b fails =
      hears_fails (Datagram now sock from bytes) served out new h q sought others m (one h.query (h.serves).stands (same_number (sym h.served_is ∙ is))) searches b fails
  turn_fails (TcpReply now number bytes) served out new (inl h) q sought others m one is searches b fails = absurd (not_nobody q.number (sym h.served_is ∙ is))
  turn_fails (TcpReply now number bytes) served out new (inr h) q sought others m one is searches b fails =
      hears_fails (TcpReply now number bytes) served out new h q sought others m (one h.query (h.serves).stands (same_number (sym h.served_is ∙ is))) searches b fails
  turn_fails (event.TcpFailed now number) served out new turn q sought others m one is searches b fails = absurd b
  turn_fails (Tick now) served out new turn q sought others m one is searches b fails = absurd b

module _ (site : Site) (past : List Turn) (old : State) (t : Turn) (new : State) (legal : Run site past old) where
  abbrev s : State
  s = moved old t.event

  port_here : (s.site).port ≡ site.port
  port_here = ap (λ (x : Site). x.port) (clock_of_run site past old legal).1

  fails_out : (o : Option (List Action)) → o ≢ None → (turn : IsTurn s t.event t.served o new) → (q : Open) (sought : Search) (others : List Search) → AcceptsFailure site.port old t q sought others
      → (call_failures s (turn_call s t.event t.served o new turn)).failed ≡ Some (ask_of sought (q.ask).server)
  fails_out None some turn q sought others h = absurd (some refl)
  fails_out (Some out) some turn q sought others h =
      turn_fails s site.port port_here t.event t.served out new turn q sought others h.message (λ p c e. (open_by_run site past old legal).one p q c h.there e) h.served h.searches h.brings h.fails

  abbrev WasAccepted : FailedAsk → Type 0
  WasAccepted f = (q : Open) × (sought : Search) × (others : List Search) × AcceptsFailure site.port old t q sought others × (f ≡ ask_of sought (q.ask).server)

  input_server : (e : Event) (q : Open) (input : Input) (via : Via) (server : Addr) (m : Message) → IsInput s e q input → input ≡ Told via server m → server ≡ (q.ask).server
  input_server (Client now client way bytes) q input via server m h e = absurd h
  input_server (Datagram now sock from bytes) q input via server m (n, brings, is) e = let both : Told (via_of (q.ask).path) (q.ask).server n ≡ Told via server m = sym is ∙ e in cc
  input_server (TcpReply now number bytes) q input via server m (inl (n, brings, is)) e = let both : Told (via_of (q.ask).path) (q.ask).server n ≡ Told via server m = sym is ∙ e in cc
  input_server (TcpReply now number bytes) q input via server m (inr (of, none, is)) e = absurd (let both : TcpFailed (q.ask).server ≡ Told via server m = sym is ∙ e in cc)
  input_server (event.TcpFailed now number) q input via server m (of, is) e = absurd (let both : TcpFailed (q.ask).server ≡ Told via server m = sym is ∙ e in cc)
  input_server (Tick now) q input via server m (due, early, is) e = absurd (let both : TimedOut (q.ask).server ≡ Told via server m = sym is ∙ e in cc)

  by_accepted : (input : Input) (j : Job) (f : FailedAsk) → IsCallFor s t.event t.served input j → IsFailureBy input j f → WasAccepted f
  by_accepted input j f (inl (p, stands, served, same, brings)) (via, server, m, sought, others, told, searches, fails, is) =
      let (accepted, way) = told_accepts s t.event p input via server m brings told in
      let from = input_server t.event p input via server m brings told in (
        p,
        sought,
        others,
        record {
          there = stands;
          served = served;
          searches = sym (ap (λ (x : Job). x.searches) same) ∙ searches;
          message = m;
          brings = subst (λ (n : ℕ). Brings n p.ask t.event m) port_here accepted;
          fails = fails;
        },
        is ∙ ap (ask_of sought) from,
      )
  by_accepted input j f (inr (start, none)) (via, server, m, sought, others, told, searches, fails, is) = absurd (let both : Start ≡ Told via server m = sym start ∙ told in cc)

  accepted_by_call : (made : Option (Call s)) (f : FailedAsk) → ((call : Call s) → made ≡ Some call → IsCallFor s t.event t.served call.input call.old) → (call_failures s made).failed ≡ Some f → WasAccepted f
  accepted_by_call None f calls is = absurd (cc)
  accepted_by_call (Some call) f calls is =
      by_accepted call.input call.old f (calls call refl) (failed_enters s.clock call.input call.old s.stores (call.advances).first f (call.advances).enters is)

pub failure_is_looked : FailureIsLooked
failure_is_looked site past old t new legal step fed = (
  λ q sought others h. fails_out site past old t new legal t.out fed step.turn q sought others h,
  λ f is. accepted_by_call site past old t new legal (step_call old t new step) f (λ call made. turn_for (moved old t.event) t.event t.served t.out new call step.turn made) is,
)
