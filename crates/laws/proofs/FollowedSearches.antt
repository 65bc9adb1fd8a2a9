-- The outermost search is for the query's own name, and its open ask for what the innermost one seeks.
use Rattle.std.proofs.Common.{◌≡◌, ℕ, zero, suc, inl, inr, Option, Some, None, List, [], ◌∷◌, Contains, refl, sym, ap, ◌∙◌, subst}
use Rattle.lru.proofs.Splits.{Contains-nil}
use Rattle.dname.specs.Labels.{Name}
use Rattle.rdata.specs.declared.addr.Addr.{Addr}
use Rattle.zone.specs.Links.{Link}
use Rattle.wire.specs.declared.via.Via.{Via}
use Rattle.front.specs.declared.queries.Request.{Request}
use Rattle.front.specs.declared.queries.Request.TheVariants as request
use Rattle.classify.specs.Classes as class
use Rattle.classify.specs.Classes.{class_of}
use Rattle.frames.specs.Frames.{Failed, opened}
use Rattle.resolution.specs.Jobs.{Home, Stores, level_of, with_told, with_frame, given, Search, Job, Input, Start, Told, TimedOut, TcpFailed, Next, AskUdp, AskTcp, Done, Fail, Task, Seek, Take, Go, Again, Point}
use Rattle.resolution.specs.Rules.{UsesServerAddress, turned, Rule, takes, asks, follows, restarts, skips, hears, descends, gives_up, Rules, IsAnswered, ByClass, Enters, Leaves, sends, sends_again, refuses, spent, looked_out, nowhere, too_long, done, Advances}
use Rattle.resolution.proofs.Passing.{passes_name}
use Rattle.runs.specs.States.{Event, Client, Datagram, TcpReply, Tick, Action, Served, Turn, Plain, ClientQuery, Ask, IsFor, Open, Site, State, job_for, moved}
use Rattle.runs.specs.States as event
use Rattle.runs.specs.Steps.{Comes, IsOpened, at_once, crowded, admitted, IsHandled, ServesOpen, IsTurn}
use Rattle.runs.specs.Runs.{Run}
use Rattle.laws.specs.Searches.{AskIsOfSearch, IsOutermost, Seeks, IsSought, AreSought}

-- ---- along the rules

alike : (n : Name) (t : ℕ) (a b : Search) (rest : List Search) → b.name ≡ a.name → b.kind ≡ a.kind → IsOutermost n t (a ∷ rest) → IsOutermost n t (b ∷ rest)
alike n t a b [] e f h = (e ∙ h.0, f ∙ h.1)
alike n t a b (o ∷ rest) e f h = h

abbrev pub IsRight : Task → Job → Type 0
IsRight Seek j = j.searches ≡ []
IsRight (Take l) j = j.searches ≡ []
IsRight Go j = IsOutermost j.name j.kind j.searches
IsRight (Again server) j = IsOutermost j.name j.kind j.searches

heard_name : (stores : Stores) (n : Name) (l : Link) (before : Search) (failed : Failed) (after : Search) (marks : Failed) → UsesServerAddress stores n l before failed after marks
    → (after.name ≡ before.name) × (after.kind ≡ before.kind)
heard_name stores n l before failed after marks h = elim h.is [
  | inl x ↦ (ap (λ (s : Search). s.name) x.4, ap (λ (s : Search). s.kind) x.4)
  | inr x ↦ (ap (λ (s : Search). s.name) x.1, ap (λ (s : Search). s.kind) x.1)
]

right_at : (p : Point) (task : Task) (job : Job) → p.task ≡ task → p.job ≡ job → IsRight task job → IsRight p.task p.job
right_at p task job e f h = subst (λ (k : Task). IsRight k p.job) (sym e) (subst (IsRight task) (sym f) h)

module _ (home : Home) (now : ℕ) where
  right_rule : (a b : Point) → IsRight a.task a.job → Rule home now a b → IsRight b.task b.job
  right_rule a b h (takes l t f u j) = right_at b (Take l) a.job u j (subst (λ (k : Task). IsRight k a.job) t h)
  right_rule a b h (asks c t m u j) = right_at b Go _ u j (refl, refl)
  right_rule a b h (follows l r t is few u j e) = right_at b Seek _ u j (subst (λ (k : Task). IsRight k a.job) t h)
  right_rule a b h (restarts l d front back t is whole fresh dead u j e) = right_at b Seek _ u j refl
  right_rule a b h (skips n s u rest failures t searches passes free v j e) =
      let top : IsOutermost (a.job).name (a.job).kind (s ∷ rest) = subst (IsOutermost (a.job).name (a.job).kind) searches (subst (λ (k : Task). IsRight k a.job) t h) in
      let (name, kind) = passes_name now (suc n) s (a.stores).failures u failures passes in
      right_at b Go _ v j (alike (a.job).name (a.job).kind s u rest name kind top)
  right_rule a b h (hears before around rest n l marks t turn f g u j) =
      let top : IsOutermost (a.job).name (a.job).kind (before ∷ rest) = subst (IsOutermost (a.job).name (a.job).kind) turn.searches (subst (λ (k : Task). IsRight k a.job) t h) in
      let (name, kind) = heard_name b.stores n l.link (turned (a.job).failed before) (a.job).failed around marks g in
      right_at b Go _ u j (alike (a.job).name (a.job).kind before around rest name kind top)
  right_rule a b h (descends s rest n c t turn m u j) =
      let top : IsOutermost (a.job).name (a.job).kind (s ∷ rest) = subst (IsOutermost (a.job).name (a.job).kind) turn.searches (subst (λ (k : Task). IsRight k a.job) t h) in
      right_at b Go _ u j (alike (a.job).name (a.job).kind s (turned (a.job).failed s) rest refl refl top)
  right_rule a b h (gives_up s around rest t up u j e) =
      right_at b Go _ u j (subst (IsOutermost (a.job).name (a.job).kind) up.searches (subst (λ (k : Task). IsRight k a.job) t h))

  right_rules : (n : ℕ) (a b : Point) → IsRight a.task a.job → Rules home now n a b → IsRight b.task b.job
  right_rules zero a b h e = subst (λ (p : Point). IsRight p.task p.job) (sym e) h
  right_rules (suc n) a b h (mid, more, rule) = right_rule mid b (right_rules n a mid h more) rule

-- What goes out is for the innermost search.
abbrev pub IsAskOf : Next → Job → Type 0
IsAskOf (AskUdp server n t) new = Seeks n t new
IsAskOf (AskTcp server n t) new = Seeks n t new
IsAskOf (Done chain last) new = Unit {0}
IsAskOf (Fail c) new = Unit {0}

right_leaves : (home : Home) (now : ℕ) (p : Point) (next : Next) (new : Job) (after : Stores) → IsRight p.task p.job → Leaves home now p next new after → IsAskOf next new
right_leaves home now p next new after h (sends server s rest is may n j e) =
    let top : IsOutermost (p.job).name (p.job).kind (s ∷ rest) = subst (IsOutermost (p.job).name (p.job).kind) is.searches (subst (λ (k : Task). IsRight k p.job) is.task h) in
    subst (λ (k : Next). IsAskOf k new) (sym n) (subst (Seeks s.name s.kind) (sym j)
    (record { sought = given s; others = rest; searches = refl; name = refl; kind = refl; outermost = alike (p.job).name (p.job).kind s (given s) rest refl refl top }))
right_leaves home now p next new after h (sends_again server s rest is may n j e) =
    let top : IsOutermost (p.job).name (p.job).kind (s ∷ rest) = subst (IsOutermost (p.job).name (p.job).kind) is.searches (subst (λ (k : Task). IsRight k p.job) is.task h) in
    subst (λ (k : Next). IsAskOf k new) (sym n) (subst (Seeks s.name s.kind) (sym j)
    (record { sought = s; others = rest; searches = is.searches; name = refl; kind = refl; outermost = top }))
right_leaves home now p next new after h (refuses c x y others is refused n e) = subst (λ (k : Next). IsAskOf k new) (sym n) tt
right_leaves home now p next new after h (spent x t up n e) = subst (λ (k : Next). IsAskOf k new) (sym n) tt
right_leaves home now p next new after h (looked_out x others m t out n e) = subst (λ (k : Next). IsAskOf k new) (sym n) tt
right_leaves home now p next new after h (nowhere t none n e) = subst (λ (k : Next). IsAskOf k new) (sym n) tt
right_leaves home now p next new after h (too_long l r t is long n e) = subst (λ (k : Next). IsAskOf k new) (sym n) tt
right_leaves home now p next new after h (done l t is fresh n e) = subst (λ (k : Next). IsAskOf k new) (sym n) tt

-- ---- how what comes in is taken up

answered_right : (now : ℕ) (s : Search) (rest : List Search) (l : Link) (j : Job) (stores : Stores) (p : Point) → IsOutermost j.name j.kind (s ∷ rest) → IsAnswered now s rest l j stores p → IsRight p.task p.job
answered_right now s [] l j stores p top (task, job, learnt) = right_at p _ _ task job refl
answered_right now s (around ∷ rest) l j stores p top (after, marks, task, learnt, told, job) =
    let (name, kind) = heard_name p.stores s.name _ around j.failed after marks told in
    right_at p Go _ task job (alike j.name j.kind around after rest name kind top)

class_right : (now : ℕ) (server : Addr) (s : Search) (rest : List Search) (c : class.Class) (j : Job) (stores : Stores) (p : Point) → IsOutermost j.name j.kind (s ∷ rest) → IsOutermost j.name j.kind j.searches
    → ByClass now server s rest c j stores p → IsRight p.task p.job
class_right now server s rest (class.Answer l) j stores p top all h = answered_right now s rest l j stores p top h
class_right now server s rest (class.Referral at ns glue ttl) j stores p top all h = right_at p Go _ h.task h.job (alike j.name j.kind s (with_frame s (opened (level_of stores) (s.frame).nesting h.cut)) rest refl refl top)
class_right now server s rest class.Truncated j stores p top all h = right_at p (Again server) j (ap (λ (x : Point). x.task) h) (ap (λ (x : Point). x.job) h) all
class_right now server s rest (class.Failed f) j stores p top all h = right_at p Go j (ap (λ (x : Point). x.task) h) (ap (λ (x : Point). x.job) h) all

-- A job that begins has no search.
abbrev pub IsReady : Input → Job → Type 0
IsReady Start j = j.searches ≡ []
IsReady (Told via server m) j = IsOutermost j.name j.kind j.searches
IsReady (TimedOut server) j = IsOutermost j.name j.kind j.searches
IsReady (TcpFailed server) j = IsOutermost j.name j.kind j.searches

enters_right : (now : ℕ) (input : Input) (j : Job) (stores : Stores) (p : Point) → IsReady input j → Enters now input j stores p → IsRight p.task p.job
enters_right now Start j stores p ready h = right_at p Seek j (ap (λ (x : Point). x.task) h) (ap (λ (x : Point). x.job) h) ready
enters_right now (Told via server m) j stores p ready (inl (none, h)) = right_at p Go j (ap (λ (x : Point). x.task) h) (ap (λ (x : Point). x.job) h) ready
enters_right now (Told via server m) j stores p ready (inr (s, rest, is, h)) =
    class_right now server s rest (class_of (s.frame).zone s.name s.kind via m) j (with_told now s server m stores) p (subst (IsOutermost j.name j.kind) is ready) ready h
enters_right now (TimedOut server) j stores p ready h = right_at p Go j (ap (λ (x : Point). x.task) h) (ap (λ (x : Point). x.job) h) ready
enters_right now (TcpFailed server) j stores p ready h = right_at p Go j (ap (λ (x : Point). x.task) h) (ap (λ (x : Point). x.job) h) ready

pub call_right : (home : Home) (now : ℕ) (input : Input) (old : Job) (stores : Stores) (next : Next) (new : Job) (after : Stores) → IsReady input old → Advances home now input old stores next new after → IsAskOf next new
call_right home now input old stores next new after ready call =
    right_leaves home now call.last next new after (right_rules home now call.count call.first call.last (enters_right now input old stores call.first ready call.enters) call.rules) call.leaves

-- ---- over runs

ready_of : (q : Open) → IsSought q → IsOutermost (q.job).name (q.job).kind (q.job).searches
ready_of q h = let f = h.found in subst (IsOutermost (q.job).name (q.job).kind) (sym f.searches) f.outermost

asked_found : (server : Addr) (n : Name) (t : ℕ) (ask : Ask) (job : Job) → IsFor server n t ask → Seeks n t job → Seeks ask.name ask.kind job
asked_found server n t ask job for f = record { sought = f.sought; others = f.others; searches = f.searches; name = f.name ∙ sym for.name; kind = f.kind ∙ sym for.kind; outermost = f.outermost }

comes_sought : (s : State) (who : ClientQuery) (k opened : ℕ) (next : Next) (job : Job) (stores : Stores) (out : List Action) (new : State) → AreSought s.queries → IsAskOf next job → Comes s who k opened next job stores out new
    → AreSought new.queries
comes_sought s who k opened (AskUdp server n t) job stores out new all is h q c = elim (((h.waits).queries).only q c) [
  | inl e ↦ subst IsSought (sym e) (record { found = asked_found server n t h.ask job h.for is })
  | inr d ↦ all q d.0
]
comes_sought s who k opened (AskTcp server n t) job stores out new all is h q c = elim (((h.waits).queries).only q c) [
  | inl e ↦ subst IsSought (sym e) (record { found = asked_found server n t h.ask job h.for is })
  | inr d ↦ all q d.0
]
comes_sought s who k opened (Done chain last) job stores out new all is h q c = all q ((h.queries).only q c).0
comes_sought s who k opened (Fail x) job stores out new all is h q c = all q ((h.queries).only q c).0

same_sought : (s new : State) → AreSought s.queries → new ≡ s → AreSought new.queries
same_sought s new all e = subst (λ (x : State). AreSought x.queries) (sym e) all

handled_sought : (s : State) (client : ℕ) (way : Via) (asked : Request Plain) (served : Served) (out : List Action) (new : State) → AreSought s.queries → IsHandled s client way asked served out new → AreSought new.queries
handled_sought s client way request.Drop served out new all h = same_sought s new all h.2
handled_sought s client way (request.Refuse refusal start echo) served out new all h = same_sought s new all h.2
handled_sought s client way (request.Query q) served out new all (inl (rd, h)) = same_sought s new all h.state
handled_sought s client way (request.Query q) served out new all (inr (rd, h)) = by h.opened
  where
    is : IsAskOf h.next h.job
    is = call_right (s.site).home s.clock Start (job_for s.clock q) s.stores h.next h.job h.stores refl h.advances

    by : IsOpened s (record { client = client; way = way; query = q }) h.next h.job h.stores served out new → AreSought new.queries
    by (at_once own over comes) = comes_sought s _ _ _ h.next h.job h.stores out new all is comes
    by (crowded own asking many e) = λ p c. all p ((e.queries).only p c).0
    by (admitted own asking few comes) = comes_sought s _ _ _ h.next h.job h.stores out new all is comes

ready_input : (s : State) (e : Event) (q : Open) (input : Input) → IsOutermost (q.job).name (q.job).kind (q.job).searches → (input ≡ Start → ⊥) → IsReady input q.job
ready_input s e q Start h other = absurd (other refl)
ready_input s e q (Told via server m) h other = h
ready_input s e q (TimedOut server) h other = h
ready_input s e q (TcpFailed server) h other = h

hears_sought : (s : State) (e : Event) (served : Served) (out : List Action) (new : State) → AreSought s.queries → (h : ServesOpen s e served out new) → (h.input ≡ Start → ⊥) → AreSought new.queries
hears_sought s e served out new all h other =
    let v = h.serves in
    comes_sought s _ _ _ v.next v.job v.stores out new all
    (call_right (s.site).home s.clock h.input (h.query).job s.stores v.next v.job v.stores (ready_input s e h.query h.input (ready_of h.query (all h.query v.stands)) other) v.advances) v.comes

-- A step of a state whose queries keep this leaves one.
pub turn_sought : (s : State) (e : Event) (served : Served) (out : Option (List Action)) (new : State) → AreSought s.queries → IsTurn s e served out new → AreSought new.queries
turn_sought s (Client now client way bytes) served None new all h = λ q c. all q (((h.1).queries).only q c).0
turn_sought s (Datagram now sock from bytes) served None new all h = λ q c. all q (((h.4).queries).only q c).0
turn_sought s (TcpReply now number bytes) served None new all h = λ q c. all q (((h.4).queries).only q c).0
turn_sought s (event.TcpFailed now number) served None new all h = λ q c. all q (((h.4).queries).only q c).0
turn_sought s (Tick now) served None new all h = λ q c. all q (((h.4).queries).only q c).0
turn_sought s (Client now client way bytes) served (Some out) new all (asked, reads, h) = handled_sought s client way asked served out new all h
turn_sought s (Datagram now sock from bytes) served (Some out) new all (inl h) = same_sought s new all h.state
turn_sought s (Datagram now sock from bytes) served (Some out) new all (inr h) = hears_sought s _ served out new all h (λ e. let i = (h.brings).2 in cc)
turn_sought s (TcpReply now number bytes) served (Some out) new all (inl h) = same_sought s new all h.state
turn_sought s (TcpReply now number bytes) served (Some out) new all (inr h) = hears_sought s _ served out new all h (λ e. elim h.brings [ inl x ↦ let i = x.2 in cc | inr x ↦ let i = x.2 in cc ])
turn_sought s (event.TcpFailed now number) served (Some out) new all (inl h) = same_sought s new all h.state
turn_sought s (event.TcpFailed now number) served (Some out) new all (inr h) = hears_sought s _ served out new all h (λ e. let i = (h.brings).1 in cc)
turn_sought s (Tick now) served (Some out) new all (inl h) = same_sought s new all h.state
turn_sought s (Tick now) served (Some out) new all (inr (first, inl h, followed)) = λ q c. all q (((h.ends).queries).only q c).0
turn_sought s (Tick now) served (Some out) new all (inr (first, inr h, followed)) = hears_sought s (Tick now) served first new all h (λ e. let i = (h.brings).2 in cc)

run_sought : (site : Site) (run : List Turn) (s : State) → Run site run s → AreSought s.queries
run_sought site [] s new = λ q c. absurd (Contains-nil q (subst (λ (l : List Open). Contains l q) new.queries c))
run_sought site (t ∷ past) s (old, legal, step) = turn_sought (moved old t.event) t.event t.served t.out s (run_sought site past old legal) step.turn

pub ask_is_of_search : AskIsOfSearch
ask_is_of_search site run s legal q c =
    let f = (run_sought site run s legal q c).found in
    record { sought = f.sought; others = f.others; searches = f.searches; name = sym f.name; kind = sym f.kind; own = λ e. own f.sought f.others e f.outermost }
  where
    own : (x : Search) (rest : List Search) → rest ≡ [] → IsOutermost (q.job).name (q.job).kind (x ∷ rest) → (x.name ≡ (q.job).name) × (x.kind ≡ (q.job).kind)
    own x [] e h = h
    own x (o ∷ rest) e h = absurd (cc)
