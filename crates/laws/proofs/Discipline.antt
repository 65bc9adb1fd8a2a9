-- One reply and one open ask, over every run.
use Rattle.std.proofs.Common.{◌≡◌, ℕ, inl, inr, Option, Some, None, List, [], ◌∷◌, Contains, subst, arith}
use Rattle.wire.specs.declared.via.Via.{Via}
use Rattle.front.specs.declared.queries.Request.{Request}
use Rattle.front.specs.declared.queries.Request.TheVariants as request
use Rattle.runs.specs.States.{Event, Client, Action, Served, OpenQuery, Turn, Plain, ClientQuery, Open, Site, State, moved}
use Rattle.runs.specs.Steps.{IsOpened, at_once, crowded, admitted, IsHandled, IsTurn, Step}
use Rattle.runs.specs.Runs.{Run, Earlier, Always, Came}
use Rattle.laws.specs.Laws.{GivesOne, IsOver, RepliesTo, OneAction, MoreDueAtTicks, NeverAgain, OneReply, OneComing, OpenByRun, FewAsks, OneLine, OthersStay}
use Rattle.laws.proofs.OrderlyLists.{one_number, same_number}
use Rattle.laws.proofs.Orders.{IsStep, IsOrderly, one_step, run_orderly}
use Rattle.laws.proofs.Due.{told_at_ticks}

-- What each step keeps, each step of a run keeps.
pub each_step : (P : Turn → List Turn → Type 0) (site : Site)
    → ((past : List Turn) (t : Turn) (old new : State) → Run site past old → Step old t.event t.served t.out new → P t past)
    → (run : List Turn) (s : State) → Run site run s → Always P run
each_step P site keeps [] s legal = tt
each_step P site keeps (t ∷ past) s (old, legal, step) = (keeps past t old s legal step, each_step P site keeps past old legal)

module _ (site : Site) (past : List Turn) (t : Turn) (old new : State) (legal : Run site past old) (step : Step old t.event t.served t.out new) where
  before : IsOrderly site.port past old
  before = run_orderly site past old legal

  is : IsStep site.port t old new
  is = one_step site past t old new legal step before.below

  -- A query that is over has no number that is served.
  no_more : (k : ℕ) → t.served ≡ OpenQuery k → Earlier (IsOver k) past → ⊥
  no_more k served over = let (lt, shut) = before.over k over in elim (is.known k served) [
    | inl d ↦ shut d.0 d.1 d.2
    | inr d ↦ let same = d.0 in omega arith
  ]

handled_fresh : (s : State) (client : ℕ) (way : Via) (asked : Request Plain) (k : ℕ) (out : List Action) (new : State) → IsHandled s client way asked (OpenQuery k) out new → k ≡ s.opened
handled_fresh s client way request.Drop k out new (is, none, same) = absurd (cc)
handled_fresh s client way (request.Refuse refusal start echo) k out new (is, refuses, same) = absurd (cc)
handled_fresh s client way (request.Query q) k out new (inl (rd, h)) = let e = h.served_is in absurd (cc)
handled_fresh s client way (request.Query q) k out new (inr (rd, h)) = by h.opened
  where
    by : IsOpened s (record { client = client; way = way; query = q }) h.next h.job h.stores (OpenQuery k) out new → k ≡ s.opened
    by (at_once is none comes) = absurd (cc)
    by (crowded is asks many e) = absurd (cc)
    by (admitted is asks few comes) = same_number is

-- The number of a client's query is new.
pub fresh_number : (s : State) (now client : ℕ) (way : Via) (bytes : List ℕ) (k : ℕ) (out : Option (List Action)) (new : State) → IsTurn s (Client now client way bytes) (OpenQuery k) out new → k ≡ s.opened
fresh_number s now client way bytes k None new h = let e = h.0 in absurd (cc)
fresh_number s now client way bytes k (Some out) new (asked, reads, h) = handled_fresh s client way asked k out new h

pub one_action : OneAction
one_action site run s legal = each_step (λ t past. (out : List Action) → t.out ≡ Some out → GivesOne t.event t.served out) site
    (λ past t old new before step. (is site past t old new before step).gives) run s legal

pub more_at_ticks : MoreDueAtTicks
more_at_ticks site run s legal = each_step _ site (λ past t old new before step. told_at_ticks (moved old t.event) t.event t.served t.out new step.turn) run s legal

pub never_again : NeverAgain
never_again site run s legal k = each_step (λ t past. t.served ≡ OpenQuery k → Earlier (IsOver k) past → ⊥) site (λ past t old new before step. no_more site past t old new before step k) run s legal

pub one_reply : OneReply
one_reply site run s legal k = each_step (λ t past. RepliesTo k t past → Earlier (RepliesTo k) past → ⊥) site
    (λ past t old new legal step answers earlier. no_more site past t old new legal step k answers.0 ((before site past t old new legal step).answered k earlier)) run s legal

pub one_coming : OneComing
one_coming site run s legal k = each_step (λ t past. (who : ClientQuery) → Came (OpenQuery k) who t past → Earlier (λ u earlier. (other : ClientQuery) × Came (OpenQuery k) other u earlier) past → ⊥) site one run s legal
  where
    one : (past : List Turn) (t : Turn) (old new : State) → Run site past old → Step old t.event t.served t.out new
        → (who : ClientQuery) → Came (OpenQuery k) who t past → Earlier (λ u earlier. (other : ClientQuery) × Came (OpenQuery k) other u earlier) past → ⊥
    one past t old new legal step who came earlier =
        let lt = (before site past t old new legal step).came k earlier in
        let turn : IsTurn (moved old t.event) (Client came.moment who.client who.way came.bytes) (OpenQuery k) t.out new
        = subst (λ (v : Served). IsTurn (moved old t.event) (Client came.moment who.client who.way came.bytes) v t.out new) came.is_served
        (subst (λ (e : Event). IsTurn (moved old t.event) e t.served t.out new) came.event step.turn) in
        let same = fresh_number (moved old t.event) came.moment who.client who.way came.bytes k t.out new turn in
        omega arith

apart_of : (site : Site) (run : List Turn) (s : State) → Run site run s → (p q : Open) → Contains s.queries p → Contains s.queries q → p.number ≡ q.number → p ≡ q
apart_of site [] s new p q c d e = absurd (nobody (subst (λ (l : List Open). Contains l p) new.queries c))
  where
    nobody : Contains [] p → ⊥
    nobody x = let lt = x.1 in omega arith
apart_of site (t ∷ past) s (old, legal, step) p q c d e = one_number s.queries step.apart p q c d e

pub open_by_run : OpenByRun
open_by_run site run s legal = let o = run_orderly site run s legal in record { waits = o.waits; asked = o.asked; one = apart_of site run s legal }

pub few_asks : FewAsks
few_asks site run s legal k = (run_orderly site run s legal).few k

pub one_line : OneLine
one_line site run s legal = (run_orderly site run s legal).lines

pub others_stay : OthersStay
others_stay site past old t new legal step q other = (
  λ c. (is site past t old new legal step).to_new q c other,
  λ c. elim ((is site past t old new legal step).from_old q c) [ inl d ↦ d.0 | inr d ↦ absurd (other d.0) ],
)
