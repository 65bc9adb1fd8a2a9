-- The order in which due queries are served.
use Rattle.std.proofs.Common.{◌≡◌, ◌≢◌, ℕ, ◌≤◌, ◌<◌, ◌⊎◌, inl, inr, true, Option, Some, None, List, [], ◌∷◌, ◌++◌, Contains, refl, sym, ap, ◌∙◌, subst, arith}
use Rattle.std.proofs.lemmas.List.Elements.{Contains-append_right}
use Rattle.lru.proofs.Splits.{Contains-head, Contains-cons, Contains-nil}
use Rattle.wire.specs.declared.via.Via.{Via}
use Rattle.front.specs.declared.queries.Request.{Request}
use Rattle.front.specs.declared.queries.Request.TheVariants as request
use Rattle.front.specs.declared.queries.Outcome.TheVariants as outcome
use Rattle.causes.specs.declared.cause.Cause.TheVariants as cause
use Rattle.resolution.specs.Jobs.{Stores, Job, Next, AskUdp, AskTcp, Done, Fail}
use Rattle.runs.specs.States.{Event, Client, Datagram, TcpReply, TcpFailed, Tick, Action, MoreDue, Served, Nobody, OpenQuery, Turn, Plain, ClientQuery, Open, due_moment, Site, State, moved}
use Rattle.runs.specs.Messages.{IsReply}
use Rattle.runs.specs.Steps.{Comes, IsOpened, at_once, crowded, admitted, IsHandled, IsIgnored, ServesOpen, IsFirstDue, IsLate, SomeDue, IsFollowed, IsTicked, IsTurn, Step}
use Rattle.runs.specs.Runs.{Run, GivesOut, is_ask}
use Rattle.runs.proofs.Clocks.{turn_stays}
use Rattle.laws.specs.Laws.{is_reply, IsOnlyAction, IsDue, IsTick, TicksInOrder, DueInOrder}
use Rattle.laws.proofs.Fates.{reply_is, ask_is}
use Rattle.laws.proofs.Orders.{IsStep, one_step, run_orderly}

-- A reply or an ask stands alone, without word that another query is due.
abbrev pub IsSingle : List Action → Type 0
IsSingle out = (action : Action) × (out ≡ action ∷ []) × ((is_reply action ≡ true) ⊎ (is_ask action ≡ true))

pub comes_single : (s : State) (who : ClientQuery) (k opened : ℕ) (next : Next) (job : Job) (stores : Stores) (out : List Action) (new : State) → Comes s who k opened next job stores out new → IsSingle out
comes_single s who k opened (AskUdp server n t) job stores out new h = let w = h.waits in (w.action, w.out_is, inr (ask_is _ _ w.action w.sent))
comes_single s who k opened (AskTcp server n t) job stores out new h = let w = h.waits in (w.action, w.out_is, inr (ask_is _ _ w.action w.sent))
comes_single s who k opened (Done chain last) job stores out new h = (h.action, h.out_is, inl (reply_is who _ h.action h.reply))
comes_single s who k opened (Fail c) job stores out new h = (h.action, h.out_is, inl (reply_is who _ h.action h.reply))

pub single_lacks : (out : List Action) → IsSingle out → Contains out MoreDue → ⊥
single_lacks out (action, is, either) c = elim (Contains-cons action [] MoreDue (subst (λ (l : List Action). Contains l MoreDue) is c)) [
  | inl same ↦ elim either [ inl e ↦ let f = sym e ∙ ap is_reply same in cc | inr e ↦ let f = sym e ∙ ap is_ask same in cc ]
  | inr d ↦ Contains-nil MoreDue d
]

empty_lacks : (out : List Action) → out ≡ [] → Contains out MoreDue → ⊥
empty_lacks out e c = Contains-nil MoreDue (subst (λ (l : List Action). Contains l MoreDue) e c)

hears_single : (s : State) (event : Event) (served : Served) (out : List Action) (new : State) → ServesOpen s event served out new → IsSingle out
hears_single s event served out new h = let v = h.serves in comes_single s _ _ _ v.next v.job v.stores out new v.comes

handled_lacks : (s : State) (client : ℕ) (way : Via) (asked : Request Plain) (served : Served) (out : List Action) (new : State) → IsHandled s client way asked served out new → Contains out MoreDue → ⊥
handled_lacks s client way request.Drop served out new (is, none, same) c = empty_lacks out none c
handled_lacks s client way (request.Refuse refusal start echo) served out new (is, (action, refuses, only), same) c = single_lacks out (action, only, inl (ap is_reply refuses.2)) c
handled_lacks s client way (request.Query q) served out new (inl (rd, h)) c = single_lacks out (h.action, h.out_is, inl (reply_is _ h.result h.action h.reply)) c
handled_lacks s client way (request.Query q) served out new (inr (rd, h)) c = by h.opened
  where
    by : IsOpened s (record { client = client; way = way; query = q }) h.next h.job h.stores served out new → ⊥
    by (at_once is none comes) = single_lacks out (comes_single s _ _ _ h.next h.job h.stores out new comes) c
    by (crowded is asks many e) = single_lacks out (e.action, e.out_is, inl (reply_is _ _ e.action e.reply)) c
    by (admitted is asks few comes) = single_lacks out (comes_single s _ _ _ h.next h.job h.stores out new comes) c

either_lacks : (s : State) (event : Event) (served : Served) (out : List Action) (new : State) → IsIgnored s event served out new ⊎ ServesOpen s event served out new → Contains out MoreDue → ⊥
either_lacks s event served out new (inl h) c = empty_lacks out h.out_is c
either_lacks s event served out new (inr h) c = single_lacks out (hears_single s event served out new h) c

pub told_at_ticks : (s : State) (event : Event) (served : Served) (out : Option (List Action)) (new : State) → IsTurn s event served out new → GivesOut out MoreDue → IsTick event
told_at_ticks s event served None new h g = absurd g
told_at_ticks s (Client now client way bytes) served (Some out) new (asked, reads, h) g = absurd (handled_lacks s client way asked served out new h g)
told_at_ticks s (Datagram now sock from bytes) served (Some out) new h g = absurd (either_lacks s _ served out new h g)
told_at_ticks s (TcpReply now number bytes) served (Some out) new h g = absurd (either_lacks s _ served out new h g)
told_at_ticks s (TcpFailed now number) served (Some out) new h g = absurd (either_lacks s _ served out new h g)
told_at_ticks s (Tick now) served (Some out) new h g = (now, refl)

-- ---- ticks

not_due : (s : State) (now : ℕ) (q : Open) → ((p : Open) → Contains s.queries p → s.clock < due_moment p) → IsDue s q → ⊥
not_due s now q nobody (there, due) = let lt = nobody q there in omega arith

tick_in_order : (site : Site) (past : List Turn) (old : State) (now : ℕ) (served : Served) (out : List Action) (new : State) → Run site past old → Step old (Tick now) served (Some out) new
    → TicksInOrder (moved old (Tick now)) served out new
tick_in_order site past old now served out new legal step = record { none = none step.turn; first = λ p due. first step.turn p due; more = more step.turn; told = λ p due other. told step.turn p due other }
  where
    s : State
    s = moved old (Tick now)

    t : Turn
    t = record { event = Tick now; served = served; out = Some out }

    is : IsStep site.port t old new
    is = one_step site past t old new legal step (run_orderly site past old legal).below

    clock : new.clock ≡ s.clock
    clock = (turn_stays s (Tick now) served (Some out) new step.turn).clock

    none : IsTicked s now served out new → ((q : Open) → IsDue s q → ⊥) → served ≡ Nobody
    none (inl h) nobody = h.served_is
    none (inr (f, inl h, followed)) nobody = absurd (nobody h.query ((h.due).stands, (h.due).due))
    none (inr (f, inr h, followed)) nobody = let due = (h.brings).0 in absurd (nobody h.query (due.stands, due.due))

    alone : (f : List Action) (action : Action) → f ≡ action ∷ [] → IsFollowed f out new → IsOnlyAction action out
    alone f action e (inl (is, due)) = inr (is ∙ ap (λ (l : List Action). l ++ MoreDue ∷ []) e)
    alone f action e (inr (is, none)) = inl (is ∙ e)

    first : IsTicked s now served out new → (p : Open) → IsDue s p → (q : Open) × (served ≡ OpenQuery q.number) × IsFirstDue s q
        × ((q.job).deadline ≤ s.clock → (action : Action) × IsReply q.client_query (outcome.Fail cause.DeadlineOver) action × IsOnlyAction action out)
    first (inl h) p due = absurd (not_due s now p h.nobody due)
    first (inr (f, inl h, followed)) p due = (h.query, h.served_is, h.due, λ late. let e = h.ends in (e.action, e.reply, alone f e.action e.out_is followed))
    first (inr (f, inr h, followed)) p due = (h.query, h.served_is, (h.brings).0, λ late. let early = (h.brings).1 in absurd (omega arith))

    another : SomeDue new → (p : Open) × IsDue s p × (served ≢ OpenQuery p.number)
    another (q, there, due) = elim (is.from_old q there) [
      | inl d ↦ (q, (d.0, subst (λ (n : ℕ). due_moment q ≤ n) clock due), d.1)
      | inr d ↦ let late = d.4 in let e = clock in absurd (omega arith)
    ]

    single : (f : List Action) → IsLate s served f new ⊎ ServesOpen s (Tick now) served f new → IsSingle f
    single f (inl h) = let e = h.ends in (e.action, e.out_is, inl (reply_is _ _ e.action e.reply))
    single f (inr h) = hears_single s (Tick now) served f new h

    more : IsTicked s now served out new → Contains out MoreDue → (p : Open) × IsDue s p × (served ≢ OpenQuery p.number)
    more (inl h) c = absurd (empty_lacks out h.out_is c)
    more (inr (f, x, inl (is, due))) c = another due
    more (inr (f, x, inr (is, none))) c = absurd (single_lacks f (single f x) (subst (λ (l : List Action). Contains l MoreDue) is c))

    told : IsTicked s now served out new → (p : Open) → IsDue s p → served ≢ OpenQuery p.number → Contains out MoreDue
    told (inl h) p due other = absurd (not_due s now p h.nobody due)
    told (inr (f, x, inl (e, due))) p d other = subst (λ (l : List Action). Contains l MoreDue) (sym e) (Contains-append_right f (MoreDue ∷ []) MoreDue (Contains-head MoreDue []))
    told (inr (f, x, inr (e, none))) p (there, due) other = absurd (none (p, is.to_new p there other, subst (λ (n : ℕ). due_moment p ≤ n) (sym clock) due))

pub due_in_order : DueInOrder
due_in_order site past old t new legal step now out tick gives =
    subst (λ (e : Event). TicksInOrder (moved old e) t.served out new) (sym tick)
    (tick_in_order site past old now t.served out new legal
    (subst (λ (o : Option (List Action)). Step old (Tick now) t.served o new) gives (subst (λ (e : Event). Step old e t.served t.out new) tick step)))
