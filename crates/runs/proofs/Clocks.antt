-- The clock and the site of a run.
use Rattle.std.proofs.Common.{◌≡◌, ℕ, max, inl, inr, Option, Some, None, List, [], ◌∷◌, ◌∙◌, ap}
use Rattle.wire.specs.declared.via.Via.{Via}
use Rattle.front.specs.declared.queries.Request.{Request}
use Rattle.front.specs.declared.queries.Request.TheVariants as request
use Rattle.front.specs.declared.queries.Outcome.{Outcome}
use Rattle.resolution.specs.Jobs.{Stores, Job, Next, AskUdp, AskTcp, Done, Fail}
use Rattle.runs.specs.States.{Event, Client, Datagram, TcpReply, TcpFailed, Tick, Action, Served, Turn, Plain, ClientQuery, Open, Site, State, moment, moved}
use Rattle.runs.specs.Steps.{Ends, Waits, Comes, IsOpened, at_once, crowded, admitted, IsHandled, ServesOpen, IsTicked, IsLeft, IsTurn}
use Rattle.runs.specs.Runs.{Run, clock_of}

-- What a step leaves as it was.
pub record Stays (s new : State) : Type 0 where
  pub clock : new.clock ≡ s.clock
  pub site : new.site ≡ s.site

same_stays : (s new : State) → new ≡ s → Stays s new
same_stays s new e = record { clock = ap (λ (x : State). x.clock) e; site = ap (λ (x : State). x.site) e }

ends_stays : (s : State) (who : ClientQuery) (k : ℕ) (o : Outcome Plain) (stores : Stores) (out : List Action) (new : State) → Ends s who k o stores out new → Stays s new
ends_stays s who k o stores out new h = record { clock = ap (λ (x : State). x.clock) h.state; site = ap (λ (x : State). x.site) h.state }

waits_stays : (s : State) (after : Open) (opened asked : ℕ) (stores : Stores) (out : List Action) (new : State) → Waits s after opened asked stores out new → Stays s new
waits_stays s after opened asked stores out new h = record { clock = ap (λ (x : State). x.clock) h.state; site = ap (λ (x : State). x.site) h.state }

pub comes_stays : (s : State) (who : ClientQuery) (k opened : ℕ) (next : Next) (job : Job) (stores : Stores) (out : List Action) (new : State) → Comes s who k opened next job stores out new → Stays s new
comes_stays s who k opened (AskUdp server n t) job stores out new h = waits_stays s _ _ _ _ out new h.waits
comes_stays s who k opened (AskTcp server n t) job stores out new h = waits_stays s _ _ _ _ out new h.waits
comes_stays s who k opened (Done chain last) job stores out new h = ends_stays s who k _ stores out new h
comes_stays s who k opened (Fail c) job stores out new h = ends_stays s who k _ stores out new h

opened_stays : (s : State) (who : ClientQuery) (next : Next) (job : Job) (stores : Stores) (served : Served) (out : List Action) (new : State) → IsOpened s who next job stores served out new → Stays s new
opened_stays s who next job stores served out new (at_once served_is over comes) = comes_stays s who _ _ next job stores out new comes
opened_stays s who next job stores served out new (crowded served_is asks many ends) = ends_stays s who _ _ stores out new ends
opened_stays s who next job stores served out new (admitted served_is asks few comes) = comes_stays s who _ _ next job stores out new comes

handled_stays : (s : State) (client : ℕ) (way : Via) (asked : Request Plain) (served : Served) (out : List Action) (new : State) → IsHandled s client way asked served out new → Stays s new
handled_stays s client way request.Drop served out new h = same_stays s new h.2
handled_stays s client way (request.Refuse refusal start echo) served out new h = same_stays s new h.2
handled_stays s client way (request.Query q) served out new (inl (rd, h)) = same_stays s new h.state
handled_stays s client way (request.Query q) served out new (inr (rd, h)) = opened_stays s _ _ _ _ served out new h.opened

hears_stays : (s : State) (event : Event) (served : Served) (out : List Action) (new : State) → ServesOpen s event served out new → Stays s new
hears_stays s event served out new h = comes_stays s _ _ _ _ _ _ out new (h.serves).comes

left_stays : (s : State) (k : ℕ) (P : Stores → Type 0) (new : State) → IsLeft s k P new → Stays s new
left_stays s k P new h = record { clock = ap (λ (x : State). x.clock) h.state; site = ap (λ (x : State). x.site) h.state }

ticked_stays : (s : State) (now : ℕ) (served : Served) (out : List Action) (new : State) → IsTicked s now served out new → Stays s new
ticked_stays s now served out new (inl h) = same_stays s new h.state
ticked_stays s now served out new (inr (first, inl h, followed)) = ends_stays s _ _ _ _ first new h.ends
ticked_stays s now served out new (inr (first, inr h, followed)) = hears_stays s (Tick now) served first new h

pub turn_stays : (s : State) (event : Event) (served : Served) (out : Option (List Action)) (new : State) → IsTurn s event served out new → Stays s new
turn_stays s (Client now client way bytes) served None new h = left_stays s _ _ new h.1
turn_stays s (Datagram now sock from bytes) served None new h = left_stays s _ _ new h.4
turn_stays s (TcpReply now number bytes) served None new h = left_stays s _ _ new h.4
turn_stays s (TcpFailed now number) served None new h = left_stays s _ _ new h.4
turn_stays s (Tick now) served None new h = left_stays s _ _ new h.4
turn_stays s (Client now client way bytes) served (Some out) new (asked, reads, h) = handled_stays s client way asked served out new h
turn_stays s (Datagram now sock from bytes) served (Some out) new (inl h) = same_stays s new h.state
turn_stays s (Datagram now sock from bytes) served (Some out) new (inr h) = hears_stays s _ served out new h
turn_stays s (TcpReply now number bytes) served (Some out) new (inl h) = same_stays s new h.state
turn_stays s (TcpReply now number bytes) served (Some out) new (inr h) = hears_stays s _ served out new h
turn_stays s (TcpFailed now number) served (Some out) new (inl h) = same_stays s new h.state
turn_stays s (TcpFailed now number) served (Some out) new (inr h) = hears_stays s _ served out new h
turn_stays s (Tick now) served (Some out) new h = ticked_stays s now served out new h

pub clock_of_run : (site : Site) (run : List Turn) (s : State) → Run site run s → (s.clock ≡ clock_of run) × (s.site ≡ site)
clock_of_run site [] s new = (new.clock, new.site)
clock_of_run site (t ∷ past) s (old, legal, step) =
    let stays = turn_stays (moved old t.event) t.event t.served t.out s step.turn in
    let before = clock_of_run site past old legal in
    (stays.clock ∙ ap (λ (n : ℕ). max n (moment t.event)) before.0, stays.site ∙ before.1)
