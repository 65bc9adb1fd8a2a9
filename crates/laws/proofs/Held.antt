-- What is held is answered in its own step.
use Rattle.std.proofs.Common.{◌≡◌, ℕ, ◌≤◌, inl, inr, true, Option, Some, List, [], ◌∷◌, length, refl, sym, ap, subst}
use Rattle.rdata.specs.Types.{type_number}
use Rattle.wire.specs.declared.via.Via.{Via}
use Rattle.front.specs.Queries.{IsRequest}
use Rattle.front.specs.declared.queries.Request.{Request}
use Rattle.front.specs.declared.queries.Request.TheVariants as request
use Rattle.front.specs.declared.queries.Query.{Query}
use Rattle.front.proofs.Single.{asked_once}
use Rattle.resolution.specs.Jobs.{Home, Stores, Taken, Job, Next, Done, Seek, point}
use Rattle.resolution.specs.Held.{IsHeldChain}
use Rattle.runs.specs.States.{Event, Client, Action, Served, Own, Turn, Plain, client_query, recursive, job_for, Site, State, moved}
use Rattle.runs.specs.Messages.{outcome_of, IsReply}
use Rattle.runs.specs.Steps.{Comes, IsAsk, IsOpened, at_once, crowded, admitted, Resolves, IsHandled, Step}
use Rattle.runs.specs.Runs.{Run}
use Rattle.runs.proofs.Clocks.{clock_of_run}
use Rattle.laws.specs.Held.{HeldIsReplied}
use Rattle.laws.proofs.Walks.{IsAlong, walks_along}

module _ (s : State) (client : ℕ) (way : Via) (q : Query Plain) (chain : List Taken) (last : Taken) (few : length chain ≤ 8)
    (held : IsHeldChain (s.site).home s.clock (type_number q.kind) (s.stores).cache q.name chain last) (served : Served) (out : List Action) (new : State) where
  abbrev IsAnswered : Type 0
  IsAnswered = (served ≡ Own) × ((action : Action) × IsReply (client_query client way q) (outcome_of s.clock chain last) action × (out ≡ action ∷ []))

  opened_held : (next : Next) (job : Job) (stores : Stores) → next ≡ Done chain last → IsOpened s (client_query client way q) next job stores served out new → IsAnswered
  opened_held next job stores is (at_once own none comes) =
      let e = subst (λ (k : Next). Comes s (client_query client way q) s.opened s.opened k job stores out new) is comes in (own, (e.action, e.reply, e.out_is))
  opened_held next job stores is (crowded own asks many ends) = absurd (subst IsAsk is asks)
  opened_held next job stores is (admitted own asks less comes) = absurd (subst IsAsk is asks)

  pub resolves_held : Resolves s (client_query client way q) served out new → IsAnswered
  resolves_held h =
      let call = h.advances in
      let start : IsAlong (s.site).home s.clock (type_number q.kind) (s.stores).cache chain last few (point Seek (job_for s.clock q) s.stores)
      = record { kind = refl; looks = record { looks = λ k. refl }; fresh = tt; live = tt; at = (chain, refl, held) } in
      let first : IsAlong (s.site).home s.clock (type_number q.kind) (s.stores).cache chain last few call.first
      = subst (IsAlong (s.site).home s.clock (type_number q.kind) (s.stores).cache chain last few) (sym call.enters) start in
      let is = walks_along (s.site).home s.clock (type_number q.kind) (s.stores).cache chain last few call.count call.first call.last h.next h.job h.stores first call.rules call.leaves in
      opened_held h.next h.job h.stores is h.opened

held_comes : (site : Site) (past : List Turn) (old : State) (now client : ℕ) (way : Via) (bytes : List ℕ) (served : Served) (out : List Action) (new : State) (q : Query Plain) (chain : List Taken) (last : Taken)
    → Run site past old → Step old (Client now client way bytes) served (Some out) new → IsRequest bytes (request.Query q) → recursive q ≡ true → length chain ≤ 8
    → IsHeldChain site.home (moved old (Client now client way bytes)).clock (type_number q.kind) (old.stores).cache q.name chain last
    → (served ≡ Own) × ((action : Action) × IsReply (client_query client way q) (outcome_of (moved old (Client now client way bytes)).clock chain last) action × (out ≡ action ∷ []))
held_comes site past old now client way bytes served out new q chain last legal step reads asks few held =
    by (step.turn).0 (reading (step.turn).1) (step.turn).2
  where
    s : State
    s = moved old (Client now client way bytes)

    here : site.home ≡ (s.site).home
    here = ap (λ (x : Site). x.home) (sym (clock_of_run site past old legal).1)

    stands : IsHeldChain (s.site).home s.clock (type_number q.kind) (s.stores).cache q.name chain last
    stands = subst (λ (h : Home). IsHeldChain h s.clock (type_number q.kind) (s.stores).cache q.name chain last) here held

    reading : {asked : Request Plain} → IsRequest bytes asked → asked ≡ request.Query q
    reading {asked} is = asked_once bytes asked (request.Query q) is reads

    by : (asked : Request Plain) → asked ≡ request.Query q → IsHandled s client way asked served out new
        → (served ≡ Own) × ((action : Action) × IsReply (client_query client way q) (outcome_of s.clock chain last) action × (out ≡ action ∷ []))
    by asked is h = handled (subst (λ (x : Request Plain). IsHandled s client way x served out new) is h)
      where
        handled : IsHandled s client way (request.Query q) served out new
            → (served ≡ Own) × ((action : Action) × IsReply (client_query client way q) (outcome_of s.clock chain last) action × (out ≡ action ∷ []))
        handled (inl (rd, x)) = absurd (cc)
        handled (inr (rd, x)) = resolves_held s client way q chain last few stands served out new x

pub held_is_replied : HeldIsReplied
held_is_replied site past old t new legal step now client way bytes out q chain last comes gives reads asks few held =
    subst (λ (e : Event). (t.served ≡ Own) × ((action : Action) × IsReply (client_query client way q) (outcome_of (moved old e).clock chain last) action × (out ≡ action ∷ []))) (sym comes)
    (held_comes site past old now client way bytes t.served out new q chain last legal
    (subst (λ (o : Option (List Action)). Step old (Client now client way bytes) t.served o new) gives (subst (λ (e : Event). Step old e t.served t.out new) comes step))
    reads asks few
    (subst (λ (e : Event). IsHeldChain site.home (moved old e).clock (type_number q.kind) (old.stores).cache q.name chain last) comes held))
