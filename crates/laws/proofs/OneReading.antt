-- What is cached and found in a step is the same by whichever rules it is read.
use Rattle.std.proofs.Common.{◌≡◌, ◌≢◌, ◌≤◌, ◌<◌, ℕ, ◌⊎◌, inl, inr, true, false, Option, Some, None, List, refl, sym, ap, ◌∙◌, subst, arith}
use Rattle.wire.specs.declared.via.Via.{Via}
use Rattle.front.proofs.Single.{asked_once}
use Rattle.front.specs.declared.queries.Request.{Request}
use Rattle.front.specs.declared.queries.Request.TheVariants as request
use Rattle.resolution.specs.Jobs.{Home, Stores, Job, Input, Start, Next}
use Rattle.resolution.specs.Rules.{Advances}
use Rattle.runs.specs.States.{Event, Client, Datagram, TcpReply, TcpFailed, Tick, Action, Served, Plain, job_for, Open, State, moved}
use Rattle.runs.specs.Steps.{IsHandled, IsInput, IsIgnored, ServesOpen, IsTicked, IsTurn}
use Rattle.laws.specs.Determined.{AreNamed, OneReading}
use Rattle.laws.specs.Looks.{call_looks, handled_looks, hears_looks, either_looks, ticked_looks, turn_looks}
use Rattle.laws.proofs.Discipline.{open_by_run}
use Rattle.laws.proofs.OneCall.{one_call}
use Rattle.laws.proofs.OneStep.{AreSingle, run_named, input_one}
use Rattle.laws.proofs.OrderlyLists.{same_number}
use Rattle.laws.proofs.TimelyOpens.{not_nobody}

module _ (home : Home) (now : ℕ) (input : Input) (old : Job) (stores : Stores) (next : Next) (new : Job) (after : Stores) (named : AreNamed stores.delegations) (a : Advances home now input old stores next new after)
    (other : Next) (also : Job) (left : Stores) where
  looks_one : (b : Advances home now input old stores other also left) → call_looks home now input old stores other also left b ≡ call_looks home now input old stores next new after a
  looks_one b = let (e, f, g, looks) = one_call home now input old stores next other new also after left named a b in looks

  looks_along : (x : Input) (j : Job) → x ≡ input → j ≡ old → (b : Advances home now x j stores other also left) → call_looks home now x j stores other also left b ≡ call_looks home now input old stores next new after a
  looks_along x j e f =
      subst (λ (i : Input). (b : Advances home now i j stores other also left) → call_looks home now i j stores other also left b ≡ call_looks home now input old stores next new after a) (sym e)
      (subst (λ (k : Job). (b : Advances home now input k stores other also left) → call_looks home now input k stores other also left b ≡ call_looks home now input old stores next new after a) (sym f) looks_one)

module _ (s : State) (named : AreNamed (s.stores).delegations) (one : AreSingle s) (served : Served) (new also : State) where
  handled_one : (client : ℕ) (way : Via) (asked : Request Plain) (out : List Action) → (h : IsHandled s client way asked served out new) (k : IsHandled s client way asked served out also)
      → handled_looks s client way asked served out also k ≡ handled_looks s client way asked served out new h
  handled_one client way request.Drop out h k = refl
  handled_one client way (request.Refuse refusal start echo) out h k = refl
  handled_one client way (request.Query q) out (inl h) (inl k) = refl
  handled_one client way (request.Query q) out (inl (rd, h)) (inr (r, k)) = absurd (let both : false ≡ true = sym rd ∙ r in cc)
  handled_one client way (request.Query q) out (inr (rd, h)) (inl (r, k)) = absurd (let both : false ≡ true = sym r ∙ rd in cc)
  handled_one client way (request.Query q) out (inr (rd, h)) (inr (r, k)) =
      looks_one (s.site).home s.clock Start (job_for s.clock q) s.stores h.next h.job h.stores named h.advances k.next k.job k.stores k.advances

  handled_along : (client : ℕ) (way : Via) (asked other : Request Plain) (out : List Action) → other ≡ asked → (h : IsHandled s client way asked served out new) (k : IsHandled s client way other served out also)
      → handled_looks s client way other served out also k ≡ handled_looks s client way asked served out new h
  handled_along client way asked other out e h =
      subst (λ (x : Request Plain). (k : IsHandled s client way x served out also) → handled_looks s client way x served out also k ≡ handled_looks s client way asked served out new h) (sym e)
      (handled_one client way asked out h)

  hears_one : (e : Event) (out given : List Action) → (h : ServesOpen s e served out new) (k : ServesOpen s e served given also) → hears_looks s e served given also k ≡ hears_looks s e served out new h
  hears_one e out given h k =
      let same : k.query ≡ h.query = one k.query h.query (k.serves).stands (h.serves).stands (same_number (sym k.served_is ∙ h.served_is)) in
      let brings : IsInput s e h.query k.input = subst (λ (x : Open). IsInput s e x k.input) same k.brings in
      let input : k.input ≡ h.input = input_one s named out given new also e h.query h.input k.input h.brings brings in
      looks_along (s.site).home s.clock h.input (h.query).job s.stores (h.serves).next (h.serves).job (h.serves).stores named (h.serves).advances (k.serves).next (k.serves).job (k.serves).stores
      k.input (k.query).job input (ap (λ (x : Open). x.job) same) (k.serves).advances

  either_one : (e : Event) (out : List Action) → (h : IsIgnored s e served out new ⊎ ServesOpen s e served out new) (k : IsIgnored s e served out also ⊎ ServesOpen s e served out also)
      → either_looks s e served out also k ≡ either_looks s e served out new h
  either_one e out (inl h) (inl k) = refl
  either_one e out (inl h) (inr k) = absurd (not_nobody (k.query).number (sym h.served_is ∙ k.served_is))
  either_one e out (inr h) (inl k) = absurd (not_nobody (h.query).number (sym k.served_is ∙ h.served_is))
  either_one e out (inr h) (inr k) = hears_one e out out h k

  -- A query whose time is up is not served by an input.
  not_late : (now : ℕ) (p q : Open) → p ≡ q → (p.job).deadline ≤ s.clock → s.clock < (q.job).deadline → ⊥
  not_late now p q e late early = let before : s.clock < (p.job).deadline = subst (λ (x : Open). s.clock < (x.job).deadline) (sym e) early in omega (arith, late, before)

  ticked_one : (now : ℕ) (out : List Action) → (h : IsTicked s now served out new) (k : IsTicked s now served out also) → ticked_looks s now served out also k ≡ ticked_looks s now served out new h
  ticked_one now out (inl h) (inl k) = refl
  ticked_one now out (inl h) (inr (second, inl k, followed)) = refl
  ticked_one now out (inl h) (inr (second, inr k, followed)) = absurd (not_nobody (k.query).number (sym h.served_is ∙ k.served_is))
  ticked_one now out (inr (first, inl h, follows)) (inl k) = refl
  ticked_one now out (inr (first, inr h, follows)) (inl k) = absurd (not_nobody (h.query).number (sym k.served_is ∙ h.served_is))
  ticked_one now out (inr (first, inl h, follows)) (inr (second, inl k, followed)) = refl
  ticked_one now out (inr (first, inl h, follows)) (inr (second, inr k, followed)) =
      absurd (not_late now h.query k.query (one h.query k.query (h.due).stands (k.serves).stands (same_number (sym h.served_is ∙ k.served_is))) h.late (k.brings).1)
  ticked_one now out (inr (first, inr h, follows)) (inr (second, inl k, followed)) =
      absurd (not_late now k.query h.query (one k.query h.query (k.due).stands (h.serves).stands (same_number (sym k.served_is ∙ h.served_is))) k.late (h.brings).1)
  ticked_one now out (inr (first, inr h, follows)) (inr (second, inr k, followed)) = hears_one (Tick now) first second h k

  turn_one : (e : Event) (o : Option (List Action)) → o ≢ None → (h : IsTurn s e served o new) (k : IsTurn s e served o also) → turn_looks s e served o also k ≡ turn_looks s e served o new h
  turn_one e None some h k = absurd (some refl)
  turn_one (Client now client way bytes) (Some out) some (asked, reads, h) (other, read, k) = handled_along client way asked other out (asked_once bytes other asked read reads) h k
  turn_one (Datagram now sock from bytes) (Some out) some h k = either_one (Datagram now sock from bytes) out h k
  turn_one (TcpReply now number bytes) (Some out) some h k = either_one (TcpReply now number bytes) out h k
  turn_one (TcpFailed now number) (Some out) some h k = either_one (TcpFailed now number) out h k
  turn_one (Tick now) (Some out) some h k = ticked_one now out h k

pub one_reading : OneReading
one_reading site past old t new legal step also again fed =
    turn_one (moved old t.event) (run_named site past old legal) (open_by_run site past old legal).one t.served new also t.event t.out fed step.turn again.turn
