-- What is at hand is answered, and nobody is asked for it.
use Rattle.std.proofs.Common.{◌≡◌, ◌⊎◌, inl, inr, ℕ, Bool, true, false, Option, Some, List, [], ◌∷◌, refl, sym, ap, subst, ◌∙◌}
use Rattle.std.specs.Prelude.{◌↔◌, min, max, IsTrue}
use Rattle.limits.specs.Limits.{max_aliases}
use Rattle.rdata.specs.Types.{type_number}
use Rattle.causes.specs.declared.cause.Cause.{Cause}
use Rattle.wire.specs.declared.via.Via.{Via}
use Rattle.front.specs.Queries.{IsRequest}
use Rattle.front.specs.Replies.{reply_of}
use Rattle.front.specs.declared.queries.Outcome.{Outcome}
use Rattle.front.specs.declared.queries.Query.{Query}
use Rattle.front.specs.declared.queries.Request.TheVariants as request
use Rattle.resolution.specs.Jobs.{Home}
use Rattle.resolution.specs.Held.{IsHeldChain}
use Rattle.lookup.specs.Held.{IsAtHand}
use Rattle.runs.specs.States.{Event, Action, client_query, Plain, Turn, Site, State, latest}
use Rattle.runs.specs.States as told
use Rattle.runs.specs.Messages.{IsReply}
use Rattle.runs.specs.Runs.{Run}
use Rattle.runs.proofs.Clocks.{clock_of_run}
use Rattle.typed.specs.Events.{Client, Datagram, TcpReply, TcpFailed, Tick}
use Rattle.engine.specs.Promises.{Steps}
use Rattle.engine.specs.AtHand.{HasEnd, AtHandAsksNobody}

apart : {P : Type 0} → false ≡ true → P
apart e = cc

-- ---- what the code says of a query

pub never : IsTrue false ↔ ⊥
never = (λ e. apart e, λ x. absurd x)

pub without_rd : {P : Type 0} (rd : Bool) → rd ≡ false → IsTrue true ↔ ((rd ≡ false) ⊎ P)
without_rd rd e = (λ y. inl e, λ h. refl)

pub with_rd : {P : Type 0} (rd b : Bool) → rd ≡ true → IsTrue b ↔ P → IsTrue b ↔ ((rd ≡ false) ⊎ P)
with_rd rd b e h = (
  λ y. inr (h.0 y),
  λ ends. elim ends [
    | inl lacks ↦ apart (sym lacks ∙ e)
    | inr there ↦ h.1 there
  ],
)

-- ---- the step on it

module _ (site : Site) (past : List Turn) (s : State) (now client : ℕ) (way : Via) (bytes : List ℕ) (q : Query Plain) (out : List Action) (new : State) where
  abbrev Alone : Type 0
  Alone = (given : List ℕ) × (cause : Option Cause) × (out ≡ told.Reply client way given cause ∷ [])

  alone : (o : Outcome Plain) (action : Action) → IsReply (client_query client way q) o action → out ≡ action ∷ [] → Alone
  alone o action reply is = (reply.0, (reply_of way q o).1, is ∙ ap (λ (a : Action). a ∷ []) reply.2)

  query_alone : Run site past s → IsRequest bytes (request.Query q) → HasEnd s (min now latest) q → Steps s (told.Client now client way bytes) (Some out) new → Alone
  query_alone legal asks has steps = by (q.start).rd refl
    where
      by : (rd : Bool) → (q.start).rd ≡ rd → Alone
      by false lacks =
          let (served, said) = (steps.promises site past legal).at_hand now client way bytes out (request.Query q) refl refl asks lacks in
          let (o, action, reply, is) = said in
          alone o action reply is
      by true wants =
          let here : IsAtHand (s.site).home (max s.clock (min now latest)) (type_number q.kind) (s.stores).cache q.name max_aliases = elim has [
            | inl lacks ↦ apart (sym lacks ∙ wants)
            | inr there ↦ there
          ] in
          let ours = subst (λ (h : Home). IsHeldChain h (max s.clock (min now latest)) (type_number q.kind) (s.stores).cache q.name here.aliases here.last)
          (ap (λ (x : Site). x.home) (clock_of_run site past s legal).1) here.held in
          let (served, said) = (steps.promises site past legal).held now client way bytes out q here.aliases here.last refl refl asks wants here.few ours in
          let (action, reply, is) = said in
          alone _ action reply is

pub at_hand_asks_nobody : AtHandAsksNobody
at_hand_asks_nobody site past s e (Client now client way (request.Query q)) out new legal reads has steps =
    query_alone site past s now client way reads.0 q out new legal reads.2 has (subst (λ (x : Event). Steps s x (Some out) new) reads.1 steps)
at_hand_asks_nobody site past s e (Client now client way request.Drop) out new legal reads has steps = absurd has
at_hand_asks_nobody site past s e (Client now client way (request.Refuse refusal start echo)) out new legal reads has steps = absurd has
at_hand_asks_nobody site past s e (Datagram now sock from reading) out new legal reads has steps = absurd has
at_hand_asks_nobody site past s e (TcpReply now number reading) out new legal reads has steps = absurd has
at_hand_asks_nobody site past s e (TcpFailed now number) out new legal reads has steps = absurd has
at_hand_asks_nobody site past s e (Tick now) out new legal reads has steps = absurd has
