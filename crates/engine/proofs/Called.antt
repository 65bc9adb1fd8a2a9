-- What becomes of a client's bytes, and of the query that they are.
use Rattle.std.proofs.Common.{◌≡◌, ℕ, ◌+◌, ◌<◌, ◌≤◌, inl, inr, true, false, List, [], ◌∷◌, length, Option, Some, None, Result, Ok, Err, OnErr, refl, sym, ◌∙◌, ap, subst, arith}
use Rattle.message_grammar.specs.Messages.{Question as QuestionSpec}
use Rattle.wire.specs.declared.via.Via.{Via}
use Rattle.front.specs.Openings.{Opening}
use Rattle.front.specs.Queries.{IsRequest}
use Rattle.front.specs.declared.queries.Refusal.{Refusal}
use Rattle.front.specs.declared.queries.Query.{Query}
use Rattle.front.specs.declared.queries.Request.{Request}
use Rattle.front.specs.declared.queries.Request.TheVariants as request
use Rattle.resolution.specs.Jobs.{Stores, Taken, Job, Start, Next, Done}
use Rattle.resolution.specs.Rules.{Advances}
use Rattle.resolution.specs.Stops.{Stops}
use Rattle.runs.specs.States.{Client, Action, Plain, ClientQuery, client_query, recursive, Served, Own, Open, job_for, State}
use Rattle.runs.specs.Messages.{IsRefusal, outcome_of}
use Rattle.runs.specs.Steps.{AreOthers, Ends, IsLeft, AnswersAtHand, IsOpened, at_once, crowded, admitted}
use Rattle.engine.specs.ResolverStates.{IsSound}
use Rattle.engine.specs.Moves.{Halts, Falls, Opens}
use Rattle.engine.specs.Calls.{Handles, IsResolved, Begins, DropsWork, IsGone}
use Rattle.engine.specs.Turns.{Turns}
use Rattle.engine.proofs.Started.{next_is_fresh, opens_at_once}
use Rattle.engine.proofs.Lift.{others_same, lift, ends_too, falls_after}

pub at_err : {T E P : Type 0} (r : Result T E) → P → OnErr r P
at_err (Ok x) h = tt
at_err (Err e) h = h

-- ---- out of memory

-- The stores stand as they did, or so, or else so.
left_by : (s : State) (P Q : Stores → Type 0) (new : State) → ((stores : Stores) → P stores → Q stores) → IsLeft s s.opened P new → IsLeft s s.opened Q new
left_by s P Q new weaker h = record { queries = h.queries; stores = elim h.stores [ inl e ↦ inl e | inr p ↦ inr (weaker new.stores p) ]; generator = h.generator; state = h.state }

left_same : (s : State) (P : Stores → Type 0) → IsSound s → IsLeft s s.opened P s
left_same s P sound = record { queries = others_same s.queries s.opened (next_is_fresh s sound); stores = inl refl; generator = inl refl; state = refl }

pub lost_none : (s : State) (asked : Request Plain) → IsSound s → IsGone s asked s
lost_none s asked sound = left_same s _ sound

pub lost_same : (s new : State) (asked : Request Plain) → IsSound s → new ≡ s → IsGone s asked new
lost_same s new asked sound same = subst (IsGone s asked) (sym same) (lost_none s asked sound)

falls_lost : (s : State) (q : Query Plain) (new : State) → IsSound s → Falls s (job_for s.clock q) Start new → DropsWork s q new
falls_lost s q new sound h =
    let qs : new.queries ≡ s.queries = ap (λ (z : State). z.queries) h.state in
    record {
      queries = subst (λ (x : List Open). AreOthers s.opened s.queries x) (sym qs) (others_same s.queries s.opened (next_is_fresh s sound));
      stores = h.stores;
      generator = h.generator;
      state = h.state ∙ ap (λ (x : List Open). record s { stores = new.stores; queries = x; generator = new.generator }) (sym qs);
    }

pub lost_in : (s : State) (q : Query Plain) (stores : Stores) → IsSound s → Stops (s.site).home s.clock Start (job_for s.clock q) s.stores stores → DropsWork s q (record s { stores = stores })
lost_in s q stores sound stops = falls_lost s q (record s { stores = stores }) sound (record { stores = inr stops; generator = inl refl; state = refl })

pub lost_after : (s mid : State) (q : Query Plain) (next : Next) (after : Job) (stores : Stores) (new : State) → IsSound s → mid ≡ record s { stores = stores }
    → Advances (s.site).home s.clock Start (job_for s.clock q) s.stores next after stores → Halts mid new → DropsWork s q new
lost_after s mid q next after stores new sound e advances h = falls_lost s q new sound (falls_after s mid (job_for s.clock q) Start next after stores new e advances h)

-- What the work on a recursive query left is what its request did.
pub lost_work : (s : State) (q : Query Plain) (new : State) → recursive q ≡ true → DropsWork s q new → IsGone s (request.Query q) new
lost_work s q new wants h = left_by s _ _ new (λ stores stops. (q, refl, wants, stops)) h

-- ---- a query that begins: what was said of the state after its work is said of the one before

module _ (s : State) (who : ClientQuery) (stores : Stores) (next : Next) (job : Job) (served : Served) (out : List Action) (new : State) (sound : IsSound s) where
  abbrev worked : State
  worked = record s { stores = stores }

  opened_before : IsOpened worked who next job stores served out new → IsOpened s who next job stores served out new
  opened_before (at_once is over comes) = at_once is over (lift s s.opened s.queries stores (others_same s.queries s.opened (next_is_fresh s sound)) who s.opened job stores out new next comes)
  opened_before (crowded is asks many ends) = crowded is asks many (ends_too s s.opened s.queries stores (others_same s.queries s.opened (next_is_fresh s sound)) who _ stores out new ends)
  opened_before (admitted is asks few comes) = admitted is asks few (lift s s.opened s.queries stores (others_same s.queries s.opened (next_is_fresh s sound)) who (s.opened + 1) job stores out new next comes)

pub begins : (s mid : State) (who : ClientQuery) (next : Next) (after : Job) (stores : Stores) (out : List Action) (new : State) → IsSound s → mid ≡ record s { stores = stores }
    → Advances (s.site).home s.clock Start (job_for s.clock who.query) s.stores next after stores → Opens mid who next after out new → Begins s who out new
begins s mid who next after stores out new sound e advances h =
    let k = subst (λ (z : State). Opens z who next after out new) e h in
    record {
      served = k.served;
      resolves = record { next = next; job = after; stores = stores; advances = advances; opened = opened_before s who stores next after k.served out new sound k.opened };
    }

-- What is known at once is the answer, of a query that is not opened.
pub begins_known : (s mid : State) (who : ClientQuery) (chain : List Taken) (last : Taken) (over : Job) (stores : Stores) (out : List Action) (new : State) → IsSound s → mid ≡ record s { stores = stores } → chain ≡ []
    → Advances (s.site).home s.clock Start (job_for s.clock who.query) s.stores (Done [] last) over stores → Ends mid who mid.opened (outcome_of mid.clock chain last) mid.stores out new → Begins s who out new
begins_known s mid who chain last over stores out new sound e none advances ends =
    begins s mid who (Done [] last) over stores out new sound e advances
    (opens_at_once mid who (Done [] last) over out new (λ asks. asks) (subst (λ (links : List Taken). Ends mid who mid.opened (outcome_of mid.clock links last) mid.stores out new) none ends))

-- ---- a query

pub resolved : (s : State) (who : ClientQuery) (out : List Action) (new : State) → recursive who.query ≡ true → Begins s who out new → IsResolved s who out new
resolved s who out new wants h = record { served = h.served; is = inr (wants, h.resolves) }

pub answered : (s : State) (who : ClientQuery) (out : List Action) (new : State) → recursive who.query ≡ false → AnswersAtHand s who Own out new → IsResolved s who out new
answered s who out new wants_not h = record { served = Own; is = inl (wants_not, h) }

-- ---- a client's bytes

-- Under twelve bytes are dropped.
pub is_dropped : {A : Type 0} (bytes : List ℕ) (asked : Request A) → IsRequest bytes asked → length bytes < 12 → asked ≡ request.Drop
is_dropped bytes asked (inl dropped) short = dropped.1
is_dropped bytes asked (inr read) short = let whole : 12 ≤ length bytes = read.whole in absurd (omega (arith, whole, short))

module _ (s : State) (client : ℕ) (way : Via) where
  pub handles_dropped : Handles s client way request.Drop [] s
  handles_dropped = record { served = Own; is = (refl, refl, refl) }

  pub handles_refused : (refusal : Refusal) (start : Opening) (echo : Option QuestionSpec) (action : Action) → IsRefusal client way refusal start echo action
      → Handles s client way (request.Refuse refusal start echo) (action ∷ []) s
  handles_refused refusal start echo action is = record { served = Own; is = (refl, (action, is, refl), refl) }

  pub handles_query : (q : Query Plain) (out : List Action) (new : State) → IsResolved s (client_query client way q) out new → Handles s client way (request.Query q) out new
  handles_query q out new h = record { served = h.served; is = h.is }

module _ (s : State) (now client : ℕ) (way : Via) (bytes : List ℕ) where
  pub turns_handled : (asked : Request Plain) (out : List Action) (new : State) → IsRequest bytes asked → Handles s client way asked out new → Turns s (Client now client way bytes) (Some out) new
  turns_handled asked out new reads h = record { served = h.served; turn = (asked, reads, h.is) }

  pub turns_gone : (asked : Request Plain) (new : State) → IsRequest bytes asked → IsGone s asked new → Turns s (Client now client way bytes) None new
  turns_gone asked new reads h = record {
    served = Own;
    turn = (refl, left_by s _ _ new (λ stores (q, is, wants, stops). (q, subst (IsRequest bytes) is reads, wants, stops)) h);
  }

  -- The bytes were not read.
  pub turns_unread : IsSound s → Turns s (Client now client way bytes) None s
  turns_unread sound = record { served = Own; turn = (refl, left_same s _ sound) }
