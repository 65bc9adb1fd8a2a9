-- What becomes of an event for an open query is a turn.
use Rattle.std.proofs.Common.{◌≡◌, ◌<◌, ◌≤◌, ℕ, inl, inr, Bool, Option, Some, None, List, [], Contains, length, refl, sym, ap, subst, arith}
use Rattle.std.specs.Prelude.{MatchOption, is_some}
use Rattle.resolution.specs.Jobs.{Stores, Input}
use Rattle.resolution.specs.Jobs as jobs
use Rattle.resolution.specs.Stops.{Stops}
use Rattle.runs.specs.States.{Endpoint, Event, Datagram, TcpReply, TcpFailed, Tick, Action as ActionSpec, Nobody, OpenQuery, Open, State}
use Rattle.runs.specs.Messages.{id_in}
use Rattle.runs.specs.Steps.{AreOthers, IsOfLine, IsOfNumber, IsFirstDue, IsFollowed, IsInput, IsLeft, IsUnfit}
use Rattle.open_queries.specs.Lookups.{IsTheOne}
use Rattle.engine.specs.Moves.{IsToldBy, IsHeard, IsPassed, IsServed, IsLost}
use Rattle.typed.specs.declared.action.TypedAction.{TypedAction}
use Rattle.typed.specs.Views.{said_listed}
use Rattle.engine.specs.Replies.{alone, if_any}
use Rattle.engine.specs.Finds.{Finds, IsOffLine, Reaches, NoneDue, Tells, Untold, Rings, Unrung}
use Rattle.engine.specs.Turns.{Turns, IsQuiet}
use Rattle.engine.proofs.Found.{found_is}

-- ---- out of memory

more_stores : (s : State) (k n : ℕ) (P Q : Stores → Type 0) (new : State) → k ≡ n → (P new.stores → Q new.stores) → IsLeft s k P new → IsLeft s n Q new
more_stores s k n P Q new same weaker h = record {
  queries = subst (λ (i : ℕ). AreOthers i s.queries new.queries) same h.queries;
  stores = elim h.stores [ inl e ↦ inl e | inr p ↦ inr (weaker p) ];
  generator = h.generator;
  state = h.state;
}

-- ---- a datagram

module _ (s : State) (now sock : ℕ) (from : Endpoint) (bytes : List ℕ) where
  abbrev at_socket : Event
  at_socket = Datagram now sock from bytes

  missed : IsQuiet s at_socket → Turns s at_socket (Some []) s
  missed h = record {
    served = Nobody;
    turn = inl record {
      served_is = refl;
      nobody = elim h [ inl port ↦ inl port | inr rest ↦ inr (elim rest [ inl short ↦ inl short | inr none ↦ inr (inl none) ]) ];
      out_is = refl;
      state = refl;
    };
  }

  -- For no open ask under the ID of the bytes.
  pub datagram_missed : IsOffLine s sock from (id_in bytes) → Turns s at_socket (Some []) s
  datagram_missed (inl port) = missed (inl port)
  datagram_missed (inr none) = missed (inr (inr none))

  pub datagram_short : length bytes < 12 → Turns s at_socket (Some []) s
  datagram_short short = missed (inr (inl short))

  module _ (k : ℕ) (h : Reaches s sock from (id_in bytes) k) (new : State) where
    pub datagram_heard : {A : Type 0} (o : Option (TypedAction A)) → IsHeard s k at_socket o new → Turns s at_socket (Some (if_any o)) new
    datagram_heard None p = record {
      served = Nobody;
      turn = inl record {
        served_is = refl;
        nobody = inr (inr (inr (p.query, p.one.stands, found_is (IsOfLine sock from bytes) s.queries k p.query h.found p.one, p.unfit)));
        out_is = refl;
        state = p.state;
      };
    }
    datagram_heard (Some a) p = record {
      served = OpenQuery (p.query).number;
      turn = inr record { query = p.query; input = p.input; served_is = refl; brings = p.told; serves = p.serves };
    }

    pub datagram_lost : IsLost s k at_socket new → Turns s at_socket None new
    datagram_lost p = record {
      served = OpenQuery (p.query).number;
      turn = (
        p.query,
        p.one.stands,
        refl,
        (h.port, found_is (IsOfLine sock from bytes) s.queries k p.query h.found p.one),
        more_stores s k (p.query).number
            (λ stores. (input : Input) × IsToldBy (s.site).port (p.query).ask at_socket input × Stops (s.site).home s.clock input (p.query).job s.stores stores)
            (λ stores. (input : Input) × IsInput s at_socket p.query input × Stops (s.site).home s.clock input (p.query).job s.stores stores)
            new (sym p.one.number_is) (λ it. it) p.left,
      );
    }

    pub datagram_loud : 12 ≤ length bytes → IsQuiet s at_socket → ⊥
    datagram_loud header (inl port) = port h.port
    datagram_loud header (inr (inl short)) = absurd (omega arith)
    datagram_loud header (inr (inr none)) = none h.found.query h.found.one.stands h.found.is

-- ---- a reply over TCP

abbrev NoneAsked : State → ℕ → Type 0
NoneAsked s ask = (q : Open) → Contains s.queries q → IsOfNumber ask q → ⊥

module _ (s : State) (now ask : ℕ) (bytes : List ℕ) where
  abbrev on_stream : Event
  on_stream = TcpReply now ask bytes

  pub reply_missed : NoneAsked s ask → Turns s on_stream (Some []) s
  reply_missed none = record { served = Nobody; turn = inl record { served_is = refl; nobody = none; out_is = refl; state = refl } }

  module _ (k : ℕ) (h : Finds (IsOfNumber ask) s.queries k) where
    of_number : (q : Open) → IsTheOne s.queries k q → IsOfNumber ask q
    of_number q one = found_is (IsOfNumber ask) s.queries k q h one

    pub reply_heard : (out : List ActionSpec) (new : State) → IsServed s k on_stream out new → Turns s on_stream (Some out) new
    reply_heard out new p = record {
      served = OpenQuery (p.query).number;
      turn = inr record { query = p.query; input = p.input; served_is = refl; brings = inl p.told; serves = p.serves };
    }

    pub reply_lost : (new : State) → IsLost s k on_stream new → Turns s on_stream None new
    reply_lost new p = record {
      served = OpenQuery (p.query).number;
      turn = (
        p.query,
        p.one.stands,
        refl,
        of_number p.query p.one,
        more_stores s k (p.query).number
            (λ stores. (input : Input) × IsToldBy (s.site).port (p.query).ask on_stream input × Stops (s.site).home s.clock input (p.query).job s.stores stores)
            (λ stores. (input : Input) × IsInput s on_stream p.query input × Stops (s.site).home s.clock input (p.query).job s.stores stores)
            new (sym p.one.number_is) (λ it. (it.0, inl it.1, it.2)) p.left,
      );
    }

    pub reply_loud : IsQuiet s on_stream → ⊥
    reply_loud none = none h.query h.one.stands h.is

    -- Where it is not accepted the ask failed.
    module _ (mid : State) (passed : IsPassed s k on_stream mid) where
      unfit : (q : Open) → IsTheOne s.queries k q → IsUnfit s on_stream q
      unfit q one = subst (IsUnfit s on_stream) (one.alone passed.query passed.one.stands passed.one.number_is) passed.unfit

      pub reply_failed : (out : List ActionSpec) (new : State) → Tells mid k jobs.TcpFailed out new → Turns s on_stream (Some out) new
      reply_failed out new told =
          let p : Tells s k jobs.TcpFailed out new = subst (λ (z : State). Tells z k jobs.TcpFailed out new) passed.state told in
          record {
            served = OpenQuery (p.query).number;
            turn = inr record {
              query = p.query;
              input = jobs.TcpFailed ((p.query).ask).server;
              served_is = refl;
              brings = inr (of_number p.query p.one, unfit p.query p.one, refl);
              serves = p.serves;
            };
          }

      pub reply_failed_lost : (new : State) → Untold mid k jobs.TcpFailed new → Turns s on_stream None new
      reply_failed_lost new lost =
          let p : Untold s k jobs.TcpFailed new = subst (λ (z : State). Untold z k jobs.TcpFailed new) passed.state lost in
          record {
            served = OpenQuery (p.query).number;
            turn = (
              p.query,
              p.one.stands,
              refl,
              of_number p.query p.one,
              more_stores s k (p.query).number
                  (Stops (s.site).home s.clock (jobs.TcpFailed ((p.query).ask).server) (p.query).job s.stores)
                  (λ stores. (input : Input) × IsInput s on_stream p.query input × Stops (s.site).home s.clock input (p.query).job s.stores stores)
                  new (sym p.one.number_is)
                  (λ stops. (jobs.TcpFailed ((p.query).ask).server, inr (of_number p.query p.one, unfit p.query p.one, refl), stops)) p.left,
            );
          }

-- ---- an ask over TCP that failed

module _ (s : State) (now ask : ℕ) where
  abbrev off_stream : Event
  off_stream = TcpFailed now ask

  pub failure_missed : NoneAsked s ask → Turns s off_stream (Some []) s
  failure_missed none = record { served = Nobody; turn = inl record { served_is = refl; nobody = none; out_is = refl; state = refl } }

  module _ (k : ℕ) (h : Finds (IsOfNumber ask) s.queries k) where
    of_failed : (q : Open) → IsTheOne s.queries k q → IsOfNumber ask q
    of_failed q one = found_is (IsOfNumber ask) s.queries k q h one

    pub failure_heard : (out : List ActionSpec) (new : State) → Tells s k jobs.TcpFailed out new → Turns s off_stream (Some out) new
    failure_heard out new p = record {
      served = OpenQuery (p.query).number;
      turn = inr record {
        query = p.query;
        input = jobs.TcpFailed ((p.query).ask).server;
        served_is = refl;
        brings = (of_failed p.query p.one, refl);
        serves = p.serves;
      };
    }

    pub failure_lost : (new : State) → Untold s k jobs.TcpFailed new → Turns s off_stream None new
    failure_lost new p = record {
      served = OpenQuery (p.query).number;
      turn = (
        p.query,
        p.one.stands,
        refl,
        of_failed p.query p.one,
        more_stores s k (p.query).number
            (Stops (s.site).home s.clock (jobs.TcpFailed ((p.query).ask).server) (p.query).job s.stores)
            (λ stores. (input : Input) × IsInput s off_stream p.query input × Stops (s.site).home s.clock input (p.query).job s.stores stores)
            new (sym p.one.number_is)
            (λ stops. (jobs.TcpFailed ((p.query).ask).server, (of_failed p.query p.one, refl), stops)) p.left,
      );
    }

    pub failure_loud : IsQuiet s off_stream → ⊥
    failure_loud none = none h.query h.one.stands h.is

-- ---- a tick

none_then_some : (s : State) (q : Open) → NoneDue s → IsFirstDue s q → ⊥
none_then_some s q none first = let before = none q first.stands in let due = first.due in absurd (omega arith)

pub followed : {A : Type 0} (new : State) (a : TypedAction A) (o : Option ℕ) (more : Bool) → more ≡ is_some o → MatchOption o (NoneDue new) (λ k. Finds (IsFirstDue new) new.queries k)
    → IsFollowed (alone a) (said_listed (Some a) more) new
followed new a None more is none = inr (
  ap (said_listed (Some a)) is,
  λ some. let before = none some.0 some.1 in let due = some.2 in absurd (omega arith),
)
followed new a (Some k) more is h = inl (ap (said_listed (Some a)) is, (h.query, h.is.stands, h.is.due))

module _ (s : State) (now : ℕ) where
  abbrev at_time : Event
  at_time = Tick now

  pub tick_missed : NoneDue s → Turns s at_time (Some []) s
  tick_missed none = record { served = Nobody; turn = inl record { served_is = refl; nobody = none; out_is = refl; state = refl } }

  module _ (k : ℕ) (h : Finds (IsFirstDue s) s.queries k) (new : State) where
    first_of_all : (q : Open) → IsTheOne s.queries k q → IsFirstDue s q
    first_of_all q one = found_is (IsFirstDue s) s.queries k q h one

    pub tick_rung : (first out : List ActionSpec) → Rings s k first new → IsFollowed first out new → Turns s at_time (Some out) new
    tick_rung first out (inl (late, p)) more = record {
      served = OpenQuery (p.query).number;
      turn = inr (first, inl record { query = p.query; served_is = refl; due = first_of_all p.query p.one; late = late p.query p.one; ends = p.ends }, more);
    }
    tick_rung first out (inr (early, p)) more = record {
      served = OpenQuery (p.query).number;
      turn = inr (
        first,
        inr record {
          query = p.query;
          input = jobs.TimedOut ((p.query).ask).server;
          served_is = refl;
          brings = (first_of_all p.query p.one, early p.query p.one, refl);
          serves = p.serves;
        },
        more,
      );
    }

    pub tick_lost : Unrung s k new → Turns s at_time None new
    tick_lost (early, p) = record {
      served = OpenQuery (p.query).number;
      turn = (
        p.query,
        p.one.stands,
        refl,
        first_of_all p.query p.one,
        more_stores s k (p.query).number
            (Stops (s.site).home s.clock (jobs.TimedOut ((p.query).ask).server) (p.query).job s.stores)
            (λ stores. (input : Input) × IsInput s at_time p.query input × Stops (s.site).home s.clock input (p.query).job s.stores stores)
            new (sym p.one.number_is)
            (λ stops. (jobs.TimedOut ((p.query).ask).server, (first_of_all p.query p.one, early p.query p.one, refl), stops)) p.left,
      );
    }

    pub tick_loud : NoneDue s → ⊥
    tick_loud none = none_then_some s h.query none h.is
