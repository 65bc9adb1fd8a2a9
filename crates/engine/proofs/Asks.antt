-- How an ask that goes out is one of the resolver's.
use Rattle.std.proofs.Common.{◌≡◌, ℕ, ◌+◌, ◌<◌, inr, List, [], ◌∷◌, refl, sym, ◌∙◌, ap, subst, arith}
use Rattle.std.specs.List.{Contains}
use Rattle.dname.specs.Labels.{Name}
use Rattle.rdata.specs.declared.addr.Addr.{Addr}
use Rattle.resolution.specs.Jobs.{Job, wait_of_job}
use Rattle.runs.specs.States.{Action, ClientQuery, Ask, IsFor, ByUdp, ByTcp, Open, open_query, State, word_of, word_taken, low_half, socket_of}
use Rattle.runs.specs.Messages.{IsSent}
use Rattle.runs.specs.Steps.{IsInUse, IsRaised, AreWith, WaitsByUdp, WaitsByTcp}
use Rattle.open_queries.specs.Lookups.{IsOnStream, HasNo, IsTakenId}
use Rattle.engine.specs.ResolverStates.{IsSound}
use Rattle.engine.specs.Moves.{Puts, Halts}

-- Where the query itself is not open, asks in use are those of all open queries.
in_use : (qs : List Open) (k sock : ℕ) (server : Addr) (from id : ℕ) → HasNo qs k → IsRaised (IsTakenId qs sock server) from id → IsRaised (IsInUse qs k sock server) from id
in_use qs k sock server from id none h = record {
  steps = h.steps;
  is = h.is;
  free = λ it. h.free (it.0, it.1, (it.3, it.4, it.5));
  first = λ n within. let it = h.first n within in (it.0, it.1, none it.0 it.1, it.2.0, it.2.1, it.2.2);
}

module _ (s s1 : State) (drew : s1 ≡ record s { generator = word_taken s.generator }) where
  pub still_none : (k : ℕ) → HasNo s.queries k → HasNo s1.queries k
  still_none k h = subst (λ (z : State). HasNo z.queries k) (sym drew) h

  pub over_fresh : IsSound s → (q : Open) → Contains s1.queries q → IsOnStream s1.tcp_asks q → ⊥
  over_fresh sound q there on =
      let was : Contains s.queries q = subst (λ (z : State). Contains z.queries q) drew there in
      let asked : s1.tcp_asks ≡ s.tcp_asks = ap (λ (z : State). z.tcp_asks) drew in
      let less : s1.tcp_asks < s.tcp_asks = sound.asked q was s1.tcp_asks on in
      omega arith

  module _ (mid : State) (who : ClientQuery) (k : ℕ) (job : Job) (ask : Ask) (due : ℕ) (a : Action) (h : Puts s1 (open_query k who job ask due) a mid) where
    sent_there : IsSent (s.site).port ask a
    sent_there = subst (λ (z : State). IsSent (z.site).port ask a) drew h.sent

    with_it : AreWith (open_query k who job ask due) s.queries mid.queries
    with_it = subst (λ (z : State). AreWith (open_query k who job ask due) z.queries mid.queries) drew h.queries

    put_state : mid ≡ record s { queries = mid.queries; generator = word_taken s.generator }
    put_state = h.state ∙ ap (λ (z : State). record z { queries = mid.queries }) drew

    pub waits_by_udp : (server : Addr) (n : Name) (t sock : ℕ) → IsFor server n t ask → HasNo s.queries k → sock ≡ socket_of (s.site).sockets (word_of s.generator) → ask.path ≡ ByUdp sock
        → IsRaised (IsTakenId s1.queries sock ask.server) (low_half (word_of s.generator)) ask.id → due ≡ s.clock + wait_of_job job
        → WaitsByUdp s who k s.opened server n t job s.stores (a ∷ []) mid
    waits_by_udp server n t sock for none sock_is path raised due_is = record {
      ask = ask;
      for = for;
      goes = record {
        sock = sock;
        sock_is = sock_is;
        path = path;
        id = in_use s.queries k sock ask.server (low_half (word_of s.generator)) ask.id none
            (subst (λ (z : State). IsRaised (IsTakenId z.queries sock ask.server) (low_half (word_of s.generator)) ask.id) drew raised);
      };
      waits = record {
        action = a;
        sent = sent_there;
        out_is = refl;
        queries = subst (λ (d : ℕ). AreWith (open_query k who job ask d) s.queries mid.queries) due_is with_it;
        state = put_state;
      };
    }

    pub waits_by_tcp : (server : Addr) (n : Name) (t : ℕ) → IsFor server n t ask → ask.path ≡ ByTcp s.tcp_asks → ask.id ≡ low_half (word_of s.generator) → due ≡ s.clock + 3000
        → WaitsByTcp s who k s.opened server n t job s.stores (a ∷ []) (record mid { tcp_asks = mid.tcp_asks + 1 })
    waits_by_tcp server n t for path id due_is = record {
      ask = ask;
      for = for;
      goes = record { path = path; id = id };
      waits = record {
        action = a;
        sent = sent_there;
        out_is = refl;
        queries = subst (λ (d : ℕ). AreWith (open_query k who job ask d) s.queries mid.queries) due_is with_it;
        state = ap (λ (z : State). record z { tcp_asks = z.tcp_asks + 1 }) put_state;
      };
    }

  pub halts : (new : State) → new ≡ s1 → Halts s new
  halts new same = record {
    generator = inr (ap (λ (z : State). z.generator) (same ∙ drew));
    state = subst (λ (z : State). z ≡ record s { generator = z.generator }) (sym (same ∙ drew)) refl;
  }
