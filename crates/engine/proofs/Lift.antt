-- What is said of a state without a query is said of the state that has it.
use Rattle.std.proofs.Common.{◌≡◌, ℕ, ◌⊎◌, inl, inr, List, [], ◌∷◌, refl, sym, ◌∙◌, ap, subst}
use Rattle.rdata.specs.declared.addr.Addr.{Addr}
use Rattle.front.specs.declared.queries.Outcome.{Outcome}
use Rattle.resolution.specs.Jobs.{Stores, Job, Input, Next, AskUdp, AskTcp, Done, Fail}
use Rattle.resolution.specs.Rules.{Advances}
use Rattle.resolution.specs.Stops.{Stops}
use Rattle.resolution.proofs.Keeping.{advances_stop}
use Rattle.runs.specs.States.{Action, Plain, ClientQuery, Open, State, word_taken}
use Rattle.runs.specs.Messages.{IsReply}
use Rattle.runs.specs.Steps.{IsInUse, IsRaised, AreOthers, AreWith, Ends, Comes}
use Rattle.open_queries.specs.Lookups.{HasNo, IsTaken}
use Rattle.engine.specs.Moves.{Halts, Goes, Falls, ServesOne, DropsOne}

pub others_same : (qs : List Open) (k : ℕ) → HasNo qs k → AreOthers k qs qs
others_same qs k none = record { stay = λ q there other. there; only = λ q there. (there, none q there) }

pub none_of : (k : ℕ) (old new : List Open) → AreOthers k old new → HasNo new k
none_of k old new h = λ q there. (h.only q there).1

-- Where the query is not open, its reply ends it.
pub ends_here : (s : State) (who : ClientQuery) (k : ℕ) (o : Outcome Plain) (a : Action) → HasNo s.queries k → IsReply who o a → Ends s who k o s.stores (a ∷ []) s
ends_here s who k o a none reply = record { action = a; reply = reply; out_is = refl; queries = others_same s.queries k none; state = refl }

module _ (s : State) (k : ℕ) (others : List Open) (before : Stores) (are : AreOthers k s.queries others) where
  -- The same state without the query, and with other stores.
  abbrev bare : State
  bare = record s { stores = before; queries = others }

  raised_too : (sock : ℕ) (server : Addr) (from id : ℕ) → IsRaised (IsInUse others k sock server) from id → IsRaised (IsInUse s.queries k sock server) from id
  raised_too sock server from id h = record {
    steps = h.steps;
    is = h.is;
    free = λ it. h.free (it.0, are.stay it.0 it.1 it.2, it.2, it.3, it.4, it.5);
    first = λ n within. let it = h.first n within in (it.0, (are.only it.0 it.1).0, it.2, it.3, it.4, it.5);
  }

  with_too : (after : Open) (new : List Open) → after.number ≡ k → AreWith after others new → AreWith after s.queries new
  with_too after new is h = record {
    is = h.is;
    stay = λ q there other. h.stay q (are.stay q there (λ e. other (e ∙ sym is))) other;
    only = λ q there. elim (h.only q there) [ inl e ↦ inl e | inr was ↦ inr ((are.only q was.0).0, was.1) ];
  }

  others_too : (new : List Open) → AreOthers k others new → AreOthers k s.queries new
  others_too new h = record {
    stay = λ q there other. h.stay q (are.stay q there other) other;
    only = λ q there. let it = h.only q there in ((are.only q it.0).0, it.1);
  }

  pub ends_too : (who : ClientQuery) (o : Outcome Plain) (after : Stores) (out : List Action) (new : State) → Ends bare who k o after out new → Ends s who k o after out new
  ends_too who o after out new h = record { action = h.action; reply = h.reply; out_is = h.out_is; queries = others_too new.queries h.queries; state = h.state }

  module _ (who : ClientQuery) (opened : ℕ) (job : Job) (stores : Stores) (out : List Action) (new : State) where
    pub lift : (next : Next) → Comes bare who k opened next job stores out new → Comes s who k opened next job stores out new
    lift (AskUdp server n t) h = record {
      ask = h.ask;
      for = h.for;
      goes = record { sock = h.goes.sock; sock_is = h.goes.sock_is; path = h.goes.path; id = raised_too h.goes.sock (h.ask).server _ (h.ask).id h.goes.id };
      waits = record { action = h.waits.action; sent = h.waits.sent; out_is = h.waits.out_is; queries = with_too _ new.queries refl h.waits.queries; state = h.waits.state };
    }
    lift (AskTcp server n t) h = record {
      ask = h.ask;
      for = h.for;
      goes = record { path = h.goes.path; id = h.goes.id };
      waits = record { action = h.waits.action; sent = h.waits.sent; out_is = h.waits.out_is; queries = with_too _ new.queries refl h.waits.queries; state = h.waits.state };
    }
    lift (Done chain last) h = ends_too who _ stores out new h
    lift (Fail c) h = ends_too who _ stores out new h

-- The work of a query, and what comes of it.
pub goes_on : (s mid : State) (who : ClientQuery) (k : ℕ) (job : Job) (input : Input) (next : Next) (after : Job) (stores : Stores) (out : List Action) (new : State) → HasNo s.queries k
    → mid ≡ record s { stores = stores } → Advances (s.site).home s.clock input job s.stores next after stores → Comes mid who k mid.opened next after mid.stores out new → Goes s who k job input out new
goes_on s mid who k job input next after stores out new none e advances comes = record {
  next = next;
  after = after;
  stores = stores;
  advances = advances;
  comes = lift s k s.queries stores (others_same s.queries k none) who s.opened after stores out new next (subst (λ (z : State). Comes z who k z.opened next after z.stores out new) e comes);
}

pub falls_after : (s mid : State) (job : Job) (input : Input) (next : Next) (after : Job) (stores : Stores) (new : State) → mid ≡ record s { stores = stores }
    → Advances (s.site).home s.clock input job s.stores next after stores → Halts mid new → Falls s job input new
falls_after s mid job input next after stores new e advances h =
    let g : (new.generator ≡ s.generator) ⊎ (new.generator ≡ word_taken s.generator) = subst (λ (z : State). (new.generator ≡ z.generator) ⊎ (new.generator ≡ word_taken z.generator)) e h.generator in
    let is : new ≡ record s { stores = stores; generator = new.generator } = h.state ∙ ap (λ (z : State). record z { generator = new.generator }) e in
    let st : new.stores ≡ stores = ap (λ (z : State). z.stores) is in
    record {
      stores = inr (subst (Stops (s.site).home s.clock input job s.stores) (sym st) (advances_stop (s.site).home s.clock input job s.stores next after stores advances));
      generator = g;
      state = is ∙ ap (λ (x : Stores). record s { stores = x; generator = new.generator }) (sym st);
    }

-- Nothing changed.
pub halts_same : (s new : State) → new ≡ s → Halts s new
halts_same s new same = subst (Halts s) (sym same) (record { generator = inl refl; state = refl })

pub falls_in : (s : State) (job : Job) (input : Input) (stores : Stores) → Stops (s.site).home s.clock input job s.stores stores → Falls s job input (record s { stores = stores })
falls_in s job input stores stops = record { stores = inr stops; generator = inl refl; state = refl }

-- The open query of a number.
pub serves_one : (s mid : State) (k : ℕ) (q : Open) (input : Input) (out : List Action) (new : State) (others : List Open) → IsTaken s.queries k q others → mid ≡ record s { queries = others }
    → Goes mid q.client_query k q.job input out new → ServesOne s k input out new
serves_one s mid k q input out new others taken e goes =
    let h = subst (λ (z : State). Goes z q.client_query k q.job input out new) e goes in
    let number = taken.one.number_is in
    record {
      query = q;
      one = taken.one;
      serves = record {
        stands = taken.one.stands;
        next = h.next;
        job = h.after;
        stores = h.stores;
        advances = h.advances;
        comes = subst (λ (n : ℕ). Comes s q.client_query n s.opened h.next h.after h.stores out new) (sym number) (lift s k others s.stores taken.others q.client_query s.opened h.after h.stores out new h.next h.comes);
      };
    }

pub drops_one : (s mid : State) (k : ℕ) (q : Open) (input : Input) (new : State) (others : List Open) → IsTaken s.queries k q others → mid ≡ record s { queries = others } → Falls mid q.job input new → DropsOne s k input new
drops_one s mid k q input new others taken e falls =
    let h = subst (λ (z : State). Falls z q.job input new) e falls in
    let qs : new.queries ≡ others = ap (λ (z : State). z.queries) h.state in
    record {
      query = q;
      one = taken.one;
      left = record {
        queries = subst (AreOthers k s.queries) (sym qs) taken.others;
        stores = h.stores;
        generator = h.generator;
        state = h.state ∙ ap (λ (x : List Open). record s { stores = new.stores; queries = x; generator = new.generator }) (sym qs);
      };
    }
