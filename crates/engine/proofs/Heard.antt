-- A message that is for the open query of a number.
use Rattle.std.proofs.Common.{◌≡◌, ℕ, inl, inr, None, List, ◌∷◌, [], refl, sym, ◌∙◌, ap, subst}
use Rattle.std.specs.Prelude.{◌↔◌, IsTrue}
use Rattle.dname.specs.Labels.{same_name}
use Rattle.dname.specs.Laws.{same_name-exact, same_name-equal}
use Rattle.rdata.specs.Types.{type_number}
use Rattle.rdata.specs.declared.addr.Addr.{Addr}
use Rattle.rdata.specs.declared.rtype.RType.{RType}
use Rattle.message_grammar.specs.Messages.{Question, Message, IsMessage}
use Rattle.message_grammar.proofs.Single.{message_one}
use Rattle.wire.specs.declared.via.Via.{Via}
use Rattle.wire.specs.declared.via.Via.TheVariants.{Udp, Tcp}
use Rattle.classify.specs.Read.{Reading, IsReadingOf, AreRead}
use Rattle.resolution.specs.Jobs.{Search, Told}
use Rattle.runs.specs.States.{Endpoint, endpoint, Event, Datagram, TcpReply, Action, Ask, Open, via_of, State}
use Rattle.runs.specs.Messages.{question_for, AnswersAsk}
use Rattle.runs.specs.Steps.{IsOfNumber}
use Rattle.laws.specs.Searches.{IsSought}
use Rattle.iterate.specs.Inputs.{IsSoughtIn}
use Rattle.open_queries.specs.Lookups.{IsTheOne}
use Rattle.engine.specs.Moves.{ServesOne, DropsOne, Answers, Carries, Forgets, IsPassed, IsServed, IsLost}
use Rattle.engine.specs.Finds.{OfTheOne, Reaches}
use Rattle.engine.proofs.Found.{found_is}

-- ---- what a reading answers

pub answers_ask : (way : Via) (m : Message) (r : Reading) (a : Ask) → IsReadingOf way m r → Answers a r → AnswersAsk a m
answers_ask way m r a reads is = record {
  qr = reads.qr;
  opcode = reads.opcode;
  id = reads.id ∙ is.id;
  question = reads.question ∙ (λ i. question_for (is.name i) (is.kind i) ∷ []);
}

-- The last of the comparisons is that of the names.
pub answers_by : (x a : Ask) (r : Reading) → x ≡ a → r.id ≡ x.id → r.kind ≡ x.kind → IsTrue (same_name r.name x.name) ↔ Answers a r
answers_by x a r is id kind =
    subst (λ (b : Ask). IsTrue (same_name r.name x.name) ↔ Answers b r) is
    (λ t. record { id = id; name = same_name-exact r.name x.name t; kind = kind }, λ h. same_name-equal r.name x.name h.name)

only_one : (q r : Question) → q ∷ [] ≡ r ∷ [] → q ≡ r
only_one q r same = cc

pub ask_answers : (way : Via) (m : Message) (r : Reading) (a : Ask) → IsReadingOf way m r → AnswersAsk a m → Answers a r
ask_answers way m r a reads is =
    let same : question_for r.name r.kind ≡ question_for a.name a.kind = only_one _ _ (sym reads.question ∙ is.question) in
    record { id = sym reads.id ∙ is.id; name = ap (λ (q : Question). q.name) same; kind = ap (λ (q : Question). q.qtype) same }

-- Bytes of which nothing was read answer no ask for a served type.
pub unread : (way : Via) (bytes : List ℕ) (k : RType) (a : Ask) (m : Message) → AreRead way bytes None → a.kind ≡ type_number k → IsMessage bytes m → AnswersAsk a m → ⊥
unread way bytes k a m none kind is answers = none m is a.name k answers.qr answers.opcode (answers.question ∙ (λ i. question_for a.name (kind i) ∷ []))

-- ---- its search

first_of : (s t : Search) (rest others : List Search) → s ∷ rest ≡ t ∷ others → s ≡ t
first_of s t rest others same = cc

pub sought_in : (q : Open) (r : Reading) → IsSought q → Answers q.ask r → IsSoughtIn q.job r
sought_in q r h is s rest e =
    let f = h.found in
    let same : s ≡ f.sought = first_of s f.sought rest f.others (sym e ∙ f.searches) in
    (is.name ∙ sym f.name ∙ ap (λ (x : Search). x.name) (sym same), is.kind ∙ sym f.kind ∙ ap (λ (x : Search). x.kind) (sym same))

-- ---- what an event carries

pub datagram_carries : (s : State) (now sock id k : ℕ) (from : Endpoint) (bytes : List ℕ) (m : Message) → Reaches s sock from id k → IsMessage bytes m
    → OfTheOne s.queries k (Carries (s.site).port (Datagram now sock from bytes) Udp m)
datagram_carries s now sock id k from bytes m h is q one =
    let line = found_is _ s.queries k q h.found one in
    record {
      brings = λ answers. (line.0, (λ i. endpoint (sym line.1 i) (h.port i)), is, answers);
      only = λ n brought. subst (AnswersAsk q.ask) (message_one bytes n m brought.2 is) brought.3;
      way_is = ap via_of (sym line.0);
    }

pub reply_carries : (qs : List Open) (port now ask k : ℕ) (bytes : List ℕ) (m : Message) → OfTheOne qs k (IsOfNumber ask) → IsMessage bytes m → OfTheOne qs k (Carries port (TcpReply now ask bytes) Tcp m)
reply_carries qs port now ask k bytes m over is q one =
    let path = over q one in
    record {
      brings = λ answers. (path, is, answers);
      only = λ n brought. subst (AnswersAsk q.ask) (message_one bytes n m brought.1 is) brought.2;
      way_is = ap via_of (sym path);
    }

-- ---- what becomes of it

module _ (s : State) (k : ℕ) (event : Event) (way : Via) (m : Message) (r : Reading) (reads : IsReadingOf way m r) (carries : OfTheOne s.queries k (Carries (s.site).port event way m)) where
  pub is_passed : (q : Open) → IsTheOne s.queries k q → (Answers q.ask r → ⊥) → IsPassed s k event s
  is_passed q one other = record {
    query = q;
    one = one;
    unfit = λ n brought. other (ask_answers way m r q.ask reads ((carries q one).only n brought));
    state = refl;
  }

  module _ (server : Addr) (asked : OfTheOne s.queries k (λ q. server ≡ (q.ask).server)) (answers : OfTheOne s.queries k (λ q. Answers q.ask r)) (new : State) where
    pub is_served : (out : List Action) → ServesOne s k (Told way server m) out new → IsServed s k event out new
    is_served out h =
        let it = carries h.query h.one in
        record {
          query = h.query;
          one = h.one;
          input = Told way server m;
          told = (m, it.brings (answers_ask way m r (h.query).ask reads (answers h.query h.one)), (λ i. Told (it.way_is i) (asked h.query h.one i) m));
          serves = h.serves;
        }

    pub is_lost : DropsOne s k (Told way server m) new → IsLost s k event new
    is_lost h =
        let it = carries h.query h.one in
        record {
          query = h.query;
          one = h.one;
          left = record {
            queries = h.left.queries;
            stores = elim h.left.stores [
              | inl e ↦ inl e
              | inr stops ↦ inr (Told way server m, (m, it.brings (answers_ask way m r (h.query).ask reads (answers h.query h.one)), (λ i. Told (it.way_is i) (asked h.query h.one i) m)), stops)
            ];
            generator = h.left.generator;
            state = h.left.state;
          };
        }

pub is_lost_unread : (s : State) (k : ℕ) (event : Event) (new : State) → Forgets s k new → IsLost s k event new
is_lost_unread s k event new h = record {
  query = h.query;
  one = h.taken.one;
  left = record {
    queries = h.taken.others;
    stores = inl (ap (λ (z : State). z.stores) h.state);
    generator = inl (ap (λ (z : State). z.generator) h.state);
    state = h.state ∙ (λ i. record s { stores = sym (ap (λ (z : State). z.stores) h.state) i; queries = new.queries; generator = sym (ap (λ (z : State). z.generator) h.state) i });
  };
}
