-- A query's echo is the question that its bytes ask.
use Rattle.std.proofs.Common.{◌≡◌, ◌∙◌, sym, ap, subst, inl, inr, ℕ, Bool, true, false, cond, nat_eq, Option, Some, None, List, [], ◌∷◌, refl}
use Rattle.dname.specs.Labels.{folded_labels}
use Rattle.rdata.specs.Types.{type_number}
use Rattle.rdata.specs.declared.rtype.RType.{RType}
use Rattle.message_grammar.specs.Names.{SpeltAt}
use Rattle.message_grammar.specs.Messages.{Message, Question, QuestionsAt, IsMessage, internet, served_type}
use Rattle.message_grammar.proofs.Served.{served_numbers}
use Rattle.message_grammar.proofs.Whole.{spelling_gives}
use Rattle.front.specs.Openings.{Opening, opening_of}
use Rattle.front.specs.Queries.{Heard, nothing_heard, other_heard, one_heard, IsHeard, IsRequest, answerable_type, query_of, by_type, by_heard}
use Rattle.front.specs.Laws.{question_of, IsEchoed}
use Rattle.front.specs.declared.queries.Query.{Query}
use Rattle.front.specs.declared.queries.Request.TheVariants as request

-- The letters of a question are its name in lower case.
letters_fold : (bytes : List ℕ) (m : Message) (q : Question) (letters : List (List ℕ)) (end : ℕ) → IsMessage bytes m → m.questions ≡ q ∷ [] → SpeltAt bytes 12 letters end
    → folded_labels letters ≡ q.name
letters_fold bytes m q letters end is only spelt =
    let asked = subst (λ (qs : List Question). QuestionsAt bytes 12 qs is.behind_questions) only is.questions in
    sym (spelling_gives bytes 12 letters q.name end asked.1.behind_name spelt asked.1.name).0

-- The type of a query is that of its question, whose class is IN.
answerable : (s : Opening) (q : Question) (kind : RType) → answerable_type s q ≡ Some kind → (q.qtype ≡ type_number kind) × (q.qclass ≡ internet)
answerable s q kind h = by (nat_eq s.opcode 0) h
  where
    by : (b : Bool) → cond b (served_type q.qtype q.qclass) None ≡ Some kind → (q.qtype ≡ type_number kind) × (q.qclass ≡ internet)
    by true is = served_numbers q.qtype q.qclass kind is
    by false is = absurd (cc)

echoed : {A : Type 0} (bytes : List ℕ) (s : Opening) (m : Message) (q : Question) (letters : List (List ℕ)) (kind : RType) (asking : Query A) → IsMessage bytes m → m.questions ≡ q ∷ []
    → folded_labels letters ≡ q.name → (q.qtype ≡ type_number kind) × (q.qclass ≡ internet) → asking ≡ query_of s q letters kind → IsEchoed bytes asking
echoed {A = A} bytes s m q letters kind asking is only folds (number, class) sorted =
    let whole : q ≡ question_of {A = A} (query_of s q letters kind) = λ i. record { name = q.name; qtype = number i; qclass = class i } in
    subst (λ (x : Query A). IsEchoed bytes x) (sym sorted) (record {
      message = m;
      is = is;
      only = only ∙ ap (λ x. x ∷ []) whole;
      echo = λ i. record { name = folds i; qtype = number i; qclass = class i };
    })

by_kind : {A : Type 0} (bytes : List ℕ) (s : Opening) (m : Message) (q : Question) (letters : List (List ℕ)) (asking : Query A) → IsMessage bytes m → m.questions ≡ q ∷ []
    → folded_labels letters ≡ q.name → (o : Option RType) → answerable_type s q ≡ o → request.Query asking ≡ by_type s q letters o → IsEchoed bytes asking
by_kind bytes s m q letters asking is only folds None test sorted = absurd (cc)
by_kind bytes s m q letters asking is only folds (Some kind) test sorted = echoed bytes s m q letters kind asking is only folds (answerable s q kind test) (cc)

by_meaning : {A : Type 0} (bytes : List ℕ) (s : Opening) (heard : Heard) (asking : Query A) → IsHeard bytes heard → request.Query asking ≡ by_heard s heard → IsEchoed bytes asking
by_meaning bytes s nothing_heard asking hears is = absurd (cc)
by_meaning bytes s (other_heard m) asking hears is = absurd (cc)
by_meaning bytes s (one_heard m q letters) asking hears is =
    by_kind bytes s m q letters asking hears.0 hears.1 (letters_fold bytes m q letters hears.2.0 hears.0 hears.1 hears.2.1) (answerable_type s q) refl is

pub echo_is_question : {A : Type 0} (bytes : List ℕ) (q : Query A) → IsRequest bytes (request.Query q) → IsEchoed bytes q
echo_is_question bytes q (inl dropped) = let no = dropped.1 in absurd (cc)
echo_is_question bytes q (inr asked) = by_meaning bytes (opening_of bytes) asked.heard q asked.hears asked.is
