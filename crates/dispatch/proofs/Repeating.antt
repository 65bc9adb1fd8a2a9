-- What is accepted for an ask repeats it, and what is read decides whether it does.
use Rattle.std.proofs.Common.{◌≡◌, ◌∙◌, sym, ap, subst, refl, ℕ, ◌⊎◌, ⊎_elim, ◌↔◌, Bool, false, IsTrue, List, [], ◌∷◌}
use Rattle.dname.specs.Labels.{Name, folded_labels}
use Rattle.message_grammar.specs.Names.{NameAt}
use Rattle.message_grammar.specs.Messages.{Question, Message, QuestionsAt, IsMessage, folded_message}
use Rattle.message_grammar.proofs.Letters.{folded_labels-twice}
use Rattle.message_grammar.proofs.Single.{message_one}
use Rattle.message_grammar.proofs.Whole.{name_spelt, spelling_gives}
use Rattle.wire.specs.declared.error.WireError.{WireError}
use Rattle.wire.specs.declared.error.WireError.TheVariants.{Memory}
use Rattle.runs.specs.Messages.{question_for, asking_message}
use Rattle.dispatch.specs.Repeats.{RepeatsAsk, Repeats, IsAcceptedFor}

-- ---- the law

-- A name that is read is in lower case.
read_is_lower : (bytes : List ℕ) (at : ℕ) (name : Name) (end : ℕ) → NameAt bytes at name end → folded_labels name ≡ name
read_is_lower bytes at name end h =
    let (labels, spelt) = name_spelt bytes at name end h in
    let (is, same) = spelling_gives bytes at labels name end end spelt h in
    ap folded_labels is ∙ (folded_labels-twice labels ∙ sym is)

pub accepted_repeats : (ask reply : List ℕ) → IsAcceptedFor ask reply → Repeats ask reply
accepted_repeats ask reply h =
    let (path, to, is, answers) = h.brings in
    let a = h.open_ask in
    let (mid, first, rest) = subst (λ (qs : List Question). QuestionsAt reply 12 qs is.behind_questions) answers.question is.questions in
    let lower : folded_labels a.name ≡ a.name = read_is_lower reply 12 a.name first.behind_name first.name in (
      folded_message (asking_message a),
      h.message,
      (h.sent).1,
      is,
      record {
        qr = answers.qr;
        opcode = answers.opcode;
        id = answers.id;
        one = refl;
        question = answers.question ∙ ap (λ (n : Name). question_for n a.kind ∷ []) (sym lower);
      },
    )

-- ---- what is read

pub judged : (ask reply : List ℕ) (a m : Message) (b : Bool) → IsMessage ask a → IsMessage reply m → (IsTrue b ↔ RepeatsAsk a m) → (IsTrue b ↔ Repeats ask reply)
judged ask reply a m b asked is h = (λ yes. (a, m, asked, is, h.0 yes), back)
  where
    back : Repeats ask reply → IsTrue b
    back (x, y, was, here, r) =
        h.1 (subst (λ (n : Message). RepeatsAsk n m) (message_one ask x a was asked) (subst (λ (n : Message). RepeatsAsk x n) (message_one reply y m here is) r))

-- Bytes that are no message repeat nothing, and nothing repeats them.
not_read : (bytes : List ℕ) (e : WireError) → (e ≡ Memory → ⊥) → (e ≡ Memory) ⊎ ((m : Message) → IsMessage bytes m → ⊥) → (m : Message) → IsMessage bytes m → ⊥
not_read bytes e other refused = ⊎_elim (λ memory. absurd (other memory)) (λ none. none) refused

pub no_ask : (ask reply : List ℕ) (e : WireError) → (e ≡ Memory → ⊥) → (e ≡ Memory) ⊎ ((m : Message) → IsMessage ask m → ⊥) → Repeats ask reply → ⊥
no_ask ask reply e other refused (a, m, was, here, r) = not_read ask e other refused a was

pub no_reply : (ask reply : List ℕ) → ((m : Message) → IsMessage reply m → ⊥) → Repeats ask reply → ⊥
no_reply ask reply refused (a, m, was, here, r) = refused m here

pub never : (ask reply : List ℕ) → (Repeats ask reply → ⊥) → (IsTrue false ↔ Repeats ask reply)
never ask reply none = (λ yes. absurd (cc), λ r. absurd (none r))

pub never_accepted : (ask reply : List ℕ) → (Repeats ask reply → ⊥) → IsAcceptedFor ask reply → IsTrue false
never_accepted ask reply none h = absurd (none (accepted_repeats ask reply h))
