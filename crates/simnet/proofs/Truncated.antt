-- A truncated reply of one question fits a datagram, and its question is in lower case already.
use Rattle.std.proofs.Common.{◌≡◌, ◌⊎◌, inl, inr, ℕ, ◌≤◌, List, [], ◌∷◌, length, refl, sym, ap, ◌∙◌, subst, arith}
use Rattle.dname.specs.Labels.{folded_label, folded_labels, AreFolded, AreLabels, IsName}
use Rattle.message_grammar.specs.Messages.{Question, Message, IsMessage, folded_question, folded_message, encoding}
use Rattle.front.proofs.Short.{asked_once_long}
use Rattle.wire.specs.declared.error.WireError.{WireError}
use Rattle.wire.specs.declared.error.WireError.TheVariants.{Memory}
use Rattle.wire.specs.Drafts.{RefusesText}
use Rattle.events.proofs.Short.{only_memory}
use Rattle.network.specs.Networks.{truncated}

folded_is : (l : List ℕ) → AreFolded l → folded_label l ≡ l
folded_is [] h = refl
folded_is (b ∷ bs) h = λ i. (h.1) i ∷ (folded_is bs h.2) i

labels_are : (n : List (List ℕ)) → AreLabels n → folded_labels n ≡ n
labels_are [] h = absurd h
labels_are (l ∷ []) h = let e : l ≡ [] = h in λ i. (ap folded_label e ∙ sym e) i ∷ []
labels_are (l ∷ m ∷ ls) h = λ i. (folded_is l (h.0).bytes) i ∷ (labels_are (m ∷ ls) h.1) i

question_is : (q : Question) → IsName q.name → folded_question q ≡ q
question_is q name = λ i. record q { name = (labels_are q.name name.labels) i }

module _ (m : Message) (q : Question) (only : m.questions ≡ q ∷ []) (name : IsName q.name) where
  pub truncated_is_folded : folded_message (truncated m) ≡ truncated m
  truncated_is_folded =
      let same : folded_message (record (truncated m) { questions = q ∷ [] }) ≡ record (truncated m) { questions = q ∷ [] } = λ i. record (truncated m) { questions = (question_is q name) i ∷ [] } in
      subst (λ (qs : List Question). folded_message (record (truncated m) { questions = qs }) ≡ record (truncated m) { questions = qs }) (sym only) same

  truncated_is_short : length (encoding (truncated m)) ≤ 512
  truncated_is_short =
      let long = asked_once_long (truncated m).header q in
      let few = name.short in
      subst (λ (qs : List Question). length (encoding (record (truncated m) { questions = qs })) ≤ 512) (sym only) (omega (arith, long, few))

  pub only_starved : (e : WireError) → RefusesText e (encoding (truncated m)) 512 → e ≡ Memory
  only_starved e refused = only_memory e (encoding (truncated m)) truncated_is_short refused

-- Bytes that are a message are refused when out of memory alone.
pub starved_only : (e : WireError) (bytes : List ℕ) (m : Message) → IsMessage bytes m → (e ≡ Memory) ⊎ ((n : Message) → IsMessage bytes n → ⊥) → e ≡ Memory
starved_only e bytes m is (inl memory) = memory
starved_only e bytes m is (inr none) = absurd (none m is)
