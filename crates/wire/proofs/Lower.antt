-- A message whose questions' names are in lower case is the one that a reader sees.
use Rattle.std.proofs.Common.{◌≡◌, ℕ, List, [], ◌∷◌, map, refl}
use Rattle.std.specs.List.{AllByRecursion}
use Rattle.dname.specs.Labels.{folded_labels, AreLabels, IsName}
use Rattle.message_grammar.specs.Messages.{Question, Message, folded_question, folded_message}
use Rattle.message_grammar.proofs.Standing.{folds_same}

name_same : (n : List (List ℕ)) → AreLabels n → folded_labels n ≡ n
name_same [] h = refl
name_same (l ∷ []) h = let one = h in cc
name_same (l ∷ m ∷ rest) (first, others) =
    let one = folds_same l first.bytes in
    let more = name_same (m ∷ rest) others in
    cc

questions_same : (qs : List Question) → AllByRecursion (λ (q : Question). IsName q.name) qs → map folded_question qs ≡ qs
questions_same [] h = refl
questions_same (q ∷ qs) (first, others) =
    let one = name_same q.name first.labels in
    let more = questions_same qs others in
    λ i. record { name = one i; qtype = q.qtype; qclass = q.qclass } ∷ more i

pub message_same : (m : Message) → AllByRecursion (λ (q : Question). IsName q.name) m.questions → folded_message m ≡ m
message_same m h =
    let same = questions_same m.questions h in
    λ i. record { header = m.header; questions = same i; answer = m.answer; authority = m.authority; additional = m.additional }
