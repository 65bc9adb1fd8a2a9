-- What goes out is one ask at most.
use Rattle.std.proofs.Common.{◌≡◌, ℕ, List, [], ◌∷◌, ◌++◌, length, take, drop, refl, sym, ap, ◌∙◌, subst, arith, length-append}
use Rattle.std.proofs.lemmas.List.{length-map}
use Rattle.std.proofs.Math.Seq.{take-append_seam, drop-append_seam}
use Rattle.dname.specs.Labels.{Name, wire, folded, folded_label, folded_labels}
use Rattle.dname.specs.Laws.{wire-injective}
use Rattle.message_grammar.specs.Messages.{Question, Message, encoding, folded_message, IsMessage}
use Rattle.message_grammar.proofs.Letters.{letters_apart}
use Rattle.message_grammar.proofs.Single.{message_one}
use Rattle.runs.specs.States.{Endpoint, endpoint, Action, Path, ByUdp, ByTcp, Ask}
use Rattle.runs.specs.Messages.{question_for, asking_message, sending, IsSent}

folded_length : (n : Name) → length (wire (folded_labels n)) ≡ length (wire n)
folded_length [] = refl
folded_length (l ∷ ls) =
    let more = folded_length ls in
    let here : length (folded_label l) ≡ length l = length-map l folded in
    let left = length-append (folded_label l) (wire (folded_labels ls)) in
    let right = length-append l (wire ls) in
    omega arith

split_left : (a b c d : List ℕ) → a ++ b ≡ c ++ d → length a ≡ length c → a ≡ c
split_left a b c d e n = sym (take-append_seam a b) ∙ (ap (λ (m : ℕ). take m (a ++ b)) n ∙ (ap (take (length c)) e ∙ take-append_seam c d))

split_right : (a b c d : List ℕ) → a ++ b ≡ c ++ d → length a ≡ length c → b ≡ d
split_right a b c d e n = sym (drop-append_seam a b) ∙ (ap (λ (m : ℕ). drop m (a ++ b)) n ∙ (ap (drop (length c)) e ∙ drop-append_seam c d))

-- One encoding and one message: one question, in its letters.
one_question : (a b : Ask) → encoding (asking_message a) ≡ encoding (asking_message b) → folded_message (asking_message a) ≡ folded_message (asking_message b) → a.name ≡ b.name
one_question a b same message =
    let (head, tail, twelve, is, folds) = letters_apart (asking_message a) (question_for a.name a.kind) refl in
    let (front, back, also, was, other) = letters_apart (asking_message b) (question_for b.name b.kind) refl in
    let behind : wire a.name ++ tail ≡ wire b.name ++ back = split_right head (wire a.name ++ tail) front (wire b.name ++ back) (sym is ∙ (same ∙ was)) (twelve ∙ sym also) in
    let lower : folded_labels a.name ≡ folded_labels b.name = first_name (ap (λ (m : Message). m.questions) message) in
    let long : length (wire a.name) ≡ length (wire b.name) = sym (folded_length a.name) ∙ (ap (λ (n : Name). length (wire n)) lower ∙ folded_length b.name) in
    wire-injective a.name b.name (split_left (wire a.name) tail (wire b.name) back behind long)
  where
    first_name : {p q : Question} → p ∷ [] ≡ q ∷ [] → p.name ≡ q.name
    first_name {p} {q} e = let is : p ≡ q = cc in ap (λ (x : Question). x.name) is

one_kind : (a b : Ask) → folded_message (asking_message a) ≡ folded_message (asking_message b) → a.kind ≡ b.kind
one_kind a b message = first_kind (ap (λ (m : Message). m.questions) message)
  where
    first_kind : {p q : Question} → p ∷ [] ≡ q ∷ [] → p.qtype ≡ q.qtype
    first_kind {p} {q} e = let is : p ≡ q = cc in ap (λ (x : Question). x.qtype) is

pub one_sent : (port : ℕ) (a b : Ask) (action : Action) → IsSent port a action → IsSent port b action → a ≡ b
one_sent port a b action (xs, (encoded, read), is) (ys, (encoded_so, read_so), was) = by a.path b.path refl refl (sym is ∙ was)
  where
    together : a.path ≡ b.path → a.server ≡ b.server → xs ≡ ys → a ≡ b
    together path server same =
        let bytes : encoding (asking_message a) ≡ encoding (asking_message b) = sym encoded ∙ (same ∙ encoded_so) in
        let message : folded_message (asking_message a) ≡ folded_message (asking_message b) = message_one ys _ _ (subst (λ (zs : List ℕ). IsMessage zs (folded_message (asking_message a))) same read) read_so in
        let id : a.id ≡ b.id = ap (λ (m : Message). (m.header).id) message in
        let name = one_question a b bytes message in
        let kind = one_kind a b message in
        λ i. record { path = path i; server = server i; id = id i; name = name i; kind = kind i }

    by : (p q : Path) → a.path ≡ p → b.path ≡ q → sending port a p xs ≡ sending port b q ys → a ≡ b
    by (ByUdp m) (ByUdp n) e f g =
        let sock : m ≡ n = cc in
        let to : endpoint a.server port ≡ endpoint b.server port = cc in
        let same : xs ≡ ys = cc in
        together (e ∙ (ap ByUdp sock ∙ sym f)) (ap (λ (x : Endpoint). x.address) to) same
    by (ByUdp m) (ByTcp n) e f g = absurd (cc)
    by (ByTcp m) (ByUdp n) e f g = absurd (cc)
    by (ByTcp m) (ByTcp n) e f g =
        let number : m ≡ n = cc in
        let to : endpoint a.server port ≡ endpoint b.server port = cc in
        let same : xs ≡ ys = cc in
        together (e ∙ (ap ByTcp number ∙ sym f)) (ap (λ (x : Endpoint). x.address) to) same
