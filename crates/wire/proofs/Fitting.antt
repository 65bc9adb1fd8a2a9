-- What is written fits its bits, so that it is the message that is read back.
use Rattle.std.proofs.Common.{◌≡◌, ℕ, ◌+◌, ◌<◌, ◌≤◌, List, [], ◌∷◌, ◌++◌, length, take, get_or, sym, ◌∙◌, ap, subst}
use Rattle.std.proofs.lemmas.List.{append-nil, take_all, take_more}
use Rattle.std.proofs.lemmas.Grind.{flat_map-append}
use Rattle.std.specs.Prelude.{flat_map}
use Rattle.std.specs.List.{AllByRecursion}
use Rattle.dname.specs.Labels.{AreLabels, AreSpelled, IsName}
use Rattle.message_grammar.specs.Messages.{IsSpelling}

pub all_both : {X : Type 0} (P : X → Type 0) (xs ys : List X) → AllByRecursion P xs → AllByRecursion P ys → AllByRecursion P (xs ++ ys)
all_both P [] ys h k = k
all_both P (x ∷ xs) ys (first, rest) k = (first, all_both P xs ys rest k)

-- One element more of a list that is walked.
pub all_more : {X : Type 0} (P : X → Type 0) (xs : List X) (i : ℕ) (x : X) → AllByRecursion P (take i xs) → i < length xs → x ≡ get_or xs i x → P x
    → AllByRecursion P (take (i + 1) xs)
all_more P xs i x h less e p =
    let more : take (i + 1) xs ≡ take i xs ++ x ∷ [] = take_more xs i x less ∙ ap (λ y. take i xs ++ y ∷ []) (sym e) in
    subst (AllByRecursion P) (sym more) (all_both P (take i xs) (x ∷ []) h (p, tt))

pub all_taken : {X : Type 0} (P : X → Type 0) (xs : List X) (i : ℕ) → AllByRecursion P (take i xs) → length xs ≤ i → AllByRecursion P xs
all_taken P xs i h past = subst (AllByRecursion P) (take_all i xs past) h

-- One line more of the lines of a list that is walked.
pub lines_on : {X : Type 0} (line : X → List ℕ) (xs : List X) (i : ℕ) (x : X) → i < length xs → x ≡ get_or xs i x
    → flat_map line (take i xs) ++ line x ≡ flat_map line (take (i + 1) xs)
lines_on line xs i x less e =
    let more : take (i + 1) xs ≡ take i xs ++ x ∷ [] = take_more xs i x less ∙ ap (λ y. take i xs ++ y ∷ []) (sym e) in
    ap (λ l. flat_map line (take i xs) ++ l) (sym (append-nil (line x))) ∙ (sym (flat_map-append line (take i xs) (x ∷ [])) ∙ ap (flat_map line) (sym more))

-- A name is a spelling: its own, in lower case.
pub spelling_of_name : (name : List (List ℕ)) → IsName name → IsSpelling name
spelling_of_name name h = record { spelled = labels name h.labels; short = h.short }
  where
    labels : (ls : List (List ℕ)) → AreLabels ls → AreSpelled ls
    labels [] k = k
    labels (l ∷ []) k = k
    labels (l ∷ m ∷ rest) (first, others) = (first.nonempty, first.short, labels (m ∷ rest) others)
