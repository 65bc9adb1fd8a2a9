-- Texts one behind the other.
use Rattle.std.proofs.Common.{◌≡◌, ◌∙◌, sym, ap, subst, ℕ, ◌+◌, ◌<◌, Option, List, [], ◌∷◌, ◌++◌, take, length, get_or, append_assoc, codes}
use Rattle.std.specs.List.{flat_map}
use Rattle.std.proofs.lemmas.List.{take_more, flat_map_more}
use Rattle.rdata.specs.Records.{Record}
use Rattle.message_grammar.specs.Messages.{Header, Question, Message}
use Rattle.causes.specs.declared.cause.Cause.{Cause}
use Rattle.reply_lines.specs.Lines.{head_line, record_line, reply_text}

-- One item more is printed.
pub printed_more : {X : Type 0} (f : X → List ℕ) (xs : List X) (i : ℕ) (x : X) (before printed longer : List ℕ) → i < length xs → x ≡ get_or xs i x
    → printed ≡ before ++ flat_map f (take i xs) → longer ≡ printed ++ f x → longer ≡ before ++ flat_map f (take (i + 1) xs)
printed_more f xs i x before printed longer inside is so_far one =
    one ∙ ap (λ text. text ++ f x) so_far ∙ flat_map_more f before (take i xs) x
    ∙ ap (λ items. before ++ flat_map f items) (sym (take_more xs i x inside ∙ ap (λ y. take i xs ++ y ∷ []) (sym is)))

-- The head and three sections are the reply.
pub whole_printed : (client : ℕ) (cause : Option Cause) (h : Header) (asked : List Question) (x y z : List Record) (m : Message) (a b c d e : List ℕ)
    → record { header = h; questions = asked; answer = x; authority = y; additional = z } ≡ m → b ≡ a ++ head_line client h cause
    → c ≡ b ++ flat_map (record_line (codes "an")) x → d ≡ c ++ flat_map (record_line (codes "ns")) y → e ≡ d ++ flat_map (record_line (codes "ar")) z
    → e ≡ a ++ reply_text client m cause
unfolding reply_text
whole_printed client cause h asked x y z m a b c d e is head answer authority additional =
    subst (λ (n : Message). e ≡ a ++ reply_text client n cause) is (rw (additional, authority, answer, head) (simp append_assoc))
