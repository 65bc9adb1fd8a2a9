-- Words that stand between spaces as they are.
use Rattle.std.proofs.Common.{◌≡◌, ℕ, ◌==◌, Bool, true, false, ◌&&◌, not, List, [], ◌∷◌, ◌++◌, refl, append_assoc}
use Rattle.std.proofs.lemmas.List.{append-nil}
use Rattle.master_lexer.specs.Lexemes.{ends_word}
use Rattle.master_lexer.specs.Lines.{is_plain}

pub both : (a b : Bool) → (a && b) ≡ true → (a ≡ true) × (b ≡ true)
both true b e = (refl, e)
both false b e = cc

pub and_true : (a b : Bool) → a ≡ true → b ≡ true → (a && b) ≡ true
and_true a b h k = rw (h, k) refl

pub plain_append : (escaped : Bool) (a b : List ℕ) → is_plain escaped a ≡ true → is_plain false b ≡ true → is_plain escaped (a ++ b) ≡ true
plain_append true [] b h k = cc
plain_append false [] b h k = k
plain_append true (c ∷ a) b h k =
    let q = both (not (c == 10)) (is_plain false a) h in
    and_true (not (c == 10)) (is_plain false (a ++ b)) q.0 (plain_append false a b q.1 k)
plain_append false (c ∷ a) b h k =
    let q = both (not (ends_word c)) (is_plain (c == 92) a) h in
    and_true (not (ends_word c)) (is_plain (c == 92) (a ++ b)) q.0 (plain_append (c == 92) a b q.1 k)

pub plain_byte : (c : ℕ) (w : List ℕ) → ends_word c ≡ false → (c == 92) ≡ false → is_plain false w ≡ true → is_plain false (c ∷ w) ≡ true
plain_byte c w h k p = rw (h, k) p

-- five texts, one behind the other, and eight
pub five_joined : (a b c d e : List ℕ) → a ++ b ++ c ++ d ++ e ≡ a ++ (b ++ (c ++ (d ++ (e ++ []))))
five_joined a b c d e = simp (append_assoc, append-nil)

pub eight_joined : (a b c d e f g h : List ℕ) → a ++ b ++ c ++ d ++ e ++ f ++ g ++ h ≡ a ++ (b ++ (c ++ (d ++ (e ++ (f ++ (g ++ (h ++ [])))))))
eight_joined a b c d e f g h = simp (append_assoc, append-nil)
