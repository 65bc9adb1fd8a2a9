-- Pieces put behind a text until it is longer than a limit.
use Rattle.std.proofs.Common.{◌≡◌, ℕ, ◌<◌, ◌≤◌, inl, inr, List, ◌++◌, length, take, drop, Option, Some, None, refl, sym, ◌∙◌, ap, subst, arith, length-append}
use Rattle.std.proofs.lemmas.List.{take-append-drop}
use Rattle.std.proofs.lemmas.Grind.{flat_map-append}
use Rattle.std.specs.Prelude.{flat_map, IfSome, MatchOption}
use Rattle.message_grammar.specs.Pieces.{Piece, Text, after}
use Rattle.message_grammar.specs.Messages.{Message, IsMessage, IsWritable, encoding, folded_message}
use Rattle.message_grammar.specs.Compression.{IsCompressed}
use Rattle.message_grammar.proofs.Letters.{after-append, pieces_both}
use Rattle.message_grammar.proofs.Whole.{encoding_holds}
use Rattle.message_grammar.proofs.Compressing.{encoding_compressed}
use Rattle.wire.specs.Puts.{Puts, IsOver}
use Rattle.wire.proofs.Writing.{text_given}

-- No piece makes a text shorter.
grows : (ps : List Piece) (t : Text) → length t.bytes ≤ length (after t ps).bytes
grows ps t =
    let both = pieces_both ps t t (record { place = refl; notes = refl }) in
    omega (arith, ap length both.first, length-append t.bytes both.more)

longer : (limit : ℕ) (ps qs : List Piece) (t : Text) → limit < length (after t ps).bytes → limit < length (after t (ps ++ qs)).bytes
longer limit ps qs t h =
    let more = grows qs (after t ps) in
    let same = ap (λ (x : Text). length x.bytes) (after-append ps qs t) in
    omega (arith, h, more, same)

-- A walk that stops before the element at this index.
pub stopped : {X : Type 0} (pieces : X → List Piece) (limit : ℕ) (before now : Text) (xs : List X) (i : ℕ) → now ≡ after before (flat_map pieces (take i xs)) → limit < length now.bytes
    → IsOver limit (flat_map pieces xs) before now
stopped {X} pieces limit before now xs i is h =
    let halves : flat_map pieces (take i xs) ++ flat_map pieces (drop i xs) ≡ flat_map pieces xs =
    sym (flat_map-append pieces (take i xs) (drop i xs)) ∙ ap (λ (l : List X). flat_map pieces l) (take-append-drop i xs) in
    record {
      now = h;
      whole = subst (λ (ps : List Piece). limit < length (after before ps).bytes) halves
          (longer limit (flat_map pieces (take i xs)) (flat_map pieces (drop i xs)) before (subst (λ (t : Text). limit < length t.bytes) is h));
    }

-- One row of pieces behind another.
pub puts_on : {F G : Type 0} (limit : ℕ) (ps qs : List Piece) (x y z : Text) → Puts limit F ps x y → Puts limit G qs y z → Puts limit (F × G) (ps ++ qs) x z
puts_on limit ps qs x y z (inl (is, f)) (inl (so, g)) = inl (so ∙ (ap (λ (t : Text). after t qs) is ∙ sym (after-append ps qs x)), (f, g))
puts_on limit ps qs x y z (inl (is, f)) (inr over) = inr (record {
  now = over.now;
  whole = subst (λ (t : Text). limit < length t.bytes) (ap (λ (t : Text). after t qs) is ∙ sym (after-append ps qs x)) over.whole;
})
puts_on limit ps qs x y z (inr over) (inl (so, g)) =
    let more = grows qs y in
    let same = ap (λ (t : Text). length t.bytes) so in
    inr (record { now = omega (arith, over.now, more, same); whole = longer limit ps qs x over.whole })
puts_on limit ps qs x y z (inr over) (inr last) = inr (record { now = last.now; whole = longer limit ps qs x over.whole })

-- Four rows of pieces, each behind the one before.
pub four_puts : {F G H K : Type 0} (limit : ℕ) (ps qs rs ss : List Piece) (v w x y z : Text) → Puts limit F ps v w → Puts limit G qs w x → Puts limit H rs x y → Puts limit K ss y z
    → Puts limit (((F × G) × H) × K) (((ps ++ qs) ++ rs) ++ ss) v z
four_puts limit ps qs rs ss v w x y z one two three four =
    puts_on limit ((ps ++ qs) ++ rs) ss v y z (puts_on limit (ps ++ qs) rs v x y (puts_on limit ps qs v w x one two) three) four

pub four_after : (ps qs rs ss : List Piece) (t : Text) → after (after (after (after t ps) qs) rs) ss ≡ after t (((ps ++ qs) ++ rs) ++ ss)
four_after ps qs rs ss t =
    ap (λ (x : Text). after (after x rs) ss) (sym (after-append ps qs t))
    ∙ (ap (λ (x : Text). after x ss) (sym (after-append (ps ++ qs) rs t)) ∙ sym (after-append ((ps ++ qs) ++ rs) ss t))

-- What is handed out of the text of a message: the encoding where it is within the limit, which is the message, with
-- its names compressed.
pub record GivenText {X : Type 0} (items : X → List ℕ) (o : Option X) (limit : ℕ) (m : Message) : Type 0 where
  pub bytes : MatchOption o (limit < length (encoding m)) (λ v. (items v ≡ encoding m) × (length (items v) ≤ limit))
  pub message : IfSome o (λ v. IsMessage (items v) (folded_message m))
  pub compressed : IfSome o (λ v. IsCompressed (items v) m)

-- What is handed out of a text that was put so.
module _ {X F : Type 0} (items : X → List ℕ) (o : Option X) (limit : ℕ) (ps : List Piece) (old new : Text) (m : Message) (puts : Puts limit F ps old new) (is : (after old ps).bytes ≡ encoding m)
    (given : MatchOption o (limit < length new.bytes) (λ v. (items v ≡ new.bytes) × (length new.bytes ≤ limit))) where
  bytes_given : MatchOption o (limit < length (encoding m)) (λ v. (items v ≡ encoding m) × (length (items v) ≤ limit))
  bytes_given = by puts
    where
      none : (p : Option X) → IsOver limit ps old new → MatchOption p (limit < length new.bytes) (λ v. (items v ≡ new.bytes) × (length new.bytes ≤ limit))
          → MatchOption p (limit < length (encoding m)) (λ v. (items v ≡ encoding m) × (length (items v) ≤ limit))
      none None over h = subst (λ (b : List ℕ). limit < length b) is over.whole
      none (Some v) over h = let long = over.now in let short = h.1 in absurd (omega (arith, long, short))

      by : Puts limit F ps old new → MatchOption o (limit < length (encoding m)) (λ v. (items v ≡ encoding m) × (length (items v) ≤ limit))
      by (inl (so, f)) = text_given items o new.bytes (encoding m) limit (ap (λ (t : Text). t.bytes) so ∙ is) given
      by (inr over) = none o over given

  some_given : (P : List ℕ → Type 0) → (F → length (encoding m) ≤ limit → P (encoding m)) → IfSome o (λ v. P (items v))
  some_given P go = by puts
    where
      none : (p : Option X) → IsOver limit ps old new → MatchOption p (limit < length new.bytes) (λ v. (items v ≡ new.bytes) × (length new.bytes ≤ limit)) → IfSome p (λ v. P (items v))
      none None over h = tt
      none (Some v) over h = let long = over.now in let short = h.1 in absurd (omega (arith, long, short))

      some : (p : Option X) → F → MatchOption p (limit < length (encoding m)) (λ v. (items v ≡ encoding m) × (length (items v) ≤ limit)) → IfSome p (λ v. P (items v))
      some None f h = tt
      some (Some v) f h = subst P (sym h.0) (go f (subst (λ (x : List ℕ). length x ≤ limit) h.0 h.1))

      by : Puts limit F ps old new → IfSome o (λ v. P (items v))
      by (inl (so, f)) = some o f bytes_given
      by (inr over) = none o over given

  -- All that is said of it.
  pub text_given_out : limit ≤ 65535 → (F → IsWritable m) → GivenText items o limit m
  text_given_out few fits = record {
    bytes = bytes_given;
    message = some_given (λ b. IsMessage b (folded_message m)) (λ f short. encoding_holds m (fits f) (omega (arith, few, short)));
    compressed = some_given (λ b. IsCompressed b m) (λ f short. encoding_compressed m (fits f));
  }
