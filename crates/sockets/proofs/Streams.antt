-- What is read into a buffer and written from one, piece by piece.
use Rattle.std.proofs.Common.{◌≡◌, ℕ, ◌+◌, ◌-◌, ◌*◌, ◌/◌, ◌%◌, ◌<◌, ◌≤◌, ◌^◌, List, [], ◌∷◌, ◌++◌, length, take, drop, slice_range, slice_index, Result, Ok, Err, MatchResult, sym, ap, ◌∙◌, subst, arith, append_assoc, take-append-drop, drop_at, length-take-le}
use Rattle.std.proofs.lemmas.List.{take_rest}
use Rattle.std.specs.Io.KnownBytes.{Appends}
use Rattle.std.specs.declared.option.Option.{Option}
use Rattle.std.proofs.KnownBytes.{Appends-trans}
use Rattle.byteorder.specs.Endian.{big_bytes}
use Rattle.sockets.specs.declared.fault.FrameError.{FrameError}
use Rattle.sockets.specs.Frames.{IsNotWritten, BeginsWith}
use borrow.Rule.Slice.PartMut.{put_mid, post_of}
use lib.Seq.{take-add, take-append-le}

-- what was read before, and what was read into the buffer behind it
pub take_split : (a b : ℕ) (old new : List ℕ) → a ≤ b → take a new ≡ take a old → take a old ++ slice_range new a b ≡ take b new
take_split a b old new h front =
    let same : a + (b - a) ≡ b = omega arith in
    ap (λ l. l ++ slice_range new a b) (sym front) ∙ sym (take-add a (b - a) new) ∙ ap (λ n. take n new) same

pub slice_range-put_mid : (a k n : ℕ) (xs ys : List ℕ) → a ≤ length xs → n ≤ length ys → slice_range (put_mid a k xs ys) a (a + n) ≡ take n ys
slice_range-put_mid a k n xs ys within fits =
    let same : (a + n) - a ≡ n = omega arith in
    let after = post_of a k xs in
    ap (take ((a + n) - a)) (drop_at (take a xs) (ys ++ after) a (length-take-le a xs within)) ∙ ap (λ m. take m (ys ++ after)) same ∙ take-append-le n ys after fits

-- so many bytes go from what is still to be written to what was written
pub moves_front : (all done rest : List ℕ) (n : ℕ) → all ≡ done ++ rest → all ≡ (done ++ take n rest) ++ take (length rest - n) (drop n rest)
moves_front all done rest n e =
    e ∙ ap (λ l. done ++ l) (sym (take-append-drop n rest)) ∙ sym (append_assoc done (take n rest) (drop n rest)) ∙ ap (λ l. (done ++ take n rest) ++ l) (sym (take_rest rest n))

high_byte : (x y : ℕ) → x < 256 → y < 256 → x ≡ (x * 256 + y) / 256 % 256
high_byte x y a b = omega arith

low_byte : (x y : ℕ) → y < 256 → y ≡ (x * 256 + y) % 256
low_byte x y b = omega arith

-- two bytes are those of their number
pub two_bytes : (xs : List ℕ) (n : ℕ) → length xs ≡ 2 → ((k : ℕ) → slice_index xs k < 256) → n ≡ slice_index xs 0 * 256 + slice_index xs 1 → xs ≡ big_bytes 2 n
two_bytes [] n l small e = absurd (omega arith)
two_bytes (x ∷ []) n l small e = absurd (omega arith)
two_bytes (x ∷ y ∷ z ∷ xs) n l small e = absurd (omega arith)
two_bytes (x ∷ y ∷ []) n l small e =
    rw e (λ i. high_byte x y (small 0) (small 1) i ∷ low_byte x y (small 1) i ∷ [])

-- more bytes than were written may have been meant
pub frame_begun : (a b : Option (List ℕ)) (xs ys all : List ℕ) (e : FrameError) → xs ++ ys ≡ all → IsNotWritten a b xs e → IsNotWritten a b all e
frame_begun a b xs ys all e same (fault, begun) =
    let (front, rest, split, appended) = begun in
    (fault, (front, rest ++ ys, sym same ∙ (ap (λ l. l ++ ys) split ∙ append_assoc front rest ys), appended))

-- two parts of a frame, one written behind the other
pub frame_written : (a b c : Option (List ℕ)) (xs ys all : List ℕ) → xs ++ ys ≡ all → Appends a b xs → Appends b c ys → Appends a c all
frame_written a b c xs ys all same p q = subst (Appends a c) same (Appends-trans a b c xs ys p q)

pub frame_broken : (a b c : Option (List ℕ)) (xs ys all : List ℕ) (e : FrameError) → xs ++ ys ≡ all → Appends a b xs → IsNotWritten b c ys e → IsNotWritten a c all e
frame_broken a b c xs ys all e same p (fault, begun) =
    let (front, rest, split, appended) = begun in
    (fault, (xs ++ front, rest, sym same ∙ (ap (λ l. xs ++ l) split ∙ sym (append_assoc xs front rest)), Appends-trans a b c xs front p appended))

pub both_written : {T : Type 0} (r : Result T FrameError) (a b c : Option (List ℕ)) (xs ys all : List ℕ) → xs ++ ys ≡ all → Appends a b xs
    → MatchResult r (λ _. Appends b c ys) (IsNotWritten b c ys) → MatchResult r (λ _. Appends a c all) (IsNotWritten a c all)
both_written (Ok x) a b c xs ys all same p q = frame_written a b c xs ys all same p q
both_written (Err e) a b c xs ys all same p q = frame_broken a b c xs ys all e same p q

-- a frame whose length came, and its bytes behind that
pub frame_first : (got head rest : List ℕ) (n : ℕ) → got ≡ head ++ rest → head ≡ big_bytes 2 n → n ≤ length rest → n < 2 ^ 16 → BeginsWith got (take n rest)
frame_first got head rest n split counted there small =
    let long : length (take n rest) ≡ n = length-take-le n rest there in
    record {
      rest = drop n rest;
      is = split ∙ ap (λ l. l ++ rest) counted ∙ ap (λ l. big_bytes 2 n ++ l) (sym (take-append-drop n rest))
          ∙ sym (append_assoc (big_bytes 2 n) (take n rest) (drop n rest)) ∙ ap (λ m. (big_bytes 2 m ++ take n rest) ++ drop n rest) (sym long);
      short = subst (λ m. m < 2 ^ 16) (sym long) small;
    }
