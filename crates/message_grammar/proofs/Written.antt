-- What is written stands: a row of pieces.
use Rattle.std.proofs.Common.{◌≡◌, ℕ, ◌+◌, ◌<◌, List, [], ◌∷◌, ◌++◌, length, take, refl, sym, ◌∙◌, ap, subst, arith, length-append, append_assoc}
use Rattle.std.proofs.lemmas.List.{append-nil}
use Rattle.std.specs.List.{AllByRecursion}
use Rattle.std.specs.Int.{bytes_high_first}
use Rattle.std.proofs.Math.Seq.{drop-append_seam, take-length}
use Rattle.dname.specs.Labels.{folded_label, wire, IsName}
use Rattle.message_grammar.specs.Packing.{Note, packed}
use Rattle.message_grammar.specs.Pieces.{Flat, plain_bytes, packed_name, asked_name, full_name, Piece, flat_piece, sized_group, Text, place_of, flat_bytes, flat_notes, put_flat, put_flats, group_of, with_group, put, after, empty, written}
use Rattle.message_grammar.specs.Places.{IsAt, FlatAt, FlatsAt, PieceAt, PiecesAt}
use Rattle.message_grammar.specs.Messages.{IsSpelling}
use Rattle.message_grammar.proofs.Growing.{at-grown, flat-grown, piece-grown}
use Rattle.message_grammar.proofs.Standing.{AllStood, stood-grown, stood-append, stood-along, stands-along, packed_stands, packed_full, packed_noted, full_stands, full_noted}

-- Pieces that can be written: their names are names.
abbrev pub IsFlat : Flat → Type 0
IsFlat (plain_bytes b) = Unit {0}
IsFlat (packed_name n) = IsName n
IsFlat (asked_name n) = IsSpelling n
IsFlat (full_name n) = IsName n

abbrev pub IsPiece : Piece → Type 0
IsPiece (flat_piece f) = IsFlat f
IsPiece (sized_group fs) = AllByRecursion IsFlat fs

pub at_behind : (pre text : List ℕ) → IsAt (pre ++ text) (length pre) text (length (pre ++ text))
at_behind pre text = record {
  there = omega (arith, length-append pre text);
  is = ap (take (length text)) (drop-append_seam pre text) ∙ take-length text;
  last = length-append pre text;
}

flat_stands : (notes : List Note) (pre : List ℕ) (f : Flat) → AllStood pre (length pre) notes → IsFlat f
    → FlatAt (pre ++ flat_bytes notes f) (length pre) f (length (pre ++ flat_bytes notes f))
flat_stands notes pre (plain_bytes b) stood is = at_behind pre b
flat_stands notes pre (packed_name n) stood is = record {
  stands = stands-along folded_label _ _ (length pre) _ _ _ _ n (packed_stands notes n pre (length pre) (length pre) (omega arith) stood is.labels) refl refl (sym (length-append pre (packed notes n)));
  short = is.short;
}
flat_stands notes pre (asked_name n) stood is = record {
  stands = stands-along _ _ _ (length pre) _ _ _ _ n (full_stands n pre (length pre) is.spelled) refl refl (sym (length-append pre _));
  short = is.short;
}
flat_stands notes pre (full_name n) stood is =
    let same = packed_full n is.labels in
    record {
      stands = stands-along folded_label _ _ 0 (length pre) (length pre) _ _ n (packed_stands [] n pre 0 0 (omega arith) tt is.labels) (ap (λ x. pre ++ x) same) refl
          (omega (arith, length-append pre (wire n), ap length same));
      short = is.short;
    }

flat_noted : (notes : List Note) (pre : List ℕ) (f : Flat) → AllStood pre (length pre) notes → IsFlat f
    → AllStood (pre ++ flat_bytes notes f) (length (pre ++ flat_bytes notes f)) (flat_notes notes (length pre) f)
flat_noted notes pre (plain_bytes b) stood is = tt
flat_noted notes pre (packed_name n) stood is = packed_noted notes n pre (length pre) (omega arith) stood is.labels
flat_noted notes pre (asked_name n) stood is = full_noted n pre is.spelled
flat_noted notes pre (full_name n) stood is = tt

pub piece-along : (bytes text : List ℕ) (at place : ℕ) (p : Piece) (end last : ℕ) → PieceAt bytes at p end → bytes ≡ text → at ≡ place → end ≡ last
    → PieceAt text place p last
piece-along bytes text at place p end last h b a e =
    let P : List ℕ → Type 0 = λ x. PieceAt x place p last in
    let Q : ℕ → Type 0 = λ x. PieceAt bytes x p last in
    let R : ℕ → Type 0 = λ x. PieceAt bytes at p x in
    subst P b (subst Q a (subst R e h))

pub flats-along : (bytes text : List ℕ) (at place : ℕ) (fs : List Flat) (end last : ℕ) → FlatsAt bytes at fs end → bytes ≡ text → at ≡ place → end ≡ last
    → FlatsAt text place fs last
flats-along bytes text at place fs end last h b a e =
    let P : List ℕ → Type 0 = λ x. FlatsAt x place fs last in
    let Q : ℕ → Type 0 = λ x. FlatsAt bytes x fs last in
    let R : ℕ → Type 0 = λ x. FlatsAt bytes at fs x in
    subst P b (subst Q a (subst R e h))

-- A text behind these bytes, all of whose notes stand.
pub record IsKept (before : List ℕ) (t : Text) : Type 0 where
  pub at : length before ≡ t.start
  pub stood : AllStood (before ++ t.bytes) (length (before ++ t.bytes)) t.notes

-- A text goes on as another.
pub record Continues (t u : Text) : Type 0 where
  pub more : List ℕ
  pub bytes : u.bytes ≡ t.bytes ++ more
  pub start : u.start ≡ t.start

pub record FlatPut (before : List ℕ) (t : Text) (f : Flat) (u : Text) : Type 0 where
  pub kept : IsKept before u
  pub continues : Continues t u
  pub there : FlatAt (before ++ u.bytes) (place_of t) f (place_of u)

pub flat_put : (before : List ℕ) (t : Text) (f : Flat) → IsKept before t → IsFlat f → FlatPut before t f (put_flat t f)
unfolding put_flat
flat_put before t f kept is =
    let pre = before ++ t.bytes in
    let text = flat_bytes t.notes f in
    let a = kept.at in
    let here : length pre ≡ place_of t = omega (arith, length-append before t.bytes) in
    let joined : pre ++ text ≡ before ++ (t.bytes ++ text) = append_assoc before t.bytes text in
    let last : length (pre ++ text) ≡ t.start + length (t.bytes ++ text) = omega (arith, length-append pre text, length-append before t.bytes, length-append t.bytes text) in
    let notes = stood-append (pre ++ text) (length (pre ++ text)) t.notes (flat_notes t.notes (length pre) f)
    (stood-grown pre text (length pre) (length (pre ++ text)) t.notes kept.stood (omega (arith, length-append pre text)))
    (flat_noted t.notes pre f kept.stood is) in
    record {
      kept = record {
        at = a;
        stood = stood-along (pre ++ text) _ _ _ notes joined (ap (λ k. t.notes ++ flat_notes t.notes k f) here);
      };
      continues = record { more = text; bytes = refl; start = refl };
      there = piece-along (pre ++ text) _ (length pre) _ (flat_piece f) _ _ (flat_stands t.notes pre f kept.stood is) joined here last;
    }

pub record FlatsPut (before : List ℕ) (t : Text) (fs : List Flat) (u : Text) : Type 0 where
  pub kept : IsKept before u
  pub continues : Continues t u
  pub there : FlatsAt (before ++ u.bytes) (place_of t) fs (place_of u)

-- One text goes on as a second, and that as a third.
continues_on : (t u v : Text) → Continues t u → Continues u v → Continues t v
continues_on t u v h k = record {
  more = h.more ++ k.more;
  bytes = k.bytes ∙ (ap (λ x. x ++ k.more) h.bytes ∙ append_assoc t.bytes h.more k.more);
  start = k.start ∙ h.start;
}

-- What stands before a text stands before its continuation.
pub grown_by : (before : List ℕ) (t u : Text) (h : Continues t u) → (before ++ t.bytes) ++ h.more ≡ before ++ u.bytes
grown_by before t u h = append_assoc before t.bytes h.more ∙ ap (λ x. before ++ x) (sym h.bytes)

pub flats_put : (fs : List Flat) (before : List ℕ) (t : Text) → IsKept before t → AllByRecursion IsFlat fs → FlatsPut before t fs (put_flats t fs)
flats_put [] before t kept is = record {
  kept = kept;
  continues = record { more = []; bytes = sym (append-nil t.bytes); start = refl };
  there = refl;
}
flats_put (f ∷ fs) before t kept (one, others) =
    let first = flat_put before t f kept one in
    let u = put_flat t f in
    let rest = flats_put fs before u first.kept others in
    let v = put_flats u fs in
    record {
      kept = rest.kept;
      continues = continues_on t u v first.continues rest.continues;
      there = (
        place_of u,
        piece-along _ _ _ _ (flat_piece f) _ _ (flat-grown (before ++ u.bytes) rest.continues.more (place_of t) f (place_of u) first.there)
            (grown_by before u v rest.continues) refl refl,
        rest.there,
      );
    }

pub record PiecePut (before : List ℕ) (t : Text) (p : Piece) (u : Text) : Type 0 where
  pub kept : IsKept before u
  pub continues : Continues t u
  pub there : length u.bytes < 65536 → PieceAt (before ++ u.bytes) (place_of t) p (place_of u)

long_two : (n : ℕ) → length (bytes_high_first 2 n) ≡ 2
long_two n = refl

-- Behind a group's length its text begins, with the notes so far.
pub group_kept : (before : List ℕ) (t : Text) (size : List ℕ) → length size ≡ 2 → IsKept before t
    → IsKept ((before ++ t.bytes) ++ size) (record { start = place_of t + 2; bytes = []; notes = t.notes })
group_kept before t size two kept =
    let pre = before ++ t.bytes in
    let a = kept.at in
    let nothing : (pre ++ size) ++ [] ≡ pre ++ size = append-nil (pre ++ size) in
    record {
      at = omega (arith, length-append pre size, length-append before t.bytes);
      stood = stood-along (pre ++ size) ((pre ++ size) ++ []) t.notes t.notes
          (stood-grown pre size (length pre) (length (pre ++ size)) t.notes kept.stood (omega (arith, length-append pre size))) (sym nothing) refl;
    }

pub group_put : (before : List ℕ) (t : Text) (fs : List Flat) → IsKept before t → AllByRecursion IsFlat fs
    → PiecePut before t (sized_group fs) (with_group t (group_of t fs))
group_put before t fs kept is =
    let group = group_of t fs in
    let size = bytes_high_first 2 (length group.bytes) in
    let pre = before ++ t.bytes in
    let a = kept.at in
    let inner : Text = record { start = place_of t + 2; bytes = []; notes = t.notes } in
    let here : length pre ≡ place_of t = omega (arith, length-append before t.bytes) in
    let behind : length (pre ++ size) ≡ place_of t + 2 = omega (arith, length-append pre size, length-append before t.bytes) in
    let done = flats_put fs (pre ++ size) inner (group_kept before t size refl kept) is in
    let joined : (pre ++ size) ++ group.bytes ≡ before ++ (t.bytes ++ (size ++ group.bytes)) =
    append_assoc pre size group.bytes ∙ append_assoc before t.bytes (size ++ group.bytes) in
    let began = done.continues.start in
    let last : t.start + length (t.bytes ++ (size ++ group.bytes)) ≡ place_of t + 2 + length group.bytes =
    omega (arith, length-append t.bytes (size ++ group.bytes), length-append size group.bytes) in
    record {
      kept = record { at = a; stood = stood-along _ _ _ _ done.kept.stood joined refl };
      continues = record { more = size ++ group.bytes; bytes = refl; start = refl };
      there = λ few. record {
        size = length group.bytes;
        fits = omega (arith, length-append t.bytes (size ++ group.bytes), length-append size group.bytes);
        length_first = piece-along _ _ _ _ (flat_piece (plain_bytes size)) _ _
            (at-grown (pre ++ size) group.bytes (length pre) size (length (pre ++ size)) (at_behind pre size)) joined here behind;
        stands = flats-along _ _ _ _ fs _ _ done.there joined (omega arith) (omega arith);
        fills = last;
      };
    }

pub piece_put : (before : List ℕ) (t : Text) (p : Piece) → IsKept before t → IsPiece p → PiecePut before t p (put t p)
unfolding put
piece_put before t (flat_piece f) kept is =
    let done = flat_put before t f kept is in
    record { kept = done.kept; continues = done.continues; there = λ few. done.there }
piece_put before t (sized_group fs) kept is = group_put before t fs kept is

pub record PiecesPut (before : List ℕ) (t : Text) (ps : List Piece) (u : Text) : Type 0 where
  pub continues : Continues t u
  pub there : length u.bytes < 65536 → PiecesAt (before ++ u.bytes) (place_of t) ps (place_of u)

pub pieces_put : (ps : List Piece) (before : List ℕ) (t : Text) → IsKept before t → AllByRecursion IsPiece ps → PiecesPut before t ps (after t ps)
pieces_put [] before t kept is = record {
  continues = record { more = []; bytes = sym (append-nil t.bytes); start = refl };
  there = λ few. refl;
}
pieces_put (p ∷ ps) before t kept (one, others) =
    let first = piece_put before t p kept one in
    let u = put t p in
    let rest = pieces_put ps before u first.kept others in
    let v = after u ps in
    let long : length v.bytes ≡ length u.bytes + length rest.continues.more = ap length rest.continues.bytes ∙ length-append u.bytes rest.continues.more in
    record {
      continues = continues_on t u v first.continues rest.continues;
      there = λ few. (
        place_of u,
        piece-along _ _ _ _ p _ _ (piece-grown (before ++ u.bytes) rest.continues.more (place_of t) p (place_of u) (first.there (omega arith)))
            (grown_by before u v rest.continues) refl refl,
        rest.there few,
      );
    }

-- A text of at most 65,535 bytes that was written as a row of pieces holds that row.
pub written_stands : (ps : List Piece) → AllByRecursion IsPiece ps → length (written ps) < 65536 → PiecesAt (written ps) 0 ps (length (written ps))
written_stands ps is few =
    let done = pieces_put ps [] empty (record { at = refl; stood = tt }) is in
    let began = done.continues.start in
    let P : ℕ → Type 0 = λ n. PiecesAt (written ps) 0 ps n in
    subst P (omega arith) (done.there few)
