-- More bytes behind a message change nothing of what stands in it, and a later start allows more.
use Rattle.std.proofs.Common.{◌≡◌, ℕ, zero, suc, ◌+◌, ◌≤◌, List, [], ◌∷◌, ◌++◌, length, take, drop, Some, ◌∙◌, ap, arith, length-append}
use Rattle.std.specs.Prelude.{slice_get}
use Rattle.std.proofs.lemmas.List.{take-append-le, drop-append-le}
use Rattle.std.proofs.Common.{length-drop}
use Rattle.message_grammar.specs.Names.{IsLabelAt, IsPointerAt, Stands, root_here, label_here, pointer_here}
use Rattle.message_grammar.specs.Pieces.{Flat, plain_bytes, packed_name, asked_name, full_name, Piece, flat_piece, sized_group}
use Rattle.message_grammar.specs.Places.{IsAt, FlatAt, FlatsAt, PieceAt}

pub get-grown : (bytes more : List ℕ) (at x : ℕ) → slice_get bytes at ≡ Some x → slice_get (bytes ++ more) at ≡ Some x
get-grown [] more at x h = cc
get-grown (b ∷ bytes) more zero x h = h
get-grown (b ∷ bytes) more (suc at) x h = get-grown bytes more at x h

pub take_drop-grown : (bytes more : List ℕ) (at n : ℕ) → at + n ≤ length bytes → take n (drop at (bytes ++ more)) ≡ take n (drop at bytes)
take_drop-grown bytes more at n fits =
    let a : at ≤ length bytes = omega arith in
    let long : n ≤ length (drop at bytes) = omega (arith, length-drop at bytes) in
    ap (take n) (drop-append-le at bytes more a) ∙ take-append-le n (drop at bytes) more long

pub label-grown : (bytes more : List ℕ) (at : ℕ) (l : List ℕ) → IsLabelAt bytes at l → IsLabelAt (bytes ++ more) at l
label-grown bytes more at l h =
    let t = h.there in
    record {
      head = get-grown bytes more at (length l) h.head;
      nonempty = h.nonempty;
      short = h.short;
      there = omega (arith, length-append bytes more);
      text = take_drop-grown bytes more (at + 1) (length l) t ∙ h.text;
    }

pub pointer-grown : (bytes more : List ℕ) (at target : ℕ) → IsPointerAt bytes at target → IsPointerAt (bytes ++ more) at target
pointer-grown bytes more at target h = record {
  high = h.high;
  low = h.low;
  first = get-grown bytes more at (192 + h.high) h.first;
  second = get-grown bytes more (at + 1) h.low h.second;
  fits = h.fits;
  is = h.is;
}

pub stands-grown : (f : List ℕ → List ℕ) (bytes more : List ℕ) (start at end : ℕ) (labels : List (List ℕ)) → Stands f bytes start at labels end
    → Stands f (bytes ++ more) start at labels end
stands-grown f bytes more start at end labels (root_here _ _ _ z e) = root_here start at end (get-grown bytes more at 0 z) e
stands-grown f bytes more start at end labels (label_here _ _ _ w seen rest l s r) =
    label_here start at end w seen rest (label-grown bytes more at w l) s (stands-grown f bytes more start (at + 1 + length w) end rest r)
stands-grown f bytes more start at end labels (pointer_here _ _ _ target past _ p less r e) =
    pointer_here start at end target past labels (pointer-grown bytes more at target p) less (stands-grown f bytes more target target past labels r) e

pub stands-later : (f : List ℕ → List ℕ) (bytes : List ℕ) (start at end : ℕ) (labels : List (List ℕ)) → Stands f bytes start at labels end
    → (later : ℕ) → start ≤ later → Stands f bytes later at labels end
stands-later f bytes start at end labels (root_here _ _ _ z e) later h = root_here later at end z e
stands-later f bytes start at end labels (label_here _ _ _ w seen rest l s r) later h =
    label_here later at end w seen rest l s (stands-later f bytes start (at + 1 + length w) end rest r later h)
stands-later f bytes start at end labels (pointer_here _ _ _ target past _ p less r e) later h =
    pointer_here later at end target past labels p (omega arith) r e

pub at-grown : (bytes more : List ℕ) (at : ℕ) (text : List ℕ) (end : ℕ) → IsAt bytes at text end → IsAt (bytes ++ more) at text end
at-grown bytes more at text end h =
    let t = h.there in
    record {
      there = omega (arith, length-append bytes more);
      is = take_drop-grown bytes more at (length text) t ∙ h.is;
      last = h.last;
    }

pub flat-grown : (bytes more : List ℕ) (at : ℕ) (f : Flat) (end : ℕ) → FlatAt bytes at f end → FlatAt (bytes ++ more) at f end
flat-grown bytes more at (plain_bytes text) end h = at-grown bytes more at text end h
flat-grown bytes more at (packed_name name) end h = record { stands = stands-grown _ bytes more at at end name h.stands; short = h.short }
flat-grown bytes more at (asked_name name) end h = record { stands = stands-grown _ bytes more at at end name h.stands; short = h.short }
flat-grown bytes more at (full_name name) end h = record { stands = stands-grown _ bytes more 0 at end name h.stands; short = h.short }

pub flats-grown : (bytes more : List ℕ) (at : ℕ) (fs : List Flat) (end : ℕ) → FlatsAt bytes at fs end → FlatsAt (bytes ++ more) at fs end
flats-grown bytes more at [] end h = h
flats-grown bytes more at (f ∷ fs) end (mid, first, rest) =
    (mid, flat-grown bytes more at f mid first, flats-grown bytes more mid fs end rest)

pub piece-grown : (bytes more : List ℕ) (at : ℕ) (p : Piece) (end : ℕ) → PieceAt bytes at p end → PieceAt (bytes ++ more) at p end
piece-grown bytes more at (flat_piece f) end h = flat-grown bytes more at f end h
piece-grown bytes more at (sized_group fs) end h = record {
  size = h.size;
  fits = h.fits;
  length_first = at-grown bytes more at _ (at + 2) h.length_first;
  stands = flats-grown bytes more (at + 2) fs end h.stands;
  fills = h.fills;
}
