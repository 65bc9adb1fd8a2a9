-- A name read part by part, as far as a loop has come.
use Rattle.std.proofs.Common.{◌≡◌, ℕ, zero, suc, ◌+◌, ◌-◌, ◌<◌, ◌≤◌, Bool, true, false, List, [], ◌∷◌, ◌++◌, length, Option, Some, None, Result, Ok, Err, refl, sym, ◌∙◌, ap, subst, arith, append_assoc}
use Rattle.std.specs.Prelude.{nat_lt, if◌then◌else◌, slice_range}
use Rattle.std.specs.Option.{unwrap_or, option_or}
use Rattle.std.specs.Result.{IsErrAnd}
use Rattle.std.proofs.lemmas.Bool.Decides.{nat_tests}
use Rattle.std.proofs.lemmas.List.{append-nil, length-take}
use Rattle.std.proofs.Common.{length-append, length-drop, drop}
use Rattle.dname.specs.Labels.{wire, folded_labels, AreSpelled}
use Rattle.wire.specs.declared.error.WireError.{WireError}
use Rattle.wire.specs.declared.error.WireError.TheVariants.{Short, BadLabel, PointerNotEarlier, NameTooLong, BadRdataLength, BadRdataName, TrailingBytes, OverLimit, Memory}
use Rattle.wire.specs.declared.parts.Part.{Part}
use Rattle.wire.specs.declared.parts.Part.TheVariants.{End, Label, Pointer}
use Rattle.wire.specs.declared.parts.Faults.{Faults}
use Rattle.wire.specs.Results.{Fails, Gives, and_then}
use Rattle.dname.specs.Wire.{labels_of, IsSpellingWire}
use Rattle.dname.specs.Laws.{labels_of-wire}
use Rattle.wire.specs.Spellings.{IsSpelt}
use Rattle.wire.specs.Parts.{part_at, behind_label, ends_at, followed, spelt_from, spelt_before, spelt_at, in_lower_case, name_at, full_name_at}

abbrev done : {X E : Type 0} → X → Result X E
done x = Ok x

ok_is : {X E : Type 0} {x y : X} → done {E = E} x ≡ done y → x ≡ y
ok_is h = cc

wire-append : (a b : List (List ℕ)) → wire (a ++ b) ≡ wire a ++ wire b
wire-append [] b = refl
wire-append (l ∷ a) b = ap (λ x. length l ∷ x) (ap (λ x. l ++ x) (wire-append a b) ∙ sym (append_assoc l (wire a) (wire b)))

wire_longer : (front : List (List ℕ)) (label : List ℕ) → length (wire (front ++ label ∷ [])) ≡ length (wire front) + 1 + length label
wire_longer front label =
    omega (arith, ap length (wire-append front (label ∷ [])), length-append (wire front) (length label ∷ (label ++ [])), length-append label [])

pub label_long : (bytes : List ℕ) (place size : ℕ) → place + 1 + size ≤ length bytes → length (slice_range bytes (place + 1) (place + 1 + size)) ≡ size
label_long bytes place size fits =
    omega (arith, length-take (place + 1 + size - (place + 1)) (drop (place + 1) bytes), length-drop (place + 1) bytes)

pub fails_is : {X : Type 0} (e : WireError) (read : Result X WireError) → read ≡ Err e → Fails e read
fails_is Short read h = h
fails_is BadLabel read h = h
fails_is PointerNotEarlier read h = h
fails_is NameTooLong read h = h
fails_is BadRdataLength read h = h
fails_is BadRdataName read h = h
fails_is TrailingBytes read h = h
fails_is OverLimit read h = h
fails_is Memory read h = tt

-- A refusal of a reader is the refusal of what follows from it.
pub fails_with : {X Y : Type 0} (e : WireError) (read : Result X WireError) (total : Result Y WireError) → (read ≡ Err e → total ≡ Err e) → Fails e read → Fails e total
fails_with Short read total f h = f h
fails_with BadLabel read total f h = f h
fails_with PointerNotEarlier read total f h = f h
fails_with NameTooLong read total f h = f h
fails_with BadRdataLength read total f h = f h
fails_with BadRdataName read total f h = f h
fails_with TrailingBytes read total f h = f h
fails_with OverLimit read total f h = f h
fails_with Memory read total f h = tt

pub then_fails : {X Y : Type 0} (r : Result X WireError) (next : X → Result Y WireError) (e : WireError) → Fails e r → Fails e (and_then r next)
then_fails r next e h = fails_with e r (and_then r next) (λ k. ap (λ x. and_then x next) k) h

-- What a `?` hands on.
pub gives_failed : {X Y : Type 0} (view : X → Y) (r : Result X WireError) (e : WireError) (read : Result Y WireError) → IsErrAnd r (λ y. y ≡ e) → Fails e read → Gives view r read
gives_failed view (Ok x) e read h k = absurd h
gives_failed view (Err y) e read h k = subst (λ (z : WireError). Fails z read) (sym h) k

abbrev pub Spelt : Type 0
Spelt = Result (List (List ℕ) × ℕ) WireError

-- What is left of a name, behind these labels.
abbrev pub resumed : List (List ℕ) → Option ℕ → Spelt → Spelt
resumed front end (Ok (labels, past)) = Ok (front ++ labels, unwrap_or end past)
resumed front end (Err e) = Err e

abbrev pub EndsIn : ℕ → ℕ → Option ℕ → Type 0
EndsIn limit stop None = stop ≡ limit
EndsIn limit stop (Some end) = end ≤ limit

pub record Walk (bytes : List ℕ) (faults : Faults) (limit : ℕ) (whole : Spelt) (front : List (List ℕ)) (start place stop : ℕ) (border : WireError) (room : ℕ)
    (end : Option ℕ) : Type 0 where
  pub fuel : ℕ
  pub enough : start + room < fuel
  pub some_room : 0 < room
  pub fits : stop ≤ length bytes
  pub ended : EndsIn limit stop end
  pub taken : room + length (wire front) ≡ 255
  pub so_far : whole ≡ resumed front end (spelt_from fuel bytes faults stop border start place room)

pub unfueled : (fuel : ℕ) (bytes : List ℕ) (faults : Faults) (stop : ℕ) (border : WireError) (start place room : ℕ) → 0 < fuel
    → spelt_from fuel bytes faults stop border start place room
    ≡ and_then (part_at bytes stop border faults.bad_label place) (followed (spelt_from (fuel - 1) bytes faults) bytes faults stop border start place room)
unfueled zero bytes faults stop border start place room h = absurd (omega arith)
unfueled (suc fuel) bytes faults stop border start place room h =
    let less : fuel ≡ suc fuel - 1 = omega arith in
    ap (λ n. and_then (part_at bytes stop border faults.bad_label place) (followed (spelt_from n bytes faults) bytes faults stop border start place room)) less

resumed_none : (r : Spelt) → resumed [] None r ≡ r
resumed_none (Ok (labels, past)) = refl
resumed_none (Err e) = refl

pub walk_begins : (bytes : List ℕ) (faults : Faults) (limit start at : ℕ) → limit ≤ length bytes
    → Walk bytes faults limit (spelt_before bytes faults limit start at) [] start at limit faults.border 255 None
unfolding spelt_before
walk_begins bytes faults limit start at fits = record {
  fuel = start + 256;
  enough = omega arith;
  some_room = omega arith;
  fits = fits;
  ended = refl;
  taken = omega arith;
  so_far = sym (resumed_none (spelt_from (start + 256) bytes faults limit faults.border start at 255));
}

-- What is left, by the part that stands at the place.
left_by : (bytes : List ℕ) (faults : Faults) (limit : ℕ) (whole : Spelt) (front : List (List ℕ)) (start place stop : ℕ) (border : WireError) (room : ℕ)
    (end : Option ℕ) (w : Walk bytes faults limit whole front start place stop border room end) (p : Result Part WireError) → p ≡ part_at bytes stop border faults.bad_label place
    → whole ≡ resumed front end (and_then p (followed (spelt_from (w.fuel - 1) bytes faults) bytes faults stop border start place room))
left_by bytes faults limit whole front start place stop border room end w p is =
    let fuel = w.fuel in
    let enough = w.enough in
    let u = unfueled fuel bytes faults stop border start place room (omega arith) in
    w.so_far ∙ (ap (resumed front end) u
    ∙ ap (λ x. resumed front end (and_then x (followed (spelt_from (fuel - 1) bytes faults) bytes faults stop border start place room))) (sym is))

-- A part that is refused.
pub walk_refused : (bytes : List ℕ) (faults : Faults) (limit : ℕ) (whole : Spelt) (front : List (List ℕ)) (start place stop : ℕ) (border : WireError) (room : ℕ)
    (end : Option ℕ) (w : Walk bytes faults limit whole front start place stop border room end) (e : WireError) (p : Result Part WireError) → p ≡ part_at bytes stop border faults.bad_label place
    → p ≡ Err e → whole ≡ Err e
walk_refused bytes faults limit whole front start place stop border room end w e p is bad =
    left_by bytes faults limit whole front start place stop border room end w (Err e) (sym bad ∙ is)

pub walk_ends : (bytes : List ℕ) (faults : Faults) (limit : ℕ) (whole : Spelt) (front : List (List ℕ)) (start place stop : ℕ) (border : WireError) (room : ℕ)
    (end : Option ℕ) (w : Walk bytes faults limit whole front start place stop border room end) (p : Result Part WireError) → p ≡ part_at bytes stop border faults.bad_label place
    → p ≡ Ok End → whole ≡ Ok (front ++ [] ∷ [], unwrap_or end (place + 1))
walk_ends bytes faults limit whole front start place stop border room end w p is ends =
    left_by bytes faults limit whole front start place stop border room end w (Ok End) (sym ends ∙ is)

test : (b : Bool) (x y : Spelt) → b ≡ true → (if b then x else y) ≡ x
test b x y h = ap (λ c. if c then x else y) h

test_no : (b : Bool) (x y : Spelt) → b ≡ false → (if b then x else y) ≡ y
test_no b x y h = ap (λ c. if c then x else y) h

-- A label with which the name is too long.
pub walk_too_long : (bytes : List ℕ) (faults : Faults) (limit : ℕ) (whole : Spelt) (front : List (List ℕ)) (start place stop : ℕ) (border : WireError) (room : ℕ)
    (end : Option ℕ) (w : Walk bytes faults limit whole front start place stop border room end) (size : ℕ) (p : Result Part WireError) → p ≡ part_at bytes stop border faults.bad_label place
    → p ≡ Ok (Label size) → room < size + 2 → whole ≡ Err faults.too_long
walk_too_long bytes faults limit whole front start place stop border room end w size p is label long =
    let l = left_by bytes faults limit whole front start place stop border room end w (Ok (Label size)) (sym label ∙ is) in
    let b : nat_lt room (size + 2) ≡ true = grind (arith, nat_tests) in
    l ∙ ap (resumed front end) (test (nat_lt room (size + 2)) _ _ b)

-- A label that runs over the border.
pub walk_over : (bytes : List ℕ) (faults : Faults) (limit : ℕ) (whole : Spelt) (front : List (List ℕ)) (start place stop : ℕ) (border : WireError) (room : ℕ)
    (end : Option ℕ) (w : Walk bytes faults limit whole front start place stop border room end) (size : ℕ) (p : Result Part WireError) → p ≡ part_at bytes stop border faults.bad_label place
    → p ≡ Ok (Label size) → size + 2 ≤ room → stop - place - 1 < size → place < stop → whole ≡ Err border
walk_over bytes faults limit whole front start place stop border room end w size p is label room_is over within =
    let l = left_by bytes faults limit whole front start place stop border room end w (Ok (Label size)) (sym label ∙ is) in
    let b : nat_lt room (size + 2) ≡ false = grind (arith, nat_tests) in
    let c : nat_lt stop (place + 1 + size) ≡ true = grind (arith, nat_tests) in
    l ∙ ap (resumed front end) (test_no (nat_lt room (size + 2)) _ _ b ∙ test (nat_lt stop (place + 1 + size)) _ _ c)

resumed_label : (front : List (List ℕ)) (end : Option ℕ) (label : List ℕ) (r : Spelt) → resumed front end (and_then r (behind_label label)) ≡ resumed (front ++ label ∷ []) end r
resumed_label front end label (Ok (labels, past)) = λ i. Ok (sym (append_assoc front (label ∷ []) labels) i, unwrap_or end past)
resumed_label front end label (Err e) = refl

pub walk_label : (bytes : List ℕ) (faults : Faults) (limit : ℕ) (whole : Spelt) (front : List (List ℕ)) (start place stop : ℕ) (border : WireError) (room : ℕ)
    (end : Option ℕ) (w : Walk bytes faults limit whole front start place stop border room end) (size : ℕ) (p : Result Part WireError) → p ≡ part_at bytes stop border faults.bad_label place
    → p ≡ Ok (Label size) → size + 2 ≤ room → size ≤ stop - place - 1 → place < stop
    → Walk bytes faults limit whole (front ++ slice_range bytes (place + 1) (place + 1 + size) ∷ []) start (place + (1 + size)) stop border (room - (size + 1)) end
walk_label bytes faults limit whole front start place stop border room end w size p is label room_is fits within =
    let l = left_by bytes faults limit whole front start place stop border room end w (Ok (Label size)) (sym label ∙ is) in
    let b : nat_lt room (size + 2) ≡ false = grind (arith, nat_tests) in
    let c : nat_lt stop (place + 1 + size) ≡ false = grind (arith, nat_tests) in
    let text = slice_range bytes (place + 1) (place + 1 + size) in
    let enough = w.enough in
    let taken = w.taken in
    let inside = w.fits in
    let long = label_long bytes place size (omega arith) in
    let longer = wire_longer front text in
    let next : place + 1 + size ≡ place + (1 + size) = omega arith in
    record {
      fuel = w.fuel - 1;
      enough = omega arith;
      some_room = omega arith;
      fits = w.fits;
      ended = w.ended;
      taken = omega arith;
      so_far = l ∙ (ap (resumed front end) (test_no (nat_lt room (size + 2)) _ _ b ∙ test_no (nat_lt stop (place + 1 + size)) _ _ c)
          ∙ (resumed_label front end text (spelt_from (w.fuel - 1) bytes faults stop border start (place + 1 + size) (room - (size + 1)))
          ∙ ap (λ n. resumed (front ++ text ∷ []) end (spelt_from (w.fuel - 1) bytes faults stop border start n (room - (size + 1)))) next));
    }

-- A pointer that leads nowhere earlier.
pub walk_forward : (bytes : List ℕ) (faults : Faults) (limit : ℕ) (whole : Spelt) (front : List (List ℕ)) (start place stop : ℕ) (border : WireError) (room : ℕ)
    (end : Option ℕ) (w : Walk bytes faults limit whole front start place stop border room end) (target : ℕ) (p : Result Part WireError) → p ≡ part_at bytes stop border faults.bad_label place
    → p ≡ Ok (Pointer target) → start ≤ target → whole ≡ Err faults.not_earlier
walk_forward bytes faults limit whole front start place stop border room end w target p is pointer forward =
    let l = left_by bytes faults limit whole front start place stop border room end w (Ok (Pointer target)) (sym pointer ∙ is) in
    let b : nat_lt target start ≡ false = grind (arith, nat_tests) in
    l ∙ ap (resumed front end) (test_no (nat_lt target start) _ _ b)

resumed_pointer : (front : List (List ℕ)) (end : Option ℕ) (here : ℕ) (r : Spelt) → resumed front end (and_then r (ends_at here)) ≡ resumed front (option_or end (Some here)) r
resumed_pointer front None here (Ok (labels, past)) = refl
resumed_pointer front (Some before) here (Ok (labels, past)) = refl
resumed_pointer front None here (Err e) = refl
resumed_pointer front (Some before) here (Err e) = refl

first_in : (limit stop : ℕ) (end : Option ℕ) (here size : ℕ) → EndsIn limit stop end → here ≤ stop → EndsIn limit size (option_or end (Some here))
first_in limit stop None here size h within = omega arith
first_in limit stop (Some before) here size h within = h

pub walk_pointer : (bytes : List ℕ) (faults : Faults) (limit : ℕ) (whole : Spelt) (front : List (List ℕ)) (start place stop : ℕ) (border : WireError) (room : ℕ)
    (end : Option ℕ) (w : Walk bytes faults limit whole front start place stop border room end) (target : ℕ) (p : Result Part WireError) → p ≡ part_at bytes stop border faults.bad_label place
    → p ≡ Ok (Pointer target) → target < start → place + 1 < stop
    → Walk bytes faults limit whole front target target (length bytes) Short room (option_or end (Some (place + 2)))
walk_pointer bytes faults limit whole front start place stop border room end w target p is pointer earlier within =
    let l = left_by bytes faults limit whole front start place stop border room end w (Ok (Pointer target)) (sym pointer ∙ is) in
    let b : nat_lt target start ≡ true = grind (arith, nat_tests) in
    let enough = w.enough in
    record {
      fuel = w.fuel - 1;
      enough = omega arith;
      some_room = w.some_room;
      fits = omega arith;
      ended = first_in limit stop end (place + 2) (length bytes) w.ended (omega arith);
      taken = w.taken;
      so_far = l ∙ (ap (resumed front end) (test (nat_lt target start) _ _ b)
          ∙ resumed_pointer front end (place + 2) (spelt_from (w.fuel - 1) bytes faults (length bytes) Short target target room));
    }

-- ---- the name in lower case

pub name_refused : (bytes : List ℕ) (faults : Faults) (limit at : ℕ) (e : WireError) → spelt_at bytes faults limit at ≡ Err e → Fails e (name_at bytes faults limit at)
unfolding name_at
name_refused bytes faults limit at e h = fails_is e (name_at bytes faults limit at) (ap (λ x. and_then x in_lower_case) h)

pub name_found : (bytes : List ℕ) (faults : Faults) (limit at : ℕ) (labels : List (List ℕ)) (past : ℕ) → spelt_at bytes faults limit at ≡ Ok (labels, past)
    → name_at bytes faults limit at ≡ Ok (folded_labels labels, past)
unfolding name_at
name_found bytes faults limit at labels past h = ap (λ x. and_then x in_lower_case) h

pub full_refused : (bytes : List ℕ) (faults : Faults) (limit at : ℕ) (e : WireError) → spelt_before bytes faults limit 0 at ≡ Err e → Fails e (full_name_at bytes faults limit at)
unfolding full_name_at
full_refused bytes faults limit at e h = fails_is e (full_name_at bytes faults limit at) (ap (λ x. and_then x in_lower_case) h)

pub full_found : (bytes : List ℕ) (faults : Faults) (limit at : ℕ) (labels : List (List ℕ)) (past : ℕ) → spelt_before bytes faults limit 0 at ≡ Ok (labels, past)
    → full_name_at bytes faults limit at ≡ Ok (folded_labels labels, past)
unfolding full_name_at
full_found bytes faults limit at labels past h = ap (λ x. and_then x in_lower_case) h

-- ---- the name in its own letters

abbrev pub AllSpelled : List (List ℕ) → Type 0
AllSpelled [] = Unit {0}
AllSpelled (l ∷ rest) = (0 < length l) × (length l < 64) × AllSpelled rest

pub record LettersWalk (bytes : List ℕ) (faults : Faults) (limit before at : ℕ) (letters : List ℕ) (start place stop : ℕ) (border : WireError) (room : ℕ) (end : Option ℕ) : Type 0 where
  pub front : List (List ℕ)
  pub walk : Walk bytes faults limit (spelt_before bytes faults limit before at) front start place stop border room end
  pub form : letters ≡ wire front
  pub spelled : AllSpelled front

pub letters_begin : (bytes : List ℕ) (faults : Faults) (limit before at : ℕ) (letters : List ℕ) → limit ≤ length bytes → letters ≡ [] → LettersWalk bytes faults limit before at letters before at limit faults.border 255 None
letters_begin bytes faults limit before at letters fits none = record { front = []; walk = walk_begins bytes faults limit before at fits; form = none; spelled = tt }

spelled-append : (a : List (List ℕ)) (l : List ℕ) → AllSpelled a → 0 < length l → length l < 64 → AllSpelled (a ++ l ∷ [])
spelled-append [] l h some few = (some, few, tt)
spelled-append (m ∷ a) l h some few = (h.0, h.1, spelled-append a l h.2 some few)

are_spelled : (a : List (List ℕ)) → AllSpelled a → AreSpelled (a ++ [] ∷ [])
are_spelled [] h = refl
are_spelled (l ∷ []) h = (h.0, h.1, refl)
are_spelled (l ∷ m ∷ a) h = (h.0, h.1, are_spelled (m ∷ a) h.2)

pub letters_label : (bytes : List ℕ) (faults : Faults) (limit before at : ℕ) (letters next : List ℕ) (start place stop : ℕ) (border : WireError) (room : ℕ)
    (end : Option ℕ) (w : LettersWalk bytes faults limit before at letters start place stop border room end) (size : ℕ) (p : Result Part WireError) → p ≡ part_at bytes stop border faults.bad_label place
    → p ≡ Ok (Label size) → size + 2 ≤ room → size ≤ stop - place - 1 → place < stop → 0 < size → size < 64
    → next ≡ (letters ++ size ∷ []) ++ slice_range bytes (place + 1) (place + 1 + size)
    → LettersWalk bytes faults limit before at next start (place + (1 + size)) stop border (room - (size + 1)) end
letters_label bytes faults limit before at letters next start place stop border room end w size p is label room_is fits within some few put =
    let text = slice_range bytes (place + 1) (place + 1 + size) in
    let inside = w.walk.fits in
    let long : length text ≡ size = label_long bytes place size (omega arith) in
    let joined : wire (w.front ++ text ∷ []) ≡ wire w.front ++ (length text ∷ (text ++ [])) = wire-append w.front (text ∷ []) in
    let last : length text ∷ (text ++ []) ≡ size ∷ text = λ i. long i ∷ append-nil text i in
    let whole : next ≡ wire (w.front ++ text ∷ []) =
    put ∙ (append_assoc letters (size ∷ []) text ∙ (ap (λ x. x ++ size ∷ text) w.form ∙ sym (joined ∙ ap (λ x. wire w.front ++ x) last))) in
    record {
      front = w.front ++ text ∷ [];
      walk = walk_label bytes faults limit (spelt_before bytes faults limit before at) w.front start place stop border room end w.walk size p is label room_is fits within;
      form = whole;
      spelled = spelled-append w.front text w.spelled (omega arith) (omega arith);
    }

pub letters_done : (bytes : List ℕ) (faults : Faults) (limit before at : ℕ) (letters next : List ℕ) (start place stop : ℕ) (border : WireError) (room : ℕ)
    (end : Option ℕ) (w : LettersWalk bytes faults limit before at letters start place stop border room end) (p : Result Part WireError) → p ≡ part_at bytes stop border faults.bad_label place → p ≡ Ok End
    → next ≡ letters ++ 0 ∷ []
    → IsSpellingWire next × (spelt_before bytes faults limit before at ≡ Ok (labels_of next, unwrap_or end (place + 1)))
letters_done bytes faults limit before at letters next start place stop border room end w p is ends put =
    let labels = w.front ++ [] ∷ [] in
    let read = walk_ends bytes faults limit (spelt_before bytes faults limit before at) w.front start place stop border room end w.walk p is ends in
    let form : next ≡ wire labels = put ∙ (ap (λ x. x ++ 0 ∷ []) w.form ∙ sym (wire-append w.front ([] ∷ []))) in
    let seen : labels_of next ≡ labels = ap labels_of form ∙ labels_of-wire labels in
    let taken = w.walk.taken in
    let some = w.walk.some_room in (
      record {
        labels = subst (λ (x : List (List ℕ)). AreSpelled x) (sym seen) (are_spelled w.front w.spelled);
        bytes = ap wire seen ∙ sym form;
        short = omega (arith, ap length (put ∙ ap (λ x. x ++ 0 ∷ []) w.form), length-append (wire w.front) (0 ∷ []));
      },
      read ∙ (λ i. Ok (sym seen i, unwrap_or end (place + 1))),
    )

-- A name that is kept in its own letters and in lower case.
pub spelt_of : (letters : List ℕ) (name : List (List ℕ)) → IsSpellingWire letters → name ≡ folded_labels (labels_of letters) → IsSpelt letters name
spelt_of letters name h folds = record { labels = h.labels; form = h.bytes; short = h.short; folds = folds }
