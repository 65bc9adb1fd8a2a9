-- Zones noted one by one under their origins, and found again.
use Rattle.std.proofs.Common.{◌≡◌, ◌∙◌, sym, ap, refl, subst, ℕ, ◌+◌, ◌<◌, ◌≤◌, ◌⊎◌, inl, inr, arith, set, Bool, true, false, ◌||◌, not, cond, Option, Some, None, List, [], ◌∷◌, ◌++◌, length, take, get_or, Bor}
use Rattle.std.specs.Prelude.{find, filter, is_some, is_none, slice_get, Vec}
use Rattle.std.specs.List.{list_any}
use Rattle.std.specs.Option.{option_or, option_copied}
use Rattle.std.proofs.lemmas.List.{take_more, length-set, get_or-set_other}
use Rattle.std.proofs.lemmas.Bool.Decides.{eqb_tells}
use Rattle.std.proofs.lemmas.Grind.{get_or-set_at}
use Rattle.std.proofs.lemmas.List.Folds.{find-append}
use Rattle.std.proofs.lemmas.Option.{slice_get-get_or, slice_get_past, slice_get_read}
use Rattle.std.specs.Slice.{IsItemAt}
use Rattle.std.specs.HashMap.{HashMap}
use Rattle.dname.specs.Keys.{at_name}
use Rattle.dname.specs.Labels.{wire, same_name}
use Rattle.dname.specs.Laws.{same_name-exact}
use Rattle.zone.specs.Zones.{Zone}
use Rattle.zone.proofs.LawLists.{find_of}
use Rattle.authority.specs.Catalogs.{zone_at, has_origin_in, is_chosen, chosen}
use Rattle.authority.specs.Origins.{placed, AreSized, ArePlaces}
use Rattle.authority.proofs.Twins.{kept_more}

-- The zone's origin is that one.
abbrev at : List (List ℕ) → Zone → Bool
at n z = same_name z.origin n

-- None is found where none passes the test.
none_step : (x : Zone) (b : Bool) (rest : Option Zone) → (b || is_some rest) ≡ false → cond b (Some x) rest ≡ None
none_step x true rest h = cc
none_step x false None h = refl
none_step x false (Some y) h = cc

some_any : (p : Zone → Bool) (xs : List Zone) → is_some (find p xs) ≡ list_any p xs
some_any p [] = refl
some_any p (x ∷ xs) = step (p x) (find p xs) (list_any p xs) (some_any p xs)
  where
    step : (b : Bool) (rest : Option Zone) (c : Bool) → is_some rest ≡ c → is_some (cond b (Some x) rest) ≡ (b || c)
    step true rest c h = refl
    step false rest c h = h

unfound : (o : Option Zone) → is_some o ≡ false → o ≡ None
unfound None h = refl
unfound (Some z) h = cc

pub none_is : (o : Option ℕ) → is_none o ≡ not (is_some o)
none_is None = refl
none_is (Some i) = refl

by_some : (o : Option ℕ) (b : Bool) → is_some o ≡ not b → b ≡ is_none o
by_some None true h = refl
by_some None false h = h
by_some (Some i) true h = h
by_some (Some i) false h = refl

pub fresh_is : (o p : Option ℕ) (b : Bool) → is_some o ≡ not b → o ≡ p → b ≡ is_none p
fresh_is o p b h e = by_some o b h ∙ ap is_none e

-- The zones noted so far, and one more of another origin.
last_found : (z : Zone) (q : List (List ℕ)) (front : Option Zone) (b : Bool) → at q z ≡ b → (b ≡ true → front ≡ None) → option_or front (find (at q) (z ∷ [])) ≡ cond b (Some z) front
last_found z q front true e none = ap (λ (o : Option Zone). option_or o (find (at q) (z ∷ []))) (none refl) ∙ ap (λ (c : Bool). cond c (Some z) None) e
last_found z q None false e none = ap (λ (c : Bool). cond c (Some z) None) e
last_found z q (Some y) false e none = refl

placed_new : (zs : List Zone) (i : ℕ) (z : Zone) (b : Bool) (old : Option ℕ) (front : Option Zone) → i < length zs → z ≡ get_or zs i z → placed zs old ≡ front → placed zs (cond b (Some i) old) ≡ cond b (Some z) front
placed_new zs i z true old front lt e h = slice_get-get_or zs i z lt ∙ ap (λ (y : Zone). Some y) (sym e)
placed_new zs i z false old front lt e h = h

pub place_more : (zs : List Zone) (i : ℕ) (z : Zone) (q : List (List ℕ)) (old new : Option ℕ) → i < length zs → z ≡ get_or zs i z → list_any (at z.origin) (take i zs) ≡ false → placed zs old ≡ zone_at q (take i zs)
    → new ≡ cond (same_name z.origin q) (Some i) old → placed zs new ≡ zone_at q (take (i + 1) zs)
place_more zs i z q old new lt e apart h en =
    let nobody : at q z ≡ true → zone_at q (take i zs) ≡ None =
    λ same. unfound (zone_at q (take i zs)) (some_any (at q) (take i zs) ∙ (ap (λ (n : List (List ℕ)). list_any (at n) (take i zs)) (sym (same_name-exact z.origin q same)) ∙ apart)) in
    ap (placed zs) en
    ∙ (placed_new zs i z (at q z) old (zone_at q (take i zs)) lt e h
    ∙ (sym (last_found z q (zone_at q (take i zs)) (at q z) refl nobody)
    ∙ (sym (find-append (at q) (take i zs) (z ∷ []))
    ∙ (ap (λ (y : Zone). find (at q) (take i zs ++ y ∷ [])) e ∙ ap (find (at q)) (sym (take_more zs i z lt))))))

pub noted_more : (zs : List Zone) (i : ℕ) (z : Zone) (q : List (List ℕ)) (old new : Option ℕ) → i < length zs → z ≡ get_or zs i z → is_some old ≡ list_any (at q) (take i zs)
    → new ≡ cond (same_name z.origin q) (Some i) old → is_some new ≡ list_any (at q) (take (i + 1) zs)
noted_more zs i z q old new lt e h en = kept_more zs i z q (is_some old) (is_some new) lt e h (ap is_some en ∙ either (same_name z.origin q) old)
  where
    either : (b : Bool) (o : Option ℕ) → is_some (cond b (Some i) o) ≡ (is_some o || b)
    either true None = refl
    either true (Some j) = refl
    either false None = refl
    either false (Some j) = refl

-- The zone of an origin, if it is listed: whether it is listed depends on its origin alone.
abbrev pub listed_one : Option (List (List (List ℕ))) → Option Zone → Option Zone
listed_one listed None = None
listed_one listed (Some z) = cond (is_chosen listed z) (Some z) None

module _ (origins : List (List (List ℕ))) (n : List (List ℕ)) where
  unlisted : (z : Zone) (xs : List Zone) (o : Option Zone) → find (at n) xs ≡ o → at n z ≡ true → has_origin_in origins z ≡ false → listed_one (Some origins) o ≡ None
  unlisted z xs None e same h = refl
  unlisted z xs (Some y) e same h =
      let one : y.origin ≡ z.origin = same_name-exact y.origin n (find_of (at n) xs y e).1 ∙ sym (same_name-exact z.origin n same) in
      ap (λ (m : List (List ℕ)). cond (list_any (λ (k : List (List ℕ)). same_name m k) origins) (Some y) None) one ∙ ap (λ (b : Bool). cond b (Some y) None) h

  one_step : (z : Zone) (xs passed : List Zone) (s f : Bool) → at n z ≡ s → has_origin_in origins z ≡ f → find (at n) passed ≡ listed_one (Some origins) (find (at n) xs)
      → find (at n) (cond f (z ∷ passed) passed) ≡ listed_one (Some origins) (cond s (Some z) (find (at n) xs))
  one_step z xs passed true true es ef h = ap (λ (b : Bool). cond b (Some z) (find (at n) passed)) es ∙ sym (ap (λ (b : Bool). cond b (Some z) None) ef)
  one_step z xs passed true false es ef h = h ∙ (unlisted z xs (find (at n) xs) refl es ef ∙ sym (ap (λ (b : Bool). cond b (Some z) None) ef))
  one_step z xs passed false true es ef h = ap (λ (b : Bool). cond b (Some z) (find (at n) passed)) es ∙ h
  one_step z xs passed false false es ef h = h

  one_listed : (zs : List Zone) → find (at n) (filter (has_origin_in origins) zs) ≡ listed_one (Some origins) (find (at n) zs)
  one_listed [] = refl
  one_listed (z ∷ zs) = one_step z zs (filter (has_origin_in origins) zs) (at n z) (has_origin_in origins z) refl refl (one_listed zs)

any_listed : (o : Option Zone) → o ≡ listed_one None o
any_listed None = refl
any_listed (Some z) = refl

pub zone_listed : (listed : Option (List (List (List ℕ)))) (n : List (List ℕ)) (zs : List Zone) → zone_at n (chosen listed zs) ≡ listed_one listed (zone_at n zs)
zone_listed None n zs = any_listed (zone_at n zs)
zone_listed (Some origins) n zs = one_listed origins n zs

-- What is lent of a place.
pub lent_at : (zs : List Zone) (i : ℕ) (r : Option (Bor Zone)) → IsItemAt zs i r → option_copied r ≡ slice_get zs i
lent_at zs i None h = sym (slice_get_past zs i h.3)
lent_at zs i (Some z) h = sym (slice_get_read zs (length zs) i z.now refl h.3.0 h.1)

pub zone_told : {S Y : Type 0} (m : HashMap (Vec ℕ Y) ℕ S) (sizes : List Bool) (zs : List Zone) (listed : Option (List (List (List ℕ)))) (n : List (List ℕ)) (o : Option ℕ) (r : Option Zone) → ArePlaces m sizes zs
    → o ≡ at_name m n → r ≡ placed zs o → listed_one listed r ≡ zone_at n (chosen listed zs)
zone_told m sizes zs listed n o r h eo er = ap (listed_one listed) (er ∙ (ap (placed zs) eo ∙ h.at n)) ∙ sym (zone_listed listed n zs)

-- A name of a size that is not marked has no place.
unplaced : (o : Option ℕ) → ((i : ℕ) → o ≡ Some i → true ≡ false) → None ≡ o
unplaced None h = refl
unplaced (Some i) h = absurd (h i refl)
  where
    absurd : true ≡ false → None ≡ Some i
    absurd e = cc

pub unmarked : {S Y : Type 0} (m : HashMap (Vec ℕ Y) ℕ S) (sizes : List Bool) (n : List (List ℕ)) → AreSized m sizes → get_or sizes (length (wire n)) false ≡ false → None ≡ at_name m n
unmarked m sizes n h e = unplaced (at_name m n) (λ i there. sym (h.marked n i there) ∙ e)

-- A size is marked, and those that were stay so.
mark : (sizes : List Bool) (k j : ℕ) → k < length sizes → (j ≡ k) ⊎ (get_or sizes j false ≡ true) → get_or (set sizes k true) j false ≡ true
mark sizes k j lt (inl same) = get_or-set_at sizes k j true false same lt
mark sizes k j lt (inr h) = elim (eqb_tells j k) [
  | inl same ↦ get_or-set_at sizes k j true false same.1 lt
  | inr other ↦ get_or-set_other sizes k j true false other.1 ∙ h
]

pub few : (n : ℕ) → n ≤ 255 → n < 256
few n h = omega arith

had : (b : Bool) (place i : ℕ) (o : Option ℕ) → cond b (Some place) o ≡ Some i → (b ≡ true) ⊎ (o ≡ Some i)
had true place i o e = inl refl
had false place i o e = inr e

pub marked_more : {S Y : Type 0} (m n : HashMap (Vec ℕ Y) ℕ S) (sizes : List Bool) (origin : List (List ℕ)) (size place : ℕ) → AreSized m sizes → size ≡ length (wire origin) → size ≤ 255
    → ((q : List (List ℕ)) → at_name n q ≡ cond (same_name origin q) (Some place) (at_name m q)) → AreSized n (set sizes size true)
marked_more m n sizes origin size place h is short noted = record {
  all = length-set sizes size true ∙ h.all;
  marked = λ q i there. mark sizes size (length (wire q)) (subst (λ (k : ℕ). size < k) (sym h.all) (few size short)) (kept q i (had (same_name origin q) place i (at_name m q) (sym (noted q) ∙ there)));
}
  where
    kept : (q : List (List ℕ)) (i : ℕ) → (same_name origin q ≡ true) ⊎ (at_name m q ≡ Some i) → (length (wire q) ≡ size) ⊎ (get_or sizes (length (wire q)) false ≡ true)
    kept q i (inl same) = inl (ap (λ (x : List (List ℕ)). length (wire x)) (sym (same_name-exact origin q same)) ∙ sym is)
    kept q i (inr old) = inr (h.marked q i old)
