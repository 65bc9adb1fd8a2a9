-- Zones taken one by one: their origins, and what each of them keeps.
use Rattle.std.proofs.Common.{◌≡◌, ℕ, ◌+◌, ◌<◌, ⊎_elim, Bool, true, false, ◌||◌, not, List, [], ◌∷◌, ◌++◌, length, take, drop, get_or, refl, sym, ◌∙◌, ap, subst}
use Rattle.std.specs.Prelude.{Contains}
use Rattle.std.specs.List.{list_any}
use Rattle.std.proofs.lemmas.Bool.{or_parts, or_from, or_left, or_right, or_cases, not-true, false_from_ne_true, both_ways}
use Rattle.std.proofs.lemmas.List.{take_more, take-append-drop}
use Rattle.std.proofs.lemmas.List.Folds.{list_any-append, list_any_more}
use Rattle.std.proofs.lemmas.List.Elements.{Contains-append_cases}
use Rattle.dname.specs.Labels.{same_name, IsName}
use Rattle.dname.specs.Laws.{same_name-exact, same_name-equal}
use Rattle.zone.specs.Zones.{Zone}
use Rattle.zone.specs.Ruled.{IsZone}
use Rattle.zone.proofs.LawLists.{none_in, in_cases}
use Rattle.authority.specs.Catalogs.{has_twins, AreZones}

-- The zone's origin is that one.
abbrev at : List (List ℕ) → Zone → Bool
at n z = same_name z.origin n

swapped : (m n : List (List ℕ)) → same_name m n ≡ true → same_name n m ≡ true
swapped m n h = same_name-equal n m (sym (same_name-exact m n h))

swapped_apart : (m n : List (List ℕ)) → same_name m n ≡ false → same_name n m ≡ false
swapped_apart m n h = false_from_ne_true (same_name n m) (λ t. both_ways (same_name m n) h (swapped n m t))

any_either : (p : Zone → Bool) (xs : List Zone) (z : Zone) (b : Bool) → (list_any p xs || p z) ≡ b → list_any p (xs ++ z ∷ []) ≡ b
any_either p xs z b h = list_any-append p xs (z ∷ []) ∙ (ap (λ (c : Bool). list_any p xs || c) (alone (p z)) ∙ h)
  where
    alone : (c : Bool) → (c || false) ≡ c
    alone true = refl
    alone false = refl

-- A zone more, of another origin, or of the same.
apart_push : (xs : List Zone) (z : Zone) → has_twins xs ≡ false → list_any (at z.origin) xs ≡ false → has_twins (xs ++ z ∷ []) ≡ false
apart_push [] z h k = refl
apart_push (x ∷ xs) z h k =
    let own = or_parts (list_any (at x.origin) xs) (has_twins xs) h in
    let new = or_parts (at z.origin x) (list_any (at z.origin) xs) k in
    or_from (list_any (at x.origin) (xs ++ z ∷ [])) (has_twins (xs ++ z ∷ []))
    (any_either (at x.origin) xs z false (or_from (list_any (at x.origin) xs) (at x.origin z) own.0 (swapped_apart x.origin z.origin new.0)))
    (apart_push xs z own.1 new.1)

twins_push : (xs : List Zone) (z : Zone) → list_any (at z.origin) xs ≡ true → has_twins (xs ++ z ∷ []) ≡ true
twins_push [] z k = cc
twins_push (x ∷ xs) z k =
    ⊎_elim (λ same. or_left (list_any (at x.origin) (xs ++ z ∷ [])) (has_twins (xs ++ z ∷ []))
    (any_either (at x.origin) xs z true (or_right (list_any (at x.origin) xs) (at x.origin z) (swapped x.origin z.origin same))))
    (λ later. or_right (list_any (at x.origin) (xs ++ z ∷ [])) (has_twins (xs ++ z ∷ [])) (twins_push xs z later))
    (or_cases (at z.origin x) (list_any (at z.origin) xs) k)

twins_append : (xs ys : List Zone) → has_twins xs ≡ true → has_twins (xs ++ ys) ≡ true
twins_append [] ys h = cc
twins_append (x ∷ xs) ys h =
    ⊎_elim (λ first. or_left (list_any (at x.origin) (xs ++ ys)) (has_twins (xs ++ ys))
    (list_any-append (at x.origin) xs ys ∙ or_left (list_any (at x.origin) xs) (list_any (at x.origin) ys) first))
    (λ later. or_right (list_any (at x.origin) (xs ++ ys)) (has_twins (xs ++ ys)) (twins_append xs ys later))
    (or_cases (list_any (at x.origin) xs) (has_twins xs) h)

-- The origins kept so far, and one more.
pub kept_more : (zs : List Zone) (i : ℕ) (z : Zone) (q : List (List ℕ)) (old new : Bool) → i < length zs → z ≡ get_or zs i z → old ≡ list_any (at q) (take i zs) → new ≡ (old || at q z)
    → new ≡ list_any (at q) (take (i + 1) zs)
kept_more zs i z q old new lt e eo en =
    en ∙ (ap (λ (b : Bool). b || at q z) eo ∙ (ap (λ (y : Zone). list_any (at q) (take i zs) || at q y) e ∙ sym (list_any_more (at q) zs i z lt)))

along : (zs : List Zone) (i : ℕ) (z : Zone) → i < length zs → z ≡ get_or zs i z → take i zs ++ z ∷ [] ≡ take (i + 1) zs
along zs i z lt e = ap (λ (y : Zone). take i zs ++ y ∷ []) e ∙ sym (take_more zs i z lt)

pub apart_more : (zs : List Zone) (i : ℕ) (z : Zone) (old b : Bool) → i < length zs → z ≡ get_or zs i z → has_twins (take i zs) ≡ false → old ≡ list_any (at z.origin) (take i zs) → b ≡ not old → b ≡ true
    → has_twins (take (i + 1) zs) ≡ false
apart_more zs i z old b lt e h eo eb t = sym (ap has_twins (along zs i z lt e)) ∙ apart_push (take i zs) z h (sym eo ∙ not-true old (sym eb ∙ t))

pub twins_met : (zs : List Zone) (i : ℕ) (z : Zone) (old b : Bool) → i < length zs → z ≡ get_or zs i z → old ≡ list_any (at z.origin) (take i zs) → b ≡ not old → b ≡ false → has_twins zs ≡ true
twins_met zs i z old b lt e eo eb f =
    let met : has_twins (take (i + 1) zs) ≡ true = sym (ap has_twins (along zs i z lt e)) ∙ twins_push (take i zs) z (sym eo ∙ was old (sym eb ∙ f)) in
    sym (ap has_twins (take-append-drop (i + 1) zs)) ∙ twins_append (take (i + 1) zs) (drop (i + 1) zs) met
  where
    was : (c : Bool) → not c ≡ false → c ≡ true
    was true h = refl
    was false h = cc

-- A zone more that keeps the rules.
pub zones_more : (zs : List Zone) (i : ℕ) (z : Zone) (n : List (List ℕ)) → i < length zs → z ≡ get_or zs i z → AreZones (take i zs) → IsZone z → n ≡ z.origin → IsName n → AreZones (take (i + 1) zs)
zones_more zs i z n lt e all rules en name y m =
    let own : IsZone z × IsName z.origin = (rules, subst IsName en name) in
    ⊎_elim (λ k. all y k) (λ k. ⊎_elim (λ same. subst (λ (w : Zone). IsZone w × IsName w.origin) same own) (λ none. absurd (none_in y none)) (in_cases z y [] k))
    (Contains-append_cases (take i zs) (z ∷ []) y (subst (λ (ys : List Zone). Contains ys y) (sym (along zs i z lt e)) m))
