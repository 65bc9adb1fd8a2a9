-- One more record in a zone's tree.
use Rattle.std.proofs.Common.{◌≡◌, ℕ, zero, suc, ◌+◌, ◌<◌, Bool, true, false, ◌||◌, cond, Option, Some, None, List, [], ◌∷◌, ◌++◌, length, take, drop, filter, get_or, refl, sym, ◌∙◌, ap, subst, arith}
use Rattle.std.proofs.lemmas.List.{take_more, length-take-le, length-append}
use Rattle.std.proofs.lemmas.Bool.{false_from_ne_true, or_parts}
use Rattle.dname.specs.Labels.{star, root, parent_of, same_name, is_under, AreLabels}
use Rattle.dname.specs.Laws.{same_name-exact, same_name-equal}
use Rattle.dname.proofs.Under.{under_is}
use Rattle.rdata.specs.Records.{Record}
use Rattle.zone.proofs.LawLists.{under_length}
use Rattle.zone.specs.Look.{is_owned}
use Rattle.zone.specs.Tree.{has_under, places_from, places, Spot, spot_of, seen, spot, more, put_place, or_empty, spot_after, picks, AreWithin}
use Rattle.zone.specs.declared.nodes.Node.{Node}

-- The records at the places of those that pass are those that pass.
drop_front : (front rs : List Record) → drop (length front) (front ++ rs) ≡ rs
drop_front [] rs = refl
drop_front (x ∷ front) rs = drop_front front rs

front_moves : (front : List Record) (r : Record) (rs : List Record) → front ++ r ∷ rs ≡ (front ++ r ∷ []) ++ rs
front_moves [] r rs = refl
front_moves (x ∷ front) r rs = ap (λ (l : List Record). x ∷ l) (front_moves front r rs)

length_push : (front : List Record) (r : Record) → length (front ++ r ∷ []) ≡ suc (length front)
length_push [] r = refl
length_push (x ∷ front) r = ap suc (length_push front r)

picked_by : (b : Bool) (all rest : List Record) (is : List ℕ) (k : ℕ) (r : Record) → take 1 (drop k all) ≡ r ∷ [] → picks all is ≡ rest → picks all (cond b (k ∷ is) is) ≡ cond b (r ∷ rest) rest
picked_by true all rest is k r e h = (λ i. e i ++ picks all is) ∙ ap (λ (l : List Record). r ∷ l) h
picked_by false all rest is k r e h = h

picks_from : (p : Record → Bool) (front rs : List Record) (k : ℕ) → k ≡ length front → picks (front ++ rs) (places_from p k rs) ≡ filter p rs
picks_from p front [] k e = refl
picks_from p front (r ∷ rs) k e =
    let here : take 1 (drop k (front ++ r ∷ rs)) ≡ r ∷ [] = ap (λ (n : ℕ). take 1 (drop n (front ++ r ∷ rs))) e ∙ ap (take 1) (drop_front front (r ∷ rs)) in
    let rest : picks (front ++ r ∷ rs) (places_from p (suc k) rs) ≡ filter p rs =
    ap (λ (l : List Record). picks l (places_from p (suc k) rs)) (front_moves front r rs) ∙ picks_from p (front ++ r ∷ []) rs (suc k) (ap suc e ∙ sym (length_push front r)) in
    picked_by (p r) (front ++ r ∷ rs) (filter p rs) (places_from p (suc k) rs) k r here rest

pub picks_are : (p : Record → Bool) (rs : List Record) → picks rs (places p rs) ≡ filter p rs
picks_are p rs = picks_from p [] rs 0 refl

within_by : (b : Bool) (n k : ℕ) (is : List ℕ) → k < n → AreWithin n is → AreWithin n (cond b (k ∷ is) is)
within_by true n k is lt h = (lt, h)
within_by false n k is lt h = h

within_from : (p : Record → Bool) (rs : List Record) (k n : ℕ) → k + length rs ≡ n → AreWithin n (places_from p k rs)
within_from p [] k n e = tt
within_from p (r ∷ rs) k n e = within_by (p r) n k (places_from p (suc k) rs) (omega (arith, e)) (within_from p rs (suc k) n (omega (arith, e)))

pub are_within : (p : Record → Bool) (rs : List Record) → AreWithin (length rs) (places p rs)
are_within p rs = within_from p rs 0 (length rs) (omega arith)

-- The places after one more record.
last_place : (b : Bool) (i k : ℕ) → i ≡ k → cond b (k ∷ []) [] ≡ more b [] i
last_place true i k e = ap (λ (n : ℕ). n ∷ []) (sym e)
last_place false i k e = refl

more_front : (c b : Bool) (k i : ℕ) (is js : List ℕ) → js ≡ more b is i → cond c (k ∷ js) js ≡ more b (cond c (k ∷ is) is) i
more_front true true k i is js e = ap (λ (l : List ℕ). k ∷ l) e
more_front true false k i is js e = ap (λ (l : List ℕ). k ∷ l) e
more_front false true k i is js e = e
more_front false false k i is js e = e

places_push_from : (p : Record → Bool) (xs : List Record) (r : Record) (k i : ℕ) → i ≡ k + length xs → places_from p k (xs ++ r ∷ []) ≡ more (p r) (places_from p k xs) i
places_push_from p [] r k i e = last_place (p r) i k (omega (arith, e))
places_push_from p (x ∷ xs) r k i e = more_front (p x) (p r) k i (places_from p (suc k) xs) (places_from p (suc k) (xs ++ r ∷ [])) (places_push_from p xs r (suc k) i (omega (arith, e)))

places_push : (p : Record → Bool) (xs : List Record) (r : Record) (i : ℕ) → i ≡ length xs → places p (xs ++ r ∷ []) ≡ more (p r) (places p xs) i
places_push p xs r i e = places_push_from p xs r 0 i (omega (arith, e))

-- An owner is at or under its own name, and one of a wildcard under the name that it is a wildcard of.
own_by : (a : List (List ℕ)) (n : List (List ℕ)) → same_name a n ≡ true → is_under a n ≡ true
own_by [] n e = e
own_by (l ∷ ls) n e = ap (λ (b : Bool). b || is_under ls n) e

pub own_under : (r : Record) (n : List (List ℕ)) → is_owned n r ≡ true → is_under r.owner n ≡ true
own_under r n e = own_by r.owner n e

or_true : (b c : Bool) → c ≡ true → (b || c) ≡ true
or_true true c e = refl
or_true false c e = e

pub wild_under : (r : Record) (n : List (List ℕ)) → is_owned (star ∷ n) r ≡ true → is_under r.owner n ≡ true
wild_under r n e =
    let same : r.owner ≡ star ∷ n = same_name-exact r.owner (star ∷ n) e in
    ap (λ (o : List (List ℕ)). is_under o n) same ∙ or_true (same_name (star ∷ n) n) (is_under n n) (own_by n n (same_name-equal n n refl))

not_from : (a b : Bool) → (a ≡ true → b ≡ true) → b ≡ false → a ≡ false
not_from true b f e = sym (f refl) ∙ e
not_from false b f e = refl

pub not_own : (r : Record) (n : List (List ℕ)) → is_under r.owner n ≡ false → is_owned n r ≡ false
not_own r n e = not_from (is_owned n r) (is_under r.owner n) (own_under r n) e

not_wild : (r : Record) (n : List (List ℕ)) → is_under r.owner n ≡ false → is_owned (star ∷ n) r ≡ false
not_wild r n e = not_from (is_owned (star ∷ n) r) (is_under r.owner n) (wild_under r n) e

-- Nothing under a name: no places.
no_places_from : (p : Record → Bool) (n : List (List ℕ)) → ((r : Record) → is_under r.owner n ≡ false → p r ≡ false) → (k : ℕ) (rs : List Record) → has_under n rs ≡ false → places_from p k rs ≡ []
no_places_from p n f k [] e = refl
no_places_from p n f k (r ∷ rs) e =
    let parts = or_parts (is_under r.owner n) (has_under n rs) e in
    ap (λ (b : Bool). cond b (k ∷ places_from p (suc k) rs) (places_from p (suc k) rs)) (f r parts.0) ∙ no_places_from p n f (suc k) rs parts.1

or_none : (b : Bool) → (b || false) ≡ b
or_none true = refl
or_none false = refl

or_parted : (a b c : Bool) → (a || (b || c)) ≡ ((a || b) || c)
or_parted true b c = refl
or_parted false b c = refl

any_push : (n : List (List ℕ)) (xs : List Record) (r : Record) → has_under n (xs ++ r ∷ []) ≡ (has_under n xs || is_under r.owner n)
any_push n [] r = or_none (is_under r.owner n)
any_push n (x ∷ xs) r = ap (λ (b : Bool). is_under x.owner n || b) (any_push n xs r) ∙ or_parted (is_under x.owner n) (has_under n xs) (is_under r.owner n)

abbrev spot_at : List (List ℕ) → List Record → Spot
spot_at n rs = record { own = places (is_owned n) rs; wild = places (is_owned (star ∷ n)) rs }

spot_pushed : (n : List (List ℕ)) (xs : List Record) (r : Record) (i : ℕ) → i ≡ length xs → spot_at n (xs ++ r ∷ []) ≡ put_place n r.owner i (spot_at n xs)
spot_pushed n xs r i e =
    let own = places_push (is_owned n) xs r i e in
    let wild = places_push (is_owned (star ∷ n)) xs r i e in
    λ j. record { own = own j; wild = wild j }

spot_stays : (n : List (List ℕ)) (r : Record) (i : ℕ) (s : Spot) → is_under r.owner n ≡ false → put_place n r.owner i s ≡ s
spot_stays n r i s e =
    let own : more (same_name r.owner n) s.own i ≡ s.own = ap (λ (b : Bool). more b s.own i) (not_own r n e) in
    let wild : more (same_name r.owner (star ∷ n)) s.wild i ≡ s.wild = ap (λ (b : Bool). more b s.wild i) (not_wild r n e) in
    λ j. record { own = own j; wild = wild j }

spot_none : (n : List (List ℕ)) (xs : List Record) → has_under n xs ≡ false → spot_at n xs ≡ or_empty None
spot_none n xs e =
    let own = no_places_from (is_owned n) n (λ r h. not_own r n h) 0 xs e in
    let wild = no_places_from (is_owned (star ∷ n)) n (λ r h. not_wild r n h) 0 xs e in
    λ j. record { own = own j; wild = wild j }

spot_by : (u b : Bool) (n owner : List (List ℕ)) (i : ℕ) (new old : Spot) → new ≡ put_place n owner i old → (b ≡ false → put_place n owner i old ≡ old) → (u ≡ false → old ≡ or_empty None)
    → cond (u || b) (Some new) None ≡ spot_after b n owner i (cond u (Some old) None)
spot_by true true n owner i new old e f g = ap Some e
spot_by true false n owner i new old e f g = ap Some (e ∙ f refl)
spot_by false true n owner i new old e f g = ap Some (e ∙ ap (put_place n owner i) (g refl))
spot_by false false n owner i new old e f g = refl

-- What a node says after one more record of the list.
pub spot_push : (n : List (List ℕ)) (xs : List Record) (r : Record) (i : ℕ) → i ≡ length xs → spot_of n (xs ++ r ∷ []) ≡ spot_after (is_under r.owner n) n r.owner i (spot_of n xs)
spot_push n xs r i e =
    ap (λ (b : Bool). cond b (Some (spot_at n (xs ++ r ∷ []))) None) (any_push n xs r)
    ∙ spot_by (has_under n xs) (is_under r.owner n) n r.owner i (spot_at n (xs ++ r ∷ [])) (spot_at n xs) (spot_pushed n xs r i e) (λ f. spot_stays n r i (spot_at n xs) f) (λ g. spot_none n xs g)

-- The node of a name, put or put anew.
pub put_one : {H : Type 0} (b : Bool) (n owner : List (List ℕ)) (i : ℕ) (s : Spot) (node : Node H) (old new : Option (Node H)) → (b ≡ true → or_empty (spot old) ≡ s) → new ≡ cond b (Some node) old
    → seen node ≡ put_place n owner i s → spot new ≡ spot_after b n owner i (spot old)
put_one true n owner i s node old new h e p = ap spot e ∙ ap Some (p ∙ ap (put_place n owner i) (sym (h refl)))
put_one false n owner i s node old new h e p = ap spot e

-- A name and those above it are put once each.
longer_not_over : (a b : List (List ℕ)) → length a < length b → is_under a b ≡ false
longer_not_over a b lt = false_from_ne_true (is_under a b) (λ t. let most = under_length a b (under_is a b t) in omega (arith, lt, most))

above_by : (c : Bool) (n q owner : List (List ℕ)) (i : ℕ) (p : List (List ℕ)) (s0 s1 s2 : Option Spot) → c ≡ same_name n q → length p < length n
    → s1 ≡ spot_after c n owner i s0 → s2 ≡ spot_after (is_under p q) q owner i s1 → s2 ≡ spot_after (c || is_under p q) q owner i s0
above_by true n q owner i p s0 s1 s2 ec lt e1 e2 =
    let same : n ≡ q = same_name-exact n q (sym ec) in
    let no : is_under p q ≡ false = longer_not_over p q (omega (arith, lt, ap length same)) in
    e2 ∙ (ap (λ (b : Bool). spot_after b q owner i s1) no ∙ (e1 ∙ ap (λ (m : List (List ℕ)). spot_after true m owner i s0) same))
above_by false n q owner i p s0 s1 s2 ec lt e1 e2 = e2 ∙ ap (spot_after (is_under p q) q owner i) e1

pub put_above : (n p q owner : List (List ℕ)) (i : ℕ) (s0 s1 s2 : Option Spot) → parent_of n ≡ Some p
    → s1 ≡ spot_after (same_name n q) n owner i s0 → s2 ≡ spot_after (is_under p q) q owner i s1 → s2 ≡ spot_after (is_under n q) q owner i s0
put_above [] p q owner i s0 s1 s2 h e1 e2 = absurd (cc)
put_above (l ∷ []) p q owner i s0 s1 s2 h e1 e2 = absurd (cc)
put_above (l ∷ m ∷ ms) p q owner i s0 s1 s2 h e1 e2 =
    let e : (m ∷ ms) ≡ p = cc in
    above_by (same_name (l ∷ m ∷ ms) q) (l ∷ m ∷ ms) q owner i (m ∷ ms) s0 s1 s2 refl (omega arith) e1 (e2 ∙ ap (λ (x : List (List ℕ)). spot_after (is_under x q) q owner i s1) (sym e))

root_by : (c : Bool) (n q owner : List (List ℕ)) (i : ℕ) (s0 s1 : Option Spot) → c ≡ same_name n q → s1 ≡ spot_after c n owner i s0 → s1 ≡ spot_after (c || false) q owner i s0
root_by true n q owner i s0 s1 ec e = e ∙ ap (λ (m : List (List ℕ)). spot_after true m owner i s0) (same_name-exact n q (sym ec))
root_by false n q owner i s0 s1 ec e = e

-- The root has no name above it.
pub put_root : (n : List (List ℕ)) (l : List ℕ) (ls : List (List ℕ)) (owner : List (List ℕ)) (i : ℕ) (s0 s1 : Option Spot) → n ≡ root
    → s1 ≡ spot_after (same_name n (l ∷ ls)) n owner i s0 → s1 ≡ spot_after (is_under n (l ∷ ls)) (l ∷ ls) owner i s0
put_root n l ls owner i s0 s1 h e =
    root_by (same_name n (l ∷ ls)) n (l ∷ ls) owner i s0 s1 refl e
    ∙ ap (λ (b : Bool). spot_after b (l ∷ ls) owner i s0) (ap (λ (m : List (List ℕ)). same_name m (l ∷ ls) || false) h ∙ sym (ap (λ (m : List (List ℕ)). is_under m (l ∷ ls)) h))

-- A step of the loop that puts each record.
pub tree_more : (rs : List Record) (i place : ℕ) (r : Record) (up owner q : List (List ℕ)) (s0 s1 : Option Spot) → i < length rs → r ≡ get_or rs i r → place ≡ i → up ≡ r.owner → owner ≡ r.owner
    → s0 ≡ spot_of q (take i rs) → s1 ≡ spot_after (is_under up q) q owner place s0 → s1 ≡ spot_of q (take (i + 1) rs)
tree_more rs i place r up owner q s0 s1 lt at_i ep eu eo e0 e1 =
    let count : place ≡ length (take i rs) = ep ∙ sym (length-take-le i rs (omega (arith, lt))) in
    e1 ∙ (ap (λ (n : List (List ℕ)). spot_after (is_under n q) q owner place s0) eu
    ∙ (ap (λ (n : List (List ℕ)). spot_after (is_under r.owner q) q n place s0) eo
    ∙ (ap (spot_after (is_under r.owner q) q r.owner place) e0
    ∙ (sym (spot_push q (take i rs) r place count)
    ∙ ap (spot_of q) (ap (λ (x : Record). take i rs ++ x ∷ []) at_i ∙ sym (take_more rs i r lt))))))

-- What the node of a name says of the records.
pub record IsSpot (n : List (List ℕ)) (rs : List Record) (s : Spot) : Type 0 where
  pub under : has_under n rs ≡ true
  pub own : s.own ≡ places (is_owned n) rs
  pub wild : s.wild ≡ places (is_owned (star ∷ n)) rs

no_spot_by : (b : Bool) (s : Spot) → None ≡ cond b (Some s) None → b ≡ false
no_spot_by true s e = absurd (cc)
no_spot_by false s e = refl

pub no_spot : (n : List (List ℕ)) (rs : List Record) → None ≡ spot_of n rs → has_under n rs ≡ false
no_spot n rs e = no_spot_by (has_under n rs) (spot_at n rs) e

some_spot_by : (b : Bool) (s t : Spot) → Some s ≡ cond b (Some t) None → (b ≡ true) × (s ≡ t)
some_spot_by true s t e = (refl, cc)
some_spot_by false s t e = absurd (cc)

pub some_spot : (n : List (List ℕ)) (rs : List Record) (s : Spot) → Some s ≡ spot_of n rs → IsSpot n rs s
some_spot n rs s e =
    let (u, same) = some_spot_by (has_under n rs) s (spot_at n rs) e in
    record { under = u; own = ap (λ (t : Spot). t.own) same; wild = ap (λ (t : Spot). t.wild) same }

pub within_is : (p : Record → Bool) (rs : List Record) (is : List ℕ) → is ≡ places p rs → AreWithin (length rs) is
within_is p rs is e = subst (AreWithin (length rs)) (sym e) (are_within p rs)

pub picked_is : (p : Record → Bool) (rs : List Record) (is : List ℕ) → is ≡ places p rs → picks rs is ≡ filter p rs
picked_is p rs is e = ap (picks rs) e ∙ picks_are p rs

-- One record a place.
one_at : {X : Type 0} (xs : List X) (i : ℕ) → i < length xs → length (take 1 (drop i xs)) ≡ 1
one_at [] i lt = omega (arith, lt)
one_at (x ∷ xs) zero lt = refl
one_at (x ∷ xs) (suc i) lt = one_at xs i (omega (arith, lt))

pub picks_length : (rs : List Record) (is : List ℕ) → AreWithin (length rs) is → length (picks rs is) ≡ length is
picks_length rs [] h = refl
picks_length rs (i ∷ is) h = length-append (take 1 (drop i rs)) (picks rs is) ∙ (let one = one_at rs i h.0 in let rest = picks_length rs is h.1 in omega (arith, one, rest))

taken_one : (xs : List Record) (i : ℕ) (d : Record) → i < length xs → take 1 (drop i xs) ≡ get_or xs i d ∷ []
taken_one [] i d lt = absurd (omega (arith, lt))
taken_one (x ∷ xs) zero d lt = refl
taken_one (x ∷ xs) (suc i) d lt = taken_one xs i d (omega (arith, lt))

pub within_at : (n : ℕ) (is : List ℕ) (k : ℕ) → AreWithin n is → k < length is → get_or is k 0 < n
within_at n [] k h lt = omega (arith, lt)
within_at n (i ∷ is) zero h lt = h.0
within_at n (i ∷ is) (suc k) h lt = within_at n is k h.1 (omega (arith, lt))

pub picks_at : (rs : List Record) (is : List ℕ) (k : ℕ) (x : Record) → AreWithin (length rs) is → k < length is → x ≡ get_or rs (get_or is k 0) x → x ≡ get_or (picks rs is) k x
picks_at rs [] k x h lt e = absurd (omega (arith, lt))
picks_at rs (i ∷ is) zero x h lt e = e ∙ sym (ap (λ (l : List Record). get_or (l ++ picks rs is) 0 x) (taken_one rs i x h.0))
picks_at rs (i ∷ is) (suc k) x h lt e =
    picks_at rs is k x h.1 (omega (arith, lt)) e ∙ sym (ap (λ (l : List Record). get_or (l ++ picks rs is) (suc k) x) (taken_one rs i x h.0))

-- A fact of all lists of labels is one of a name.
pub each_name : (n : List (List ℕ)) (f g : List (List ℕ) → Option Spot) → AreLabels n → ((l : List ℕ) (ls : List (List ℕ)) → f (l ∷ ls) ≡ g (l ∷ ls)) → f n ≡ g n
each_name [] f g h e = absurd h
each_name (l ∷ ls) f g h e = e l ls
