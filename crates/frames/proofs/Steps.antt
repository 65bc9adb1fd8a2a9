-- What the steps of a frame leave.
use Rattle.std.proofs.Common.{◌≡◌, ℕ, zero, suc, ◌+◌, ◌≤◌, ◌<◌, Bool, true, false, cond, not, ◌&&◌, nat_eq, ◌⊎◌, inl, inr, Option, Some, None, IfSome, List, [], ◌∷◌, ◌++◌, length, take, filter, map, get_or, slice_get, Contains, refl, sym, ap, ◌∙◌, subst, arith, eq-eqb}
use Rattle.std.specs.List.{IsDistinct, list_any}
use Rattle.std.proofs.lemmas.Bool.{and_parts}
use Rattle.std.proofs.lemmas.List.{map-append, append-nil, take_more, length-take}
use Rattle.std.proofs.lemmas.List.Elements.{Contains-append_left, Contains-append_right, Contains-append_cases, Contains-get_or, filter_more}
use Rattle.std.proofs.lemmas.Option.{slice_get_within, get_or_from_slice_get}
use Rattle.lru.proofs.Splits.{Contains-head, Contains-tail, Contains-cons, Contains-nil}
use Rattle.lru.proofs.CallerLemmas.{Contains-take}
use Rattle.dname.specs.Labels.{Name, same_name}
use Rattle.dname.specs.Laws.{same_name-exact}
use Rattle.rdata.specs.declared.addr.Addr.{Addr}
use Rattle.lru_laws.specs.Orders.{HasSame}
use Rattle.referral.specs.Cuts.{Cut, ServerAddress}
use Rattle.retry.specs.Penalties.{same_addr}
use Rattle.retry.specs.Plans.{Plan, with_penalty, with_penalties_to, by_penalty, planned, upcoming, IsByPenalty}
use Rattle.frames.specs.Frames.{Frame, most_taken, has_address, each_once, taken_addresses, is_known, unknown_names, fresh_addresses, after_add, opened}
use Rattle.frames.specs.Members.{AreAmong}
use Rattle.frames.proofs.Members.{by_test, first_of, second_of, true_or_false, other_or, filter_from, filter_there, has_in, distinct_filter, distinct_take, distinct_both}
use Rattle.frames.proofs.Once.{once_from, once_there, once_distinct, taken_full, taken_known, taken_new}

-- ---- orders of asking

module _ (level : Addr → ℕ) where
  to_members : (p : ℕ) (given : List Addr) → AreAmong (with_penalties_to level p given) given
  to_members zero given a c = (filter_from (λ b. nat_eq (level b) 0) given a c).0
  to_members (suc p) given a c = elim (Contains-append_cases (with_penalties_to level p given) (with_penalty level (suc p) given) a c) [
    | inl d ↦ to_members p given a d
    | inr d ↦ (filter_from (λ b. nat_eq (level b) (suc p)) given a d).0
  ]

  pub planned_members : (given : List Addr) → AreAmong (by_penalty level given) given
  planned_members given = to_members 8 given

  among : (xs ys : List Addr) → ((p : ℕ) → with_penalty level p xs ≡ with_penalty level p ys) → AreAmong xs ys
  among xs ys h a c =
      let here : Contains (with_penalty level (level a) xs) a = filter_there (λ b. nat_eq (level b) (level a)) xs a c (eq-eqb (level a) (level a) refl) in
      (filter_from (λ b. nat_eq (level b) (level a)) ys a (subst (λ (l : List Addr). Contains l a) (h (level a)) here)).0

  pub order_members : (given order : List Addr) → IsByPenalty level given order → HasSame given order
  order_members given order s = (among order given s.each, among given order (λ p. sym (s.each p)))

-- What comes next in a plan is in its order.
pub next_member : (p : Plan) (given : List Addr) (o : Option Addr) → o ≡ upcoming p → AreAmong p.order given → IfSome o (Contains given)
next_member p given None e h = tt
next_member p given (Some a) e h =
    let is : slice_get (p.order ++ p.order) p.given ≡ Some a = sym e in
    let twice : Contains (p.order ++ p.order) a =
    subst (Contains (p.order ++ p.order)) (get_or_from_slice_get (p.order ++ p.order) p.given a a is) (Contains-get_or (p.order ++ p.order) p.given a (slice_get_within (p.order ++ p.order) p.given a is)) in
    h a (elim (Contains-append_cases p.order p.order a twice) [ inl c ↦ c | inr c ↦ c ])

-- ---- what is taken of a cut

pub mapped : (ss : List ServerAddress) (a : Addr) → Contains (map (λ (s : ServerAddress). s.address) ss) a → (s : ServerAddress) × Contains ss s × (s.address ≡ a)
mapped [] a c = absurd (Contains-nil a c)
mapped (s ∷ ss) a c = by (mapped ss a) (Contains-cons s.address (map (λ (t : ServerAddress). t.address) ss) a c)
  where
    by : (Contains (map (λ (t : ServerAddress). t.address) ss) a → (t : ServerAddress) × Contains ss t × (t.address ≡ a)) → (s.address ≡ a) ⊎ Contains (map (λ (t : ServerAddress). t.address) ss) a → (t : ServerAddress) × Contains (s ∷ ss) t × (t.address ≡ a)
    by more (inl is) = (s, Contains-head s ss, is)
    by more (inr d) = let m = more d in (m.0, Contains-tail s ss m.0 m.1, m.2)

pub taken_from : (c : Cut) (a : Addr) → Contains (taken_addresses c) a → (s : ServerAddress) × Contains c.addresses s × (s.address ≡ a)
taken_from c a h =
    let all : List Addr = map (λ (s : ServerAddress). s.address) c.addresses in
    mapped c.addresses a (once_from all a (Contains-take 16 (each_once all) a h))

pub unknown_from : (c : Cut) (n : Name) → Contains (unknown_names c) n → Contains c.names n × (is_known c n ≡ false)
unknown_from c n h =
    let m = filter_from (λ m. not (is_known c m)) (take most_taken c.names) n h in
    (Contains-take 16 c.names n m.0, by_test (is_known c n) (λ e. true_or_false m.1 (ap not e)) (λ e. e))

pub few_taken : {X : Type 0} (xs : List X) → length (take 16 xs) ≤ 16
few_taken xs = let n = length-take 16 xs in omega arith

pub few_filtered : {X : Type 0} (p : X → Bool) (xs : List X) → length (filter p xs) ≤ length xs
few_filtered p [] = omega arith
few_filtered {X} p (x ∷ xs) = let more = few_filtered p xs in by_test (p x)
    (λ e. subst (λ (l : List X). length l ≤ length (x ∷ xs)) (sym (first_of (x ∷ filter p xs) (filter p xs) e)) (omega arith))
    (λ e. subst (λ (l : List X). length l ≤ length (x ∷ xs)) (sym (second_of (x ∷ filter p xs) (filter p xs) e)) (omega arith))

pub few_unknown : (c : Cut) → length (unknown_names c) ≤ 16
few_unknown c = let f = few_filtered (λ n. not (is_known c n)) (take most_taken c.names) in let t = few_taken c.names in omega arith

pub taken_distinct : (c : Cut) → IsDistinct same_addr (taken_addresses c)
taken_distinct c = distinct_take 16 (each_once (map (λ (s : ServerAddress). s.address) c.addresses)) (once_distinct (map (λ (s : ServerAddress). s.address) c.addresses))

-- ---- all of what is taken of a cut

take_or_full : {X : Type 0} (n : ℕ) (xs : List X) (x : X) → Contains xs x → Contains (take n xs) x ⊎ (length (take n xs) ≡ n)
take_or_full zero xs x c = inr refl
take_or_full (suc n) [] x c = absurd (Contains-nil x c)
take_or_full {X} (suc n) (y ∷ xs) x c = elim (Contains-cons y xs x c) [
  | inl is ↦ inl (subst (λ (z : X). Contains (y ∷ take n xs) z) is (Contains-head y (take n xs)))
  | inr d ↦ elim (take_or_full n xs x d) [
    | inl e ↦ inl (Contains-tail y (take n xs) x e)
    | inr e ↦ inr (omega arith)
  ]
]

in_mapped : (ss : List ServerAddress) (s : ServerAddress) → Contains ss s → Contains (map (λ (t : ServerAddress). t.address) ss) s.address
in_mapped [] s c = absurd (Contains-nil s c)
in_mapped (t ∷ ss) s c = elim (Contains-cons t ss s c) [
  | inl is ↦ subst (λ (u : ServerAddress). Contains (map (λ (v : ServerAddress). v.address) (t ∷ ss)) u.address) is (Contains-head t.address (map (λ (v : ServerAddress). v.address) ss))
  | inr d ↦ Contains-tail t.address (map (λ (v : ServerAddress). v.address) ss) s.address (in_mapped ss s d)
]

pub all_taken : (c : Cut) (s : ServerAddress) → Contains c.addresses s → Contains (taken_addresses c) s.address ⊎ (length (taken_addresses c) ≡ 16)
all_taken c s h =
    let all : List Addr = map (λ (t : ServerAddress). t.address) c.addresses in
    take_or_full 16 (each_once all) s.address (once_there all s.address (in_mapped c.addresses s h))

pub all_unknown : (c : Cut) (n : Name) → Contains (take most_taken c.names) n → Contains (unknown_names c) n ⊎ (is_known c n ≡ true)
all_unknown c n h = by_test (is_known c n) (λ e. inr e) (λ e. inl (filter_there (λ m. not (is_known c m)) (take most_taken c.names) n h (ap not e)))

named : (ss : List ServerAddress) (xs : List Addr) (n : Name) → list_any (λ (s : ServerAddress). same_name s.name n && has_address xs s.address) ss ≡ true
    → (s : ServerAddress) × Contains ss s × (s.name ≡ n) × Contains xs s.address
named [] xs n h = absurd (cc)
named (s ∷ ss) xs n h = by_test (same_name s.name n && has_address xs s.address)
    (λ e. let p = and_parts (same_name s.name n) (has_address xs s.address) e in (s, Contains-head s ss, same_name-exact s.name n p.0, has_in xs s.address p.1))
    (λ e. let (t, c, same, m) = named ss xs n (sym (other_or (list_any (λ (u : ServerAddress). same_name u.name n && has_address xs u.address) ss) e) ∙ h) in (t, Contains-tail s ss t c, same, m))

pub known_taken : (c : Cut) (n : Name) → is_known c n ≡ true → (s : ServerAddress) × Contains c.addresses s × (s.name ≡ n) × Contains (taken_addresses c) s.address
known_taken c n h = named c.addresses (taken_addresses c) n h

-- ---- a step over servers

module _ (ss : List ServerAddress) (i : ℕ) (s : ServerAddress) (a : Addr) (lt : i < length ss) (is : s ≡ get_or ss i s) (at : a ≡ s.address)
    (taken : List Addr) (so_far : taken ≡ take most_taken (each_once (map (λ (t : ServerAddress). t.address) (take i ss)))) where
  onward : take most_taken (each_once (map (λ (t : ServerAddress). t.address) (take i ss) ++ a ∷ [])) ≡ take most_taken (each_once (map (λ (t : ServerAddress). t.address) (take (i + 1) ss)))
  onward = ap (λ (l : List Addr). take most_taken (each_once l))
      (ap (λ (b : Addr). map (λ (t : ServerAddress). t.address) (take i ss) ++ b ∷ []) at
      ∙ (sym (map-append (λ (t : ServerAddress). t.address) (take i ss) (s ∷ []))
      ∙ ap (map (λ (t : ServerAddress). t.address)) (ap (λ (x : ServerAddress). take i ss ++ x ∷ []) is ∙ sym (take_more ss i s lt))))

  pub server_full : 16 ≤ length taken → taken ≡ take most_taken (each_once (map (λ (t : ServerAddress). t.address) (take (i + 1) ss)))
  server_full h = taken_full (map (λ (t : ServerAddress). t.address) (take i ss)) a taken so_far h ∙ onward

  pub server_known : (seen : List Addr) (r : Bool) → seen ≡ taken → r ≡ has_address seen a → r ≡ true → taken ≡ take most_taken (each_once (map (λ (t : ServerAddress). t.address) (take (i + 1) ss)))
  server_known seen r v e t = taken_known (map (λ (t : ServerAddress). t.address) (take i ss)) a taken so_far (ap (λ (l : List Addr). has_address l a) (sym v) ∙ (sym e ∙ t)) ∙ onward

  pub server_new : (seen new : List Addr) (r : Bool) → length taken < 16 → seen ≡ taken → r ≡ has_address seen a → r ≡ false → new ≡ taken ++ a ∷ []
      → new ≡ take most_taken (each_once (map (λ (t : ServerAddress). t.address) (take (i + 1) ss)))
  server_new seen new r h v e t n = n ∙ (taken_new (map (λ (t : ServerAddress). t.address) (take i ss)) a taken so_far h (ap (λ (l : List Addr). has_address l a) (sym v) ∙ (sym e ∙ t)) ∙ onward)

-- ---- a step over names

module _ (p : Name → Bool) (names : List Name) (i : ℕ) (n : Name) (lt : i < length names) (is : n ≡ get_or names i n) (old : List Name) (so_far : old ≡ filter p (take i names)) where
  more : (b : Bool) → p n ≡ b → filter p (take (i + 1) names) ≡ old ++ cond b (n ∷ []) []
  more b e = filter_more p names i n lt ∙ (ap (λ (m : Name). filter p (take i names) ++ cond (p m) (m ∷ []) []) (sym is)
      ∙ (ap (λ (t : Bool). filter p (take i names) ++ cond t (n ∷ []) []) e ∙ ap (λ (l : List Name). l ++ cond b (n ∷ []) []) (sym so_far)))

  pub name_left_out : p n ≡ false → old ≡ filter p (take (i + 1) names)
  name_left_out e = sym (more false e ∙ append-nil old)

  pub name_put : (m : Name) (new : List Name) → p n ≡ true → m ≡ n → new ≡ old ++ m ∷ [] → new ≡ filter p (take (i + 1) names)
  name_put m new e same put = put ∙ (ap (λ (x : Name). old ++ x ∷ []) same ∙ sym (more true e))

-- ---- a frame that is opened

pub opened_is : (level : Addr → ℕ) (nesting : ℕ) (c d : Cut) (ss : List ServerAddress) (xs seen of : List Addr) (ns all first : List Name) (zone : Name) (p : Plan)
    → c ≡ d → ss ≡ c.addresses → xs ≡ take most_taken (each_once (map (λ (t : ServerAddress). t.address) ss)) → all ≡ c.names → first ≡ take most_taken all → seen ≡ xs
    → ns ≡ filter (λ (n : Name). not (list_any (λ (s : ServerAddress). same_name s.name n && has_address seen s.address) ss)) first → of ≡ xs → p ≡ planned level of → zone ≡ c.owner
    → record { nesting = nesting; zone = zone; names = ns; tried = 0; addresses = xs; plan = p } ≡ opened level nesting d
opened_is level nesting c d ss xs seen of ns all first zone p cut servers taken whole some known unknown given made at =
    let listed : ss ≡ d.addresses = servers ∙ ap (λ (x : Cut). x.addresses) cut in
    let addresses : xs ≡ taken_addresses d = taken ∙ ap (λ (l : List ServerAddress). take most_taken (each_once (map (λ (t : ServerAddress). t.address) l))) listed in
    let named : first ≡ take most_taken d.names = some ∙ ap (take most_taken) (whole ∙ ap (λ (x : Cut). x.names) cut) in
    let seen_all : seen ≡ taken_addresses d = known ∙ addresses in
    let names : ns ≡ unknown_names d = unknown ∙ (λ i. filter (λ (n : Name). not (list_any (λ (s : ServerAddress). same_name s.name n && has_address (seen_all i) s.address) (listed i))) (named i)) in
    let order : p ≡ planned level (taken_addresses d) = made ∙ ap (planned level) (given ∙ addresses) in
    let top : zone ≡ d.owner = at ∙ ap (λ (x : Cut). x.owner) cut in
    λ i. record { nesting = nesting; zone = top i; names = names i; tried = 0; addresses = addresses i; plan = order i }

pub order_within : (level : Addr → ℕ) (of xs order : List Addr) → of ≡ xs → IsByPenalty level of order → AreAmong order xs
order_within level of xs order e s = subst (AreAmong order) e (order_members level of order s).0

-- The plan is the order by penalties of the addresses that stand in the frame.
pub order_of : (level : Addr → ℕ) (of xs order : List Addr) → of ≡ xs → IsByPenalty level of order → IsByPenalty level xs order
order_of level of xs order e s = subst (λ (l : List Addr). IsByPenalty level l order) e s

-- ---- addresses that are added

module _ (level : Addr → ℕ) (f : Frame) where
  added : (fresh : List Addr) → (after_add level f fresh).addresses ≡ f.addresses ++ fresh
  added [] = sym (append-nil f.addresses)
  added (a ∷ xs) = refl

  pub added_only : (found : List Addr) (a : Addr) → Contains (after_add level f (fresh_addresses f found)).addresses a → Contains f.addresses a ⊎ Contains found a
  added_only found a c = elim (Contains-append_cases f.addresses (fresh_addresses f found) a (subst (λ (l : List Addr). Contains l a) (added (fresh_addresses f found)) c)) [
    | inl d ↦ inl d
    | inr d ↦ inr (once_from found a (filter_from (λ b. not (has_address f.addresses b)) (each_once found) a d).0)
  ]

  to_new : (found : List Addr) (a : Addr) → Contains (f.addresses ++ fresh_addresses f found) a → Contains (after_add level f (fresh_addresses f found)).addresses a
  to_new found a c = subst (λ (l : List Addr). Contains l a) (sym (added (fresh_addresses f found))) c

  pub added_kept : (found : List Addr) → AreAmong f.addresses (after_add level f (fresh_addresses f found)).addresses
  added_kept found a c = to_new found a (Contains-append_left f.addresses (fresh_addresses f found) a c)

  pub added_there : (found : List Addr) → AreAmong found (after_add level f (fresh_addresses f found)).addresses
  added_there found a c = by_test (has_address f.addresses a)
      (λ e. added_kept found a (has_in f.addresses a e))
      (λ e. to_new found a (Contains-append_right f.addresses (fresh_addresses f found) a (filter_there (λ b. not (has_address f.addresses b)) (each_once found) a (once_there found a c) (ap not e))))

  pub added_once : (found : List Addr) → IsDistinct same_addr f.addresses → IsDistinct same_addr (after_add level f (fresh_addresses f found)).addresses
  added_once found d = subst (IsDistinct same_addr) (sym (added (fresh_addresses f found)))
      (distinct_both f.addresses (fresh_addresses f found) d (distinct_filter (λ b. not (has_address f.addresses b)) (each_once found) (once_distinct found)) apart)
    where
      apart : (y : Addr) → Contains (fresh_addresses f found) y → has_address f.addresses y ≡ false
      apart y c = let m = filter_from (λ b. not (has_address f.addresses b)) (each_once found) y c in
          by_test (has_address f.addresses y) (λ e. true_or_false m.1 (ap not e)) (λ e. e)

-- ---- a frame that addresses are added to

pub added_within : (level : Addr → ℕ) (old of put fresh new order : List Addr) → of ≡ fresh → put ≡ fresh → IsByPenalty level of order → new ≡ old ++ put → AreAmong order new
added_within level old of put fresh new order e f s is = subst (AreAmong order) (sym is) (λ a c. Contains-append_right old put a (order_within level of put order (e ∙ sym f) s a c))

pub added_is : (level : Addr → ℕ) (f g : Frame) (known found fresh of put new : List Addr) (p : Plan) → f ≡ g → known ≡ f.addresses
    → fresh ≡ filter (λ (a : Addr). not (has_address known a)) (each_once found) → 0 < length fresh → of ≡ fresh → p ≡ planned level of → put ≡ fresh → new ≡ f.addresses ++ put
    → record f { addresses = new; plan = p } ≡ after_add level g (fresh_addresses g found)
added_is level f g known found fresh of put new p same kept is some given made puts put_is =
    let all : fresh ≡ fresh_addresses g found = is ∙ ap (λ (l : List Addr). filter (λ (a : Addr). not (has_address l a)) (each_once found)) (kept ∙ ap (λ (x : Frame). x.addresses) same) in
    let order : p ≡ planned level fresh = made ∙ ap (planned level) given in
    let items : new ≡ f.addresses ++ fresh = put_is ∙ ap (λ (l : List Addr). f.addresses ++ l) puts in
    (λ i. record f { addresses = items i; plan = order i }) ∙ (by fresh some ∙ (λ i. after_add level (same i) (all i)))
  where
    by : (xs : List Addr) → 0 < length xs → record f { addresses = f.addresses ++ xs; plan = planned level xs } ≡ after_add level f xs
    by [] h = absurd (omega arith)
    by (a ∷ xs) h = refl

pub added_order : (level : Addr → ℕ) (f g : Frame) (known found fresh of order : List Addr) → f ≡ g → known ≡ f.addresses
    → fresh ≡ filter (λ (a : Addr). not (has_address known a)) (each_once found) → of ≡ fresh → IsByPenalty level of order → IsByPenalty level (fresh_addresses g found) order
added_order level f g known found fresh of order same kept is given s =
    let all : fresh ≡ fresh_addresses g found = is ∙ ap (λ (l : List Addr). filter (λ (a : Addr). not (has_address l a)) (each_once found)) (kept ∙ ap (λ (x : Frame). x.addresses) same) in
    order_of level of (fresh_addresses g found) order (given ∙ all) s
