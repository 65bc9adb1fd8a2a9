-- Cuts made record by record.
use Rattle.std.proofs.Common.{◌≡◌, ℕ, ◌+◌, ◌<◌, List, [], ◌∷◌, ◌++◌, length, take, get_or, inl, inr, Contains, refl, sym, ap, ◌∙◌, subst, append-nil}
use Rattle.std.specs.List.{flat_map}
use Rattle.std.proofs.lemmas.List.{take_more}
use Rattle.std.proofs.lemmas.Grind.{flat_map-append}
use Rattle.std.proofs.lemmas.List.Elements.{Contains-append_cases}
use Rattle.lru.proofs.Splits.{Contains-head, Contains-tail, Contains-cons, Contains-nil}
use Rattle.dname.specs.Labels.{Name}
use Rattle.rdata.specs.Data.{Datum, Ipv4, Ns, Cname, Soa, Ptr, Mx, Txt, Ipv6, Srv}
use Rattle.rdata.specs.Records.{Record}
use Rattle.rdata.specs.Targets.{ns_target, targets_of}
use Rattle.referral.specs.Cuts.{ServerAddress}
use Rattle.referral.specs.Made.{addresses_at, addresses_in, with_target, with_address}

-- One element more of a walk.
flat_more : {X Y : Type 0} (f : X → List Y) (xs : List X) (i : ℕ) (x : X) → i < length xs → x ≡ get_or xs i x → flat_map f (take (i + 1) xs) ≡ flat_map f (take i xs) ++ f x
flat_more {X} {Y} f xs i x lt is =
    ap (flat_map f) (take_more xs i x lt ∙ ap (λ (y : X). take i xs ++ y ∷ []) (sym is))
    ∙ (flat_map-append f (take i xs) (x ∷ []) ∙ ap (λ (l : List Y). flat_map f (take i xs) ++ l) (append-nil (f x)))

target_put : (names : List Name) (d : Datum) → with_target names d ≡ names ++ ns_target d
target_put names (Ipv4 a) = sym (append-nil names)
target_put names (Ns n) = refl
target_put names (Cname n) = sym (append-nil names)
target_put names (Soa s) = sym (append-nil names)
target_put names (Ptr n) = sym (append-nil names)
target_put names (Mx p n) = sym (append-nil names)
target_put names (Txt ts) = sym (append-nil names)
target_put names (Ipv6 a) = sym (append-nil names)
target_put names (Srv v) = sym (append-nil names)

address_put : (addresses : List ServerAddress) (n : Name) (d : Datum) → with_address addresses n d ≡ addresses ++ addresses_at n d
address_put addresses n (Ipv4 a) = refl
address_put addresses n (Ns m) = sym (append-nil addresses)
address_put addresses n (Cname m) = sym (append-nil addresses)
address_put addresses n (Soa s) = sym (append-nil addresses)
address_put addresses n (Ptr m) = sym (append-nil addresses)
address_put addresses n (Mx p m) = sym (append-nil addresses)
address_put addresses n (Txt ts) = sym (append-nil addresses)
address_put addresses n (Ipv6 a) = sym (append-nil addresses)
address_put addresses n (Srv v) = sym (append-nil addresses)

pub target_more : (rs : List Record) (i : ℕ) (r : Record) (old new : List Name) → i < length rs → r ≡ get_or rs i r → old ≡ targets_of (take i rs) → new ≡ with_target old r.value → new ≡ targets_of (take (i + 1) rs)
target_more rs i r old new lt is walked put =
    put ∙ (target_put old r.value ∙ (ap (λ (l : List Name). l ++ ns_target r.value) walked ∙ sym (flat_more (λ (x : Record). ns_target x.value) rs i r lt is)))

pub address_more : (rs : List Record) (i : ℕ) (r : Record) (old new : List ServerAddress) → i < length rs → r ≡ get_or rs i r → old ≡ addresses_in (take i rs) → new ≡ with_address old r.owner r.value
    → new ≡ addresses_in (take (i + 1) rs)
address_more rs i r old new lt is walked put =
    put ∙ (address_put old r.owner r.value ∙ (ap (λ (l : List ServerAddress). l ++ addresses_at r.owner r.value) walked ∙ sym (flat_more (λ (x : Record). addresses_at x.owner x.value) rs i r lt is)))

-- ---- members

in_first : {X : Type 0} (xs ys : List X) (x : X) → Contains xs x → Contains (xs ++ ys) x
in_first [] ys x m = absurd (Contains-nil x m)
in_first (z ∷ xs) ys x m = elim (Contains-cons z xs x m) [
  | inl e ↦ subst (Contains (z ∷ (xs ++ ys))) e (Contains-head z (xs ++ ys))
  | inr n ↦ Contains-tail z (xs ++ ys) x (in_first xs ys x n)
]

in_second : {X : Type 0} (xs ys : List X) (y : X) → Contains ys y → Contains (xs ++ ys) y
in_second [] ys y m = m
in_second (z ∷ xs) ys y m = Contains-tail z (xs ++ ys) y (in_second xs ys y m)

flat_of : {X Y : Type 0} (f : X → List Y) (xs : List X) (y : Y) → Contains (flat_map f xs) y → (x : X) × Contains xs x × Contains (f x) y
flat_of f [] y m = absurd (Contains-nil y m)
flat_of f (x ∷ xs) y m = elim (Contains-append_cases (f x) (flat_map f xs) y m) [
  | inl here ↦ (x, Contains-head x xs, here)
  | inr later ↦ let (z, there, n) = flat_of f xs y later in (z, Contains-tail x xs z there, n)
]

flat_in : {X Y : Type 0} (f : X → List Y) (xs : List X) (x : X) (y : Y) → Contains xs x → Contains (f x) y → Contains (flat_map f xs) y
flat_in f [] x y m n = absurd (Contains-nil x m)
flat_in {X} {Y} f (z ∷ xs) x y m n = elim (Contains-cons z xs x m) [
  | inl e ↦ in_first (f z) (flat_map f xs) y (subst (λ (w : X). Contains (f w) y) (sym e) n)
  | inr later ↦ in_second (f z) (flat_map f xs) y (flat_in f xs x y later n)
]

one_in : {X : Type 0} (x y : X) → Contains (x ∷ []) y → x ≡ y
one_in x y m = elim (Contains-cons x [] y m) [ inl e ↦ e | inr n ↦ absurd (Contains-nil y n) ]

target_is : (d : Datum) (n : Name) → Contains (ns_target d) n → d ≡ Ns n
target_is (Ipv4 a) n m = absurd (Contains-nil n m)
target_is (Ns t) n m = ap Ns (one_in t n m)
target_is (Cname t) n m = absurd (Contains-nil n m)
target_is (Soa s) n m = absurd (Contains-nil n m)
target_is (Ptr t) n m = absurd (Contains-nil n m)
target_is (Mx p t) n m = absurd (Contains-nil n m)
target_is (Txt ts) n m = absurd (Contains-nil n m)
target_is (Ipv6 a) n m = absurd (Contains-nil n m)
target_is (Srv v) n m = absurd (Contains-nil n m)

address_is : (o : Name) (d : Datum) (s : ServerAddress) → Contains (addresses_at o d) s → (o ≡ s.name) × (d ≡ Ipv4 (s.address).0)
address_is o (Ipv4 a) s m =
    let e = one_in (record { name = o; address = record { 0 = a } }) s m in
    (ap (λ (x : ServerAddress). x.name) e, ap (λ (x : ServerAddress). Ipv4 (x.address).0) e)
address_is o (Ns t) s m = absurd (Contains-nil s m)
address_is o (Cname t) s m = absurd (Contains-nil s m)
address_is o (Soa t) s m = absurd (Contains-nil s m)
address_is o (Ptr t) s m = absurd (Contains-nil s m)
address_is o (Mx p t) s m = absurd (Contains-nil s m)
address_is o (Txt ts) s m = absurd (Contains-nil s m)
address_is o (Ipv6 a) s m = absurd (Contains-nil s m)
address_is o (Srv v) s m = absurd (Contains-nil s m)

pub names_are_targets : (ns : List Record) (n : Name) → Contains (targets_of ns) n → (r : Record) × Contains ns r × (r.value ≡ Ns n)
names_are_targets ns n m = let (r, there, is) = flat_of (λ (x : Record). ns_target x.value) ns n m in (r, there, target_is r.value n is)

pub targets_are_names : (ns : List Record) (r : Record) (n : Name) → Contains ns r → r.value ≡ Ns n → Contains (targets_of ns) n
targets_are_names ns r n m is = flat_in (λ (x : Record). ns_target x.value) ns r n m (subst (λ (d : Datum). Contains (ns_target d) n) (sym is) (Contains-head n []))

pub addresses_are_glue : (glue : List Record) (s : ServerAddress) → Contains (addresses_in glue) s → (r : Record) × Contains glue r × (r.owner ≡ s.name) × (r.value ≡ Ipv4 (s.address).0)
addresses_are_glue glue s m =
    let (r, there, is) = flat_of (λ (x : Record). addresses_at x.owner x.value) glue s m in
    let (owner, value) = address_is r.owner r.value s is in
    (r, there, owner, value)

pub glue_is_addresses : (glue : List Record) (r : Record) (s : ServerAddress) → Contains glue r → r.owner ≡ s.name → r.value ≡ Ipv4 (s.address).0 → Contains (addresses_in glue) s
glue_is_addresses glue r s m owner value =
    flat_in (λ (x : Record). addresses_at x.owner x.value) glue r s m
    (subst (λ (d : Datum). Contains (addresses_at r.owner d) s) (sym value)
    (subst (λ (n : Name). Contains (record { name = n; address = record { 0 = (s.address).0 } } ∷ []) s) (sym owner) (Contains-head s [])))
