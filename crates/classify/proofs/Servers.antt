-- Names of servers: found in the sorted list just where one of the records gives them.
use Rattle.std.proofs.Common.{◌≡◌, ℕ, ◌≤◌, Bool, true, false, ◌&&◌, ◌||◌, inl, inr, Result, Ok, Err, is_ok, List, [], ◌∷◌, ◌++◌, length, get_or, take, Ordering, Less, Equal, Greater, refl, sym, ◌∙◌, ap, arith}
use Rattle.std.specs.Prelude.{Contains}
use Rattle.std.specs.List.{list_any}
use Rattle.std.specs.List.Sorted.{IsSorted, IsBinarySearchResult, IsSearchInRange, IsPermutation}
use Rattle.std.specs.Ordering.{is_eq}
use Rattle.std.proofs.lemmas.Bool.{cases_lt}
use Rattle.std.proofs.lemmas.List.{take_all}
use Rattle.std.proofs.lemmas.List.Elements.{Contains-get_or}
use Rattle.std.proofs.lemmas.List.Sorted.{searchable_from_sorted, Contains-permutation, IsPermutation-sym}
use Rattle.dname.specs.Labels.{Name, same_name, is_under}
use Rattle.dname.specs.Order.{name_cmp, name_cmp_total, name_cmp_ties}
use Rattle.rdata.specs.Data.{Datum, Ipv4, Ns, Cname, Soa, Ptr, Mx, Txt, Ipv6, Srv}
use Rattle.rdata.specs.Records.{Record}
use Rattle.rdata.specs.Targets.{ns_target, targets_of}
use Rattle.zone.specs.Zones.{a_type}
use Rattle.zone.specs.Look.{is_type}
use Rattle.zone.proofs.LawLists.{any_from, any_of, same_tests}
use Rattle.classify.specs.Classes.{names_server, is_taken}
use Rattle.classify.specs.Targets.{is_one_of}

-- ---- the names that records give

one_target : (n : Name) (d : Datum) (ns : List Name) → is_one_of n (ns_target d ++ ns) ≡ (names_server n d || is_one_of n ns)
one_target n (Ipv4 a) ns = refl
one_target n (Ns target) ns = refl
one_target n (Cname target) ns = refl
one_target n (Soa s) ns = refl
one_target n (Ptr target) ns = refl
one_target n (Mx p target) ns = refl
one_target n (Txt ts) ns = refl
one_target n (Ipv6 a) ns = refl
one_target n (Srv v) ns = refl

pub given_names : (n : Name) (rs : List Record) → is_one_of n (targets_of rs) ≡ list_any (λ (s : Record). names_server n s.value) rs
given_names n [] = refl
given_names n (r ∷ rs) = one_target n r.value (targets_of rs) ∙ ap (λ (b : Bool). names_server n r.value || b) (given_names n rs)

pub targets_whole : (rs : List Record) (i : ℕ) (xs : List Name) → length rs ≤ i → xs ≡ targets_of (take i rs) → xs ≡ targets_of rs
targets_whole rs i xs le e = e ∙ ap targets_of (take_all i rs le)

-- ---- in any order

moved : (n : Name) (xs ys : List Name) → IsPermutation xs ys → is_one_of n xs ≡ true → is_one_of n ys ≡ true
moved n xs ys p h = let (m, c, e) = any_of (λ (m : Name). same_name m n) xs h in any_from (λ (m : Name). same_name m n) ys m (Contains-permutation xs ys m p c) e

pub sorted_names : (n : Name) (rs : List Record) (xs ys : List Name) → xs ≡ targets_of rs → IsPermutation xs ys → is_one_of n ys ≡ list_any (λ (s : Record). names_server n s.value) rs
sorted_names n rs xs ys e p =
    same_tests (is_one_of n ys) (is_one_of n xs) (moved n ys xs (IsPermutation-sym xs ys p)) (moved n xs ys p)
    ∙ (ap (is_one_of n) e ∙ given_names n rs)

-- ---- a search

is_equal : (m n : Name) → same_name m n ≡ true → name_cmp m n ≡ Equal
is_equal m n h = by (name_cmp m n) (sym (name_cmp_ties m n) ∙ h)
  where
    by : (o : Ordering) → is_eq o ≡ true → o ≡ Equal
    by Less e = absurd (cc)
    by Equal e = refl
    by Greater e = absurd (cc)

pub found_name : (n : Name) (xs : List Name) (r : Result ℕ ℕ) → IsSorted name_cmp xs → IsSearchInRange r (length xs) → IsBinarySearchResult (λ m. name_cmp m n) xs r → is_ok r ≡ is_one_of n xs
found_name n xs (Ok i) sorted within at =
    sym (any_from (λ (m : Name). same_name m n) xs (get_or xs i n) (Contains-get_or xs i n within) (name_cmp_ties (get_or xs i n) n ∙ ap is_eq (at n)))
found_name n xs (Err i) sorted within at = by (is_one_of n xs) refl
  where
    apart : (m : Name) → Contains xs m → name_cmp m n ≡ Equal → ⊥
    apart m (k, lt, e) same =
        let (less, more) = at (searchable_from_sorted name_cmp_total (λ (y : Name). y) xs n sorted) in
        elim (cases_lt k i) [
          | inl h ↦ (let a = less k m (omega arith) h in let b = ap (λ (x : Name). name_cmp x n) e in absurd (cc))
          | inr h ↦ (let a = more k m h lt in let b = ap (λ (x : Name). name_cmp x n) e in absurd (cc))
        ]

    by : (b : Bool) → is_one_of n xs ≡ b → false ≡ b
    by true h = let (m, c, e) = any_of (λ (m : Name). same_name m n) xs h in absurd (apart m c (is_equal m n e))
    by false h = refl

-- ---- whether a record is taken

pub taken_is : (f : Name) (servers : List Record) (seen targets : List Name) (r : Record) (b : Bool) → b ≡ (is_type a_type r && is_under r.owner f && is_one_of r.owner seen) → seen ≡ targets
    → ((n : Name) → is_one_of n targets ≡ list_any (λ (s : Record). names_server n s.value) servers) → b ≡ is_taken f servers r
taken_is f servers seen targets r b e same named = e ∙ (ap (λ (ns : List Name). is_type a_type r && is_under r.owner f && is_one_of r.owner ns) same ∙ ap (λ (t : Bool). is_type a_type r && is_under r.owner f && t) (named r.owner))
