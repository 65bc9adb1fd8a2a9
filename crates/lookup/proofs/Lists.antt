-- Lists of hints, and of what records give.
use Rattle.std.proofs.Common.{◌≡◌, ℕ, ◌+◌, ◌<◌, ◌≤◌, Bool, true, false, cond, nat_lt, List, [], ◌∷◌, ◌++◌, length, take, get_or, refl, sym, ap, subst, ◌∙◌, append-nil, arith}
use Rattle.std.specs.Prelude.{map}
use Rattle.std.specs.List.{flat_map}
use Rattle.std.proofs.lemmas.Bool.{ltb-true, ltb-false}
use Rattle.std.proofs.lemmas.List.{take_more, take_all, take-append-le, length-take, length-map, length-append}
use Rattle.std.proofs.lemmas.Grind.{flat_map-append}
use Rattle.dname.specs.Labels.{Name}
use Rattle.rdata.specs.Data.{Datum, Ipv4, Ns, Cname, Soa, Ptr, Mx, Txt, Ipv6, Srv}
use Rattle.rdata.specs.Records.{Record}
use Rattle.rdata.specs.Rows.{plain_row, plain_rows}
use Rattle.rdata.specs.declared.addr.Addr.{Addr}
use Rattle.rdata.proofs.SetRows.{rows_long, row_at, rows_whole}
use Rattle.zone.specs.Zones.{Zone}
use Rattle.referral.specs.Cuts.{ServerAddress, Cut}
use Rattle.referral.specs.Made as made
use Rattle.frames.specs.Frames.{most_taken}
use Rattle.resolution.specs.Jobs.{ipv4_of, rows_of, row_of, hinted, root_cut, IsCutOf, bytes_of, AreAddressesOf}
use Rattle.lookup.specs.Views.{hints_of, home_at, home_of}

hints_same : (hints : List Addr) → map (λ (s : ServerAddress). s.address) (map hinted hints) ≡ hints
hints_same [] = refl
hints_same (a ∷ rest) = ap (λ (xs : List Addr). a ∷ xs) (hints_same rest)

hints_are : (hints : List Addr) (root : Cut) → root ≡ made.hint_cut hints → hints_of root ≡ hints
hints_are hints root is = ap hints_of is ∙ hints_same hints

pub root_is : (zones : List Zone) (hints : List Addr) (root : Cut) → root ≡ made.hint_cut hints → root ≡ root_cut (home_of zones root)
root_is zones hints root is = is ∙ ap made.hint_cut (sym (hints_are hints root is))

pub home_is : (zones : List Zone) (hints : List Addr) (root : Cut) → root ≡ made.hint_cut hints → home_of zones root ≡ home_at zones hints
home_is zones hints root is = ap (home_at zones) (hints_are hints root is)

row_step : (n : Name) (d : Datum) (rest : List ServerAddress) (rows : List (Name × List ℕ)) → map row_of rest ≡ rows
    → map row_of (made.addresses_at n d ++ rest) ≡ map (λ (b : List ℕ). (n, b)) (ipv4_of d) ++ rows
row_step n (Ipv4 b) rest rows is = ap (λ (xs : List (Name × List ℕ)). (n, b) ∷ xs) is
row_step n (Ns m) rest rows is = is
row_step n (Cname m) rest rows is = is
row_step n (Soa s) rest rows is = is
row_step n (Ptr m) rest rows is = is
row_step n (Mx p m) rest rows is = is
row_step n (Txt ts) rest rows is = is
row_step n (Ipv6 b) rest rows is = is
row_step n (Srv v) rest rows is = is

rows_same : (glue : List Record) → map row_of (made.addresses_in glue) ≡ rows_of glue
rows_same [] = refl
rows_same (r ∷ rs) = row_step r.owner r.value (made.addresses_in rs) (rows_of rs) (rows_same rs)

pub made_is_cut : (at : Name) (ns glue : List Record) (c : Cut) → c ≡ made.record_cut at ns glue → IsCutOf at ns glue c
made_is_cut at ns glue c is = record {
  owner = ap (λ (x : Cut). x.owner) is;
  names = ap (λ (x : Cut). x.names) is;
  addresses = ap (λ (x : Cut). map row_of x.addresses) is ∙ rows_same glue;
}

-- ---- addresses of a set

-- One element more of a walk.
flat_more : {X Y : Type 0} (f : X → List Y) (xs : List X) (i : ℕ) (x : X) → i < length xs → x ≡ get_or xs i x → flat_map f (take (i + 1) xs) ≡ flat_map f (take i xs) ++ f x
flat_more {X} {Y} f xs i x lt is =
    ap (flat_map f) (take_more xs i x lt ∙ ap (λ (y : X). take i xs ++ y ∷ []) (sym is))
    ∙ (flat_map-append f (take i xs) (x ∷ []) ∙ ap (λ (l : List Y). flat_map f (take i xs) ++ l) (append-nil (f x)))

-- A datum gives one address at most.
one_at_most : (d : Datum) → length (ipv4_of d) ≤ 1
one_at_most (Ipv4 b) = omega arith
one_at_most (Ns n) = omega arith
one_at_most (Cname n) = omega arith
one_at_most (Soa s) = omega arith
one_at_most (Ptr n) = omega arith
one_at_most (Mx p n) = omega arith
one_at_most (Txt ts) = omega arith
one_at_most (Ipv6 b) = omega arith
one_at_most (Srv v) = omega arith

-- One more is put while there are fewer than are taken.
put_taken : (xs ds : List (List ℕ)) (old new : List Addr) → length ds ≤ 1 → map bytes_of old ≡ take most_taken xs → map bytes_of new ≡ map bytes_of old ++ cond (nat_lt (length old) most_taken) ds []
    → map bytes_of new ≡ take most_taken (xs ++ ds)
put_taken xs ds old new one walked put = by (nat_lt (length old) most_taken) refl put
  where
    taken_long : length old ≡ length (take most_taken xs)
    taken_long = sym (length-map old bytes_of) ∙ ap (λ (l : List (List ℕ)). length l) walked

    by : (b : Bool) → nat_lt (length old) most_taken ≡ b → map bytes_of new ≡ map bytes_of old ++ cond b ds [] → map bytes_of new ≡ take most_taken (xs ++ ds)
    by true e put =
        let long = taken_long in
        let cut = length-take most_taken xs in
        let room = ltb-true (length old) most_taken e in
        let all = length-append xs ds in
        let few : length xs ≤ most_taken = omega (arith, long, cut, room) in
        let fit : length (xs ++ ds) ≤ most_taken = omega (arith, long, cut, room, all, one) in
        put ∙ (ap (λ (l : List (List ℕ)). l ++ ds) (walked ∙ take_all most_taken xs few) ∙ sym (take_all most_taken (xs ++ ds) fit))
    by false e put =
        let long = taken_long in
        let cut = length-take most_taken xs in
        let full = ltb-false (length old) most_taken e in
        let many : most_taken ≤ length xs = omega (arith, long, cut, full) in
        put ∙ (append-nil (map bytes_of old) ∙ (walked ∙ sym (take-append-le most_taken xs ds many)))

pub found_more : (set : List Record) (i : ℕ) (r : Record) (old new : List Addr) → i < length set → r ≡ get_or set i r → AreAddressesOf (take i set) old
    → map bytes_of new ≡ map bytes_of old ++ cond (nat_lt (length old) most_taken) (ipv4_of r.value) [] → AreAddressesOf (take (i + 1) set) new
found_more set i r old new lt is walked put =
    put_taken (flat_map (λ (x : Record). ipv4_of x.value) (take i set)) (ipv4_of r.value) old new (one_at_most r.value) walked put
    ∙ ap (take most_taken) (sym (flat_more (λ (x : Record). ipv4_of x.value) set i r lt is))

-- A walk over a set's data is one over its records.
pub found_later : (q : Name) (t : ℕ) (ds : List Datum) (set : List Record) (i : ℕ) (d : Datum) (old new : List Addr) → plain_rows q t ds ≡ set → i < length ds → d ≡ get_or ds i d
    → AreAddressesOf (take i set) old → map bytes_of new ≡ map bytes_of old ++ cond (nat_lt (length old) most_taken) (ipv4_of d) [] → AreAddressesOf (take (i + 1) set) new
found_later q t ds set i d old new is lt at_i walked put =
    subst (λ (rs : List Record). AreAddressesOf (take (i + 1) rs) new) is
    (found_more (plain_rows q t ds) i (plain_row q t d) old new (rows_long q t ds i lt) (row_at q t ds i d lt at_i) (subst (λ (rs : List Record). AreAddressesOf (take i rs) old) (sym is) walked) put)

pub found_whole : (q : Name) (t : ℕ) (ds : List Datum) (set : List Record) (i : ℕ) (found : List Addr) → plain_rows q t ds ≡ set → length ds ≤ i → AreAddressesOf (take i set) found → AreAddressesOf set found
found_whole q t ds set i found is le walked =
    subst (λ (rs : List Record). AreAddressesOf rs found) (rows_whole q t ds set (take i set) i is le refl) walked
