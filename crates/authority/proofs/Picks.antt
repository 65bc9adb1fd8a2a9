-- What a walk over a list of records picks.
use Rattle.std.proofs.Common.{◌≡◌, ℕ, ◌+◌, ◌<◌, Bool, true, false, ◌&&◌, ◌||◌, cond, Some, None, List, [], ◌∷◌, ◌++◌, length, take, get_or, map, filter, find, fold, append-nil, refl, sym, ◌∙◌, ap}
use Rattle.std.proofs.lemmas.List.{take_more}
use Rattle.std.specs.List.{list_any, flat_map}
use Rattle.rdata.specs.Data.{same_data}
use Rattle.rdata.specs.Records.{Record}
use Rattle.dname.specs.Laws.{same_name-exact}
use Rattle.zone.specs.Zones.{Zone, ns_type, cname_type}
use Rattle.zone.specs.Links.{Link, Found, Alias, NoData, NxDomain}
use Rattle.zone.specs.Look.{is_owned, is_type, at, of_type, add_new, firsts, with_owner, said_alias, said_by, said, said_wild, add_glue, addresses_of, glue_of, ns_of, cut_of, exists, wild, climbed, link_by, local_of, local_by, Linked, Cut}
use Rattle.zone.proofs.LawExists.{exists_plain, climbed_is}
use Rattle.authority.specs.Climb.{picked, has_glue, has_under}

module _ (p : Record → Bool) (soa : Record) (q : List (List ℕ)) where
  found_by_test : (x : Record) (xs : List Record) (r : Record) (b : Bool) → (find p xs ≡ Some r → said_alias soa q (filter p xs) ≡ Alias (with_owner q r))
      → cond b (Some x) (find p xs) ≡ Some r → said_alias soa q (cond b (x ∷ filter p xs) (filter p xs)) ≡ Alias (with_owner q r)
  found_by_test x xs r true ih e = let same : x ≡ r = cc in ap (λ (s : Record). Alias (with_owner q s)) same
  found_by_test x xs r false ih e = ih e

  -- The first alias is the one that counts.
  pub alias_found : (rs : List Record) (r : Record) → find p rs ≡ Some r → said_alias soa q (filter p rs) ≡ Alias (with_owner q r)
  alias_found [] r e = cc
  alias_found (x ∷ xs) r e = found_by_test x xs r (p x) (alias_found xs r) e

  missing_by_test : (x : Record) (xs : List Record) (b : Bool) → (find p xs ≡ None → said_alias soa q (filter p xs) ≡ NoData soa)
      → cond b (Some x) (find p xs) ≡ None → said_alias soa q (cond b (x ∷ filter p xs) (filter p xs)) ≡ NoData soa
  missing_by_test x xs true ih e = cc
  missing_by_test x xs false ih e = ih e

  pub alias_missing : (rs : List Record) → find p rs ≡ None → said_alias soa q (filter p rs) ≡ NoData soa
  alias_missing [] e = refl
  alias_missing (x ∷ xs) e = missing_by_test x xs (p x) (alias_missing xs) e

both_tests : (t : ℕ) (n : List (List ℕ)) (r : Record) (rs : List Record) (a : Bool) → of_type t (at n rs) ≡ picked n t rs
    → filter (is_type t) (cond a (r ∷ at n rs) (at n rs)) ≡ cond (a && is_type t r) (r ∷ picked n t rs) (picked n t rs)
both_tests t n r rs true ih = ap (λ (l : List Record). cond (is_type t r) (r ∷ l) l) ih
both_tests t n r rs false ih = ih

-- The records of a type among those of a name.
pub of_type_at : (t : ℕ) (n : List (List ℕ)) (rs : List Record) → of_type t (at n rs) ≡ picked n t rs
of_type_at t n [] = refl
of_type_at t n (r ∷ rs) = both_tests t n r rs (is_owned n r) (of_type_at t n rs)

not_empty : (kept : List Record) (r : Record) → kept ++ r ∷ [] ≡ [] → ⊥
not_empty [] r e = cc
not_empty (x ∷ kept) r e = cc

kept_some : (b : Bool) (kept : List Record) (r : Record) → (kept ≡ [] → ⊥) → cond b kept (kept ++ r ∷ []) ≡ [] → ⊥
kept_some true kept r h e = h e
kept_some false kept r h e = not_empty kept r e

some_kept : (kept rs : List Record) → (kept ≡ [] → ⊥) → fold add_new kept rs ≡ [] → ⊥
some_kept kept [] h e = h e
some_kept kept (r ∷ rs) h e = some_kept (add_new kept r) rs (kept_some (list_any (λ (s : Record). same_data s.value r.value) kept) kept r h) e

pub none_picked : (q : List (List ℕ)) (xs : List Record) → firsts (map (with_owner q) xs) ≡ [] → xs ≡ []
none_picked q [] e = refl
none_picked q (x ∷ xs) e = absurd (some_kept (with_owner q x ∷ []) (map (with_owner q) xs) (λ z. cc) e)

-- No record of the type: an alias, or none.
pub say_none : (soa : Record) (q : List (List ℕ)) (t : ℕ) (n : List (List ℕ)) (rs : List Record) → firsts (map (with_owner q) (picked n t rs)) ≡ [] → said soa q t (at n rs) ≡ said_alias soa q (picked n cname_type rs)
say_none soa q t n rs e =
    ap (λ (xs : List Record). said_by soa q (at n rs) xs) (of_type_at t n rs ∙ none_picked q (picked n t rs) e) ∙ ap (said_alias soa q) (of_type_at cname_type n rs)

pub found_by : (soa : Record) (q : List (List ℕ)) (own xs : List Record) → (firsts (map (with_owner q) xs) ≡ [] → ⊥) → said_by soa q own xs ≡ Found (firsts (map (with_owner q) xs))
found_by soa q own [] h = absurd (h refl)
found_by soa q own (x ∷ xs) h = refl

-- The record set.
pub say_found : (soa : Record) (q : List (List ℕ)) (t : ℕ) (n : List (List ℕ)) (rs set : List Record) → set ≡ firsts (map (with_owner q) (picked n t rs)) → (set ≡ [] → ⊥) → Found set ≡ said soa q t (at n rs)
say_found soa q t n rs set e h =
    ap Found e ∙ (sym (found_by soa q (at n rs) (picked n t rs) (λ z. h (e ∙ z))) ∙ ap (λ (xs : List Record). said_by soa q (at n rs) xs) (sym (of_type_at t n rs)))

-- Whether any record stands at a name.
none_at : (n : List (List ℕ)) (r : Record) (rs : List Record) (b : Bool) → (list_any (is_owned n) rs ≡ false → at n rs ≡ []) → (b || list_any (is_owned n) rs) ≡ false → cond b (r ∷ at n rs) (at n rs) ≡ []
none_at n r rs true ih e = cc
none_at n r rs false ih e = ih e

at_none : (n : List (List ℕ)) (rs : List Record) → list_any (is_owned n) rs ≡ false → at n rs ≡ []
at_none n [] e = refl
at_none n (r ∷ rs) e = none_at n r rs (is_owned n r) (at_none n rs) e

some_at : (n : List (List ℕ)) (r : Record) (rs : List Record) (b : Bool) → (list_any (is_owned n) rs ≡ true → at n rs ≡ [] → ⊥) → (b || list_any (is_owned n) rs) ≡ true → cond b (r ∷ at n rs) (at n rs) ≡ [] → ⊥
some_at n r rs true ih e z = cc
some_at n r rs false ih e z = ih e z

at_some : (n : List (List ℕ)) (rs : List Record) → list_any (is_owned n) rs ≡ true → at n rs ≡ [] → ⊥
at_some n [] e z = cc
at_some n (r ∷ rs) e z = some_at n r rs (is_owned n r) (at_some n rs) e z

wild_said : (soa : Record) (q : List (List ℕ)) (t : ℕ) (own : List Record) → (own ≡ [] → ⊥) → said soa q t own ≡ said_wild soa q t own
wild_said soa q t [] h = absurd (h refl)
wild_said soa q t (r ∷ rs) h = refl

-- What a wildcard says, and an NXDOMAIN where there is none.
pub wild_some : (soa : Record) (q : List (List ℕ)) (t : ℕ) (n : List (List ℕ)) (rs : List Record) → list_any (is_owned n) rs ≡ true → said soa q t (at n rs) ≡ said_wild soa q t (at n rs)
wild_some soa q t n rs e = wild_said soa q t (at n rs) (at_some n rs e)

pub wild_none : (soa : Record) (q : List (List ℕ)) (t : ℕ) (n : List (List ℕ)) (rs : List Record) → list_any (is_owned n) rs ≡ false → NxDomain soa ≡ said_wild soa q t (at n rs)
wild_none soa q t n rs e = ap (said_wild soa q t) (sym (at_none n rs e))

-- A step of the walk over the servers.
fold_on : (kept xs ys : List Record) → fold add_glue kept (xs ++ ys) ≡ fold add_glue (fold add_glue kept xs) ys
fold_on kept [] ys = refl
fold_on kept (x ∷ xs) ys = fold_on (add_glue kept x) xs ys

server_last : (rs : List Record) (kept ns : List Record) (r : Record)
    → fold add_glue kept (flat_map (λ (s : Record). addresses_of rs s.value) (ns ++ r ∷ [])) ≡ fold add_glue (fold add_glue kept (flat_map (λ (s : Record). addresses_of rs s.value) ns)) (addresses_of rs r.value)
server_last rs kept [] r = ap (fold add_glue kept) (append-nil (addresses_of rs r.value))
server_last rs kept (x ∷ ns) r =
    fold_on kept (addresses_of rs x.value) (flat_map (λ (s : Record). addresses_of rs s.value) (ns ++ r ∷ []))
    ∙ (server_last rs (fold add_glue kept (addresses_of rs x.value)) ns r
    ∙ ap (λ (l : List Record). fold add_glue l (addresses_of rs r.value)) (sym (fold_on kept (addresses_of rs x.value) (flat_map (λ (s : Record). addresses_of rs s.value) ns))))

pub glue_more : (rs ns old new : List Record) (i : ℕ) (r : Record) → i < length ns → r ≡ get_or ns i r → old ≡ glue_of rs (take i ns)
    → new ≡ fold add_glue old (addresses_of rs r.value) → new ≡ glue_of rs (take (i + 1) ns)
glue_more rs ns old new i r lt at_i eo en =
    en ∙ (ap (λ (l : List Record). fold add_glue l (addresses_of rs r.value)) eo
    ∙ (sym (server_last rs [] (take i ns) r) ∙ ap (glue_of rs) (ap (λ (x : Record). take i ns ++ x ∷ []) at_i ∙ sym (take_more ns i r lt))))

-- An address that is new.
pub added_glue : (kept new : List Record) (r x : Record) (b : Bool) → b ≡ has_glue r kept → b ≡ false → x ≡ r → new ≡ kept ++ x ∷ [] → new ≡ add_glue kept r
added_glue kept new r x b eb ef ex en =
    en ∙ (ap (λ (y : Record). kept ++ y ∷ []) ex ∙ ap (λ (c : Bool). cond c kept (kept ++ r ∷ [])) (sym ef ∙ eb))

-- The records at a name keep it as owner.
stays : (c : List (List ℕ)) (r : Record) → is_owned c r ≡ true → with_owner c r ≡ r
stays c r e = let o : r.owner ≡ c = same_name-exact r.owner c e in λ i. record { owner = sym o i; ttl = r.ttl; value = r.value }

stay_by : (c : List (List ℕ)) (t : ℕ) (r : Record) (rs : List Record) (a b : Bool) → is_owned c r ≡ a → map (with_owner c) (picked c t rs) ≡ picked c t rs
    → map (with_owner c) (cond (a && b) (r ∷ picked c t rs) (picked c t rs)) ≡ cond (a && b) (r ∷ picked c t rs) (picked c t rs)
stay_by c t r rs true true e ih = λ i. stays c r e i ∷ ih i
stay_by c t r rs true false e ih = ih
stay_by c t r rs false b e ih = ih

pub owners_stay : (c : List (List ℕ)) (t : ℕ) (rs : List Record) → map (with_owner c) (picked c t rs) ≡ picked c t rs
owners_stay c t [] = refl
owners_stay c t (r ∷ rs) = stay_by c t r rs (is_owned c r) (is_type t r) refl (owners_stay c t rs)

-- A referral.
pub refer_is : (origin c : List (List ℕ)) (rs servers addresses : List Record) → servers ≡ firsts (map (with_owner c) (picked c ns_type rs)) → addresses ≡ glue_of rs servers
    → Cut c servers addresses ≡ Cut c (ns_of record { origin = origin; records = rs } c) (glue_of rs (ns_of record { origin = origin; records = rs } c))
refer_is origin c rs servers addresses es ea =
    let same : servers ≡ ns_of record { origin = origin; records = rs } c = es ∙ (ap firsts (owners_stay c ns_type rs) ∙ ap firsts (sym (of_type_at ns_type c rs))) in
    ap (λ (a : List Record). Cut c servers a) ea ∙ ap (λ (s : List Record). Cut c s (glue_of rs s)) same

-- The link of a name over which no cut stands.
pub link_here : (soa : Record) (z : Zone) (q : List (List ℕ)) (t : ℕ) (b : Bool) → cut_of z q ≡ None → b ≡ has_under q z.records → b ≡ true → said soa q t (at q z.records) ≡ link_by soa z q t
link_here soa z q t b free e true_is =
    let here : exists z q ≡ true = exists_plain z q free ∙ (sym e ∙ true_is) in
    ap (λ (x : Bool). cond x (said soa q t (at q z.records)) (said_wild soa q t (wild z q))) (sym here)

pub link_above : (soa : Record) (z : Zone) (q : List (List ℕ)) (t : ℕ) (b : Bool) → cut_of z q ≡ None → b ≡ has_under q z.records → b ≡ false → climbed soa q t z.records q ≡ link_by soa z q t
link_above soa z q t b free e false_is =
    let none : exists z q ≡ false = exists_plain z q free ∙ (sym e ∙ false_is) in
    climbed_is soa q t z q free (sym e ∙ false_is) ∙ ap (λ (x : Bool). cond x (said soa q t (at q z.records)) (said_wild soa q t (wild z q))) (sym none)

pub look_cut : (soa : Record) (z : Zone) (q c : List (List ℕ)) (t : ℕ) → Some c ≡ cut_of z q → Cut c (ns_of z c) (glue_of z.records (ns_of z c)) ≡ local_by soa z q t
look_cut soa z q c t e = ap (local_of soa z q t) e

pub look_link : (soa : Record) (z : Zone) (q : List (List ℕ)) (t : ℕ) (l : Link) → None ≡ cut_of z q → l ≡ link_by soa z q t → Linked l ≡ local_by soa z q t
look_link soa z q t l e h = ap Linked h ∙ ap (local_of soa z q t) e
