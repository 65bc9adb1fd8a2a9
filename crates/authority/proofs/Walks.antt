-- One walk up from a name gives what the look-up over the record list does.
use Rattle.std.proofs.Common.{◌≡◌, ℕ, zero, suc, ◌+◌, ◌<◌, ◌≤◌, Bool, true, false, ◌&&◌, ◌||◌, not, cond, Option, Some, None, List, [], ◌∷◌, ◌++◌, length, take, get_or, map, filter, find, fold, refl, sym, ◌∙◌, ap, arith}
use Rattle.std.specs.Prelude.{is_some, MatchOption}
use Rattle.std.specs.List.{list_any}
use Rattle.std.proofs.lemmas.Bool.{or_parts}
use Rattle.std.proofs.lemmas.List.{take_more, length-append}
use Rattle.dname.specs.Labels.{star, root, parent_of, same_name, wire}
use Rattle.rdata.specs.Data.{Datum, Ns}
use Rattle.rdata.specs.Records.{Record}
use Rattle.zone.specs.declared.tree.Stand.{Stand}
use Rattle.zone.specs.Tree.{has_under, IsStand}
use Rattle.zone.specs.Zones.{Zone, ns_type}
use Rattle.zone.specs.Links.{Link, Found, NxDomain}
use Rattle.zone.specs.Look.{is_owned, is_type, at, of_type, owns, is_cut, cut_of, firsts, with_owner, said, said_by, said_alias, said_wild, climbed, link_by, is_address, ns_of, add_glue, addresses_of}
use Rattle.zone.proofs.Trees.{not_own}
use Rattle.authority.specs.Walk.{own_of, wild_of, Stands, near_or, met, told}
use Rattle.authority.proofs.Ascents.{climb_by}
use Rattle.authority.proofs.Picks.{none_picked, found_by, of_type_at, owners_stay, link_here, link_above}

-- No owner at or under a name: no records of it.
none_by : (b : Bool) (r : Record) (xs : List Record) → b ≡ false → xs ≡ [] → cond b (r ∷ xs) xs ≡ []
none_by true r xs e h = absurd (cc)
none_by false r xs e h = h

pub none_under : (n : List (List ℕ)) (rs : List Record) → has_under n rs ≡ false → at n rs ≡ []
none_under n [] h = refl
none_under n (r ∷ rs) h =
    let parts = or_parts _ (has_under n rs) h in
    none_by (is_owned n r) r (at n rs) (not_own r n parts.0) (none_under n rs parts.1)

pub stands : {H : Type 0} (n : List (List ℕ)) (rs : List Record) (o : Option (Stand H)) → MatchOption o (has_under n rs ≡ false) (λ s. IsStand n rs s.own s.wild) → Stands n rs o
stands n rs None h = record { under = sym h; own = sym (none_under n rs h); wild = ap (λ (b : Bool). cond b (Some (at (star ∷ n) rs)) None) (sym h) }
stands n rs (Some s) h = record { under = sym h.under; own = h.own; wild = ap Some h.wild ∙ ap (λ (b : Bool). cond b (Some (at (star ∷ n) rs)) None) (sym h.under) }

-- A test of the records at a name is one of all records.
owned_any : (a : Bool) (p : Record → Bool) (r : Record) (xs : List Record) (b : Bool) → list_any p xs ≡ b → list_any p (cond a (r ∷ xs) xs) ≡ ((a && p r) || b)
owned_any true p r xs b h = ap (λ (c : Bool). p r || c) h
owned_any false p r xs b h = h

owns_at : (t : ℕ) (n : List (List ℕ)) (rs : List Record) → list_any (is_type t) (at n rs) ≡ owns t n rs
owns_at t n [] = refl
owns_at t n (r ∷ rs) = owned_any (is_owned n r) (is_type t) r (at n rs) (owns t n rs) (owns_at t n rs)

pub cut_is : {H : Type 0} (z : Zone) (n : List (List ℕ)) (o : Option (Stand H)) (b : Bool) (c : Option (List (List ℕ))) → Stands n z.records o → b ≡ list_any (is_type ns_type) (own_of o)
    → c ≡ cond (b && not (same_name n z.origin)) (Some n) None → c ≡ cond (is_cut z n) (Some n) None
cut_is z n o b c h eb ec =
    let same : b ≡ owns ns_type n z.records = eb ∙ (ap (list_any (is_type ns_type)) h.own ∙ owns_at ns_type n z.records) in
    ec ∙ ap (λ (x : Bool). cond (x && not (same_name n z.origin)) (Some n) None) same

-- The first of a kind.
module _ (p : Record → Bool) where
  here_by : (b : Bool) (x r : Record) (rest all : Option Record) → cond b (Some x) rest ≡ None → (rest ≡ None → Some r ≡ all) → Some r ≡ cond b (Some x) all
  here_by true x r rest all h k = absurd (cc)
  here_by false x r rest all h k = k h

  pub find_here : (rs : List Record) (i : ℕ) (r : Record) → i < length rs → r ≡ get_or rs i r → find p (take i rs) ≡ None → p r ≡ true → Some r ≡ find p rs
  find_here [] i r lt e h t = absurd (omega (arith, lt))
  find_here (x ∷ xs) zero r lt e h t = ap Some e ∙ ap (λ (b : Bool). cond b (Some x) (find p xs)) (sym (ap p (sym e) ∙ t))
  find_here (x ∷ xs) (suc i) r lt e h t = here_by (p x) x r (find p (take i xs)) (find p xs) h (λ k. find_here xs i r (omega (arith, lt)) e k t)

  push_by : (b : Bool) (x : Record) (rest more : Option Record) → cond b (Some x) rest ≡ None → (rest ≡ None → more ≡ None) → cond b (Some x) more ≡ None
  push_by true x rest more h k = h
  push_by false x rest more h k = k h

  find_push : (xs : List Record) (r : Record) → find p xs ≡ None → p r ≡ false → find p (xs ++ r ∷ []) ≡ None
  find_push [] r h f = ap (λ (b : Bool). cond b (Some r) None) f
  find_push (x ∷ xs) r h f = push_by (p x) x (find p xs) (find p (xs ++ r ∷ [])) h (λ k. find_push xs r k f)

  pub find_on : (rs : List Record) (i : ℕ) (r : Record) → i < length rs → r ≡ get_or rs i r → find p (take i rs) ≡ None → p r ≡ false → find p (take (i + 1) rs) ≡ None
  find_on rs i r lt e h f =
      ap (find p) (take_more rs i r lt ∙ ap (λ (x : Record). take i rs ++ x ∷ []) (sym e)) ∙ find_push (take i rs) r h f

  any_by : (b : Bool) (x : Record) (rest : Option Record) (c : Bool) → is_some rest ≡ c → is_some (cond b (Some x) rest) ≡ (b || c)
  any_by true x rest c h = refl
  any_by false x rest c h = h

  pub found_any : (rs : List Record) → is_some (find p rs) ≡ list_any p rs
  found_any [] = refl
  found_any (x ∷ xs) = any_by (p x) x (find p xs) (list_any p xs) (found_any xs)

-- What records say of a type.
pub says_none : (soa : Record) (q : List (List ℕ)) (t : ℕ) (own set : List Record) → set ≡ firsts (map (with_owner q) (of_type t own)) → set ≡ [] → said_alias soa q (of_type 5 own) ≡ said soa q t own
says_none soa q t own set e h = sym (ap (λ (xs : List Record). said_by soa q own xs) (none_picked q (of_type t own) (sym e ∙ h)))

pub says_found : (soa : Record) (q : List (List ℕ)) (t : ℕ) (own set : List Record) → set ≡ firsts (map (with_owner q) (of_type t own)) → (set ≡ [] → ⊥) → Found set ≡ said soa q t own
says_found soa q t own set e h = ap Found e ∙ sym (found_by soa q own (of_type t own) (λ z. h (e ∙ z)))

pub wild_none_held : (soa : Record) (q : List (List ℕ)) (t : ℕ) (ws : List Record) → length ws ≡ 0 → NxDomain soa ≡ said_wild soa q t ws
wild_none_held soa q t [] e = refl
wild_none_held soa q t (w ∷ ws) e = absurd (omega (arith, e))

pub wild_held : (soa : Record) (q : List (List ℕ)) (t : ℕ) (ws : List Record) → (length ws ≡ 0 → ⊥) → said soa q t ws ≡ said_wild soa q t ws
wild_held soa q t [] h = absurd (h refl)
wild_held soa q t (w ∷ ws) h = refl

-- Addresses and servers at a name.
both_by : (a : Bool) (p : Record → Bool) (r : Record) (xs ys : List Record) → filter p xs ≡ ys → filter p (cond a (r ∷ xs) xs) ≡ cond (a && p r) (r ∷ ys) ys
both_by true p r xs ys h = ap (λ (l : List Record). cond (p r) (r ∷ l) l) h
both_by false p r xs ys h = h

pub filter_at : (p : Record → Bool) (n : List (List ℕ)) (rs : List Record) → filter p (at n rs) ≡ filter (λ (r : Record). is_owned n r && p r) rs
filter_at p n [] = refl
filter_at p n (r ∷ rs) = both_by (is_owned n r) p r (at n rs) (filter (λ (x : Record). is_owned n x && p x) rs) (filter_at p n rs)

pub servers_are : (z : Zone) (c : List (List ℕ)) (own set : List Record) → own ≡ at c z.records → set ≡ firsts (map (with_owner c) (of_type ns_type own)) → set ≡ ns_of z c
servers_are z c own set eo e =
    e ∙ (ap (λ (xs : List Record). firsts (map (with_owner c) (of_type ns_type xs))) eo
    ∙ (ap (λ (xs : List Record). firsts (map (with_owner c) xs)) (of_type_at ns_type c z.records)
    ∙ (ap firsts (owners_stay c ns_type z.records) ∙ ap firsts (sym (of_type_at ns_type c z.records)))))

-- A step of the walk: what the wildcards met so far say, or those above.
near_none : (b : Bool) (soa : Record) (q : List (List ℕ)) (t : ℕ) (ws : List Record) (up all : Link) → cond b (said_wild soa q t ws) up ≡ all → met soa q t (cond b (Some ws) None) up ≡ all
near_none true soa q t ws up all h = h
near_none false soa q t ws up all h = h

near_some : (near wild : Option (List Record)) (soa : Record) (q : List (List ℕ)) (t : ℕ) (here up all : Link) → met soa q t near here ≡ all → (here ≡ all → met soa q t wild up ≡ all) → met soa q t (near_or near wild) up ≡ all
near_some (Some ws) wild soa q t here up all h k = h
near_some None wild soa q t here up all h k = k h

pub near_more : {H : Type 0} (rs : List Record) (n p : List (List ℕ)) (o : Option (Stand H)) (near new : Option (List Record)) (soa : Record) (q : List (List ℕ)) (t : ℕ) → parent_of n ≡ Some p → Stands p rs o
    → met soa q t near (climbed soa q t rs n) ≡ climbed soa q t rs q → new ≡ near_or near (wild_of o) → met soa q t new (climbed soa q t rs p) ≡ climbed soa q t rs q
near_more rs n p o near new soa q t up h old e =
    ap (λ (w : Option (List Record)). met soa q t w (climbed soa q t rs p)) e
    ∙ near_some near (wild_of o) soa q t (climbed soa q t rs n) (climbed soa q t rs p) (climbed soa q t rs q) old
    (λ k. ap (λ (w : Option (List Record)). met soa q t w (climbed soa q t rs p)) h.wild
    ∙ near_none (has_under p rs) soa q t (at (star ∷ p) rs) (climbed soa q t rs p) (climbed soa q t rs q) (sym (climb_by soa q t rs n p up) ∙ k))

pub near_last : (rs : List Record) (n : List (List ℕ)) (near : Option (List Record)) (soa : Record) (q : List (List ℕ)) (t : ℕ) → n ≡ root
    → met soa q t near (climbed soa q t rs n) ≡ climbed soa q t rs q → met soa q t near (NxDomain soa) ≡ climbed soa q t rs q
near_last rs n near soa q t e h = sym (ap (λ (m : List (List ℕ)). met soa q t near (climbed soa q t rs m)) e) ∙ h

pub labels_within : (n : List (List ℕ)) → length n ≤ length (wire n)
labels_within [] = omega arith
labels_within (l ∷ ls) = let k = labels_within ls in omega (arith, k, length-append l (wire ls))

-- The whole walk.
told_by : {H : Type 0} (z : Zone) (soa : Record) (q : List (List ℕ)) (t : ℕ) (o : Option (Stand H)) (near : Option (List Record)) → cut_of z q ≡ None → Stands q z.records o
    → (has_under q z.records ≡ false → met soa q t near (NxDomain soa) ≡ climbed soa q t z.records q) → told soa q t o near ≡ link_by soa z q t
told_by z soa q t None near free h k = k (sym h.under) ∙ link_above soa z q t false free h.under refl
told_by z soa q t (Some s) near free h k = ap (said soa q t) h.own ∙ link_here soa z q t true free h.under refl

pub walk_told : {H : Type 0} (z : Zone) (soa : Record) (q : List (List ℕ)) (t : ℕ) (o : Option (Stand H)) (near : Option (List Record)) → None ≡ cut_of z q → Stands q z.records o
    → (has_under q z.records ≡ false → met soa q t near (NxDomain soa) ≡ climbed soa q t z.records q) → told soa q t o near ≡ link_by soa z q t
walk_told z soa q t o near free h k = told_by z soa q t o near (sym free) h k

-- A server's addresses.
pub server_put : (rs : List Record) (n : List (List ℕ)) (v : Datum) (old new own : List Record) → Ns n ≡ v → own ≡ at n rs → new ≡ fold add_glue old (filter is_address own) → new ≡ fold add_glue old (addresses_of rs v)
server_put rs n v old new own ev eo e =
    e ∙ (ap (λ (xs : List Record). fold add_glue old (filter is_address xs)) eo
    ∙ (ap (fold add_glue old) (filter_at is_address n rs) ∙ ap (λ (d : Datum). fold add_glue old (addresses_of rs d)) ev))
