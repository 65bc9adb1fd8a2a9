-- A walk that ends at the origin of a zone misses nothing above it.
use Rattle.std.proofs.Common.{◌≡◌, ◌≢◌, ℕ, ◌+◌, ◌<◌, ◌≤◌, Bool, true, false, ◌&&◌, not, cond, Option, Some, None, List, [], ◌∷◌, length, refl, sym, ◌∙◌, ap, arith}
use Rattle.std.proofs.lemmas.Bool.{and_parts}
use Rattle.std.proofs.lemmas.List.{length-append}
use Rattle.dname.specs.Labels.{star, root, parent_of, same_name, IsAtOrUnder, is_under, AreLabels}
use Rattle.dname.specs.Laws.{same_name-exact, same_name-refl}
use Rattle.rdata.specs.Records.{Record}
use Rattle.zone.specs.declared.tree.Stand.{Stand}
use Rattle.zone.specs.Links.{Link, NxDomain}
use Rattle.zone.specs.Look.{is_owned, is_type, owns, is_cut, cut_of, or_else, climbed, at}
use Rattle.zone.specs.Ruled.{IsZone, IsNamed}
use Rattle.zone.specs.Tree.{has_under}
use Rattle.zone.specs.Zones.{Zone, ns_type}
use Rattle.zone.proofs.Members.{passing, passes}
use Rattle.authority.specs.Climb.{above}
use Rattle.authority.specs.Walk.{wild_of, Stands, near_or, met, nodes_met}
use Rattle.authority.proofs.Ascents.{ascends}

under_length : (a b : List (List ℕ)) → IsAtOrUnder a b → length b ≤ length a
under_length a b (front, e) = omega (arith, ap length e, length-append front b)

none_owned : (b : Bool) → (b ≡ true → ⊥) → b ≡ false
none_owned true h = absurd (h refl)
none_owned false h = refl

-- No record stands above the origin, so that no cut does.
no_servers : (z : Zone) (n : List (List ℕ)) → IsZone z → length n < length z.origin → owns ns_type n z.records ≡ false
no_servers z n rules short = none_owned (owns ns_type n z.records) (λ some.
    let (r, there, is) = passing (λ (r : Record). is_owned n r && is_type ns_type r) z.records some in
    let owner : r.owner ≡ n = same_name-exact r.owner n (and_parts (is_owned n r) (is_type ns_type r) is).0 in
    absurd (omega (arith, under_length r.owner z.origin (rules.inside r there), ap length owner, short)))

no_cut : (z : Zone) (n : List (List ℕ)) → IsZone z → length n < length z.origin → is_cut z n ≡ false
no_cut z n rules short = ap (λ (b : Bool). b && not (same_name n z.origin)) (no_servers z n rules short)

uncut : (z : Zone) (n : List (List ℕ)) → IsZone z → length n < length z.origin → cut_of z n ≡ None
uncut z [] rules short = refl
uncut z (l ∷ ls) rules short = rw (uncut z ls rules (omega arith), no_cut z (l ∷ ls) rules short) refl

over_shorter : (n : List (List ℕ)) → n ≢ [] → length (above n) < length n
over_shorter [] h = absurd (h refl)
over_shorter (l ∷ ls) h = omega arith

-- The cut over a name, where the walk stands at the origin.
pub cut_at_origin : (z : Zone) (n q : List (List ℕ)) (f : Option (List (List ℕ))) → IsZone z → IsNamed z → same_name n z.origin ≡ true
    → or_else (cut_of z (above n)) f ≡ cut_of z q → f ≡ cut_of z q
cut_at_origin z n q f rules named same h =
    let (r, found) = rules.servers in
    let some : z.origin ≢ [] = λ e. named r found.stands (found.owner ∙ e) in
    let is : n ≡ z.origin = same_name-exact n z.origin same in
    let none : cut_of z (above n) ≡ None = ap (λ (m : List (List ℕ)). cut_of z (above m)) is ∙ uncut z (above z.origin) rules (over_shorter z.origin some) in
    sym (ap (λ (o : Option (List (List ℕ))). or_else o f) none) ∙ h

-- The origin has a node.
itself_under : (n : List (List ℕ)) → is_under n n ≡ true
itself_under [] = same_name-refl []
itself_under (l ∷ ls) = rw (same_name-refl (l ∷ ls)) refl

owner_under : (a b : List (List ℕ)) → a ≡ b → is_under a b ≡ true
owner_under a b e = ap (λ (x : List (List ℕ)). is_under x b) e ∙ itself_under b

origin_met : (z : Zone) (n : List (List ℕ)) → IsZone z → same_name n z.origin ≡ true → has_under n z.records ≡ true
origin_met z n rules same =
    let is : n ≡ z.origin = same_name-exact n z.origin same in
    let (r, found) = rules.servers in
    passes (λ (x : Record). is_under x.owner n) z.records r found.stands (owner_under r.owner n (found.owner ∙ sym is))

-- While no wildcard is met, no name above has a node.
no_wild : (near wild : Option (List Record)) → near_or near wild ≡ None → wild ≡ None
no_wild (Some ws) wild e = cc
no_wild None wild e = e

no_node : (b : Bool) (ws : List Record) → cond b (Some ws) None ≡ None → b ≡ false
no_node true ws e = cc
no_node false ws e = refl

pub no_node_so_far : {H : Type 0} (rs : List Record) (p : List (List ℕ)) (o : Option (Stand H)) (near new : Option (List Record)) → Stands p rs o → new ≡ near_or near (wild_of o)
    → new ≡ None → has_under p rs ≡ false
no_node_so_far rs p o near new h e none =
    no_node (has_under p rs) (at (star ∷ p) rs) (sym h.wild ∙ no_wild near (wild_of o) (sym e ∙ none))

met_wild : (near : Option (List Record)) (soa : Record) (q : List (List ℕ)) (t : ℕ) (a b l : Link) → (near ≡ None → ⊥) → met soa q t near a ≡ l → met soa q t near b ≡ l
met_wild (Some ws) soa q t a b l h e = e
met_wild None soa q t a b l h e = absurd (h refl)

-- So at the origin a wildcard is met where the name has no node.
pub near_at_origin : (z : Zone) (n q : List (List ℕ)) (near : Option (List Record)) (soa : Record) (t : ℕ) → IsZone z → same_name n z.origin ≡ true
    → (near ≡ None → has_under q z.records ≡ false → has_under n z.records ≡ false) → has_under q z.records ≡ false
    → met soa q t near (climbed soa q t z.records n) ≡ climbed soa q t z.records q → met soa q t near (NxDomain soa) ≡ climbed soa q t z.records q
near_at_origin z n q near soa t rules same without none h =
    met_wild near soa q t (climbed soa q t z.records n) (NxDomain soa) (climbed soa q t z.records q) (λ e. true_false (sym (origin_met z n rules same) ∙ without e none)) h
  where
    true_false : true ≡ false → ⊥
    true_false e = cc

-- ---- the nodes that are met

nodes_at : (z : Zone) (n : List (List ℕ)) → AreLabels n → nodes_met z n ≡ cond (has_under n z.records) 1 0 + cond (same_name n z.origin) 0 (nodes_met z (above n))
nodes_at z [] h = absurd h
nodes_at z (l ∷ ls) h = refl

pub count_first : (z : Zone) (n q : List (List ℕ)) (b : Bool) (count : ℕ) → AreLabels n → n ≡ q → b ≡ has_under n z.records → count ≡ cond b 1 0
    → count + cond (same_name n z.origin) 0 (nodes_met z (above n)) ≡ nodes_met z q
count_first z n q b count labels is under e =
    let node : count ≡ cond (has_under n z.records) 1 0 = e ∙ ap (λ (x : Bool). cond x 1 0) under in
    ap (λ (k : ℕ). k + cond (same_name n z.origin) 0 (nodes_met z (above n))) node ∙ sym (nodes_at z n labels) ∙ ap (nodes_met z) is

pub count_more : (z : Zone) (n p q : List (List ℕ)) (b : Bool) (add count : ℕ) → parent_of n ≡ Some p → same_name n z.origin ≡ false → b ≡ has_under p z.records → add ≡ cond b 1 0
    → count + cond (same_name n z.origin) 0 (nodes_met z (above n)) ≡ nodes_met z q → (count + add) + cond (same_name p z.origin) 0 (nodes_met z (above p)) ≡ nodes_met z q
count_more z n p q b add count up apart under e h =
    let a = ascends n p up in
    let next : above n ≡ p = ap above a.from ∙ sym a.to in
    let node : add ≡ cond (has_under p z.records) 1 0 = e ∙ ap (λ (x : Bool). cond x 1 0) under in
    let before : count + nodes_met z p ≡ nodes_met z q = ap (λ (m : List (List ℕ)). count + nodes_met z m) (sym next) ∙ ap (λ (x : Bool). count + cond x 0 (nodes_met z (above n))) (sym apart) ∙ h in
    let whole : nodes_met z p ≡ cond (has_under p z.records) 1 0 + cond (same_name p z.origin) 0 (nodes_met z (above p)) =
    ap (nodes_met z) a.to ∙ ap (λ (m : List (List ℕ)). cond (has_under m z.records) 1 0 + cond (same_name m z.origin) 0 (nodes_met z (above m))) (sym a.to) in
    omega (arith, before, whole, node)

pub count_at_origin : (z : Zone) (n q : List (List ℕ)) (count : ℕ) → same_name n z.origin ≡ true → count + cond (same_name n z.origin) 0 (nodes_met z (above n)) ≡ nodes_met z q → count ≡ nodes_met z q
count_at_origin z n q count same h =
    let none : cond (same_name n z.origin) 0 (nodes_met z (above n)) ≡ 0 = ap (λ (b : Bool). cond b 0 (nodes_met z (above n))) same in
    omega (arith, none, h)

nothing : (b : Bool) → ◌≡◌ {A = ℕ} (cond b 0 0) 0
nothing true = refl
nothing false = refl

pub count_at_root : (z : Zone) (n q : List (List ℕ)) (count : ℕ) → n ≡ root → count + cond (same_name n z.origin) 0 (nodes_met z (above n)) ≡ nodes_met z q → count ≡ nodes_met z q
count_at_root z n q count is h =
    let none : cond (same_name n z.origin) 0 (nodes_met z (above n)) ≡ 0 = ap (λ (m : List (List ℕ)). cond (same_name n z.origin) 0 (nodes_met z (above m))) is ∙ nothing (same_name n z.origin) in
    omega (arith, none, h)

at_most_one : (b : Bool) → cond b 1 0 ≤ 1
at_most_one true = omega arith
at_most_one false = omega arith

no_more : (b : Bool) (n m : ℕ) → n ≤ m → cond b 0 n ≤ m
no_more true n m h = omega arith
no_more false n m h = h

pub nodes_within : (z : Zone) (n : List (List ℕ)) → nodes_met z n ≤ length n
nodes_within z [] = omega arith
nodes_within z (l ∷ ls) = omega (arith, at_most_one (has_under (l ∷ ls) z.records), no_more (same_name (l ∷ ls) z.origin) (nodes_met z ls) (length ls) (nodes_within z ls))
