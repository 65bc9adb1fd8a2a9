-- The way up from a name to the root.
use Rattle.std.proofs.Common.{◌≡◌, ℕ, suc, ◌≤◌, Bool, true, false, cond, Option, Some, None, List, [], ◌∷◌, length, refl, sym, ◌∙◌, ap, arith}
use Rattle.dname.specs.Labels.{star, root, parent_of, AreLabels}
use Rattle.rdata.specs.Records.{Record}
use Rattle.zone.specs.Zones.{Zone}
use Rattle.zone.specs.Links.{Link}
use Rattle.zone.specs.Look.{is_cut, cut_of, or_else, climbed, said_wild, at, local_by, denial_of}
use Rattle.authority.specs.Catalogs.{first_zone, zone_at, zone_over, said_by_zone, looked_in, looked}
use Rattle.authority.specs.Climb.{above, has_under}

-- What an ascent does to the labels.
pub record Ascends (n p : List (List ℕ)) : Type 0 where
  pub first : List ℕ
  pub next : List ℕ
  pub rest : List (List ℕ)
  pub from : n ≡ first ∷ next ∷ rest
  pub to : p ≡ next ∷ rest

pub ascends : (n p : List (List ℕ)) → parent_of n ≡ Some p → Ascends n p
ascends [] p e = absurd (cc)
ascends (l ∷ []) p e = absurd (cc)
ascends (l ∷ m ∷ ls) p e = let s : (m ∷ ls) ≡ p = cc in record { first = l; next = m; rest = ls; from = refl; to = sym s }

pub shorter : (n p : List (List ℕ)) → parent_of n ≡ Some p → suc (length p) ≤ length n
shorter n p e = let a = ascends n p e in omega (arith, ap length a.from, ap length a.to)

or_else-assoc : (a b c : Option (List (List ℕ))) → or_else a (or_else b c) ≡ or_else (or_else a b) c
or_else-assoc (Some x) b c = refl
or_else-assoc None b c = refl

-- The cuts met so far, and those above.
pub cut_first : (z : Zone) (n : List (List ℕ)) (f : Option (List (List ℕ))) → AreLabels n → f ≡ cond (is_cut z n) (Some n) None → or_else (cut_of z (above n)) f ≡ cut_of z n
cut_first z [] f h e = absurd h
cut_first z (l ∷ ls) f h e = ap (or_else (cut_of z ls)) e

cut_at_parent : (z : Zone) (l : List ℕ) (ls : List (List ℕ)) (f y : Option (List (List ℕ))) → y ≡ cond (is_cut z (l ∷ ls)) (Some (l ∷ ls)) None
    → or_else (cut_of z ls) (or_else y f) ≡ or_else (cut_of z (l ∷ ls)) f
cut_at_parent z l ls f y e = or_else-assoc (cut_of z ls) y f ∙ ap (λ (x : Option (List (List ℕ))). or_else (or_else (cut_of z ls) x) f) e

pub cut_more : (z : Zone) (n p q : List (List ℕ)) (f y g : Option (List (List ℕ))) → parent_of n ≡ Some p → or_else (cut_of z (above n)) f ≡ cut_of z q
    → y ≡ cond (is_cut z p) (Some p) None → g ≡ or_else y f → or_else (cut_of z (above p)) g ≡ cut_of z q
cut_more z n p q f y g e h ey eg =
    let a = ascends n p e in
    let here : y ≡ cond (is_cut z (a.next ∷ a.rest)) (Some (a.next ∷ a.rest)) None = ey ∙ ap (λ (x : List (List ℕ)). cond (is_cut z x) (Some x) None) a.to in
    ap (or_else (cut_of z (above p))) eg
    ∙ (ap (λ (x : List (List ℕ)). or_else (cut_of z (above x)) (or_else y f)) a.to
    ∙ (cut_at_parent z a.next a.rest f y here ∙ (ap (λ (x : List (List ℕ)). or_else (cut_of z (above x)) f) (sym a.from) ∙ h)))

pub cut_last : (z : Zone) (n q : List (List ℕ)) (f : Option (List (List ℕ))) → n ≡ root → or_else (cut_of z (above n)) f ≡ cut_of z q → f ≡ cut_of z q
cut_last z n q f e h = ap (λ (x : List (List ℕ)). or_else (cut_of z (above x)) f) (sym e) ∙ h

-- A step of the climb.
pub climb_by : (soa : Record) (q : List (List ℕ)) (t : ℕ) (rs : List Record) (n p : List (List ℕ)) → parent_of n ≡ Some p
    → climbed soa q t rs n ≡ cond (has_under p rs) (said_wild soa q t (at (star ∷ p) rs)) (climbed soa q t rs p)
climb_by soa q t rs n p e =
    let a = ascends n p e in
    ap (climbed soa q t rs) a.from ∙ ap (λ (x : List (List ℕ)). cond (has_under x rs) (said_wild soa q t (at (star ∷ x) rs)) (climbed soa q t rs x)) (sym a.to)

pub climb_stops : (soa : Record) (q : List (List ℕ)) (t : ℕ) (rs : List Record) (n p : List (List ℕ)) (b : Bool) (l : Link) → parent_of n ≡ Some p → b ≡ has_under p rs → b ≡ true
    → climbed soa q t rs n ≡ l → said_wild soa q t (at (star ∷ p) rs) ≡ l
climb_stops soa q t rs n p b l e eb et h =
    ap (λ (c : Bool). cond c (said_wild soa q t (at (star ∷ p) rs)) (climbed soa q t rs p)) (sym et ∙ eb) ∙ (sym (climb_by soa q t rs n p e) ∙ h)

pub climb_goes_on : (soa : Record) (q : List (List ℕ)) (t : ℕ) (rs : List Record) (n p : List (List ℕ)) (b : Bool) (l : Link) → parent_of n ≡ Some p → b ≡ has_under p rs → b ≡ false
    → climbed soa q t rs n ≡ l → climbed soa q t rs p ≡ l
climb_goes_on soa q t rs n p b l e eb ef h =
    ap (λ (c : Bool). cond c (said_wild soa q t (at (star ∷ p) rs)) (climbed soa q t rs p)) (sym ef ∙ eb) ∙ (sym (climb_by soa q t rs n p e) ∙ h)

pub climb_ends : (soa : Record) (q : List (List ℕ)) (t : ℕ) (rs : List Record) (n : List (List ℕ)) (l : Link) → n ≡ root → climbed soa q t rs n ≡ l → said_wild soa q t [] ≡ l
climb_ends soa q t rs n l e h = ap (climbed soa q t rs) (sym e) ∙ h

-- The way up to the zone in charge.
pub zone_stops : (zs : List Zone) (n : List (List ℕ)) (z : Zone) → AreLabels n → Some z ≡ zone_at n zs → Some z ≡ zone_over zs n
zone_stops zs [] z h e = absurd h
zone_stops zs (l ∷ ls) z h e = ap (λ (o : Option Zone). first_zone o (zone_over zs ls)) e

pub zone_goes_on : (zs : List Zone) (n : List (List ℕ)) → AreLabels n → None ≡ zone_at n zs → zone_over zs (above n) ≡ zone_over zs n
zone_goes_on zs [] h e = absurd h
zone_goes_on zs (l ∷ ls) h e = ap (λ (o : Option Zone). first_zone o (zone_over zs ls)) e

zone_up : (zs : List Zone) (n p : List (List ℕ)) → parent_of n ≡ Some p → zone_over zs (above n) ≡ first_zone (zone_at p zs) (zone_over zs (above p))
zone_up zs n p e =
    let a = ascends n p e in
    ap (λ (x : List (List ℕ)). zone_over zs (above x)) a.from ∙ ap (λ (x : List (List ℕ)). first_zone (zone_at x zs) (zone_over zs (above x))) (sym a.to)

pub zone_found : (zs : List Zone) (n p q : List (List ℕ)) (z : Zone) → parent_of n ≡ Some p → zone_over zs (above n) ≡ zone_over zs q → Some z ≡ zone_at p zs → Some z ≡ zone_over zs q
zone_found zs n p q z e h f = ap (λ (o : Option Zone). first_zone o (zone_over zs (above p))) f ∙ (sym (zone_up zs n p e) ∙ h)

pub zone_next : (zs : List Zone) (n p q : List (List ℕ)) → parent_of n ≡ Some p → zone_over zs (above n) ≡ zone_over zs q → None ≡ zone_at p zs → zone_over zs (above p) ≡ zone_over zs q
zone_next zs n p q e h f = ap (λ (o : Option Zone). first_zone o (zone_over zs (above p))) f ∙ (sym (zone_up zs n p e) ∙ h)

pub zone_last : (zs : List Zone) (n q : List (List ℕ)) → n ≡ root → zone_over zs (above n) ≡ zone_over zs q → None ≡ zone_over zs q
zone_last zs n q e h = ap (λ (x : List (List ℕ)). zone_over zs (above x)) (sym e) ∙ h

-- What the zone in charge says.
pub looked_by : (zs : List Zone) (q : List (List ℕ)) (t : ℕ) (z : Zone) (soa : Record) → Some z ≡ zone_over zs q → denial_of z ≡ Some soa → local_by soa z q t ≡ looked zs q t
looked_by zs q t z soa e d = ap (said_by_zone q t z) (sym d) ∙ ap (looked_in q t) e
