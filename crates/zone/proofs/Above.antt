-- Up one label, and what no SOA record means.
use Rattle.std.proofs.Common.{◌≡◌, ℕ, ◌<◌, Bool, true, false, ◌||◌, ◌&&◌, not, nat_eq, cond, Option, Some, None, List, [], ◌∷◌, length, refl, ◌∙◌, ap, arith}
use Rattle.std.specs.Prelude.{is_some, find}
use Rattle.dname.specs.Labels.{parent_of, root}
use Rattle.rdata.specs.Records.{Record}
use Rattle.zone.specs.Zones.{Zone, soa_type}
use Rattle.zone.specs.Look.{is_cut, cut_of, or_else, is_beneath_cut, is_type, of_type, owns, denial_by}
use Rattle.zone.specs.Rules.{lacks_soa}
use Rattle.zone.specs.Kept.{zone_with}
use Rattle.zone.specs.Faults.{fault_of}
use Rattle.zone.specs.declared.fault.ZoneError.TheVariants.{Soa}

found : (o : Option (List (List ℕ))) (b : Bool) (n : List (List ℕ)) → is_some (or_else o (cond b (Some n) None)) ≡ (b || is_some o)
found (Some c) true n = refl
found (Some c) false n = refl
found None true n = refl
found None false n = refl

-- A name is beneath a cut where the name above is a cut, or beneath one.
pub beneath_above : (z : Zone) (n up : List (List ℕ)) → parent_of n ≡ Some up → is_beneath_cut z n ≡ (is_cut z up || is_beneath_cut z up)
beneath_above z [] up h = cc
beneath_above z (l ∷ []) up h = cc
beneath_above z (l ∷ m ∷ ms) up h =
    let e : (m ∷ ms) ≡ up = cc in
    found (cut_of z ms) (is_cut z (m ∷ ms)) (m ∷ ms) ∙ ap (λ (n : List (List ℕ)). is_cut z n || is_beneath_cut z n) e

pub above_cut : (z : Zone) (n up : List (List ℕ)) → parent_of n ≡ Some up → is_cut z up ≡ true → is_beneath_cut z n ≡ true
above_cut z n up h e = beneath_above z n up h ∙ ap (λ (b : Bool). b || is_beneath_cut z up) e

pub above_no_cut : (z : Zone) (n up : List (List ℕ)) → parent_of n ≡ Some up → is_cut z up ≡ false → is_beneath_cut z n ≡ is_beneath_cut z up
above_no_cut z n up h e = beneath_above z n up h ∙ ap (λ (b : Bool). b || is_beneath_cut z up) e

pub above_shorter : (n up : List (List ℕ)) → parent_of n ≡ Some up → length up < length n
above_shorter [] up h = absurd (cc)
above_shorter (l ∷ []) up h = absurd (cc)
above_shorter (l ∷ m ∷ ms) up h = let e : (m ∷ ms) ≡ up = cc in omega (arith, ap length e)

pub root_uncut : (z : Zone) (n : List (List ℕ)) → n ≡ root → is_beneath_cut z n ≡ false
root_uncut z n e = ap (is_beneath_cut z) e

-- No SOA record at all: the zone lacks its SOA.
none_of_more : (r : Record) (rs : List Record) (b : Bool) → denial_by (cond b (Some r) (find (is_type soa_type) rs)) ≡ None → (denial_by (find (is_type soa_type) rs) ≡ None → length (of_type soa_type rs) ≡ 0)
    → length (cond b (r ∷ of_type soa_type rs) (of_type soa_type rs)) ≡ 0
none_of_more r rs true h k = cc
none_of_more r rs false h k = k h

none_of : (rs : List Record) → denial_by (find (is_type soa_type) rs) ≡ None → length (of_type soa_type rs) ≡ 0
none_of [] h = refl
none_of (r ∷ rs) h = none_of_more r rs (is_type soa_type r) h (none_of rs)

pub lacks_all : (origin : List (List ℕ)) (rs : List Record) → denial_by (find (is_type soa_type) rs) ≡ None → lacks_soa (zone_with origin rs) ≡ true
lacks_all origin rs h = ap (λ (n : ℕ). not (nat_eq n 1 && owns soa_type origin rs)) (none_of rs h)

-- A zone that lacks its SOA is refused for that.
pub fault_soa : (z : Zone) → lacks_soa z ≡ true → fault_of z ≡ Some Soa
fault_soa z h = rw h refl
