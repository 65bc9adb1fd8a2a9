-- Which texts have a dot.
use Rattle.std.proofs.Common.{◌≡◌, ℕ, ◌<◌, ◌==◌, Bool, true, false, ◌||◌, List, [], ◌∷◌, ◌++◌, refl, arith}
use Rattle.std.proofs.lemmas.Bool.Decides.{nat_tests}
use Rattle.std.specs.Char.{digit_value}
use Rattle.std.specs.Str.Parse.{AllDigits}
use Rattle.masterfile.specs.Addresses.{has_dot}

pub neither : (a b : Bool) → (a || b) ≡ false → (a ≡ false) × (b ≡ false)
neither true b e = cc
neither false b e = (refl, e)

pub dots_append : (a b : List ℕ) → has_dot a ≡ false → has_dot b ≡ false → has_dot (a ++ b) ≡ false
dots_append [] b h k = k
dots_append (c ∷ a) b h k = let q = neither (c == 46) (has_dot a) h in rw (q.0) (dots_append a b q.1 k)

pub in_front : (a b : List ℕ) → has_dot (a ++ b) ≡ false → has_dot a ≡ false
in_front [] b h = refl
in_front (c ∷ a) b h = let q = neither (c == 46) (has_dot (a ++ b)) h in rw (q.0) (in_front a b q.1)

pub behind_front : (a b : List ℕ) → has_dot (a ++ b) ≡ false → has_dot b ≡ false
behind_front [] b h = h
behind_front (c ∷ a) b h = behind_front a b (neither (c == 46) (has_dot (a ++ b)) h).1

pub dot_within : (a b : List ℕ) → has_dot (a ++ 46 ∷ b) ≡ false → ⊥
dot_within [] b h = cc
dot_within (c ∷ a) b h = dot_within a b (neither (c == 46) (has_dot (a ++ 46 ∷ b)) h).1

pub hex_dot : (c : ℕ) → digit_value c < 16 → (c == 46) ≡ false
hex_dot c h = grind (arith, nat_tests)

pub hex_no_dot : (w : List ℕ) → AllDigits 16 w → has_dot w ≡ false
hex_no_dot [] h = refl
hex_no_dot (c ∷ w) h = rw (hex_dot c h.0) (hex_no_dot w h.1)
