-- Addresses in a set that is ordered by their bytes.
use Rattle.std.specs.Prelude.{◌≡◌, ℕ, List}
use Rattle.std.specs.Ordering.{nat_cmp}
use Rattle.std.specs.Cmp.Lexicographic.{slice_cmp}
use Rattle.std.specs.BTreeSet.{BTreeSet, contains}
use Rattle.rdata.specs.declared.addr.Addr.{Addr}
use Rattle.frames.specs.Frames.{has_address}

-- The set has the bytes of these addresses and no others.
abbrev pub AreSeen : BTreeSet (List ℕ) → List Addr → Type 0
AreSeen seen xs = (bytes : List ℕ) → contains (slice_cmp nat_cmp) seen bytes ≡ has_address xs (record { 0 = bytes })
