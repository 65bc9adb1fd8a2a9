-- Pointers that lead to pointers (RFC 1035, section 4.1.4).
use Rattle.std.specs.Prelude.{◌≡◌, ℕ, ◌<◌, nat_lt, if◌then◌else◌, List, length, slice_index}
use Rattle.message_grammar.specs.Names.{IsPointerAt}

-- A pointer at this place leads to an earlier one.
pub record LeadsBack (bytes : List ℕ) (at target : ℕ) : Type 0 where
  pub stands : IsPointerAt bytes at target
  pub back : target < at

-- Pointers lead back from one place to another, through none or any number of them.
pub data LeadsTo (bytes : List ℕ) : ℕ → ℕ → Type 0 where
  stays_there : (at end : ℕ) → end ≡ at → LeadsTo bytes at end
  goes_back : (at target end : ℕ) → LeadsBack bytes at target → LeadsTo bytes target end → LeadsTo bytes at end

-- The end of the chain of pointers that begins at a place: that place itself, if no such pointer stands there.
pub record IsChainEnd (bytes : List ℕ) (at end : ℕ) : Type 0 where
  pub reached : LeadsTo bytes at end
  pub last : (target : ℕ) → LeadsBack bytes end target → ⊥

-- The ends of the chains from this many places, from the first on.
abbrev pub AreChainEnds : List ℕ → List ℕ → Type 0
AreChainEnds bytes ends = (at : ℕ) → at < length ends → IsChainEnd bytes at (slice_index ends at)

-- The end of the chain from a place, where the table has it, else that place.
abbrev pub chain_behind : List ℕ → ℕ → ℕ
chain_behind ends at = if nat_lt at (length ends) then slice_index ends at else at
