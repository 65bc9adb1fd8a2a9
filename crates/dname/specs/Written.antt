-- How a draft is stored: its closed labels in wire form, a zero where the open label's length will stand, and the open
-- label.
use Rattle.std.specs.Prelude.{◌≡◌, ℕ, ◌+◌, List, ◌∷◌, ◌++◌, length, take, drop}
use Rattle.dname.specs.Labels.{wire}
use Rattle.dname.specs.Wire.{labels_of}
use Rattle.dname.specs.Draft.{Draft, IsDraft}

abbrev pub written : Draft → List ℕ
written d = wire d.closed ++ 0 ∷ d.opened

abbrev pub draft_of : List ℕ → ℕ → Draft
draft_of bytes start = record { closed = labels_of (take start bytes); opened = drop (start + 1) bytes }

pub record IsWritten (bytes : List ℕ) (start : ℕ) : Type 0 where
  pub draft : IsDraft (draft_of bytes start)
  pub all : bytes ≡ written (draft_of bytes start)
  pub begins : start ≡ length (wire (draft_of bytes start).closed)
