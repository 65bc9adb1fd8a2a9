-- What the bytes of a client's query or its reply say, as far as equal questions are found by it (RFC 1035, section 4.1).
use Rattle.std.specs.Prelude.{◌≡◌, ◌↔◌, ℕ, ◌+◌, ◌%◌, ◌≤◌, Some, List, [], ◌∷◌, length, take, drop, slice_get}
use Rattle.message_grammar.specs.Names.{FullAt}
use Rattle.message_grammar.specs.Messages.{Header, IsHeader, low_flags}

-- One question is announced. Its name stands in full behind the header's 12 bytes, then its type and its class, which end
-- there.
pub record HasQuestion (bytes : List ℕ) (end : ℕ) : Type 0 where
  pub announced : take 2 (drop 4 bytes) ≡ 0 ∷ 1 ∷ []
  pub name : List (List ℕ)
  pub behind_name : ℕ
  pub full : FullAt bytes 12 name behind_name
  pub is : end ≡ behind_name + 4
  pub room : end ≤ length bytes

-- A name stands in full behind the header, and ends there.
abbrev pub EndsName : List ℕ → ℕ → Type 0
EndsName bytes end = (name : List (List ℕ)) × FullAt bytes 12 name end

-- The RCODE is the low half of the fourth byte, and SERVFAIL is 2.
abbrev pub IsFailure : List ℕ → Type 0
IsFailure bytes = (flags : ℕ) × (slice_get bytes 3 ≡ Some flags) × (flags % 16 ≡ 2)

-- So this is a header's field.
abbrev pub FailureIsServfail : Type 0
FailureIsServfail = (h : Header) → IsHeader h → (low_flags h % 16 ≡ 2) ↔ (h.rcode ≡ 2)
