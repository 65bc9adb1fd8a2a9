-- IPv6 addresses in a text (RFC 4291, section 2.2): groups between colons. An IPv4 address at the end is not allowed.
use Rattle.std.specs.Prelude.{◌≡◌, ◌⊎◌, ℕ, ◌+◌, ◌-◌, ◌<◌, ◌≤◌, List, [], ◌∷◌, ◌++◌, length, replicate, codes}
use Rattle.std.specs.Str.Parse.{AllDigits, digits_value}

-- A group: one to four hexadecimal digits, in letters of either case, which write this number.
abbrev pub IsGroup : List ℕ → ℕ → Type 0
IsGroup w n = (0 < length w) × (length w ≤ 4) × AllDigits 16 w × (digits_value 16 w ≡ n)

-- Groups, each behind a colon.
abbrev pub AreBehindColons : List ℕ → List ℕ → Type 0
AreBehindColons w [] = w ≡ []
AreBehindColons w (n ∷ ns) = (group rest : List ℕ) × (w ≡ codes ":" ++ group ++ rest) × IsGroup group n × AreBehindColons rest ns

-- Groups parted by colons, or no group.
abbrev pub AreGroups : List ℕ → List ℕ → Type 0
AreGroups w [] = w ≡ []
AreGroups w (n ∷ ns) = (group rest : List ℕ) × (w ≡ group ++ rest) × IsGroup group n × AreBehindColons rest ns

-- Fewer than eight groups and one `::`, which stands for the zeros that are missing: at the head, between two groups or
-- at the end.
pub record IsShortened (w ns : List ℕ) : Type 0 where
  pub before : List ℕ
  pub behind : List ℕ
  pub front : List ℕ
  pub back : List ℕ
  pub spelled : w ≡ before ++ codes "::" ++ behind
  pub groups : AreGroups before front × AreGroups behind back
  pub missing : length front + length back < 8
  pub value : ns ≡ front ++ replicate (8 - length front - length back) 0 ++ back

-- The text writes an address of these eight groups.
abbrev pub IsAddressText : List ℕ → List ℕ → Type 0
IsAddressText w ns = (AreGroups w ns × (length ns ≡ 8)) ⊎ IsShortened w ns
