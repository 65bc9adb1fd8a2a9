-- The served record types: their numbers (RFC 1035, section 3.2.2; AAAA: RFC 3596, section 2.1; SRV: RFC 2782)
-- and words.
use Rattle.std.specs.Prelude.{ℕ, Bool, cond, nat_eq, Option, Some, None, is_some, List, [], ◌∷◌, codes, map}
use Rattle.std.specs.Cmp.Lexicographic.{pointwise}
use Rattle.dname.specs.Labels.{folded}
use Rattle.rdata.specs.declared.rtype.RType.{RType}
use Rattle.rdata.specs.declared.rtype.RType.TheVariants.{A, Ns, Cname, Soa, Ptr, Mx, Txt, Aaaa, Srv}

abbrev pub type_number : RType → ℕ
type_number A = 1
type_number Ns = 2
type_number Cname = 5
type_number Soa = 6
type_number Ptr = 12
type_number Mx = 15
type_number Txt = 16
type_number Aaaa = 28
type_number Srv = 33

abbrev pub type_word : RType → List ℕ
type_word A = codes "A"
type_word Ns = codes "NS"
type_word Cname = codes "CNAME"
type_word Soa = codes "SOA"
type_word Ptr = codes "PTR"
type_word Mx = codes "MX"
type_word Txt = codes "TXT"
type_word Aaaa = codes "AAAA"
type_word Srv = codes "SRV"

abbrev pub served_types : List RType
served_types = A ∷ Ns ∷ Cname ∷ Soa ∷ Ptr ∷ Mx ∷ Txt ∷ Aaaa ∷ Srv ∷ []

abbrev pub find_number : ℕ → List RType → Option RType
find_number n [] = None
find_number n (t ∷ ts) = cond (nat_eq n (type_number t)) (Some t) (find_number n ts)

-- The type of a number; none where it is not served.
abbrev pub type_by : ℕ → Option RType
type_by n = find_number n served_types

-- The numbers that are served.
abbrev pub is_served : ℕ → Bool
is_served n = is_some (type_by n)

-- Words are compared without regard to case.
abbrev pub same_word : List ℕ → List ℕ → Bool
same_word a b = pointwise nat_eq (map folded a) (map folded b)

abbrev pub find_type : List ℕ → List RType → Option RType
find_type w [] = None
find_type w (t ∷ ts) = cond (same_word w (type_word t)) (Some t) (find_type w ts)

-- The type that a word names.
unfoldable pub type_named : List ℕ → Option RType
type_named w = find_type w served_types
