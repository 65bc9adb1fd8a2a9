-- The rules that compare records with one another, computed with one record for each key: the last one that was seen.
use Rattle.std.specs.Prelude.{ℕ, Bool, false, ◌&&◌, not, cond, nat_eq, Option, Some, None, List, fold}
use Rattle.dname.specs.Labels.{same_name}
use Rattle.rdata.specs.Data.{Datum, Cname, type_of, same_data}
use Rattle.rdata.specs.Records.{Record}

-- The value of a key after one more record: that record's value where it has one and its key is the same.
abbrev pub kept_after : {V : Type 0} → Bool → Option V → Option V → Option V
kept_after same None kept = kept
kept_after same (Some v) kept = cond same (Some v) kept

abbrev pub last_of : {K V : Type 0} → (K → K → Bool) → (Record → K) → (Record → Option V) → K → List Record → Option V
last_of eq key pick q rs = fold (λ kept r. kept_after (eq (key r) q) (pick r) kept) None rs

-- The target of the last CNAME of an owner.
abbrev pub cname_target : Datum → Option (List (List ℕ))
cname_target (Cname n) = Some n
cname_target _ = None

abbrev pub owner_of : Record → List (List ℕ)
owner_of r = r.owner

abbrev pub alias_of : Record → Option (List (List ℕ))
alias_of r = cname_target r.value

abbrev pub last_target : List (List ℕ) → List Record → Option (List (List ℕ))
last_target q rs = last_of same_name owner_of alias_of q rs

-- Data other than that CNAME, where there is one.
abbrev pub is_beside : Datum → Option (List (List ℕ)) → Bool
is_beside d None = false
is_beside d (Some n) = not (same_data d (Cname n))

-- A set: its owner and type, and the TTL of its last record.
abbrev pub SetKey : Type 0
SetKey = List (List ℕ) × ℕ

abbrev pub same_key : SetKey → SetKey → Bool
same_key k q = same_name k.0 q.0 && nat_eq k.1 q.1

abbrev pub set_of : Record → SetKey
set_of r = (r.owner, type_of r.value)

abbrev pub ttl_of : Record → Option ℕ
ttl_of r = Some r.ttl

abbrev pub last_ttl : SetKey → List Record → Option ℕ
last_ttl q rs = last_of same_key set_of ttl_of q rs

abbrev pub is_other_ttl : ℕ → Option ℕ → Bool
is_other_ttl n None = false
is_other_ttl n (Some m) = not (nat_eq n m)
