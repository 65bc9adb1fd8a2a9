-- The meaning of an entry of a master file (RFC 1035, section 5.1; `$TTL`: RFC 2308, section 4).
use Rattle.std.specs.Prelude.{◌≤◌, ℕ, Bool, true, false, ◌||◌, cond, nat_eq, Option, Some, None, is_some, Result, Ok, Err, List, [], ◌∷◌, codes}
use Rattle.rdata.specs.Data.{Datum}
use Rattle.rdata.specs.Records.{Record, greatest_ttl}
use Rattle.rdata.specs.declared.rtype.RType.{RType}
use Rattle.master_lexer.specs.Lexemes.{Word, plain, quoted, broken}
use Rattle.master_lexer.specs.Entries.{Lead, margin, blank, shifted}
use Rattle.masterfile.specs.declared.faults.FileKind.{FileKind}
use Rattle.masterfile.specs.declared.faults.FileKind.TheVariants.{UnknownType, NoTtl, NoOwner, OpenText, UnknownDirective, BadClass, BadData}
use Rattle.masterfile.specs.Faults.{◌>>=◌}
use Rattle.masterfile.specs.Numbers.{is_number, number_of}
use Rattle.masterfile.specs.Fields.{same_word, name_of, take_name, take_number, take_end, take_data, type_named}

-- The origin, owner and TTLs that entries leave to the later ones.
pub record Context : Type 0 where
  pub origin : List (List ℕ)
  -- the last owner
  pub owner : Option (List (List ℕ))
  -- the TTL of `$TTL`
  pub standing : Option ℕ
  -- the last TTL that a record stated
  pub stated : Option ℕ

-- The fields before a record's data: its TTL, if one is stated, and its type; and the words behind them.
pub record Head : Type 0 where
  pub ttl : Option ℕ
  pub kind : RType
  pub rest : List Word

abbrev pub is_internet : List ℕ → Bool
is_internet w = same_word w (codes "IN")

abbrev pub is_foreign_class : List ℕ → Bool
is_foreign_class w = same_word w (codes "CS") || same_word w (codes "CH") || same_word w (codes "HS")

abbrev pub head_of_type : Option RType → Option ℕ → List Word → Result Head FileKind
head_of_type None ttl ws = Err UnknownType
head_of_type (Some t) ttl ws = Ok (record { ttl = ttl; kind = t; rest = ws })

-- TTL and class, in either order and each at most once, and the type. Digits are a TTL; `classed`: a class stood before.
abbrev pub take_head : Option ℕ → Bool → List Word → Result Head FileKind
take_head ttl classed [] = Err BadData
take_head ttl classed (quoted w ∷ ws) = Err BadData
take_head ttl classed (broken ∷ ws) = Err OpenText
take_head ttl classed (plain w ∷ ws) =
    cond (is_number w) (cond (is_some ttl) (Err UnknownType) (number_of greatest_ttl w >>= λ (n : ℕ). take_head (Some n) classed ws))
    (cond (is_internet w) (cond classed (Err UnknownType) (take_head ttl true ws))
    (cond (is_foreign_class w) (cond classed (Err UnknownType) (Err BadClass))
    (head_of_type (type_named w) ttl ws)))

abbrev pub first_some : Option ℕ → Option ℕ → Option ℕ
first_some None b = b
first_some (Some n) b = Some n

abbrev pub or_no_ttl : Option ℕ → Result ℕ FileKind
or_no_ttl None = Err NoTtl
or_no_ttl (Some n) = Ok n

-- The TTL of a record: its own, else that of `$TTL`, else the last one that a record stated.
abbrev pub ttl_in : Context → Option ℕ → Result ℕ FileKind
ttl_in c ttl = or_no_ttl (first_some ttl (first_some c.standing c.stated))

abbrev pub or_no_owner : Option (List (List ℕ)) → Result (List (List ℕ)) FileKind
or_no_owner None = Err NoOwner
or_no_owner (Some n) = Ok n

-- A record of this owner, and the state that it leaves to the later entries.
abbrev pub record_of : Context → List (List ℕ) → List Word → Result (Option Record × Context) FileKind
record_of c owner ws =
    take_head None false ws >>= λ (h : Head).
    ttl_in c h.ttl >>= λ (ttl : ℕ).
    take_data c.origin h.kind h.rest >>= λ (d : Datum × List Word).
    take_end (Some (record { owner = owner; ttl = ttl; value = d.0 }), record c { owner = Some owner; stated = first_some h.ttl c.stated }) d.1

abbrev pub begins_directive : List ℕ → Bool
begins_directive [] = false
begins_directive (c ∷ cs) = nat_eq c 36

-- The state after `$ORIGIN NAME` and `$TTL NUMBER`.
abbrev pub directive_in : Context → List ℕ → List Word → Result Context FileKind
directive_in c w ws =
    cond (same_word w (codes "$ORIGIN")) (take_name c.origin ws >>= λ (n : List (List ℕ) × List Word). take_end (record c { origin = n.0 }) n.1)
    (cond (same_word w (codes "$TTL")) (take_number greatest_ttl ws >>= λ (n : ℕ × List Word). take_end (record c { standing = Some n.0 }) n.1)
    (Err UnknownDirective))

abbrev pub no_record : Context → Result (Option Record × Context) FileKind
no_record c = Ok (None, c)

abbrev pub record_of_named : Context → List ℕ → List Word → Result (Option Record × Context) FileKind
record_of_named c w ws = name_of c.origin w >>= λ (owner : List (List ℕ)). record_of c owner ws

-- The record of an entry, and the state that it leaves to the later ones. An entry without words has no record.
abbrev pub entry_in : Context → Lead → List Word → Result (Option Record × Context) FileKind
entry_in c lead [] = no_record c
entry_in c lead (quoted w ∷ ws) = Err BadData
entry_in c lead (broken ∷ ws) = Err OpenText
entry_in c blank (plain w ∷ ws) = or_no_owner c.owner >>= λ (owner : List (List ℕ)). record_of c owner (plain w ∷ ws)
entry_in c shifted (plain w ∷ ws) = record_of_named c w ws
entry_in c margin (plain w ∷ ws) = cond (begins_directive w) (directive_in c w ws >>= no_record) (record_of_named c w ws)

-- A TTL that was kept is within its bound.
abbrev pub IsTtl : Option ℕ → Type 0
IsTtl None = Unit {0}
IsTtl (Some n) = n ≤ greatest_ttl
