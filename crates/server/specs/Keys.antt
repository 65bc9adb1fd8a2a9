-- The keys by which admission knows equal questions, and those of one domain.
use Rattle.std.specs.Prelude.{◌≡◌, ℕ, ◌-◌, cond, List, [], ◌∷◌, ◌++◌, map, slice_index, slice_range, bit_and}
use Rattle.std.specs.Char.{to_ascii_lowercase}
use Rattle.std.specs.Int.{w16, to_be_bytes}
use Rattle.std.specs.Hash.DefaultHasher as sip
use Rattle.std.specs.declared.hash.DefaultHasher.{DefaultHasher}
use Rattle.dname.specs.Labels.{wire}
use Rattle.rdata.specs.Types.{type_number}
use Rattle.front.specs.declared.queries.Query.{Query}
use Rattle.dispatch.specs.Questions.{HasQuestion}
use Rattle.server.specs.Domains.{domain_of}

-- The hash of a name, of a type and a class as they stand in a message, and of RD, from the secret start.
abbrev pub key_of : DefaultHasher → List ℕ → List ℕ → ℕ → ℕ
key_of start name type_and_class recursion =
    sip.finish (sip.write (sip.write start name) (type_and_class ++ recursion ∷ []))

-- Of what a query asks, whose name is in lower case, and whose class is IN.
abbrev pub query_key : {A : Type 0} → DefaultHasher → Query A → ℕ
query_key start query =
    key_of start (wire query.name) (to_be_bytes w16 (type_number query.kind) ++ 0 ∷ 1 ∷ []) (cond query.start.rd 1 0)

-- The hash of the domain in which a name lies, from the secret start.
abbrev pub domain_key : DefaultHasher → List (List ℕ) → ℕ
domain_key start name = sip.finish (sip.write start (wire (domain_of name)))

-- Of the question of a message, its name in lower case.
pub record IsKeyIn (start : DefaultHasher) (message : List ℕ) (key : ℕ) : Type 0 where
  pub end : ℕ
  pub question : HasQuestion message end
  pub keyed : key ≡ key_of start (map to_ascii_lowercase (slice_range message 12 (end - 4)))
      (slice_range message (end - 4) end) (bit_and (slice_index message 2) 1)
