-- What a line of a world text says, outside of blocks.
use Rattle.std.specs.Prelude.{ℕ, Bool, true, false, Option, Some, None, Result, Ok, Err, List, [], ◌∷◌, ◌++◌}
use Rattle.dname.specs.Labels.{Name}
use Rattle.world_truth.specs.Worlds.{Address, Host}
use Rattle.worlds.specs.Kept.{host_with, bytes_of}
use Rattle.text_lines.specs.declared.fault.LineKind.{LineKind}
use Rattle.text_lines.specs.declared.fault.LineKind.TheVariants.{UnknownWord}
use Rattle.text_lines.specs.Faults.{◌>>=◌}
use Rattle.text_lines.specs.Words.{next, ended, name_of, address_of}
use Rattle.world_text.specs.declared.keyword.Keyword.{Keyword}
use Rattle.world_text.specs.declared.keyword.Keyword.TheVariants as the
use Rattle.world_text.specs.declared.statement.Statement as code_statement
use Rattle.world_text.specs.declared.statement.Statement.TheVariants as given
use Rattle.world_text.specs.Keywords.{keyword_of}

pub data Statement : Type 0 where
  -- a block begins: whether its zone is local, and the zone's origin
  opens : Bool → Name → Statement
  -- a server and zones that it serves
  serves : Host → Statement
  -- a server of the root
  starts : Address → Statement

abbrev pub statement_seen : {A : Type 0} → code_statement.Statement A → Statement
statement_seen (given.Opens is_local origin) = opens is_local origin
statement_seen (given.Serves host) = serves host
statement_seen (given.Starts address) = starts (bytes_of address)

-- ---- What the words behind a keyword say.

abbrev pub origin_in : List (List ℕ) → Result Name LineKind
origin_in ws = next name_of ws >>= λ n. ended n.0 n.1

-- The names of these words behind names that were read.
abbrev pub names_from : List Name → List (List ℕ) → Result (List Name) LineKind
names_from ns [] = Ok ns
names_from ns (w ∷ ws) = name_of w >>= λ n. names_from (ns ++ n ∷ []) ws

-- One name at least.
abbrev pub names_in : List (List ℕ) → Result (List Name) LineKind
names_in ws = next name_of ws >>= λ n. names_from (n.0 ∷ []) n.1

abbrev pub host_in : List (List ℕ) → Result Host LineKind
host_in ws = next address_of ws >>= λ a. (names_in a.1 >>= λ ns. Ok (host_with a.0 ns))

abbrev pub hint_in : List (List ℕ) → Result Address LineKind
hint_in ws = next address_of ws >>= λ a. ended a.0 a.1

-- ---- What a line says.

abbrev pub stated_by : Keyword → List (List ℕ) → Result Statement LineKind
stated_by the.Zone ws = origin_in ws >>= λ o. Ok (opens false o)
stated_by the.Local ws = origin_in ws >>= λ o. Ok (opens true o)
stated_by the.Host ws = host_in ws >>= λ h. Ok (serves h)
stated_by the.Hint ws = hint_in ws >>= λ a. Ok (starts a)

abbrev pub stated_if : Option Keyword → List (List ℕ) → Result (Option Statement) LineKind
stated_if None ws = Err UnknownWord
stated_if (Some k) ws = stated_by k ws >>= λ s. Ok (Some s)

-- A line without words says nothing.
abbrev pub stated : List (List ℕ) → Result (Option Statement) LineKind
stated [] = Ok None
stated (w ∷ ws) = stated_if (keyword_of w) ws
