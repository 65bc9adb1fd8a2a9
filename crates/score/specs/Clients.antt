-- The clients of a script, and what they ask.
use Rattle.std.specs.Prelude.{◌≡◌, ℕ, ◌-◌, ◌%◌, Bool, false, cond, nat_eq, Option, Some, None, List, [], ◌∷◌, ◌++◌, slice_get}
use Rattle.dname.specs.Labels.{Name}
use Rattle.message_grammar.specs.Messages.{Message, internet}
use Rattle.front.specs.Queries.{IsRequest}
use Rattle.front.specs.declared.queries.Query.{Query}
use Rattle.front.specs.declared.queries.Request.{Request}
use Rattle.front.specs.declared.queries.Request.TheVariants as request
use Rattle.runs.specs.States.{Plain, recursive}

-- The query of a client: its ID is the client's number modulo 65,536 (RFC 1035, section 4.1.1).
abbrev pub query_for : ℕ → Name → ℕ → Bool → Message
query_for client name kind rd = record {
  header = record { id = client % 65536; qr = false; opcode = 0; aa = false; tc = false; rd = rd; ra = false; z = 0; rcode = 0 };
  questions = record { name = name; qtype = kind; qclass = internet } ∷ [];
  answer = [];
  authority = [];
  additional = [];
}

-- The query that bytes ask, where it is recursive.
abbrev pub recursive_in : Request Plain → Option (Query Plain)
recursive_in request.Drop = None
recursive_in (request.Refuse refusal start echo) = None
recursive_in (request.Query q) = cond (recursive q) (Some q) None

abbrev pub AskRecursively : List ℕ → Option (Query Plain) → Type 0
AskRecursively bytes q = (asked : Request Plain) × IsRequest bytes asked × (q ≡ recursive_in asked)

-- For each client, in the order of their numbers, its query where that is recursive.
abbrev pub Queries : Type 0
Queries = List (Option (Query Plain))

-- A client more, with the bytes that it sends.
abbrev pub IsHeard : List ℕ → Queries → Queries → Type 0
IsHeard bytes old new = (q : Option (Query Plain)) × AskRecursively bytes q × (new ≡ old ++ q ∷ [])

abbrev pub known : Option (Option (Query Plain)) → Option (Query Plain)
known None = None
known (Some q) = q

-- The recursive query of a client; the first one has number 1.
abbrev pub query_of : Queries → ℕ → Option (Query Plain)
query_of queries client = cond (nat_eq client 0) None (known (slice_get queries (client - 1)))
