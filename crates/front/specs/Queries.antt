-- The meaning of a client's bytes (RFC 1035, sections 4.1.1 and 7.3).
use Rattle.std.specs.Prelude.{◌≡◌, ℕ, ◌<◌, ◌≤◌, ◌⊎◌, cond, nat_eq, Option, Some, None, List, [], ◌∷◌, length, slice_index}
use Rattle.rdata.specs.declared.rtype.RType.{RType}
use Rattle.message_grammar.specs.Messages.{Message, Question, served_type, IsMessage}
use Rattle.message_grammar.specs.Names.{SpeltAt}
use Rattle.front.specs.Openings.{Opening, opening_of}
use Rattle.front.specs.declared.queries.Refusal.TheVariants.{FormErr, NotImp}
use Rattle.front.specs.declared.queries.Query.{Query}
use Rattle.front.specs.declared.queries.Request.{Request}
use Rattle.front.specs.declared.queries.Request.TheVariants.{Drop, Refuse}
use Rattle.front.specs.declared.queries.Request.TheVariants as request

-- Bytes are no message, a message of no question or several, or a message of one question, in its own letters.
pub data Heard : Type 0 where
  nothing_heard : Heard
  other_heard : Message → Heard
  one_heard : Message → Question → List (List ℕ) → Heard

abbrev pub IsHeard : List ℕ → Heard → Type 0
IsHeard bytes nothing_heard = (m : Message) → IsMessage bytes m → ⊥
IsHeard bytes (other_heard m) = IsMessage bytes m × (length m.questions ≡ 1 → ⊥)
IsHeard bytes (one_heard m q letters) = IsMessage bytes m × (m.questions ≡ q ∷ []) × ((end : ℕ) × SpeltAt bytes 12 letters end)

-- The type of a query that can be answered: of operation 0, class IN and a served type.
abbrev pub answerable_type : Opening → Question → Option RType
answerable_type s q = cond (nat_eq s.opcode 0) (served_type q.qtype q.qclass) None

-- The question with its name in these letters.
abbrev pub in_letters : Question → List (List ℕ) → Question
in_letters q letters = record { name = letters; qtype = q.qtype; qclass = q.qclass }

abbrev pub query_of : {A : Type 0} → Opening → Question → List (List ℕ) → RType → Query A
query_of s q letters kind = record { start = s; name = q.name; kind = kind; echo = in_letters q letters }

abbrev pub by_type : {A : Type 0} → Opening → Question → List (List ℕ) → Option RType → Request A
by_type s q letters None = Refuse NotImp s (Some (in_letters q letters))
by_type s q letters (Some kind) = request.Query (query_of s q letters kind)

abbrev pub by_question : {A : Type 0} → Opening → Question → List (List ℕ) → Request A
by_question s q letters = by_type s q letters (answerable_type s q)

abbrev pub by_heard : {A : Type 0} → Opening → Heard → Request A
by_heard s nothing_heard = Refuse FormErr s None
by_heard s (other_heard m) = Refuse FormErr s None
by_heard s (one_heard m q letters) = by_question s q letters

-- Twelve bytes or more that are no reply are treated by their meaning.
pub record IsRead {A : Type 0} (bytes : List ℕ) (asked : Request A) : Type 0 where
  pub whole : 12 ≤ length bytes
  pub query : slice_index bytes 2 < 128
  pub heard : Heard
  pub hears : IsHeard bytes heard
  pub is : asked ≡ by_heard (opening_of bytes) heard

-- Other bytes are dropped.
abbrev pub IsDropped : {A : Type 0} → List ℕ → Request A → Type 0
IsDropped bytes asked = ((length bytes < 12) ⊎ (128 ≤ slice_index bytes 2)) × (asked ≡ Drop)

abbrev pub IsRequest : {A : Type 0} → List ℕ → Request A → Type 0
IsRequest bytes asked = IsDropped bytes asked ⊎ IsRead bytes asked
