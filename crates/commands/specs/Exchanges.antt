-- What comes of a query to local zones, as printed lines.
use Rattle.std.specs.Prelude.{◌≡◌, ℕ, false, Option, None, Some, Ok, List, [], ◌∷◌}
use Rattle.dname.specs.Text.{name_of_text}
use Rattle.rdata.specs.Types.{type_number, type_named}
use Rattle.rdata.specs.declared.rtype.RType.{RType}
use Rattle.message_grammar.specs.Messages.{Message, IsMessage, encoding, internet}
use Rattle.zone.specs.Zones.{Zone}
use Rattle.authority.specs.Catalogs.{looked}
use Rattle.front.specs.Chains.{AnswersLocally}
use Rattle.front.specs.Queries.{IsRequest}
use Rattle.front.specs.Replies.{refusal_reply, reply_of}
use Rattle.front.specs.declared.queries.Request.{Request}
use Rattle.front.specs.declared.queries.Request.TheVariants.{Drop, Refuse, Query}
use Rattle.front.specs.declared.queries.Outcome.{Outcome}
use Rattle.wire.specs.declared.via.Via.TheVariants.{Udp}
use Rattle.reply_lines.specs.Lines.{ArePrinted}
use Rattle.commands.specs.Zones.{HoldsZone}

-- The query for a name and a type: ID 1, RD clear.
abbrev pub query_for : List (List ℕ) → ℕ → Message
query_for name kind = record {
  header = record { id = 1; qr = false; opcode = 0; aa = false; tc = false; rd = false; ra = false; z = 0; rcode = 0 };
  questions = record { name = name; qtype = kind; qclass = internet } ∷ [];
  answer = [];
  authority = [];
  additional = [];
}

-- The bytes are a message.
abbrev pub AreMessage : List ℕ → Type 0
AreMessage bytes = (m : Message) × IsMessage bytes m

-- The lines of the reply over UDP to what was asked: the one that local zones give to a query.
abbrev pub AreLinesOf : {A : Type 0} → List Zone → Request A → List ℕ → Type 0
AreLinesOf zones Drop text = text ≡ []
AreLinesOf zones (Refuse refusal start echo) text = ArePrinted (encoding (refusal_reply refusal start echo)) 1 None [] text
AreLinesOf {A} zones (Query q) text = (o : Outcome A) × AnswersLocally (λ n. looked zones n (type_number q.kind)) q.name o
    × ArePrinted (encoding (reply_of Udp q o).0) 1 (reply_of Udp q o).1 [] text

-- The lines of the reply to the bytes of that query. `A` is the memory in which it is read and answered.
abbrev pub AreLines : (A : Type 0) → List Zone → List (List ℕ) → ℕ → List ℕ → Type 0
AreLines A zones name kind text = (asked : Request A) × IsRequest (encoding (query_for name kind)) asked × AreLinesOf zones asked text

-- What the zone in the file answers to the query that the words name.
abbrev pub PrintsAnswer : (A : Type 0) → Option (Option (List ℕ)) → List ℕ → List ℕ → List ℕ → List ℕ → Type 0
PrintsAnswer A known origin name kind text = (o : List (List ℕ)) × (n : List (List ℕ)) × (t : RType) × (zone : Zone)
    × (name_of_text origin ≡ Ok o) × (name_of_text name ≡ Ok n) × (type_named kind ≡ Some t) × HoldsZone known o zone × AreLines A (zone ∷ []) n (type_number t) text
