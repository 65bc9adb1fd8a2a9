-- An ask fits a datagram.
use Rattle.std.proofs.Common.{◌≡◌, sym, subst, arith, ℕ, ◌<◌, ◌≤◌, List, length, refl}
use Rattle.dname.specs.Labels.{wire, IsName}
use Rattle.message_grammar.specs.Messages.{Message, IsMessage, encoding, folded_message}
use Rattle.message_grammar.proofs.Whole.{encoding_holds}
use Rattle.wire.proofs.Fitting.{spelling_of_name}
use Rattle.front.proofs.Short.{asked_once_long}
use Rattle.wire.specs.declared.error.WireError.{WireError}
use Rattle.wire.specs.declared.error.WireError.TheVariants.{Short, BadLabel, PointerNotEarlier, NameTooLong, BadRdataLength, BadRdataName, TrailingBytes, OverLimit, Memory}
use Rattle.wire.specs.Drafts.{RefusesText}
use Rattle.runs.specs.States.{Ask}
use Rattle.runs.specs.Messages.{asking_header, asking_message, question_for}

pub ask_fits : (a : Ask) → length (wire a.name) ≤ 255 → length (encoding (asking_message a)) ≤ 512
ask_fits a short = let long = asked_once_long (asking_header a.id) (question_for a.name a.kind) in omega arith

pub only_memory : (e : WireError) (text : List ℕ) → length text ≤ 512 → RefusesText e text 512 → e ≡ Memory
only_memory Memory text fits refused = refl
only_memory OverLimit text fits refused = absurd (omega arith)
only_memory Short text fits refused = absurd refused
only_memory BadLabel text fits refused = absurd refused
only_memory PointerNotEarlier text fits refused = absurd refused
only_memory NameTooLong text fits refused = absurd refused
only_memory BadRdataLength text fits refused = absurd refused
only_memory BadRdataName text fits refused = absurd refused
only_memory TrailingBytes text fits refused = absurd refused

pub written_or_starved : (a : Ask) (m : Message) (e : WireError) → length (wire a.name) ≤ 255 → m ≡ asking_message a → RefusesText e (encoding m) 512 → e ≡ Memory
written_or_starved a m e short is refused =
    only_memory e (encoding m) (subst (λ (n : Message). length (encoding n) ≤ 512) (sym is) (ask_fits a short)) refused

-- An ask can be written, and so its encoding is read back.
pub ask_read_back : (a : Ask) → IsName a.name → a.id < 65536 → a.kind < 65536 → length (wire a.name) ≤ 255 → IsMessage (encoding (asking_message a)) (folded_message (asking_message a))
ask_read_back a named id kind short =
    let fits = ask_fits a short in
    encoding_holds (asking_message a)
    (record {
      header = record { id = id; opcode = omega arith; z = omega arith; rcode = omega arith };
      questions = (record { name = spelling_of_name a.name named; qtype = kind; qclass = omega arith }, tt);
      answer = tt;
      authority = tt;
      additional = tt;
    })
    (omega arith)
