-- The messages of the run, and that their encodings are they.
use Rattle.std.proofs.Common.{◌≡◌, ℕ, ◌<◌, Bool, true, false, List, [], ◌∷◌, length, refl, ap, subst, arith}
use Rattle.dname.specs.Labels.{root, IsLabel, IsName}
use Rattle.rdata.specs.Data.{Ipv4, Ns}
use Rattle.rdata.specs.Records.{Record}
use Rattle.message_grammar.specs.Messages.{Header, Question, Message, IsHeader, IsQuestion, IsSpelling, IsRecord, IsWritable, IsMessage, encoding}
use Rattle.message_grammar.specs.Pieces.{put, put_flat}
use Rattle.message_grammar.specs.Names.{SpeltAt, label_here, root_here}
use Rattle.message_grammar.proofs.Whole.{encoding_holds}
use Rattle.world_truth.specs.Sample.{server_name, lower_name, host_name, server_address, entry}
use Rattle.runs.specs.Messages.{question_for}

abbrev pub header : ℕ → (qr aa rd ra : Bool) → Header
header id qr aa rd ra = record { id = id; qr = qr; opcode = 0; aa = aa; tc = false; rd = rd; ra = ra; z = 0; rcode = 0 }

abbrev pub question : Question
question = question_for host_name 1

abbrev pub servers : List Record
servers = entry lower_name (Ns server_name) ∷ []

abbrev pub glue : List Record
glue = entry server_name (Ipv4 server_address) ∷ []

abbrev pub found : List Record
found = entry host_name (Ipv4 server_address) ∷ []

-- The client's query, an ask, the referral, the answer, and the reply.
abbrev pub client_message : Message
client_message = record { header = header 7 false false true false; questions = question ∷ []; answer = []; authority = []; additional = [] }

abbrev pub ask_message : ℕ → Message
ask_message id = record { header = header id false false false false; questions = question ∷ []; answer = []; authority = []; additional = [] }

abbrev pub referral_message : ℕ → Message
referral_message id = record { header = header id true false false false; questions = question ∷ []; answer = []; authority = servers; additional = glue }

abbrev pub answer_message : ℕ → Message
answer_message id = record { header = header id true true false false; questions = question ∷ []; answer = found; authority = []; additional = [] }

abbrev pub reply_message : Message
reply_message = record { header = header 7 true false true true; questions = question ∷ []; answer = found; authority = []; additional = [] }

-- A reply of SERVFAIL, what a server says that fails, and a reply from the cache a second later.
abbrev pub failing : Header → Header
failing h = record h { rcode = 2 }

abbrev pub failed_reply : Message
failed_reply = record { header = failing (header 7 true false true true); questions = question ∷ []; answer = []; authority = []; additional = [] }

abbrev pub failure_message : ℕ → Message
failure_message id = record { header = failing (header id true false false false); questions = question ∷ []; answer = []; authority = []; additional = [] }

-- The answer, cut for want of room in a datagram.
abbrev pub cut_message : ℕ → Message
cut_message id = record { header = record (header id true true false false) { tc = true }; questions = question ∷ []; answer = []; authority = []; additional = [] }

abbrev pub younger : List Record
younger = record (entry host_name (Ipv4 server_address)) { ttl = 299 } ∷ []

abbrev pub later_reply : Message
later_reply = record { header = header 7 true false true true; questions = question ∷ []; answer = younger; authority = []; additional = [] }

-- ---- their lengths

abbrev pub client_bytes : List ℕ
client_bytes = 0 ∷ 7 ∷ 1 ∷ 0 ∷ 0 ∷ 1 ∷ 0 ∷ 0 ∷ 0 ∷ 0 ∷ 0 ∷ 0 ∷ 1 ∷ 120 ∷ 1 ∷ 108 ∷ 0 ∷ 0 ∷ 1 ∷ 0 ∷ 1 ∷ []

client_written : encoding client_message ≡ client_bytes
unfolding encoding put put_flat
client_written = refl

ask_long : (id : ℕ) → length (encoding (ask_message id)) ≡ 21
unfolding encoding put put_flat
ask_long id = refl

referral_long : (id : ℕ) → length (encoding (referral_message id)) ≡ 52
unfolding encoding put put_flat
referral_long id = refl

answer_long : (id : ℕ) → length (encoding (answer_message id)) ≡ 37
unfolding encoding put put_flat
answer_long id = refl

reply_long : length (encoding reply_message) ≡ 37
unfolding encoding put put_flat
reply_long = refl

failed_long : length (encoding failed_reply) ≡ 21
unfolding encoding put put_flat
failed_long = refl

failure_long : (id : ℕ) → length (encoding (failure_message id)) ≡ 21
unfolding encoding put put_flat
failure_long id = refl

cut_long : (id : ℕ) → length (encoding (cut_message id)) ≡ 21
unfolding encoding put put_flat
cut_long id = refl

later_long : length (encoding later_reply) ≡ 37
unfolding encoding put put_flat
later_long = refl

-- ---- they can be written

n_label : IsLabel (110 ∷ [])
n_label = record { nonempty = omega arith; short = omega arith; bytes = (omega arith, refl, tt) }

pub l_label : IsLabel (108 ∷ [])
l_label = record { nonempty = omega arith; short = omega arith; bytes = (omega arith, refl, tt) }

pub x_label : IsLabel (120 ∷ [])
x_label = record { nonempty = omega arith; short = omega arith; bytes = (omega arith, refl, tt) }

pub server_is_name : IsName server_name
server_is_name = record { labels = (n_label, refl); short = omega arith }

pub lower_is_name : IsName lower_name
lower_is_name = record { labels = (l_label, refl); short = omega arith }

pub host_is_name : IsName host_name
host_is_name = record { labels = (x_label, (l_label, refl)); short = omega arith }

spelling : IsSpelling host_name
spelling = record { spelled = (omega arith, omega arith, (omega arith, omega arith, refl)); short = omega arith }

pub is_question : IsQuestion question
is_question = record { name = spelling; qtype = omega arith; qclass = omega arith }

pub server_record : IsRecord (entry lower_name (Ns server_name))
server_record = record { owner = lower_is_name; ttl = omega arith; fits = tt; names = server_is_name }

pub glue_record : IsRecord (entry server_name (Ipv4 server_address))
glue_record = record { owner = server_is_name; ttl = omega arith; fits = refl; names = tt }

pub found_record : IsRecord (entry host_name (Ipv4 server_address))
found_record = record { owner = host_is_name; ttl = omega arith; fits = refl; names = tt }

pub is_header : (id : ℕ) (qr aa rd ra : Bool) → id < 65536 → IsHeader (header id qr aa rd ra)
is_header id qr aa rd ra fits = record { id = fits; opcode = omega arith; z = omega arith; rcode = omega arith }

client_writable : IsWritable client_message
client_writable = record { header = is_header 7 false false true false (omega arith); questions = (is_question, tt); answer = tt; authority = tt; additional = tt }

ask_writable : (id : ℕ) → id < 65536 → IsWritable (ask_message id)
ask_writable id fits = record { header = is_header id false false false false fits; questions = (is_question, tt); answer = tt; authority = tt; additional = tt }

referral_writable : (id : ℕ) → id < 65536 → IsWritable (referral_message id)
referral_writable id fits =
    record { header = is_header id true false false false fits; questions = (is_question, tt); answer = tt; authority = (server_record, tt); additional = (glue_record, tt) }

answer_writable : (id : ℕ) → id < 65536 → IsWritable (answer_message id)
answer_writable id fits = record { header = is_header id true true false false fits; questions = (is_question, tt); answer = (found_record, tt); authority = tt; additional = tt }

reply_writable : IsWritable reply_message
reply_writable = record { header = is_header 7 true false true true (omega arith); questions = (is_question, tt); answer = (found_record, tt); authority = tt; additional = tt }

is_failing : (id : ℕ) (qr aa rd ra : Bool) → id < 65536 → IsHeader (failing (header id qr aa rd ra))
is_failing id qr aa rd ra fits = record { id = fits; opcode = omega arith; z = omega arith; rcode = omega arith }

failed_writable : IsWritable failed_reply
failed_writable = record { header = is_failing 7 true false true true (omega arith); questions = (is_question, tt); answer = tt; authority = tt; additional = tt }

failure_writable : (id : ℕ) → id < 65536 → IsWritable (failure_message id)
failure_writable id fits = record { header = is_failing id true false false false fits; questions = (is_question, tt); answer = tt; authority = tt; additional = tt }

cut_writable : (id : ℕ) → id < 65536 → IsWritable (cut_message id)
cut_writable id fits =
    record { header = record { id = fits; opcode = omega arith; z = omega arith; rcode = omega arith }; questions = (is_question, tt); answer = tt; authority = tt; additional = tt }

younger_record : IsRecord (record (entry host_name (Ipv4 server_address)) { ttl = 299 })
younger_record = record { owner = host_is_name; ttl = omega arith; fits = refl; names = tt }

later_writable : IsWritable later_reply
later_writable = record { header = is_header 7 true false true true (omega arith); questions = (is_question, tt); answer = (younger_record, tt); authority = tt; additional = tt }

-- ---- the bytes are the messages

pub client_is : IsMessage client_bytes client_message
client_is = subst (λ (bytes : List ℕ). IsMessage bytes client_message) client_written
    (encoding_holds client_message client_writable (let e = ap length client_written in omega (arith, e)))

pub client_spelt : SpeltAt client_bytes 12 host_name 17
client_spelt = record {
  stands = label_here 12 12 17 (120 ∷ []) (120 ∷ []) ((108 ∷ []) ∷ root) (record { head = refl; nonempty = omega arith; short = omega arith; there = omega arith; text = refl }) refl
      (label_here 12 14 17 (108 ∷ []) (108 ∷ []) root (record { head = refl; nonempty = omega arith; short = omega arith; there = omega arith; text = refl }) refl
      (root_here 12 16 17 refl refl));
  short = omega arith;
}

pub ask_is : (id : ℕ) → id < 65536 → IsMessage (encoding (ask_message id)) (ask_message id)
ask_is id fits = encoding_holds (ask_message id) (ask_writable id fits) (let e = ask_long id in omega (arith, e))

pub referral_is : (id : ℕ) → id < 65536 → IsMessage (encoding (referral_message id)) (referral_message id)
referral_is id fits = encoding_holds (referral_message id) (referral_writable id fits) (let e = referral_long id in omega (arith, e))

pub answer_is : (id : ℕ) → id < 65536 → IsMessage (encoding (answer_message id)) (answer_message id)
answer_is id fits = encoding_holds (answer_message id) (answer_writable id fits) (let e = answer_long id in omega (arith, e))

pub reply_is : IsMessage (encoding reply_message) reply_message
reply_is = encoding_holds reply_message reply_writable (let e = reply_long in omega (arith, e))

pub failed_is : IsMessage (encoding failed_reply) failed_reply
failed_is = encoding_holds failed_reply failed_writable (let e = failed_long in omega (arith, e))

pub failure_is : (id : ℕ) → id < 65536 → IsMessage (encoding (failure_message id)) (failure_message id)
failure_is id fits = encoding_holds (failure_message id) (failure_writable id fits) (let e = failure_long id in omega (arith, e))

pub cut_is : (id : ℕ) → id < 65536 → IsMessage (encoding (cut_message id)) (cut_message id)
cut_is id fits = encoding_holds (cut_message id) (cut_writable id fits) (let e = cut_long id in omega (arith, e))

pub later_is : IsMessage (encoding later_reply) later_reply
later_is = encoding_holds later_reply later_writable (let e = later_long in omega (arith, e))
