-- The messages of a run in which an alias is followed, and that its servers may say theirs.
use Rattle.std.proofs.Common.{◌≡◌, ◌≤◌, ◌<◌, ℕ, inl, inr, true, false, List, [], ◌∷◌, length, refl, sym, ◌∙◌, ap, subst, arith}
use Rattle.dname.specs.Labels.{Name, root, IsLabel, IsName, IsAtOrUnder}
use Rattle.rdata.specs.Data.{Cname}
use Rattle.rdata.specs.Records.{Record}
use Rattle.rdata.specs.declared.addr.Addr.{Addr}
use Rattle.zone.specs.Zones.{Zone}
use Rattle.zone.specs.Links.{Alias, IsLink}
use Rattle.zone.specs.Same.{SameLink}
use Rattle.zone.specs.Referrals.{IsReferral}
use Rattle.zone.proofs.LawLists.{first_in, later_in}
use Rattle.zone.proofs.LawReferral.{local_law}
use Rattle.zone.proofs.LawZones.{soa_at_origin}
use Rattle.message_grammar.specs.Messages.{Question, Message, IsQuestion, IsSpelling, IsRecord, IsWritable, IsMessage, encoding}
use Rattle.message_grammar.specs.Pieces.{put, put_flat}
use Rattle.message_grammar.specs.Names.{SpeltAt, label_here, root_here}
use Rattle.message_grammar.proofs.Whole.{encoding_holds}
use Rattle.message_grammar.proofs.Single.{message_one}
use Rattle.runs.specs.States.{Endpoint, endpoint, Datagram, Ask}
use Rattle.runs.specs.Messages.{question_for, Brings}
use Rattle.world_truth.specs.Worlds.{Address, Serves}
use Rattle.world_truth.specs.Serving.{AnswersFrom, MayServe}
use Rattle.world_truth.specs.Sample.{lower_name, alias_name, host_name, server_address, soa_data, entry, root_zone, lower_zone, sample_host}
use Rattle.witness.proofs.Talk.{header, servers, glue, found, l_label, server_record, glue_record, found_record, is_header, host_is_name}
use Rattle.witness.proofs.Place.{root_address, world, served_too, serves_root, each_of, root_there, lower_there, root_named, lower_named, root_rules, lower_rules, not_lower}
use Rattle.witness.proofs.Course.{only_one}

-- ---- the messages

abbrev pub question : Question
question = question_for alias_name 1

abbrev pub alias : Record
alias = entry alias_name (Cname host_name)

abbrev pub client_message : Message
client_message = record { header = header 7 false false true false; questions = question ∷ []; answer = []; authority = []; additional = [] }

abbrev pub ask_message : ℕ → Message
ask_message id = record { header = header id false false false false; questions = question ∷ []; answer = []; authority = []; additional = [] }

abbrev pub referral_message : ℕ → Message
referral_message id = record { header = header id true false false false; questions = question ∷ []; answer = []; authority = servers; additional = glue }

abbrev pub alias_message : ℕ → Message
alias_message id = record { header = header id true true false false; questions = question ∷ []; answer = alias ∷ []; authority = []; additional = [] }

abbrev pub reply_message : Message
reply_message = record { header = header 7 true false true true; questions = question ∷ []; answer = alias ∷ found; authority = []; additional = [] }

abbrev pub client_bytes : List ℕ
client_bytes = 0 ∷ 7 ∷ 1 ∷ 0 ∷ 0 ∷ 1 ∷ 0 ∷ 0 ∷ 0 ∷ 0 ∷ 0 ∷ 0 ∷ 1 ∷ 119 ∷ 1 ∷ 108 ∷ 0 ∷ 0 ∷ 1 ∷ 0 ∷ 1 ∷ []

client_written : encoding client_message ≡ client_bytes
unfolding encoding put put_flat
client_written = refl

ask_long : (id : ℕ) → length (encoding (ask_message id)) ≡ 21
unfolding encoding put put_flat
ask_long id = refl

referral_long : (id : ℕ) → length (encoding (referral_message id)) ≡ 52
unfolding encoding put put_flat
referral_long id = refl

alias_long : (id : ℕ) → length (encoding (alias_message id)) ≡ 37
unfolding encoding put put_flat
alias_long id = refl

reply_long : length (encoding reply_message) ≡ 53
unfolding encoding put put_flat
reply_long = refl

w_label : IsLabel (119 ∷ [])
w_label = record { nonempty = omega arith; short = omega arith; bytes = (omega arith, refl, tt) }

pub alias_is_name : IsName alias_name
alias_is_name = record { labels = (w_label, (l_label, refl)); short = omega arith }

spelling : IsSpelling alias_name
spelling = record { spelled = (omega arith, omega arith, (omega arith, omega arith, refl)); short = omega arith }

is_question : IsQuestion question
is_question = record { name = spelling; qtype = omega arith; qclass = omega arith }

alias_record : IsRecord alias
alias_record = record { owner = alias_is_name; ttl = omega arith; fits = tt; names = host_is_name }

client_writable : IsWritable client_message
client_writable = record { header = is_header 7 false false true false (omega arith); questions = (is_question, tt); answer = tt; authority = tt; additional = tt }

pub client_is : IsMessage client_bytes client_message
client_is = subst (λ (bytes : List ℕ). IsMessage bytes client_message) client_written
    (encoding_holds client_message client_writable (let e = ap length client_written in omega (arith, e)))

pub client_spelt : SpeltAt client_bytes 12 alias_name 17
client_spelt = record {
  stands = label_here 12 12 17 (119 ∷ []) (119 ∷ []) ((108 ∷ []) ∷ root) (record { head = refl; nonempty = omega arith; short = omega arith; there = omega arith; text = refl }) refl
      (label_here 12 14 17 (108 ∷ []) (108 ∷ []) root (record { head = refl; nonempty = omega arith; short = omega arith; there = omega arith; text = refl }) refl
      (root_here 12 16 17 refl refl));
  short = omega arith;
}

pub ask_is : (id : ℕ) → id < 65536 → IsMessage (encoding (ask_message id)) (ask_message id)
ask_is id fits =
    encoding_holds (ask_message id) (record { header = is_header id false false false false fits; questions = (is_question, tt); answer = tt; authority = tt; additional = tt })
    (let e = ask_long id in omega (arith, e))

pub referral_is : (id : ℕ) → id < 65536 → IsMessage (encoding (referral_message id)) (referral_message id)
referral_is id fits =
    encoding_holds (referral_message id)
    (record { header = is_header id true false false false fits; questions = (is_question, tt); answer = tt; authority = (server_record, tt); additional = (glue_record, tt) })
    (let e = referral_long id in omega (arith, e))

pub alias_is : (id : ℕ) → id < 65536 → IsMessage (encoding (alias_message id)) (alias_message id)
alias_is id fits =
    encoding_holds (alias_message id) (record { header = is_header id true true false false fits; questions = (is_question, tt); answer = (alias_record, tt); authority = tt; additional = tt })
    (let e = alias_long id in omega (arith, e))

pub reply_is : IsMessage (encoding reply_message) reply_message
reply_is =
    encoding_holds reply_message (record { header = is_header 7 true false true true (omega arith); questions = (is_question, tt); answer = (alias_record, (found_record, tt)); authority = tt; additional = tt })
    (let e = reply_long in omega (arith, e))

-- ---- what the servers may say

refers : IsReferral root_zone alias_name lower_name servers glue
refers = local_law root_zone alias_name 1 (entry root soa_data) root_named (soa_at_origin root_zone root_rules) root_rules.ttls refl ((119 ∷ []) ∷ (108 ∷ []) ∷ [], refl)

is_alias : IsLink lower_zone alias_name 1 (Alias alias)
is_alias = local_law lower_zone alias_name 1 (entry lower_name soa_data) lower_named (soa_at_origin lower_zone lower_rules) lower_rules.ttls refl ((119 ∷ []) ∷ [], refl)

abbrev IsShorter : Address → Zone → Zone → Type 0
IsShorter a z y = Serves world a y.origin → IsAtOrUnder alias_name y.origin → length y.origin ≤ length z.origin

by_root : AnswersFrom world root_address alias_name root_zone
by_root = record {
  stands = root_there;
  served = serves_root;
  over = ((119 ∷ []) ∷ (108 ∷ []) ∷ [], refl);
  longest = each_of (IsShorter root_address root_zone) world.zones (λ s u. omega arith, (λ s u. absurd (not_lower s), tt));
}

by_lower : AnswersFrom world server_address alias_name lower_zone
by_lower = record {
  stands = lower_there;
  served = served_too server_address lower_name (sample_host, first_in sample_host [], refl, later_in root lower_name (lower_name ∷ []) (first_in lower_name []));
  over = ((119 ∷ []) ∷ [], refl);
  longest = each_of (IsShorter server_address lower_zone) world.zones (λ s u. omega arith, (λ s u. omega arith, tt));
}

pub may_refer : (id : ℕ) → MayServe world root_address alias_name 1 (referral_message id)
may_refer id = inl (
  root_zone,
  by_root,
  inl (
    lower_name,
    refers.over,
    record {
      aa = refl;
      rcode = refl;
      answer = refl;
      only = λ r m. (r, refers.named r m, (refl, refl));
      whole = λ s at. (s, refers.all_named s at, (refl, refl));
      addresses = λ r m. let g = refers.glue r m in (g.1, g.2, (root_zone, root_there, serves_root, (r, g.0, (refl, refl))));
    },
  ),
)

same_alias : SameLink (Alias alias) (Alias alias)
same_alias = record { kinds = refl; records = (λ r m. (r, m, (refl, refl)), λ r m. (r, m, (refl, refl))) }

pub may_lead : (id : ℕ) → MayServe world server_address alias_name 1 (alias_message id)
may_lead id = inl (
  lower_zone,
  by_lower,
  inr (Alias alias, (refl, inl refl, first_in alias [], (λ s m owned. let e = only_one alias s m in (ap (λ (r : Record). r.owner) (sym e), ap (λ (r : Record). r.value) (sym e))), (Alias alias, is_alias, same_alias))),
)

-- What is accepted is what the server said, to the question for the alias.
abbrev first_of : List Question → Question
first_of [] = question
first_of (q ∷ qs) = q

pub brought_here : (sock : ℕ) (server : Addr) (now : ℕ) (bytes : List ℕ) (said : Message) → IsMessage bytes said → said.questions ≡ question ∷ []
    → MayServe world server.0 alias_name 1 said → (a : Ask) (m : Message) → Brings 53 a (Datagram now sock (endpoint server 53) bytes) m
    → MayServe world (a.server).0 a.name a.kind m
brought_here sock server now bytes said is asked_so may a m (path, from, reads, fits) =
    let same : said ≡ m = message_one bytes said m is reads in
    let to : server ≡ a.server = ap (λ (e : Endpoint). e.address) from in
    let of : question ∷ [] ≡ question_for a.name a.kind ∷ [] = sym asked_so ∙ ap (λ (x : Message). x.questions) same ∙ fits.question in
    let name : alias_name ≡ a.name = ap (λ (qs : List Question). (first_of qs).name) of in
    let kind : 1 ≡ a.kind = ap (λ (qs : List Question). (first_of qs).qtype) of in
    subst (λ (x : Message). MayServe world (a.server).0 a.name a.kind x) same
    (subst (λ (t : ℕ). MayServe world (a.server).0 a.name t said) kind
    (subst (λ (n : Name). MayServe world (a.server).0 n 1 said) name
    (subst (λ (x : Addr). MayServe world x.0 alias_name 1 said) to may)))
