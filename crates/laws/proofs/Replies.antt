-- What is made of a true chain is a right reply, and what is made of a failure a SERVFAIL.
use Rattle.std.proofs.Common.{◌≡◌, ℕ, suc, ◌<◌, Bool, true, false, nat_lt, if◌then◌else◌, Option, Some, None, List, [], ◌∷◌, ◌++◌, length, map, inl, inr, refl, sym, ◌∙◌, ap, subst, arith}
use Rattle.std.proofs.lemmas.Bool.{ltb-true}
use Rattle.dname.specs.Labels.{Name}
use Rattle.rdata.specs.Data.{Datum, Ipv4, Ns, Cname, Soa, Ptr, Mx, Txt, Ipv6, Srv, type_of}
use Rattle.rdata.specs.Records.{Record}
use Rattle.rdata.specs.Types.{type_number}
use Rattle.zone.specs.Links.{Link, Found, Alias, NoData, NxDomain}
use Rattle.zone.specs.Same.{Same}
use Rattle.message_grammar.specs.Messages.{Message, IsMessage, encoding, folded_message, folded_question}
use Rattle.message_grammar.proofs.Letters.{letters_long}
use Rattle.causes.specs.declared.cause.Cause.{Cause}
use Rattle.wire.specs.declared.via.Via.{Via}
use Rattle.wire.specs.declared.via.Via.TheVariants.{Udp, Tcp}
use Rattle.causes.specs.declared.cause.Cause.TheVariants.{ReplyTooLarge}
use Rattle.front.specs.Chains.{target_in, alias_target}
use Rattle.front.specs.Laws.{question_of}
use Rattle.front.specs.Replies.{whole_reply, truncated_reply, bare, reply_of, found_in, end_rcode, denied_by}
use Rattle.front.specs.declared.queries.Query.{Query}
use Rattle.front.specs.declared.queries.Outcome.TheVariants as outcome
use Rattle.world_truth.specs.Worlds.{World}
use Rattle.world_truth.specs.Truths.{IsEnd, ChainLeads, Truth}
use Rattle.world_truth.specs.Replies.{IsReplyTo, Ends, IsWhole}
use Rattle.world_truth.proofs.Honest.{alias_is, IsShown}
use Rattle.resolution.specs.Jobs.{Source, Local, Cached, Accepted, Taken, IsEnding, sent_from, sent}
use Rattle.runs.specs.States.{Plain}
use Rattle.runs.specs.Messages.{AreWritten, alias_in, aliases_of, end_in, outcome_of}
use Rattle.laws.specs.Headline.{IsServfail, IsRightWhole, IsRightReply}
use Rattle.laws.specs.Truthful.{IsOnce, IsTrueOnce, TrueAliasesLead}
use Rattle.laws.proofs.RightEntries.{sent_good}
use Rattle.laws.proofs.RightPoints.{EndsTruly}

-- ---- chains

-- An alias as it goes out.
sent_alias : (now : ℕ) (o : Source) (r : Record) → (s : Record) × (sent_from now o (Alias r) ≡ Alias s) × Same s r
sent_alias now Local r = (r, refl, (refl, refl))
sent_alias now (Cached ttl since) r = (_, refl, (refl, refl))
sent_alias now (Accepted ttl since) r = (_, refl, (refl, refl))

cname_of : (d : Datum) → type_of d ≡ 5 → (n : Name) × (d ≡ Cname n)
cname_of (Ipv4 a) h = absurd (omega (arith, h))
cname_of (Ns n) h = absurd (omega (arith, h))
cname_of (Cname n) h = (n, refl)
cname_of (Soa s) h = absurd (omega (arith, h))
cname_of (Ptr n) h = absurd (omega (arith, h))
cname_of (Mx p n) h = absurd (omega (arith, h))
cname_of (Txt ts) h = absurd (omega (arith, h))
cname_of (Ipv6 a) h = absurd (omega (arith, h))
cname_of (Srv v) h = absurd (omega (arith, h))

true_leads : (W : World) (t now : ℕ) (from to : Name) (ls : List Taken) → TrueAliasesLead W t from ls to → ChainLeads W t from (aliases_of now ls) to × (length (aliases_of now ls) ≡ length ls)
true_leads W t now from to [] leads = (leads, refl)
true_leads W t now from to (l ∷ ls) (name, (r, alias, good, more)) =
    let (s, is, same) = sent_alias now l.source r in
    let here : IsTrueOnce W from t (Alias s) = subst (IsTrueOnce W from t) is (sent_good W from t now l.source (Alias r) good) in
    let shown : IsShown from t s = alias_is here.is.0 from t s here.is.2 in
    let (n, value) = cname_of s.value shown.kind in
    let target : alias_target r ≡ n = ap (target_in r.owner) (sym same.1 ∙ value) in
    let rest = true_leads W t now (alias_target r) to ls more in
    let whole : sent now l ≡ Alias s = ap (sent_from now l.source) alias ∙ is in
    subst (λ (k : Link). ChainLeads W t from (alias_in k ++ aliases_of now ls) to × (length (alias_in k ++ aliases_of now ls) ≡ suc (length ls))) (sym whole)
    ((here.is, (n, value, subst (λ (m : Name). ChainLeads W t m (aliases_of now ls) to) target rest.0)), ap suc rest.1)

ending_sent : (now : ℕ) (o : Source) (l : Link) → IsEnding l → IsEnding (sent_from now o l)
ending_sent now Local l h = h
ending_sent now (Cached ttl since) (Found rs) h = tt
ending_sent now (Cached ttl since) (Alias r) h = h
ending_sent now (Cached ttl since) (NoData r) h = tt
ending_sent now (Cached ttl since) (NxDomain r) h = tt
ending_sent now (Accepted ttl since) (Found rs) h = tt
ending_sent now (Accepted ttl since) (Alias r) h = h
ending_sent now (Accepted ttl since) (NoData r) h = tt
ending_sent now (Accepted ttl since) (NxDomain r) h = tt

ending_ends : (l : Link) → IsEnding l → IsEnd l
ending_ends (Found rs) h = tt
ending_ends (Alias r) h = h
ending_ends (NoData r) h = tt
ending_ends (NxDomain r) h = tt

link_ends : (l : Link) → IsEnding l → IsOnce l → Ends l (found_in (end_in l)) (end_rcode (end_in l)) (denied_by (end_in l))
link_ends (Found rs) h once = (refl, once, refl, refl)
link_ends (Alias r) h once = absurd h
link_ends (NoData r) h once = (refl, refl, refl)
link_ends (NxDomain r) h once = (refl, refl, refl)

chain_truth : (W : World) (q : Name) (t now : ℕ) (chain : List Taken) (l : Taken) → EndsTruly W q t chain l → Truth W q t (aliases_of now chain) (sent now l)
chain_truth W q t now chain l h =
    let leads = true_leads W t now q h.to chain h.leads in
    let long = leads.1 in
    let few = h.few in
    record {
      to = h.to;
      leads = leads.0;
      few = omega (arith, long, few);
      link = (sent_good W h.to t now l.source l.link h.good).is;
      ends = ending_ends (sent now l) (ending_sent now l.source l.link h.ending);
    }

-- ---- replies

module _ (W : World) (q : Query Plain) (echo : folded_question q.echo ≡ question_of q) where
  to_question : (m : Message) → (m.header).qr ≡ true → m.questions ≡ folded_question q.echo ∷ [] → IsReplyTo q.name (type_number q.kind) m
  to_question m qr asked = record { qr = qr; question = asked ∙ ap (λ x. x ∷ []) echo }

  servfail : (bytes : List ℕ) (m : Message) → IsMessage bytes (folded_message m) → (m.header).qr ≡ true → m.questions ≡ q.echo ∷ [] → (m.header).rcode ≡ 2 → m.answer ≡ [] → m.authority ≡ []
      → m.additional ≡ [] → IsServfail q.name (type_number q.kind) bytes
  servfail bytes m is qr asked rcode answer authority additional = record {
    message = folded_message m;
    is = is;
    to = to_question (folded_message m) qr (ap (map folded_question) asked);
    rcode = rcode;
    answer = answer;
    authority = authority;
    additional = additional;
  }

  pub fail_right : (way : Via) (c : Cause) (bytes : List ℕ) → AreWritten bytes (reply_of way q (outcome.Fail c)).0 → IsServfail q.name (type_number q.kind) bytes
  fail_right Udp c bytes written = by (nat_lt 512 (length (encoding (whole_reply q (outcome.Fail c))))) written.1
    where
      by : (b : Bool) → IsMessage bytes (folded_message (if◌then◌else◌ {A = Message × Option Cause} b (truncated_reply (whole_reply q (outcome.Fail c)), Some c) (whole_reply q (outcome.Fail c), Some c)).0)
          → IsServfail q.name (type_number q.kind) bytes
      by true is = servfail bytes (truncated_reply (whole_reply q (outcome.Fail c))) is refl refl refl refl refl refl
      by false is = servfail bytes (whole_reply q (outcome.Fail c)) is refl refl refl refl refl refl
  fail_right Tcp c bytes written = by (nat_lt 65535 (length (encoding (whole_reply q (outcome.Fail c))))) written.1
    where
      by : (b : Bool) → IsMessage bytes (folded_message (if◌then◌else◌ {A = Message × Option Cause} b (bare q.start (q.echo ∷ []) false 2, Some ReplyTooLarge) (whole_reply q (outcome.Fail c), Some c)).0)
          → IsServfail q.name (type_number q.kind) bytes
      by true is = servfail bytes (bare q.start (q.echo ∷ []) false 2) is refl refl refl refl refl refl
      by false is = servfail bytes (whole_reply q (outcome.Fail c)) is refl refl refl refl refl refl

  module _ (now : ℕ) (chain : List Taken) (l : Taken) (ends : EndsTruly W q.name (type_number q.kind) chain l) where
    abbrev full : Message
    full = whole_reply q (outcome_of now chain l)

    whole_right : IsWhole W q.name (type_number q.kind) (folded_message full)
    whole_right = record {
      tc = refl;
      chain = aliases_of now chain;
      rest = found_in (end_in (sent now l));
      last = sent now l;
      truth = chain_truth W q.name (type_number q.kind) now chain l ends;
      answer = refl;
      ends = link_ends (sent now l) (ending_sent now l.source l.link ends.ending) (sent_good W ends.to (type_number q.kind) now l.source l.link ends.good).once;
      additional = refl;
    }

    right_whole : (bytes : List ℕ) → IsMessage bytes (folded_message full) → IsRightWhole W q.name (type_number q.kind) bytes
    right_whole bytes is = record { message = folded_message full; is = is; to = to_question (folded_message full) refl refl; whole = whole_right }

    pub chain_right : (way : Via) (bytes : List ℕ) → AreWritten bytes (reply_of way q (outcome_of now chain l)).0 → IsRightReply W way q.name (type_number q.kind) bytes
    chain_right Udp bytes written = by (nat_lt 512 (length (encoding full))) refl written.1
      where
        by : (b : Bool) → nat_lt 512 (length (encoding full)) ≡ b → IsMessage bytes (folded_message (if◌then◌else◌ {A = Message × Option Cause} b (truncated_reply full, None) (full, None)).0)
            → IsRightReply W Udp q.name (type_number q.kind) bytes
        by true long is = inr (inl (record {
          over = refl;
          message = folded_message (truncated_reply full);
          is = is;
          to = to_question (folded_message (truncated_reply full)) refl refl;
          bare = record { tc = refl; answer = refl; authority = refl; additional = refl };
          whole = folded_message full;
          whole_to = to_question (folded_message full) refl refl;
          right = whole_right;
          header = refl;
          long = subst (λ (n : ℕ). 512 < n) (letters_long full) (ltb-true 512 (length (encoding full)) long);
        }))
        by false long is = inr (inr (right_whole bytes is))
    chain_right Tcp bytes written = by (nat_lt 65535 (length (encoding full))) written.1
      where
        by : (b : Bool) → IsMessage bytes (folded_message (if◌then◌else◌ {A = Message × Option Cause} b (bare q.start (q.echo ∷ []) false 2, Some ReplyTooLarge) (full, None)).0)
            → IsRightReply W Tcp q.name (type_number q.kind) bytes
        by true is = inl (servfail bytes (bare q.start (q.echo ∷ []) false 2) is refl refl refl refl refl refl)
        by false is = inr (inr (right_whole bytes is))
