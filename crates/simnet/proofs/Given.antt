-- What a server replies, whatever its memory comes from; and its bytes are a message of one question.
use Rattle.std.proofs.Common.{◌≡◌, ℕ, ◌≤◌, length, subst, inl, inr, ⊎_elim, Option, Some, None, List, refl, sym, ap, ◌∙◌, option_map}
use Rattle.std.specs.Prelude.{IfSome}
use Rattle.dname.specs.Labels.{Name}
use Rattle.rdata.specs.Records.{Record}
use Rattle.rdata.specs.Types.{type_number}
use Rattle.message_grammar.specs.Messages.{internet}
use Rattle.zone.specs.Links.{Link, Found, Alias, NoData, NxDomain}
use Rattle.zone.specs.Look.{Local, Linked, Cut, NotHere}
use Rattle.world_truth.specs.Worlds.{Address, World, IsWorld}
use Rattle.front.specs.Chains.{IsEndOf, IsEndAt}
use Rattle.front.specs.Laws.{EchoIsQuestion}
use Rattle.front.specs.declared.queries.Query.{Query}
use Rattle.front.specs.declared.queries.Request.{Request}
use Rattle.front.specs.declared.queries.Request.TheVariants as request
use Rattle.front.specs.declared.queries.End.{End}
use Rattle.front.specs.declared.queries.End.TheVariants as end
use Rattle.worlds.specs.Hosting.{says, IsFollowed, answer_to, IsReplyBy, IsReplyFrom, IsHostReply}
use Rattle.worlds.proofs.Hosted.{host_serves}
use Rattle.runs.specs.States.{Plain}
use Rattle.events.specs.Plain.{plain, plain_asked, plain_end}
use Rattle.events.proofs.Plainly.{asked_plainly}
use Rattle.simnet.specs.Replies.{AsksOne}

module _ (A : Type 0) where
  end_of : (l : Link) (e : End A) → IsEndOf l e → IsEndOf l (plain_end e)
  end_of (Found set) e is = ap plain_end is
  end_of (Alias r) e is = absurd is
  end_of (NoData soa) e is = ap plain_end is
  end_of (NxDomain soa) e is = ap plain_end is

  end_at : (l : Local) (e : End A) → IsEndAt l e → IsEndAt l (plain_end e)
  end_at (Linked l) e is = end_of l e is
  end_at (Cut c ns glue) e is = ap plain_end is
  end_at NotHere e is = ap plain_end is

  followed_plainly : (look : Name → Local) (from : Name) (aliases : List Record) (e : End A) → IsFollowed look from aliases e → IsFollowed look from aliases (plain_end e)
  followed_plainly look from aliases e h = record {
    to = h.to;
    leads = h.leads;
    few = h.few;
    ends = ⊎_elim (λ p. inl (end_at (look h.to) e p)) (λ p. inr (p.0, p.1, ap plain_end p.2)) h.ends;
  }

  answer_plainly : (q : Query A) (aliases : List Record) (e : End A) → answer_to q aliases e ≡ answer_to (plain q) aliases (plain_end e)
  answer_plainly q aliases (end.Found set) = refl
  answer_plainly q aliases (end.NoData soa) = refl
  answer_plainly q aliases (end.NxDomain soa) = refl
  answer_plainly q aliases end.Outside = refl

  reply_plainly : (look : Name → Local) (q : Query A) (l : Local) (m : _) → IsReplyBy look q l m → IsReplyBy look (plain q) l m
  reply_plainly look q NotHere m is = is
  reply_plainly look q (Cut c ns glue) m is = is
  reply_plainly look q (Linked l) m (aliases, e, followed, is) =
      (aliases, plain_end e, followed_plainly look q.name aliases e followed, is ∙ ap Some (answer_plainly q aliases e))

  from_plainly : (W : World) (a : Address) (asked : Request A) (sent : Option (List ℕ)) → IsReplyFrom W a asked sent → IsReplyFrom W a (plain_asked asked) sent
  from_plainly W a request.Drop sent is = is
  from_plainly W a (request.Refuse refusal start echo) sent is = is
  from_plainly W a (request.Query q) sent (m, by, is) = (m, reply_plainly (says W a (type_number q.kind)) q (says W a (type_number q.kind) q.name) m by, is)

  pub host_plainly : (W : World) (a : Address) (bytes : List ℕ) (sent : Option (List ℕ)) → IsHostReply A W a bytes sent → IsHostReply Plain W a bytes sent
  host_plainly W a bytes sent (asked, reads, by) = (plain_asked asked, asked_plainly bytes asked reads, from_plainly W a asked sent by)

  pub asks_one : {V : Type 0} (W : World) (a : Address) (bytes : List ℕ) (items : V → List ℕ) (o : Option V) → EchoIsQuestion A → IsWorld W → IsHostReply A W a bytes (option_map items o)
      → IfSome o (λ v. AsksOne (items v))
  asks_one W a bytes items None echoes w is = tt
  asks_one W a bytes items (Some v) echoes w is =
      let (n, t, h) = host_serves W a bytes (items v) echoes w is in
      record { message = h.read; is = h.message; question = record { name = n; qtype = t; qclass = internet }; only = (h.reply).question }

  -- It fits a stream (RFC 1035, section 4.2.2).
  short_from : (W : World) (a : Address) (asked : Request A) (sent : List ℕ) → IsReplyFrom W a asked (Some sent) → length sent ≤ 65535
  short_from W a request.Drop sent none = absurd (cc)
  short_from W a (request.Refuse refusal start echo) sent none = absurd (cc)
  short_from W a (request.Query q) sent (None, by, none) = absurd (cc)
  short_from W a (request.Query q) sent (Some m, by, (few, same, message)) = subst (λ (bytes : List ℕ). length bytes ≤ 65535) (sym same) few

  pub is_short : {V : Type 0} (W : World) (a : Address) (bytes : List ℕ) (items : V → List ℕ) (o : Option V) → IsHostReply A W a bytes (option_map items o)
      → IfSome o (λ v. length (items v) ≤ 65535)
  is_short W a bytes items None is = tt
  is_short W a bytes items (Some v) (asked, reads, by) = short_from W a asked (items v) by
