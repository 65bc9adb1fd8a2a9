-- Lines of a network and the steps of its resolver.
use Rattle.std.proofs.Common.{◌≡◌, ℕ, ◌+◌, ◌⊎◌, inl, inr, ⊎_elim, true, Option, Some, None, List, [], ◌∷◌, length, refl, sym, subst, ◌∙◌}
use Rattle.std.specs.Prelude.{Contains}
use Rattle.zone.proofs.LawLists.{none_in, first_in, later_in, in_cases}
use Rattle.rdata.specs.Types.{type_number}
use Rattle.causes.specs.declared.cause.Cause.{Cause}
use Rattle.wire.specs.declared.via.Via.{Via}
use Rattle.front.specs.declared.queries.Query.{Query}
use Rattle.front.specs.declared.queries.Request.{Request}
use Rattle.front.specs.declared.queries.Request.TheVariants as request
use Rattle.world_truth.specs.Worlds.{World}
use Rattle.runs.specs.States.{Path, ByUdp, ByTcp, Endpoint, Turn, Plain, ClientQuery, Served, Own, OpenQuery, recursive}
use Rattle.runs.specs.States as resolver
use Rattle.runs.specs.Runs.{Earlier, Always, GivesOut, Came}
use Rattle.runs.specs.Replies.{IsServedFor, Refuses}
use Rattle.laws.specs.Headline.{IsRightAnswer}
use Rattle.laws.specs.Headline as theorem
use Rattle.laws.proofs.Actions.{own_not_query}
use Rattle.network.specs.Networks.{Sent, Network, sent_at, NetworkAction, NetworkEvent, Client, Carry, CarryTruncated, CarryTcp, Lose, Tick, Reply, WasSent, WasAsked, MoreDue, IsTruncatedReply, IsFitReply, IsDatagram, IsStream, OverUdp, OverTcp, lost, OfSend, Reaches, numbered, shown}
use Rattle.network.specs.Laws.{Line, Throughout, Shows, BringsOf, IsOfNoClient, IsTo, IsAnswered, RefusesLine, RepliesAreRight, Mirrors, Follows}
use Rattle.network.proofs.Owned.{IsStepOf, reply_is_own, open_is_recursive}

-- What a line tells of the step that it mirrors: no other replies, and that step's client, if there is one.
record Tells (l : Line) (t : Turn) : Type 0 where
  pub replies : (client : ℕ) (way : Via) (bytes : List ℕ) (c : Option Cause) → Shows l.out (Reply client way bytes c) → GivesOut t.out (resolver.Reply client way bytes c)
  pub clients : (now client : ℕ) (way : Via) (bytes : List ℕ) → t.event ≡ resolver.Client now client way bytes → l.event ≡ Client now client way bytes
  pub brought : (now client : ℕ) (way : Via) (bytes : List ℕ) → l.event ≡ Client now client way bytes → t.event ≡ resolver.Client now client way bytes
  pub step : IsStepOf t

-- ---- what is shown, and what reaches the resolver

shown_reply : (n : ℕ) (out : List resolver.Action) (client : ℕ) (way : Via) (bytes : List ℕ) (c : Option Cause) → Contains (numbered n out) (Reply client way bytes c)
    → Contains out (resolver.Reply client way bytes c)
shown_reply n [] client way bytes c m = absurd (none_in _ m)
shown_reply n (resolver.Reply k w bs d ∷ out) client way bytes c m = ⊎_elim
    (λ e. let same : resolver.Reply k w bs d ≡ resolver.Reply client way bytes c = as_told e in subst (λ x. Contains (resolver.Reply k w bs d ∷ out) x) same (first_in (resolver.Reply k w bs d) out))
    (λ more. later_in (resolver.Reply k w bs d) _ out (shown_reply n out client way bytes c more))
    (in_cases (Reply k w bs d) _ (numbered n out) m)
  where
    as_told : Reply k w bs d ≡ Reply client way bytes c → resolver.Reply k w bs d ≡ resolver.Reply client way bytes c
    as_told e = let a : k ≡ client = cc in let b : w ≡ way = cc in let x : bs ≡ bytes = cc in let y : d ≡ c = cc in λ i. resolver.Reply (a i) (b i) (x i) (y i)
shown_reply n (resolver.Send sock to bs ∷ out) client way bytes c m = ⊎_elim (λ e. absurd (cc)) (λ more. later_in (resolver.Send sock to bs) _ out (shown_reply (n + 1) out client way bytes c more)) (in_cases (WasSent (n + 1)) _ (numbered (n + 1) out) m)
shown_reply n (resolver.TcpAsk number to bs ∷ out) client way bytes c m = ⊎_elim (λ e. absurd (cc)) (λ more. later_in (resolver.TcpAsk number to bs) _ out (shown_reply (n + 1) out client way bytes c more)) (in_cases (WasAsked (n + 1)) _ (numbered (n + 1) out) m)
shown_reply n (resolver.MoreDue ∷ out) client way bytes c m = ⊎_elim (λ e. absurd (cc)) (λ more. later_in resolver.MoreDue _ out (shown_reply n out client way bytes c more)) (in_cases MoreDue _ (numbered n out) m)

shown_out : (n : ℕ) (out : Option (List resolver.Action)) (client : ℕ) (way : Via) (bytes : List ℕ) (c : Option Cause) → Shows (shown n out) (Reply client way bytes c)
    → GivesOut out (resolver.Reply client way bytes c)
shown_out n None client way bytes c m = absurd m
shown_out n (Some out) client way bytes c m = shown_reply n out client way bytes c m

-- Only a client's bytes are a client's bytes.
module _ (s : Network) (now client : ℕ) (way : Via) (bytes : List ℕ) where
  abbrev Its : Option resolver.Event
  Its = Some (resolver.Client now client way bytes)

  no_datagram : (comes : List ℕ → List ℕ → Type 0) (at sock : ℕ) (from : Endpoint) (given : Option (List ℕ)) → IsDatagram comes at sock from given Its → ⊥
  no_datagram comes at sock from None e = cc
  no_datagram comes at sock from (Some given) (come, is, e) = cc

  no_udp : (comes : List ℕ → List ℕ → Type 0) (at : ℕ) (x : Sent) (path : Path) → OverUdp s.world comes at x path Its → ⊥
  no_udp comes at x (ByUdp sock) (given, is, here) = no_datagram comes at sock x.to given here
  no_udp comes at x (ByTcp number) e = cc

  no_stream : (at number : ℕ) (given : Option (List ℕ)) → IsStream at number given Its → ⊥
  no_stream at number None e = cc
  no_stream at number (Some given) e = cc

  no_tcp : (at : ℕ) (x : Sent) (path : Path) → OverTcp s.world at x path Its → ⊥
  no_tcp at x (ByUdp sock) e = cc
  no_tcp at x (ByTcp number) (given, is, here) = no_stream at number given here

  no_loss : (at : ℕ) (path : Path) → Its ≡ lost at path → ⊥
  no_loss at (ByUdp sock) e = cc
  no_loss at (ByTcp number) e = cc

  no_send : (Of : Sent → Option resolver.Event → Type 0) (x : Option Sent) → ((y : Sent) → Of y Its → ⊥) → OfSend Of x Its → ⊥
  no_send Of None by e = cc
  no_send Of (Some y) by here = by y here

  reached_client : (event : NetworkEvent) → Reaches s event Its → event ≡ Client now client way bytes
  reached_client (Client at who by bs) e =
      let a : now ≡ at = cc in let b : client ≡ who = cc in let c : way ≡ by = cc in let d : bytes ≡ bs = cc in λ i. Client (sym a i) (sym b i) (sym c i) (sym d i)
  reached_client (Carry at k) h = absurd (no_send _ (sent_at s.sends k) (λ x. no_udp IsFitReply at x x.path) h)
  reached_client (CarryTruncated at k) h = absurd (no_send _ (sent_at s.sends k) (λ x. no_udp IsTruncatedReply at x x.path) h)
  reached_client (CarryTcp at k) h = absurd (no_send _ (sent_at s.sends k) (λ x. no_tcp at x x.path) h)
  reached_client (Lose at k) h = absurd (no_send (λ x e. e ≡ lost at x.path) (sent_at s.sends k) (λ x. no_loss at x.path) h)
  reached_client (Tick at) e = absurd (cc)

told : (l : Line) (t : Turn) → Mirrors l t → Tells l t
told l t h = record {
  replies = λ client way bytes c m. shown_out (length (h.old).sends) t.out client way bytes c (subst (λ (o : Option (List NetworkAction)). Shows o (Reply client way bytes c)) h.out m);
  clients = λ now client way bytes e. reached_client h.old now client way bytes l.event (subst (λ (b : resolver.Event). Reaches h.old l.event (Some b)) e h.reaches);
  brought = λ now client way bytes e. let is = subst (λ (x : NetworkEvent). Reaches h.old x (Some t.event)) e h.reaches in cc;
  step = ((h.old).resolver, h.new, h.step);
}

-- ---- replies

-- A query that came in a step came on that step's line; one that stays open is recursive.
came_on : (l : Line) (t : Turn) (before : List Turn) (served : Served) (who : ClientQuery) → Tells l t → Came served who t before → BringsOf l who.client who.way (request.Query who.query)
came_on l t before served who mirrors came = (came.moment, came.bytes, mirrors.clients came.moment who.client who.way came.bytes came.event, came.reads)

abbrev CameOpen : List Line → ClientQuery → Type 0
CameOpen lines who = (recursive who.query ≡ true) × ((m : Line) × Contains lines m × BringsOf m who.client who.way (request.Query who.query))

later_open : (l : Line) (past : List Line) (who : ClientQuery) → CameOpen past who → CameOpen (l ∷ past) who
later_open l past who (wish, (m, there, brings)) = (wish, (m, later_in l m past there, brings))

earlier_open : (lines : List Line) (run : List Turn) (k : ℕ) (who : ClientQuery) → Follows lines run → Earlier (Came (OpenQuery k) who) run → CameOpen lines who
earlier_open [] run k who none h = absurd (subst (Earlier (Came (OpenQuery k) who)) none h)
earlier_open (l ∷ past) run k who (inl (quiet, more)) h = later_open l past who (earlier_open past run k who more h)
earlier_open (l ∷ past) run k who (inr (t, before, is, mirrors, more)) h = ⊎_elim
    (λ came. let tells : Tells l t = told l t mirrors in (open_is_recursive t before k who tells.step came, (l, first_in l past, came_on l t before (OpenQuery k) who tells came)))
    (λ earlier. later_open l past who (earlier_open past before k who more earlier))
    (subst (Earlier (Came (OpenQuery k) who)) is h)

module _ (W : World) (l : Line) (past : List Line) (t : Turn) (before : List Turn) (mirrors : Tells l t) (more : Follows past before) where
  refused_is : (client : ℕ) (way : Via) (bytes : List ℕ) (c : Option Cause) → Refuses (resolver.Reply client way bytes c) t → RefusesLine l client way
  refused_is client way bytes c h =
      let (sent, written, is) = h.reply in
      let whose : client ≡ h.client = cc in
      let by : way ≡ h.way = cc in
      let asked : Request Plain = request.Refuse h.refusal h.start h.echo in (
        h.refusal,
        h.start,
        h.echo,
        subst (λ (n : ℕ). BringsOf l n way asked) (sym whose) (subst (λ (w : Via). BringsOf l h.client w asked) (sym by)
            (h.moment, h.bytes, mirrors.clients h.moment h.client h.way h.bytes h.event, h.reads)),
      )

  -- Where a client's bytes come, the step serves them.
  module _ (client : ℕ) (way : Via) (bytes : List ℕ) (c : Option Cause) (gives : GivesOut t.out (resolver.Reply client way bytes c)) (who : ClientQuery) (k : ℕ) (served : t.served ≡ OpenQuery k) (open_then : CameOpen past who) where
    open_to : (e : NetworkEvent) → l.event ≡ e → IsTo l past who.client who.way who.query
    open_to (Client now from by said) is = own_not_query k (sym (reply_is_own t mirrors.step now from by said (mirrors.brought now from by said is) client way bytes c gives) ∙ served)
    open_to (Carry now n) is = inr (subst IsOfNoClient (sym is) tt, open_then.0, open_then.1)
    open_to (CarryTruncated now n) is = inr (subst IsOfNoClient (sym is) tt, open_then.0, open_then.1)
    open_to (CarryTcp now n) is = inr (subst IsOfNoClient (sym is) tt, open_then.0, open_then.1)
    open_to (Lose now n) is = inr (subst IsOfNoClient (sym is) tt, open_then.0, open_then.1)
    open_to (Tick now) is = inr (subst IsOfNoClient (sym is) tt, open_then.0, open_then.1)

  served_to : (client : ℕ) (way : Via) (bytes : List ℕ) (c : Option Cause) → GivesOut t.out (resolver.Reply client way bytes c) → (who : ClientQuery) → IsServedFor who t before → IsTo l past who.client who.way who.query
  served_to client way bytes c gives who (inl came) = inl (came_on l t before Own who mirrors came)
  served_to client way bytes c gives who (inr (k, served, earlier)) = open_to client way bytes c gives who k served (earlier_open past before k who more earlier) l.event refl

  answered_is : (client : ℕ) (way : Via) (bytes : List ℕ) (c : Option Cause) (who : ClientQuery) → GivesOut t.out (resolver.Reply client way bytes c) → IsRightAnswer W t before client way bytes c → who.client ≡ client
      → who.way ≡ way → IsServedFor who t before → IsAnswered W l past client way bytes
  answered_is client way bytes c who gives good whose by served = record {
    query = who.query;
    to = subst (λ (n : ℕ). IsTo l past n way who.query) whose (subst (λ (w : Via). IsTo l past who.client w who.query) by (served_to client way bytes c gives who served));
    right = λ rd. subst (λ (w : Via). theorem.IsRightReply W w (who.query).name (type_number (who.query).kind) bytes) by (good.right who served rd);
  }

  mirrored_right : theorem.RepliesAreRight W t before → RepliesAreRight W l past
  mirrored_right right client way bytes c shows = by good (good.to)
    where
      gives : GivesOut t.out (resolver.Reply client way bytes c)
      gives = mirrors.replies client way bytes c shows

      good : IsRightAnswer W t before client way bytes c
      good = right client way bytes c gives

      by : IsRightAnswer W t before client way bytes c → Refuses (resolver.Reply client way bytes c) t ⊎ ((who : ClientQuery) × (who.client ≡ client) × (who.way ≡ way) × IsServedFor who t before)
          → RefusesLine l client way ⊎ IsAnswered W l past client way bytes
      by g (inl refuses) = inl (refused_is client way bytes c refuses)
      by g (inr (who, whose, way_is, served)) = inr (answered_is client way bytes c who gives g whose way_is served)

-- What a reply is to came on that line or on an earlier one.
pub heard_of : (l : Line) (past : List Line) (client : ℕ) (way : Via) (query : Query Plain) → IsTo l past client way query → (m : Line) × Contains (l ∷ past) m × BringsOf m client way (request.Query query)
heard_of l past client way query (inl brings) = (l, first_in l past, brings)
heard_of l past client way query (inr (none, wish, (m, there, brings))) = (m, later_in l m past there, brings)

pub lines_right : (W : World) (lines : List Line) (run : List Turn) → Follows lines run → Always (theorem.RepliesAreRight W) run → Throughout (RepliesAreRight W) lines
lines_right W [] run follows right = tt
lines_right W (l ∷ past) run (inl (quiet, more)) right = (λ client way bytes c shows. absurd (quiet client way bytes c shows), lines_right W past run more right)
lines_right W (l ∷ past) run (inr (t, before, is, mirrors, more)) right =
    let all = subst (Always (theorem.RepliesAreRight W)) is right in
    (mirrored_right W l past t before (told l t mirrors) more all.0, lines_right W past before more all.1)
