-- The short reply where the whole one does not fit.
use Rattle.std.proofs.Common.{rules, ◌∙◌, sym, ap, refl, arith, ◌<◌, ◌≤◌, Option, Some, List, ℕ, length}
use Rattle.message_grammar.specs.Messages.{Message, IsMessage, encoding, folded_message}
use Rattle.message_grammar.specs.Compression.{IsCompressed}
use Rattle.causes.specs.declared.cause.Cause.{Cause}
use Rattle.front.specs.Replies.{reply_of, truncated_reply}
use Rattle.wire.specs.declared.via.Via.{Via}
use Rattle.wire.specs.declared.via.Via.TheVariants.{Udp, Tcp}
use Rattle.front.proofs.Limits.{reply_fits, reply_truncated, reply_fails, reply_said}
use Rattle.front.proofs.Short.{truncated_fits, bare_fits}
use Rattle.front.proofs.reply.reply_bytes.Goals as goal

pub short_bytes-requires-clause-fits : goal.short_bytes-requires-clause-fits
short_bytes-requires-clause-fits g c =
    truncated_fits c.args.query.now c.args.outcome.now c.draft_of-whole.result c.truncated.result c.draft_of-whole.ensures c.truncated.ensures c.short_law.ensures

pub short_bytes-requires-in-None-2-clause-fits : goal.short_bytes-requires-in-None-2-clause-fits
short_bytes-requires-in-None-2-clause-fits g c =
    let fits : length (encoding c.empty_draft-failure.result) ≤ 512 =
    bare_fits c.args.query.now.start (Some c.args.query.now.echo) 2 c.empty_draft-failure.result c.empty_draft-failure.ensures c.short_law-in-None-2.ensures in
    omega arith

pub returns-in_ok-short_bytes-in-None-clause-bytes : goal.returns-in_ok-short_bytes-in-None-clause-bytes
returns-in_ok-short_bytes-in-None-clause-bytes g c =
    let long : 512 < length (encoding c.draft_of-whole.result) = search rules in
    c.in_ok-short_bytes-in-None.ensures.bytes ∙ ap encoding (c.truncated.ensures ∙ ap truncated_reply c.draft_of-whole.ensures)
    ∙ ap (λ (r : Message × Option Cause). encoding r.0) (sym (reply_truncated c.args.query.now c.args.outcome.now c.draft_of-whole.result c.draft_of-whole.ensures long))
    ∙ ap (λ (via : Via). encoding (reply_of via c.args.query.now c.args.outcome.now).0) (sym c.in-Udp.is)

pub returns-in_ok-short_bytes-in-None-clause-cause : goal.returns-in_ok-short_bytes-in-None-clause-cause
returns-in_ok-short_bytes-in-None-clause-cause g c =
    let long : 512 < length (encoding c.draft_of-whole.result) = search rules in
    c.cause_in-cause.ensures ∙ ap (λ (r : Message × Option Cause). r.1) (sym (reply_truncated c.args.query.now c.args.outcome.now c.draft_of-whole.result c.draft_of-whole.ensures long))
    ∙ ap (λ (via : Via). (reply_of via c.args.query.now c.args.outcome.now).1) (sym c.in-Udp.is)

pub returns-in_ok-short_bytes-in-None-2-clause-bytes : goal.returns-in_ok-short_bytes-in-None-2-clause-bytes
returns-in_ok-short_bytes-in-None-2-clause-bytes g c =
    let long : 65535 < length (encoding c.draft_of-whole.result) = search rules in
    c.in_ok-short_bytes-in-None-2.ensures.bytes ∙ ap encoding c.empty_draft-failure.ensures
    ∙ ap (λ (r : Message × Option Cause). encoding r.0) (sym (reply_fails c.args.query.now c.args.outcome.now c.draft_of-whole.result c.draft_of-whole.ensures long))
    ∙ ap (λ (via : Via). encoding (reply_of via c.args.query.now c.args.outcome.now).0) (sym c.in-Tcp.is)

pub returns-in_ok-short_bytes-in-None-2-clause-cause : goal.returns-in_ok-short_bytes-in-None-2-clause-cause
returns-in_ok-short_bytes-in-None-2-clause-cause g c =
    let long : 65535 < length (encoding c.draft_of-whole.result) = search rules in
    ap (λ (r : Message × Option Cause). r.1) (sym (reply_fails c.args.query.now c.args.outcome.now c.draft_of-whole.result c.draft_of-whole.ensures long))
    ∙ ap (λ (via : Via). (reply_of via c.args.query.now c.args.outcome.now).1) (sym c.in-Tcp.is)

abbrev Read : List ℕ → Message → Type 0
Read bytes m = IsMessage bytes (folded_message m)

pub returns-in-Some-clause-message : goal.returns-in-Some-clause-message
returns-in-Some-clause-message g c =
    let short : length (encoding c.draft_of-whole.result) ≤ 512 = search rules in
    reply_said Read c.args.via Udp c.args.query.now c.args.outcome.now c.draft_of-whole.result c.draft_of-whole.result _ _ c.in-Udp.is
    (reply_fits Udp c.args.query.now c.args.outcome.now c.draft_of-whole.result c.draft_of-whole.ensures short) refl (rw c.in-Some.is at c.in_ok-bytes-in-Udp.ensures.message)

pub returns-in_ok-short_bytes-in-None-clause-message : goal.returns-in_ok-short_bytes-in-None-clause-message
returns-in_ok-short_bytes-in-None-clause-message g c =
    let long : 512 < length (encoding c.draft_of-whole.result) = search rules in
    reply_said Read c.args.via Udp c.args.query.now c.args.outcome.now c.truncated.result _ _ _ c.in-Udp.is
    (reply_truncated c.args.query.now c.args.outcome.now c.draft_of-whole.result c.draft_of-whole.ensures long) (c.truncated.ensures ∙ ap truncated_reply c.draft_of-whole.ensures)
    c.in_ok-short_bytes-in-None.ensures.message

pub returns-in-Some-2-clause-message : goal.returns-in-Some-2-clause-message
returns-in-Some-2-clause-message g c =
    let short : length (encoding c.draft_of-whole.result) ≤ 65535 = search rules in
    reply_said Read c.args.via Tcp c.args.query.now c.args.outcome.now c.draft_of-whole.result c.draft_of-whole.result _ _ c.in-Tcp.is
    (reply_fits Tcp c.args.query.now c.args.outcome.now c.draft_of-whole.result c.draft_of-whole.ensures short) refl (rw c.in-Some-2.is at c.in_ok-bytes-in-Tcp.ensures.message)

pub returns-in_ok-short_bytes-in-None-2-clause-message : goal.returns-in_ok-short_bytes-in-None-2-clause-message
returns-in_ok-short_bytes-in-None-2-clause-message g c =
    let long : 65535 < length (encoding c.draft_of-whole.result) = search rules in
    reply_said Read c.args.via Tcp c.args.query.now c.args.outcome.now c.empty_draft-failure.result _ _ _ c.in-Tcp.is
    (reply_fails c.args.query.now c.args.outcome.now c.draft_of-whole.result c.draft_of-whole.ensures long) c.empty_draft-failure.ensures
    c.in_ok-short_bytes-in-None-2.ensures.message

pub returns-in-Some-clause-compressed : goal.returns-in-Some-clause-compressed
returns-in-Some-clause-compressed g c =
    let short : length (encoding c.draft_of-whole.result) ≤ 512 = search rules in
    reply_said IsCompressed c.args.via Udp c.args.query.now c.args.outcome.now c.draft_of-whole.result c.draft_of-whole.result _ _ c.in-Udp.is
    (reply_fits Udp c.args.query.now c.args.outcome.now c.draft_of-whole.result c.draft_of-whole.ensures short) refl (rw c.in-Some.is at c.in_ok-bytes-in-Udp.ensures.compressed)

pub returns-in_ok-short_bytes-in-None-clause-compressed : goal.returns-in_ok-short_bytes-in-None-clause-compressed
returns-in_ok-short_bytes-in-None-clause-compressed g c =
    let long : 512 < length (encoding c.draft_of-whole.result) = search rules in
    reply_said IsCompressed c.args.via Udp c.args.query.now c.args.outcome.now c.truncated.result _ _ _ c.in-Udp.is
    (reply_truncated c.args.query.now c.args.outcome.now c.draft_of-whole.result c.draft_of-whole.ensures long) (c.truncated.ensures ∙ ap truncated_reply c.draft_of-whole.ensures)
    c.in_ok-short_bytes-in-None.ensures.compressed

pub returns-in-Some-2-clause-compressed : goal.returns-in-Some-2-clause-compressed
returns-in-Some-2-clause-compressed g c =
    let short : length (encoding c.draft_of-whole.result) ≤ 65535 = search rules in
    reply_said IsCompressed c.args.via Tcp c.args.query.now c.args.outcome.now c.draft_of-whole.result c.draft_of-whole.result _ _ c.in-Tcp.is
    (reply_fits Tcp c.args.query.now c.args.outcome.now c.draft_of-whole.result c.draft_of-whole.ensures short) refl (rw c.in-Some-2.is at c.in_ok-bytes-in-Tcp.ensures.compressed)

pub returns-in_ok-short_bytes-in-None-2-clause-compressed : goal.returns-in_ok-short_bytes-in-None-2-clause-compressed
returns-in_ok-short_bytes-in-None-2-clause-compressed g c =
    let long : 65535 < length (encoding c.draft_of-whole.result) = search rules in
    reply_said IsCompressed c.args.via Tcp c.args.query.now c.args.outcome.now c.empty_draft-failure.result _ _ _ c.in-Tcp.is
    (reply_fails c.args.query.now c.args.outcome.now c.draft_of-whole.result c.draft_of-whole.ensures long) c.empty_draft-failure.ensures
    c.in_ok-short_bytes-in-None-2.ensures.compressed
