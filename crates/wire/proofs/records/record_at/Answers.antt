use Rattle.wire.specs.Entries.{entry_at}
use Rattle.wire.proofs.Walks.{gives_failed}
use Rattle.wire.proofs.Skipping.{named, owner_fails, body_fails, unserved, value_fails, record_read}
use Rattle.wire.proofs.records.record_at.Goals as goal

pub returns-in_err-owner : goal.returns-in_err-owner
returns-in_err-owner g c =
    gives_failed (λ x. (x.0, x.1)) c.from_residual.result c.in_err-owner.field-0.0 (entry_at c.args.bytes.now c.args.at) c.from_residual.ensures.1
    (owner_fails c.args.bytes.now c.args.at c.in_message.result c.in_err-owner.field-0.0 c.in_message.ensures c.in_err-owner.ensures.is)

pub returns-in_err-kind : goal.returns-in_err-kind
returns-in_err-kind g c =
    gives_failed (λ x. (x.0, x.1)) c.from_residual-in_err-kind.result c.in_err-kind.field-0.0 (entry_at c.args.bytes.now c.args.at) c.from_residual-in_err-kind.ensures.1
    (body_fails c.args.bytes.now c.args.at c.in_ok-owner.at c.in_ok-owner.owner c.in_err-kind.field-0.0 (named c.args.bytes.now c.args.at c.in_message.result _ c.in_message.ensures c.in_ok-owner.ensures.is) c.in_err-kind.ensures.is)

pub returns-in-None : goal.returns-in-None
returns-in-None g c =
    unserved c.args.bytes.now c.args.at c.in_ok-owner.at c.in_ok-kind.size c.in_ok-owner.owner c.in_ok-kind.kind (named c.args.bytes.now c.args.at c.in_message.result _ c.in_message.ensures c.in_ok-owner.ensures.is) c.in_ok-kind.ensures.is c.in-None.is

pub returns-in_err-value-in-Some : goal.returns-in_err-value-in-Some
returns-in_err-value-in-Some g c =
    gives_failed (λ x. (x.0, x.1)) c.from_residual-in_err-value-in-Some.result c.in_err-value-in-Some.field-0.0 (entry_at c.args.bytes.now c.args.at) c.from_residual-in_err-value-in-Some.ensures.1
    (value_fails c.args.bytes.now c.args.at c.in_ok-owner.at c.in_ok-kind.size c.in_ok-owner.owner c.in_ok-kind.kind c.in-Some.kind c.in_err-value-in-Some.field-0.0
    (named c.args.bytes.now c.args.at c.in_message.result _ c.in_message.ensures c.in_ok-owner.ensures.is) c.in_ok-kind.ensures.is c.in-Some.is c.in_err-value-in-Some.ensures)

pub returns-in_ok-value-in-Some : goal.returns-in_ok-value-in-Some
returns-in_ok-value-in-Some g c =
    record_read c.args.bytes.now c.args.at c.in_ok-owner.at c.in_ok-kind.size c.ttl_of-ttl.result c.four_at.result c.in_ok-owner.owner c.in_ok-kind.kind c.in-Some.kind _
    (named c.args.bytes.now c.args.at c.in_message.result _ c.in_message.ensures c.in_ok-owner.ensures.is) c.in_ok-kind.ensures.is c.in-Some.is c.in_ok-value-in-Some.ensures c.ttl_of-ttl.ensures.is c.four_at.ensures
