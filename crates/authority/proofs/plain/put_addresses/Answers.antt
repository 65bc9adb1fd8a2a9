use Rattle.std.proofs.Common.{◌∙◌, ◌&&◌, true, false, sym}
use Rattle.rdata.specs.Records.{Record}
use Rattle.zone.specs.Look.{add_glue, is_owned, is_address}
use Rattle.zone.proofs.Picked.{fold_more}
use Rattle.authority.proofs.plain.put_addresses.Goals as goal
use Rattle.authority.proofs.plain.put_addresses.Goals.{then-is_address_of+in_ok-put_glue, else-is_address_of}

pub loop-rr-preserved : goal.loop-rr-preserved
loop-rr-preserved g c = elim c.if-is_address_of.branch [
  | then-is_address_of+in_ok-put_glue w ↦ fold_more add_glue (λ (r : Record). is_owned c.args.name.now r && is_address r) c.args.set.now c.args.records.now c.loop-rr.set c.if-is_address_of.set
      c.loop-rr.rr-index c.rr-item.result true c.loop-rr-test.true c.rr-item.is c.loop-rr.invariant (sym w.if-is_address_of.true ∙ c.is_address_of.ensures) (w.set-is ∙ w.in_ok-put_glue.ensures)
  | else-is_address_of w ↦ fold_more add_glue (λ (r : Record). is_owned c.args.name.now r && is_address r) c.args.set.now c.args.records.now c.loop-rr.set c.if-is_address_of.set
      c.loop-rr.rr-index c.rr-item.result false c.loop-rr-test.true c.rr-item.is c.loop-rr.invariant (sym w.if-is_address_of.false ∙ c.is_address_of.ensures) w.set-is
]
