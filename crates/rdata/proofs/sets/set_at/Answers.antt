use Rattle.std.proofs.Common.{◌∙◌, sym, eqb-true}
use Rattle.rdata.specs.Rows.{plain_rows}
use Rattle.rdata.specs.Types.{type_number}
use Rattle.rdata.proofs.Gathering.{set_whole, none_there}
use Rattle.rdata.proofs.SetRows.{of_data}
use Rattle.rdata.proofs.sets.set_at.Goals as goal

pub returns-then-is_empty : goal.returns-then-is_empty
returns-then-is_empty g c =
    none_there c.args.owner.now (type_number c.args.kind) c.lowest_ttl_at-ttl.result c.args.records.now c.in_ok-items.items.items
    (sym c.in_ok-items.items.ok.0 ∙ eqb-true _ 0 (sym c.is_empty.ensures ∙ c.if-is_empty.true)) c.lowest_ttl_at-ttl.ensures.value c.in_ok-items.ensures

pub returns : goal.returns
returns g c =
    (λ i. plain_rows (c.in_ok-clone.ensures.cases i) c.lowest_ttl_at-ttl.result (c.in_ok-values.ensures i))
    ∙ (sym (of_data c.args.owner.now c.lowest_ttl_at-ttl.result c.in_ok-items.items.items)
    ∙ set_whole c.args.owner.now (type_number c.args.kind) c.lowest_ttl_at-ttl.result c.args.records.now c.in_ok-items.items.items c.lowest_ttl_at-ttl.ensures.value c.in_ok-items.ensures)
