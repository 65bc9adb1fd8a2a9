use Rattle.std.proofs.Common.{◌≡◌, ◌<◌, ◌∙◌, Some, find, length, sym, ap, arith}
use Rattle.rdata.specs.Types.{type_number}
use Rattle.zone.specs.Look.{is_type}
use Rattle.zone.proofs.Shares.{default_unused}
use Rattle.authority.proofs.Walks.{find_here, find_on}
use Rattle.authority.proofs.held.place_of.Goals as goal

pub returns-then-is_kind : goal.returns-then-is_kind
returns-then-is_kind g c =
    let p = is_type (type_number c.args.kind) in
    let rs = c.args.held.now in
    let x = c.get.result.now in
    let there : c.loop-index.index < length rs = omega (arith, c.loop-index-test.true, c.len-index-end.ensures) in
    record {
      inside = there;
      found = λ r. sym (find_here p rs c.loop-index.index x there c.get.ensures c.loop-index.invariant (sym c.is_kind.ensures ∙ c.if-is_kind.true)) ∙ ap Some (c.get.ensures ∙ default_unused rs c.loop-index.index x r there);
    }

pub loop-index-preserved : goal.loop-index-preserved
loop-index-preserved g c =
    find_on (is_type (type_number c.args.kind)) c.args.held.now c.loop-index.index c.get.result.now (omega (arith, c.loop-index-test.true, c.len-index-end.ensures)) c.get.ensures c.loop-index.invariant
    (sym c.is_kind.ensures ∙ c.if-is_kind.false)
