use Rattle.std.proofs.Common.{◌∙◌, refl, sym, ap, subst, List, ℕ, arith}
use Rattle.std.specs.List.{list_any}
use Rattle.dname.specs.Labels.{AreLabels, same_name}
use Rattle.zone.specs.Look.{cut_of, is_type, climbed}
use Rattle.zone.specs.Zones.{ns_type}
use Rattle.authority.specs.Climb.{has_under}
use Rattle.authority.specs.Walk.{Stands, own_of}
use Rattle.authority.proofs.Ascents.{shorter, cut_first, cut_more, cut_last}
use Rattle.authority.proofs.AtOrigin.{cut_at_origin, near_at_origin, no_node_so_far, count_first, count_more, count_at_origin, count_at_root, nodes_within}
use Rattle.authority.proofs.SetRows.{own_timed, near_timed}
use Rattle.authority.proofs.Walks.{stands, cut_is, near_more, near_last, labels_within}
use Rattle.authority.proofs.walk.walk_up.Goals as goal
use Rattle.authority.proofs.walk.walk_up.Goals.{then-up-test+else-ascend, else-up-test}

pub up-init : goal.up-init
up-init g c =
    let z = c.args.zone.now in
    let n = c.suffix-up.result in
    let labels : AreLabels n = subst (λ (m : List (List ℕ)). AreLabels m) (sym c.suffix-up.ensures) c.well_formed_law.ensures.labels in
    let here = stands n z.records c.stand_at-here.result c.stand_at-here.ensures in
    let at = cut_is z n c.stand_at-here.result (list_any (is_type ns_type) (own_of c.stand_at-here.result)) c.in_ok-cut.cut here refl c.in_ok-cut.ensures in
    record {
      cut = cut_first z n c.in_ok-cut.cut labels at ∙ ap (cut_of z) c.suffix-up.ensures;
      near = λ soa t. ap (climbed soa c.args.name.now t z.records) c.suffix-up.ensures;
      without = λ none under. ap (λ (m : List (List ℕ)). has_under m z.records) c.suffix-up.ensures ∙ under;
      count = count_first z n c.args.name.now _ c.node_count-count.result labels c.suffix-up.ensures here.under c.node_count-count.ensures;
      timed = tt;
    }

pub overflow_add-count : goal.overflow_add-count
overflow_add-count g c =
    let z = c.args.zone.now in
    let p = c.ascend.new.self in
    let q = c.args.name.now in
    let at = stands p z.records c.stand_at-stand.result c.stand_at-stand.ensures in
    let more = count_more z c.up.up p q _ c.node_count.result c.up.count c.if-ascend.ensures.above (sym (ap (same_name c.up.up) c.origin.ensures) ∙ sym c.is.ensures ∙ c.up-test.true) at.under c.node_count.ensures c.up.invariant.count in
    omega (arith, more, nodes_within z q, labels_within q, c.well_formed_law.ensures.short)

pub up-smaller : goal.up-smaller
up-smaller g c = shorter c.up.up c.ascend.new.self c.if-ascend.ensures.above

pub up-preserved : goal.up-preserved
up-preserved g c =
    let z = c.args.zone.now in
    let p = c.ascend.new.self in
    let q = c.args.name.now in
    let up = c.if-ascend.ensures.above in
    let at = stands p z.records c.stand_at-stand.result c.stand_at-stand.ensures in
    record {
      cut = cut_more z c.up.up p q c.up.cut c.in_ok-cut_at.field-0 c.first_or-cut.result up c.up.invariant.cut
          (cut_is z p c.stand_at-stand.result (list_any (is_type ns_type) (own_of c.stand_at-stand.result)) c.in_ok-cut_at.field-0 at refl c.in_ok-cut_at.ensures) c.first_or-cut.ensures;
      near = λ soa t. near_more z.records c.up.up p c.stand_at-stand.result c.up.near c.nearer-near.result soa q t up at (c.up.invariant.near soa t) c.nearer-near.ensures;
      without = λ none under. no_node_so_far z.records p c.stand_at-stand.result c.up.near c.nearer-near.result at c.nearer-near.ensures none;
      count = count_more z c.up.up p q _ c.node_count.result c.up.count up (sym (ap (same_name c.up.up) c.origin.ensures) ∙ sym c.is.ensures ∙ c.up-test.true) at.under c.node_count.ensures c.up.invariant.count;
      timed = near_timed p z c.stand_at-stand.result c.up.near c.nearer-near.result c.zone_keeps_rules.ensures.rules.ttls at c.up.invariant.timed c.nearer-near.ensures;
    }

pub returns : goal.returns
returns g c =
    let z = c.args.zone.now in
    let q = c.args.name.now in
    let rules = c.zone_keeps_rules.ensures.rules in
    let here : Stands q z.records c.stand_at-here.result =
    subst (λ (m : List (List ℕ)). Stands m z.records c.stand_at-here.result) c.suffix-up.ensures (stands c.suffix-up.result z.records c.stand_at-here.result c.stand_at-here.ensures) in
    let here_timed = own_timed q z c.stand_at-here.result rules.ttls here in
    elim c.up-test.branch [
      | then-up-test+else-ascend w ↦ record {
        cut = cut_last z c.up.up q c.up.cut w.if-ascend.ensures.root.0 c.up.invariant.cut;
        here = here;
        near = λ none soa t. near_last z.records c.up.up c.up.near soa q t w.if-ascend.ensures.root.0 (c.up.invariant.near soa t);
        count = count_at_root z c.up.up q c.up.count w.if-ascend.ensures.root.0 c.up.invariant.count;
        here_timed = here_timed;
        near_timed = c.up.invariant.timed;
      }
      | else-up-test w ↦
          let same = sym (ap (same_name c.up.up) c.origin.ensures) ∙ sym c.is.ensures ∙ w.up-test.false in
          record {
            cut = cut_at_origin z c.up.up q c.up.cut rules c.zone_keeps_rules.ensures.named same c.up.invariant.cut;
            here = here;
            near = λ none soa t. near_at_origin z c.up.up q c.up.near soa t rules same c.up.invariant.without none (c.up.invariant.near soa t);
            count = count_at_origin z c.up.up q c.up.count same c.up.invariant.count;
            here_timed = here_timed;
            near_timed = c.up.invariant.timed;
          }
    ]
