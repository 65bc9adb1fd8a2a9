use Rattle.std.proofs.Common.{◌∙◌, ◌∷◌, ◌+◌, ℕ, List, refl, ap, rules}
use Rattle.std.proofs.lemmas.List.{take_all}
use Rattle.rdata.specs.Records.{Record}
use Rattle.zone.specs.Tree.{spot_of}
use Rattle.zone.proofs.Trees.{tree_more}
use Rattle.zone.proofs.nodes.nodes_of.Goals as goal

pub loop-record-init : goal.loop-record-init
loop-record-init g c = (refl, record { at = λ l ls. search rules })

pub loop-record-preserved : goal.loop-record-preserved
loop-record-preserved g c = (
  ap (λ (n : ℕ). n + 1) c.loop-record.invariant.0,
  record {
    at = λ l ls. tree_more c.args.records.now c.loop-record.record-index c.loop-record.place c.record-item.result c.in_ok-up.up c.record.inside.owner (l ∷ ls) _ _ c.loop-record-test.true c.record-item.is
        c.loop-record.invariant.0 (c.in_ok-up.ensures.cases ∙ ap (λ (r : Record). r.owner) c.record.view_is) (ap (λ (r : Record). r.owner) c.record.view_is) (c.loop-record.invariant.1.at l ls)
        (c.in_ok-put_up.ensures l ls);
  },
)

pub returns : goal.returns
returns g c = record {
  at = λ l ls. c.loop-record.invariant.1.at l ls ∙ ap (λ (rs : List Record). spot_of (l ∷ ls) rs) (take_all c.loop-record.record-index c.args.records.now c.loop-record-test.false);
}
