use Rattle.std.proofs.Common.{◌≡◌, ◌∙◌, sym, ap, subst}
use Rattle.dname.specs.Keys.{at_bytes, at_name}
use Rattle.zone.specs.Look.{is_owned}
use Rattle.zone.specs.Tree.{seen, spot, spot_of}
use Rattle.zone.specs.Values.{AreSets}
use Rattle.zone.proofs.Shares.{no_sets}
use Rattle.zone.proofs.Trees.{IsSpot, some_spot, each_name}
use Rattle.zone.proofs.sets.sets_of.Goals as goal
use Rattle.zone.proofs.sets.sets_of.Goals.{in-Some+then-eq+in_ok-keep_sets, in_default}

pub loop-place-init : goal.loop-place-init
loop-place-init g c = no_sets c.new-sets.result c.args.records.now c.new-sets.ensures.empty

pub keep_sets-requires-clause-owned : goal.keep_sets-requires-clause-owned
keep_sets-requires-clause-owned g c =
    let n = c.record.inside.owner in
    let rs = c.args.records.now in
    let all = each_name n (λ q. spot (at_name c.args.nodes.now q)) (λ q. spot_of q rs) c.well_formed_law.ensures.labels c.requires.at in
    let s : IsSpot n rs (seen c.in-Some.node.now) = some_spot n rs (seen c.in-Some.node.now) (ap spot (c.in-Some.ensures.value ∙ ap (at_bytes c.args.nodes.now) c.wire.ensures) ∙ all) in
    c.deref-in-loop-place.ensures.value ∙ s.own

pub loop-place-preserved : goal.loop-place-preserved
loop-place-preserved g c = elim c.match-get.branch [
  | in-Some+then-eq+in_ok-keep_sets w ↦ subst (λ m. AreSets m c.args.records.now) (sym w.sets-is) w.in_ok-keep_sets.ensures
  | in_default w ↦ subst (λ m. AreSets m c.args.records.now) (sym w.sets-is) c.loop-place.invariant
]
