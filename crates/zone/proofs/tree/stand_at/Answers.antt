use Rattle.std.proofs.Common.{◌∙◌, ◌∷◌, ap}
use Rattle.dname.specs.Keys.{at_bytes, at_name}
use Rattle.dname.specs.Labels.{star}
use Rattle.zone.specs.Look.{is_owned}
use Rattle.zone.specs.Tree.{seen, spot, spot_of}
use Rattle.zone.proofs.Shares.{sets_at}
use Rattle.zone.proofs.Trees.{IsSpot, no_spot, some_spot, each_name, within_is, picked_is}
use Rattle.zone.proofs.tree.stand_at.Goals as goal

pub of-requires-clause-within : goal.of-requires-clause-within
of-requires-clause-within g c =
    let n = c.args.name.now in
    let rs = c.args.records.now in
    let all = each_name n (λ q. spot (at_name c.args.nodes.now q)) (λ q. spot_of q rs) c.well_formed_law.ensures.labels c.requires.nodes.at in
    let s : IsSpot n rs (seen c.in-Some.node.now) = some_spot n rs (seen c.in-Some.node.now) (ap spot (c.in-Some.ensures.value ∙ ap (at_bytes c.args.nodes.now) c.wire.ensures) ∙ all) in
    within_is (is_owned n) rs c.deref.result.now (c.deref.ensures.value ∙ s.own)

pub of-requires-clause-sets : goal.of-requires-clause-sets
of-requires-clause-sets g c =
    let n = c.args.name.now in
    let rs = c.args.records.now in
    let all = each_name n (λ q. spot (at_name c.args.nodes.now q)) (λ q. spot_of q rs) c.well_formed_law.ensures.labels c.requires.nodes.at in
    let s : IsSpot n rs (seen c.in-Some.node.now) = some_spot n rs (seen c.in-Some.node.now) (ap spot (c.in-Some.ensures.value ∙ ap (at_bytes c.args.nodes.now) c.wire.ensures) ∙ all) in
    sets_at c.args.sets.now n rs c.deref.result.now (c.deref.ensures.value ∙ s.own) c.requires.sets

pub of-requires-in-Some-clause-within : goal.of-requires-in-Some-clause-within
of-requires-in-Some-clause-within g c =
    let n = c.args.name.now in
    let rs = c.args.records.now in
    let all = each_name n (λ q. spot (at_name c.args.nodes.now q)) (λ q. spot_of q rs) c.well_formed_law.ensures.labels c.requires.nodes.at in
    let s : IsSpot n rs (seen c.in-Some.node.now) = some_spot n rs (seen c.in-Some.node.now) (ap spot (c.in-Some.ensures.value ∙ ap (at_bytes c.args.nodes.now) c.wire.ensures) ∙ all) in
    within_is (is_owned (star ∷ n)) rs c.deref-in-Some.result.now (c.deref-in-Some.ensures.value ∙ s.wild)

pub of-requires-in-Some-clause-sets : goal.of-requires-in-Some-clause-sets
of-requires-in-Some-clause-sets g c =
    let n = c.args.name.now in
    let rs = c.args.records.now in
    let all = each_name n (λ q. spot (at_name c.args.nodes.now q)) (λ q. spot_of q rs) c.well_formed_law.ensures.labels c.requires.nodes.at in
    let s : IsSpot n rs (seen c.in-Some.node.now) = some_spot n rs (seen c.in-Some.node.now) (ap spot (c.in-Some.ensures.value ∙ ap (at_bytes c.args.nodes.now) c.wire.ensures) ∙ all) in
    sets_at c.args.sets.now (star ∷ n) rs c.deref-in-Some.result.now (c.deref-in-Some.ensures.value ∙ s.wild) c.requires.sets

pub returns-in-None : goal.returns-in-None
returns-in-None g c =
    let n = c.args.name.now in
    let rs = c.args.records.now in
    let all = each_name n (λ q. spot (at_name c.args.nodes.now q)) (λ q. spot_of q rs) c.well_formed_law.ensures.labels c.requires.nodes.at in
    no_spot n rs (ap spot (c.in-None.ensures.value ∙ ap (at_bytes c.args.nodes.now) c.wire.ensures) ∙ all)

pub returns-in-Some : goal.returns-in-Some
returns-in-Some g c =
    let n = c.args.name.now in
    let rs = c.args.records.now in
    let all = each_name n (λ q. spot (at_name c.args.nodes.now q)) (λ q. spot_of q rs) c.well_formed_law.ensures.labels c.requires.nodes.at in
    let s : IsSpot n rs (seen c.in-Some.node.now) = some_spot n rs (seen c.in-Some.node.now) (ap spot (c.in-Some.ensures.value ∙ ap (at_bytes c.args.nodes.now) c.wire.ensures) ∙ all) in
    record {
      under = s.under;
      own = c.of.ensures ∙ picked_is (is_owned n) rs c.deref.result.now (c.deref.ensures.value ∙ s.own);
      wild = c.of-in-Some.ensures ∙ picked_is (is_owned (star ∷ n)) rs c.deref-in-Some.result.now (c.deref-in-Some.ensures.value ∙ s.wild);
    }
