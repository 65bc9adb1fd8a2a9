use Rattle.std.proofs.Common.{◌≡◌, ◌<◌, ◌∙◌, ℕ, List, length, get_or, sym, ap, subst, arith}
use Rattle.rdata.specs.Data.{type_of}
use Rattle.rdata.specs.Records.{Record}
use Rattle.zone.specs.Look.{is_owned, of_type}
use Rattle.zone.specs.Tree.{picks}
use Rattle.zone.specs.Values.{values_of, values_with, AreSets}
use Rattle.zone.proofs.Shares.{values_there, sets_more}
use Rattle.zone.proofs.Trees.{within_is, picks_length}
use Rattle.zone.proofs.sets.keep_sets.Goals as goal
use Rattle.zone.proofs.sets.keep_sets.Goals.{then-not-any+in_ok-push+in_ok-values+in-Shared+in_ok-insert+in-Some-1, then-not-any+in_ok-push+in_ok-values+in-Shared+in_ok-insert+in-None-1, then-not-any+in_ok-push+in_ok-values+in_default, else-not-any}

pub of-held-requires-clause-within : goal.of-held-requires-clause-within
of-held-requires-clause-within g c = within_is (is_owned c.args.owner.now) c.args.records.now c.args.own.now c.requires.owned

pub offset_bounds-own-index : goal.offset_bounds-own-index
offset_bounds-own-index g c =
    omega (
      arith,
      c.loop-index-test.true,
      c.len-index-end.ensures,
      ap length c.of-held.ensures,
      picks_length c.args.records.now c.args.own.now (within_is (is_owned c.args.owner.now) c.args.records.now c.args.own.now c.requires.owned),
      c.type_inv.own,
    )

pub bounds-own-index : goal.bounds-own-index
bounds-own-index g c =
    omega (
      arith,
      c.loop-index-test.true,
      c.len-index-end.ensures,
      ap length c.of-held.ensures,
      picks_length c.args.records.now c.args.own.now (within_is (is_owned c.args.owner.now) c.args.records.now c.args.own.now c.requires.owned),
    )

pub loop-index-preserved : goal.loop-index-preserved
loop-index-preserved g c =
    let rs = c.args.records.now in
    let is = c.args.own.now in
    let there : c.loop-index.index < length is =
    omega (arith, c.loop-index-test.true, c.len-index-end.ensures, ap length c.of-held.ensures, picks_length rs is (within_is (is_owned c.args.owner.now) rs is c.requires.owned)) in
    let same : (r : Record) → values_of (of_type (type_of (get_or c.of-held.result c.loop-index.index r).value) c.of-held.result) ≡ values_with (get_or rs (get_or is c.loop-index.index 0) r) rs
    = λ r. ap (λ (xs : List Record). values_of (of_type (type_of (get_or xs c.loop-index.index r).value) xs)) c.of-held.ensures ∙ sym (values_there c.args.owner.now rs is c.loop-index.index r c.requires.owned there) in
    elim c.if-not-any.branch [
      | then-not-any+in_ok-push+in_ok-values+in-Shared+in_ok-insert+in-Some-1 w ↦ subst (λ m. AreSets m rs) (sym w.sets-is) (sets_more c.loop-index.sets w.insert.new.self rs (get_or is c.loop-index.index 0) w.in_ok-values.values c.loop-index.invariant
          (λ r. w.in_ok-values.ensures r ∙ same r) (λ j. w.in_ok-insert.ensures.updates.0 j))
      | then-not-any+in_ok-push+in_ok-values+in-Shared+in_ok-insert+in-None-1 w ↦ subst (λ m. AreSets m rs) (sym w.sets-is) (sets_more c.loop-index.sets w.insert.new.self rs (get_or is c.loop-index.index 0) w.in_ok-values.values c.loop-index.invariant
          (λ r. w.in_ok-values.ensures r ∙ same r) (λ j. w.in_ok-insert.ensures.updates.0 j))
      | then-not-any+in_ok-push+in_ok-values+in_default w ↦ subst (λ m. AreSets m rs) (sym w.sets-is) c.loop-index.invariant
      | else-not-any w ↦ subst (λ m. AreSets m rs) (sym w.sets-is) c.loop-index.invariant
    ]
