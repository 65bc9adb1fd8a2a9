use Rattle.std.proofs.Common.{Bool, ◌<◌, ◌≤◌, arith}
use Rattle.dname.specs.Labels.{is_under}
use Rattle.rdata.specs.Records.{Record}
use Rattle.classify.proofs.Walking.{few_on, kept_more, kept_full, kept_whole}
use Rattle.classify.proofs.narrowing.addresses_within.Goals as goal

pub loop-address-preserved : goal.loop-address-preserved
loop-address-preserved g c =
    let within : Record → Bool = λ r. is_under r.owner c.args.zone.now in
    let room : c.len.result < 256 = omega (arith, c.if-len-ge-MAX_GLUE.false) in (
      kept_more within c.args.addresses.now c.loop-address.kept c.put_within.new.kept c.address-item.result c.loop-address.address-index c.loop-address.invariant.0 c.loop-address-test.true c.address-item.is
          c.in_ok-put_within.ensures,
      few_on within c.loop-address.kept c.put_within.new.kept c.address-item.result 256 c.len.result c.len.ensures room c.in_ok-put_within.ensures,
    )

pub returns-then-len-ge-MAX_GLUE : goal.returns-then-len-ge-MAX_GLUE
returns-then-len-ge-MAX_GLUE g c =
    let within : Record → Bool = λ r. is_under r.owner c.args.zone.now in
    let full : 256 ≤ c.len.result = omega (arith, c.if-len-ge-MAX_GLUE.true) in
    kept_full within c.args.addresses.now c.loop-address.kept c.loop-address.address-index 256 c.len.result c.loop-address.invariant.0 c.loop-address.invariant.1 c.len.ensures full

pub returns : goal.returns
returns g c =
    let within : Record → Bool = λ r. is_under r.owner c.args.zone.now in
    kept_whole within c.args.addresses.now c.loop-address.kept c.loop-address.address-index 256 c.loop-address.invariant.0 c.loop-address.invariant.1 c.loop-address-test.false
