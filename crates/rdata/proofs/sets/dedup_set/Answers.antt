-- Each record is kept unless it repeats one that is.
use Rattle.rdata.proofs.Gathered.{gathered_none, kept_more, kept_whole}
use Rattle.std.proofs.Common.{◌∙◌}
use Rattle.rdata.proofs.sets.dedup_set.Goals as goal

pub loop-rr-init : goal.loop-rr-init
loop-rr-init g c = c.in_ok-kept.ensures ∙ gathered_none c.lowest_ttl-ttl.result

pub loop-rr-preserved : goal.loop-rr-preserved
loop-rr-preserved g c =
    kept_more c.lowest_ttl-ttl.result c.args.records.now c.loop-rr.rr-index c.rr-item.result c.loop-rr.kept c.keep_once.new.kept c.loop-rr-test.true c.rr-item.is c.loop-rr.invariant
    c.in_ok-keep_once.ensures

pub returns : goal.returns
returns g c =
    kept_whole c.lowest_ttl-ttl.result c.loop-rr.rr-index c.args.records.now c.loop-rr.kept c.loop-rr-test.false c.lowest_ttl-ttl.ensures.value c.loop-rr.invariant
