use Rattle.std.proofs.Common.{sym, ◌∙◌, ap}
use Rattle.std.proofs.lemmas.List.{take_all}
use Rattle.rdata.specs.Records.{Record}
use Rattle.zone.specs.Last.{same_key, set_of, ttl_of, is_other_ttl}
use Rattle.zone.proofs.Last.{last_step, last_mixed, last_mixed_is, mixed_early, mixed_step}
use Rattle.zone.proofs.ttls.has_mixed_ttls.Goals as goal

pub returns-then-is_other_ttl : goal.returns-then-is_other_ttl
returns-then-is_other_ttl g c =
    sym (mixed_early c.args.records.now c.loop-rr.rr-index c.rr-item.result c.in_ok-last.last c.loop-rr-test.true c.rr-item.is
    (c.in_ok-last.ensures.last ∙ c.loop-rr.invariant.noted (set_of c.rr-item.result))
    (ap (λ (r : Record). is_other_ttl r.ttl c.in_ok-last.last) (sym c.rr.view_is) ∙ (sym c.is_other_ttl.ensures ∙ c.if-is_other_ttl.true)))

pub loop-rr-preserved : goal.loop-rr-preserved
loop-rr-preserved g c = record {
  noted = λ q. last_step same_key set_of ttl_of q c.args.records.now c.loop-rr.rr-index c.rr-item.result _ _ c.loop-rr-test.true c.rr-item.is
      (c.loop-rr.invariant.noted q) (c.in_ok-last.ensures.noted q);
  equal = mixed_step c.args.records.now c.loop-rr.rr-index c.rr-item.result c.in_ok-last.last c.loop-rr-test.true c.rr-item.is
      (c.in_ok-last.ensures.last ∙ c.loop-rr.invariant.noted (set_of c.rr-item.result))
      (ap (λ (r : Record). is_other_ttl r.ttl c.in_ok-last.last) (sym c.rr.view_is) ∙ (sym c.is_other_ttl.ensures ∙ c.if-is_other_ttl.false)) c.loop-rr.invariant.equal;
}

pub returns : goal.returns
returns g c =
    sym c.loop-rr.invariant.equal ∙ (ap last_mixed (take_all c.loop-rr.rr-index c.args.records.now c.loop-rr-test.false) ∙ last_mixed_is c.args.records.now)
