use Rattle.std.proofs.Common.{◌≡◌, length, drop, length-drop, string_bytes, arith}
use Rattle.std.proofs.lemmas.Grind.{common_steps}
use Rattle.masterfile.proofs.PrintLemmas.{printed_more}
use Rattle.masterfile.proofs.ReadBack.{text_is_read}
use Rattle.masterfile.proofs.KeptRecords.{kept_more, none_kept, all_sound}
use Rattle.masterfile.proofs.printed.print.Goals as goal

pub loop-record-preserved : goal.loop-record-preserved
loop-record-preserved g c = record {
  text =
      printed_more (string_bytes c.push.new.self) (string_bytes c.loop-record.out) (string_bytes c.put_line.new.out) c.args.records.now c.loop-record.record-index c.record-item.result
      c.loop-record-test.true c.record-item.is c.loop-record.invariant.text (c.in_ok-put_line.ensures {u = tt});
  kept = kept_more c.args.records.now c.loop-record.record-index c.record-item.result c.loop-record-test.true c.record-item.is c.record_is_sound.ensures c.loop-record.invariant.kept;
}

pub returns-clause-back : goal.returns-clause-back
returns-clause-back g c =
    let rs = c.args.records.now in
    let done : length (drop c.loop-record.record-index rs) ≡ 0 = omega (arith, length-drop c.loop-record.record-index rs) in
    λ fit. text_is_read c.args.origin.now rs (string_bytes c.loop-record.out) (grind (arith, common_steps)) c.well_formed_law.ensures
    (all_sound rs (c.loop-record.invariant.kept (none_kept (drop c.loop-record.record-index rs) done)) fit)
