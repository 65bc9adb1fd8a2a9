use Rattle.std.proofs.Common.{◌∙◌, sym, ap, subst, ℕ, arith, rules}
use Rattle.text_lines.specs.Texts.{IsTextFault}
use Rattle.world_text.specs.Readings.{said_in}
use Rattle.world_text.specs.Seen.{said_seen, says_from, IsLeftBehind}
use Rattle.world_text.proofs.Reading.{begun, shorter, stays_text, counts, all_read, ends_as}
use Rattle.world_text.proofs.world_text.read_world.Goals as goal

pub loop-line-init : goal.loop-line-init
loop-line-init g c = record {
  text = c.utf8.text;
  says = begun c.args.text.now (said_seen c.new-reader.result.world) c.new-reader.result.opening c.new-reader.ensures.opening c.new-reader.ensures.world;
  left = subst (IsLeftBehind c.args.text.now) (sym c.new-reader.ensures.opening) tt;
  number = search rules;
}

pub take_line-requires-clause-number : goal.take_line-requires-clause-number
take_line-requires-clause-number g c = omega (arith, shorter c.loop-line.left.now c.in-Some.line.now c.in-Some.behind.now c.in-Some.ensures, c.loop-line.invariant.number)

pub loop-line-smaller : goal.loop-line-smaller
loop-line-smaller g c = shorter c.loop-line.left.now c.in-Some.line.now c.in-Some.behind.now c.in-Some.ensures

pub loop-line-preserved : goal.loop-line-preserved
loop-line-preserved g c = record {
  text = stays_text c.loop-line.left.now c.in-Some.line.now c.in-Some.behind.now c.loop-line.invariant.text c.in-Some.ensures;
  says = ap (λ (n : ℕ). says_from n c.take_line.new.self c.in-Some.behind.now) c.saturating_add-number.ensures ∙ (sym c.in-Ok.ensures.says ∙ c.loop-line.invariant.says);
  left = c.in-Ok.ensures.left;
  number = counts c.loop-line.number _ c.loop-line.left.now c.in-Some.line.now c.in-Some.behind.now c.in-Some.ensures c.saturating_add-number.ensures c.loop-line.invariant.number;
}

pub returns-in-Err : goal.returns-in-Err
returns-in-Err g c = subst (IsTextFault _) c.loop-line.invariant.says c.in-Err.ensures.says

pub returns : goal.returns
returns g c =
    let r = c.loop-line.reader in
    ends_as c.end.result said_seen (said_in c.args.text.now) _ (all_read c.loop-line.number (said_seen r.world) r.opening c.loop-line.left.now c.args.text.now c.in_default.ensures c.loop-line.invariant.says) c.end.ensures
