use Rattle.std.proofs.Common.{◌++◌, rules}
use Rattle.std.proofs.Output.{has_written_append}
use Rattle.rdata.specs.Text.{spaced_string}
use Rattle.rdata.proofs.StringsWire.{written_more}
use Rattle.rdata.proofs.text.TextsDisplay.fmt.Goals as goal

pub loop-string-preserved : goal.loop-string-preserved
loop-string-preserved g c = record {
  form = c.in-Some.ensures.form;
  written = λ plain.
      let so_far = c.loop-string.invariant.written plain in
      let string = c.in-Some.string.now in
      let space = c.write_str.ensures.writes so_far.1.plain (search rules) in
      let quotes = c.write_quoted.ensures space.plain (search rules) in (
        so_far.0 ++ spaced_string string,
        has_written_append _ _ _ _ _ _ so_far.1 (has_written_append _ _ _ _ _ _ space quotes),
        written_more spaced_string c.loop-string.rest.now string c.in-Some.after.now so_far.0 _ c.in-Some.ensures so_far.2,
      );
}
