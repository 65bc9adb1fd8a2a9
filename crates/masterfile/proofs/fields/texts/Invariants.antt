use Rattle.std.proofs.Common.{◌≡◌, ◌≤◌, length}
use Rattle.masterfile.specs.Strings.{take_strings, strings_from}
use Rattle.masterfile.proofs.Fronts.{with_front}
use Rattle.masterfile.proofs.fields.texts.Given as goal

abbrev pub invariant-strings : goal.invariant-strings
invariant-strings g l = record {
  fits : l.size ≤ 65535;
  read : with_front l.texts (strings_from l.size l.words.words) ≡ take_strings l.fn.words.words;
  later : l.words.later ≡ l.fn.words.later;
}

abbrev pub decreases-strings : goal.decreases-strings
decreases-strings g l = length l.words.words
