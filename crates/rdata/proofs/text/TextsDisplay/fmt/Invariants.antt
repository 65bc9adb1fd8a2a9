-- The strings so far are written.
use Rattle.std.proofs.Common.{◌≡◌, ℕ, List, ◌++◌, length}
use Rattle.std.specs.List.{flat_map}
use Rattle.std.specs.Fmt.{HasWritten, IsPlainFormatter}
use Rattle.rdata.specs.Strings.{strings_of, IsStringsWire}
use Rattle.rdata.specs.Text.{spaced_string}
use Rattle.rdata.proofs.text.TextsDisplay.fmt.Given as goal

abbrev pub invariant-loop-string : goal.invariant-loop-string
invariant-loop-string g l = record {
  form : IsStringsWire l.rest;
  written : IsPlainFormatter l.initial.f
      → (done : List ℕ) × HasWritten g.W.Write.write_str_gives l.initial.f done l.f
      × (done ++ flat_map spaced_string (strings_of l.rest) ≡ flat_map spaced_string l.self);
}

abbrev pub decreases-loop-string : goal.decreases-loop-string
decreases-loop-string g l = length l.rest
