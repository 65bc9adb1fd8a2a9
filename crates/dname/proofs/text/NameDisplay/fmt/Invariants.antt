use Rattle.std.proofs.Common.{◌≡◌, ℕ, List, ◌++◌, length}
use Rattle.std.specs.Fmt.{HasWritten, IsPlainFormatter}
use Rattle.dname.specs.Wire.{labels_of, IsWire}
use Rattle.dname.specs.Text.{labels_text}
use Rattle.dname.proofs.text.NameDisplay.fmt.Given as goal

abbrev pub invariant-loop-label : goal.invariant-loop-label
invariant-loop-label g l = record {
  form : IsWire l.rest;
  written : IsPlainFormatter l.initial.f
      → (done : List ℕ) × HasWritten g.W.Write.write_str_gives l.initial.f done l.f
      × (done ++ labels_text (labels_of l.rest) ≡ labels_text l.self);
}

abbrev pub decreases-loop-label : goal.decreases-loop-label
decreases-loop-label g l = length l.rest
