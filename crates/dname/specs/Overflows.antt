-- Why a byte or a label does not fit a name: the refusals' numbers and words.
use Rattle.std.specs.Prelude.{ℕ, List, codes}
use Rattle.dname.specs.declared.builder.Overflow.{Overflow}
use Rattle.dname.specs.declared.builder.Overflow.TheVariants.{LongLabel, LongName, Memory}

abbrev pub overflow_number : Overflow → ℕ
overflow_number LongLabel = 1
overflow_number LongName = 2
overflow_number Memory = 3

abbrev pub overflow_text : Overflow → List ℕ
overflow_text LongLabel = codes "label over 63 bytes"
overflow_text LongName = codes "name over 255 bytes"
overflow_text Memory = codes "out of memory"
