-- The numbers of a refused line.
use Rattle.std.specs.Prelude.{ℕ}
use Rattle.commandline.specs.declared.fault.LineFault.{LineFault}
use Rattle.commandline.specs.declared.fault.LineFault.TheVariants.{Words, Memory}

abbrev pub fault_number : LineFault → ℕ
fault_number Words = 1
fault_number Memory = 2
