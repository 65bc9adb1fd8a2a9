-- The numbers and words of why a server does not run.
use Rattle.std.specs.Prelude.{ℕ, List, codes}
use Rattle.server.specs.declared.fault.ServeError.{ServeError}
use Rattle.server.specs.declared.fault.ServeError.TheVariants.{Memory, Clock, Threads}

abbrev pub serve_fault_number : ServeError → ℕ
serve_fault_number Memory = 1
serve_fault_number Clock = 2
serve_fault_number Threads = 3

abbrev pub serve_fault_text : ServeError → List ℕ
serve_fault_text Memory = codes "out of memory"
serve_fault_text Clock = codes "the clock cannot be read"
serve_fault_text Threads = codes "a thread cannot be made"
