-- The numbers and the words of refusals.
use Rattle.std.specs.Prelude.{ℕ, List, codes}
use Rattle.pool.specs.declared.fault.PoolError.{PoolError}
use Rattle.pool.specs.declared.fault.PoolError.TheVariants.{Differs, Forgot, Memory, Stranger}

abbrev pub pool_fault_number : PoolError → ℕ
pool_fault_number Differs = 1
pool_fault_number Forgot = 2
pool_fault_number Memory = 3
pool_fault_number Stranger = 4

abbrev pub pool_fault_text : PoolError → List ℕ
pool_fault_text Differs = codes "what a worker kept differs from the history"
pool_fault_text Forgot = codes "the history is no longer kept whole"
pool_fault_text Memory = codes "out of memory"
pool_fault_text Stranger = codes "the ticket is not one of the book's"
