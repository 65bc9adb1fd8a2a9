-- Refusals of a catalog and their numbers.
use Rattle.std.specs.Prelude.{◌≡◌, ℕ, Bool, true, List, codes}
use Rattle.authority.specs.declared.catalog.CatalogError.{CatalogError}
use Rattle.authority.specs.declared.catalog.CatalogError.TheVariants.{Twins, Memory}

abbrev pub catalog_fault_number : CatalogError → ℕ
catalog_fault_number Twins = 1
catalog_fault_number Memory = 2

abbrev pub catalog_fault_text : CatalogError → List ℕ
catalog_fault_text Twins = codes "two zones have one origin"
catalog_fault_text Memory = codes "out of memory"

-- When a catalog may be refused so: where two zones have one origin; out of memory at any time.
abbrev pub CatalogRefuses : CatalogError → Bool → Type 0
CatalogRefuses Twins twins = twins ≡ true
CatalogRefuses Memory twins = Unit {0}
