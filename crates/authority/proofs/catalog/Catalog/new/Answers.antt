use Rattle.std.proofs.Common.{subst}
use Rattle.authority.specs.Catalogs.{IsCatalog}
use Rattle.authority.specs.Origins.{ArePlaces}
use Rattle.authority.proofs.catalog.Catalog.new.Goals as goal

pub invariant_of-result : goal.invariant_of-result
invariant_of-result g c = (subst IsCatalog c.deref.ensures.value c.in-Ok.ensures.0, subst (ArePlaces c.in-Ok.places.by_origin c.in-Ok.places.sizes) c.deref.ensures.value c.in-Ok.ensures.1)
