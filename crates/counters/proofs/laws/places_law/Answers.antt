-- Each counter is found again by its place.
use Rattle.counters.proofs.Places.{same_place}
use Rattle.counters.proofs.laws.places_law.Goals as goal

pub returns : goal.returns
returns c = same_place
