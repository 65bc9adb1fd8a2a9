use Rattle.witness.proofs.Aliases.{alias_stands}
use Rattle.witness.proofs.Cached.{cache_stands}
use Rattle.witness.proofs.Course.{laws_stand_here}
use Rattle.witness.proofs.Failing.{known_failure_stands, silence_stands, starved_stands}
use Rattle.witness.proofs.LookUps.{too_many_look_ups_stands}
use Rattle.witness.proofs.Servers.{look_up_stands}
use Rattle.witness.proofs.Streams.{stream_stands}
use Rattle.witness.proofs.standing.laws_stand.Goals as goal

pub returns : goal.returns
returns c = record { answered = laws_stand_here; silent = silence_stands; failed = known_failure_stands; starved = starved_stands; cached = cache_stands; stream = stream_stands; alias = alias_stands; look_up = look_up_stands; too_many_look_ups = too_many_look_ups_stands }
