use Rattle.cache.proofs.Members.{looked_members, kept_members, kept_is_there, lost_members, given_held}
use Rattle.cache.proofs.laws.members_law.Goals as goal

pub returns : goal.returns
returns c = record { looked = looked_members; only = kept_members; there = kept_is_there; gone = lost_members; held = given_held }
