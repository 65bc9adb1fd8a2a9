use Rattle.cache.proofs.Above.{above_is_between}
use Rattle.cache.proofs.Given.{nothing_missed, miss_gives_nothing, given_lives, first_given, kept_given, look_valid, keep_valid}
use Rattle.cache.proofs.laws.given_law.Goals as goal

pub returns : goal.returns
returns c = record {
  above = above_is_between;
  missed = nothing_missed;
  miss = miss_gives_nothing;
  lives = given_lives;
  first = first_given;
  kept = λ cap a now h es valid some live other. kept_given cap a.name a.kind h es valid some a.above now live other;
  looked_valid = look_valid;
  kept_valid = keep_valid;
}
