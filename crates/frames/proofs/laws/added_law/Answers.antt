use Rattle.frames.proofs.Steps.{added_only, added_kept, added_there, added_once}
use Rattle.frames.proofs.laws.added_law.Goals as goal

pub returns : goal.returns
returns c = record {
  only = λ level f found a. added_only level f found a;
  kept = λ level f found. added_kept level f found;
  there = λ level f found. added_there level f found;
  once = λ level f found. added_once level f found;
}
