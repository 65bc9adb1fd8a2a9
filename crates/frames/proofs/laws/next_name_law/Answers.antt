use Rattle.frames.proofs.Passed.{passed, spent}
use Rattle.frames.proofs.Places.{name_member, name_outside, name_shallow, name_untried, name_turn}
use Rattle.frames.proofs.laws.next_name_law.Goals as goal

pub returns : goal.returns
returns c = record {
  member = λ fs f n is. name_member fs f n is;
  outside = λ fs f n is. name_outside fs f n is;
  shallow = λ fs f n is. name_shallow fs f n is;
  untried = λ fs f n is. name_untried fs f n is;
  passed = λ fs f n. passed fs f n;
  spent = λ fs f n. spent fs f n;
  turn = λ fs f n is. name_turn fs f n is;
}
