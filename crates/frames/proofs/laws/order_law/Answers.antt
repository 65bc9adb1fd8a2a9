use Rattle.frames.proofs.Plans.{in_plan, twice_each, whole_plan}
use Rattle.frames.proofs.Steps.{planned_members, order_members}
use Rattle.frames.proofs.laws.order_law.Goals as goal

pub returns : goal.returns
returns c = record {
  planned = λ level given. planned_members level given;
  members = λ level given order. order_members level given order;
  complete = λ level given a. in_plan level given a;
  twice = λ level given a. twice_each level given a;
  whole = λ level given. whole_plan level given;
}
