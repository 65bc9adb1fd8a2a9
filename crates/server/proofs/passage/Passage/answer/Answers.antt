use Rattle.server.proofs.Steps.{kept_of}
use Rattle.server.proofs.passage.Passage.answer.Goals as goal

pub invariant_of-self : goal.invariant_of-self
invariant_of-self g c = record {
  reads = c.self.invariant.reads;
  gave = kept_of g.M.Machine.moves g.M.Machine.begins c.args.ticket.now c.answer_locked.new.ticket c.self.inside.parsed c.in-Some.given c.ok.result c.ok.ensures.value c.in-Some.ensures.ok;
}
