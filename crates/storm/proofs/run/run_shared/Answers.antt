use Rattle.std.proofs.lemmas.Result.{IfOk-weaker}
use Rattle.storm.proofs.Numbering.{are_numbered}
use Rattle.storm.proofs.Running.{begun_as, right}
use Rattle.storm.proofs.run.run_shared.Goals as goal

pub returns-clause-run : goal.returns-clause-run
returns-clause-run g c = IfOk-weaker c.run_all.result _ _ (λ x r. begun_as _ _ _ _ _ _ _ _ c.requires.begins.1 r) c.run_all.ensures

pub returns-clause-right : goal.returns-clause-right
returns-clause-right g c =
    IfOk-weaker c.run_all.result _ _ (λ x r. right c.args.start _ _ _ c.network_law.ensures.right c.requires.fresh (begun_as _ _ _ _ _ _ _ _ c.requires.begins.1 r)) c.run_all.ensures

pub returns-clause-numbers : goal.returns-clause-numbers
returns-clause-numbers g c =
    IfOk-weaker c.run_all.result _ _ (λ x r. are_numbered c.args.start _ _ _ c.requires.fresh (begun_as _ _ _ _ _ _ _ _ c.requires.begins.1 r)) c.run_all.ensures
