use Rattle.std.proofs.Common.{refl, min}
use Rattle.limits.specs.Limits.{latest_moment}
use Rattle.rdata.specs.Types.{type_number}
use Rattle.resolution.specs.Jobs.{Job, job_at}
use Rattle.iterate.proofs.QueryStarts.{answers_with}
use Rattle.iterate.proofs.beginning.answer_query.Goals as goal

pub returns : goal.returns
returns g c =
    let query : Job = job_at c.args.name.now (type_number c.args.kind) (min c.args.now latest_moment) in
    answers_with c.args.home.now c.args.now query c.args.stores.now c.find_end.new.stores refl c.find_end.result c.find_end.ensures
