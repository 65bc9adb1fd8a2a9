use Rattle.std.proofs.Common.{subst, ap, ◌∙◌, IfOk, OnErr, min}
use Rattle.dname.specs.Labels.{Name}
use Rattle.limits.specs.Limits.{latest_moment}
use Rattle.rdata.specs.Types.{type_number}
use Rattle.resolution.specs.Jobs.{Job, job_at, Start}
use Rattle.resolution.specs.Stops.{Stops}
use Rattle.iterate.specs.Beginnings.{StartsWith}
use Rattle.iterate.proofs.QueryStarts.{found_of, stops_found}
use Rattle.iterate.proofs.beginning.work.Goals as goal

pub set_out-requires : goal.set_out-requires
set_out-requires g c =
    let t = type_number c.args.kind in (
      c.requires.0,
      found_of c.args.home.now c.args.now (job_at c.args.name.now t (min c.args.now latest_moment)) c.new.result c.requires.0 c.args.stores.now c.args.found
          (c.new.ensures ∙ ap (λ (n : Name). job_at n t (min c.args.now latest_moment)) c.in-Ok.ensures) c.requires.1,
    )

pub returns-in-Ok-clause-begins : goal.returns-in-Ok-clause-begins
returns-in-Ok-clause-begins g c = λ before found.
    let t = type_number c.args.kind in
    let is = c.new.ensures ∙ ap (λ (n : Name). job_at n t (min c.args.now latest_moment)) c.in-Ok.ensures in
    subst (λ (j : Job). IfOk c.set_out.result (λ b. StartsWith c.args.home.now c.args.now j before b c.set_out.new.stores)) is
    (c.set_out.ensures.begins before (found_of c.args.home.now c.args.now (job_at c.args.name.now t (min c.args.now latest_moment)) c.new.result before c.args.stores.now c.args.found is found))

pub returns-in-Err-clause-stops : goal.returns-in-Err-clause-stops
returns-in-Err-clause-stops g c = λ before found. stops_found c.args.home.now c.args.now (job_at c.args.name.now (type_number c.args.kind) (min c.args.now latest_moment)) before c.args.found c.args.stores.now found

pub returns-in-Ok-clause-stops : goal.returns-in-Ok-clause-stops
returns-in-Ok-clause-stops g c = λ before found.
    let t = type_number c.args.kind in
    let is = c.new.ensures ∙ ap (λ (n : Name). job_at n t (min c.args.now latest_moment)) c.in-Ok.ensures in
    subst (λ (j : Job). OnErr c.set_out.result (Stops c.args.home.now c.args.now Start j before c.set_out.new.stores)) is
    (c.set_out.ensures.stops before (found_of c.args.home.now c.args.now (job_at c.args.name.now t (min c.args.now latest_moment)) c.new.result before c.args.stores.now c.args.found is found))
