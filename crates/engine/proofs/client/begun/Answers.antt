use Rattle.std.proofs.Common.{subst, IfOk, OnErr, ℕ}
use Rattle.std.proofs.Math.Nat.{min-eq_left}
use Rattle.rdata.specs.Types.{type_number}
use Rattle.resolution.specs.Jobs.{Start, job_at}
use Rattle.resolution.specs.Stops.{Stops}
use Rattle.iterate.specs.Beginnings.{StartsWith}
use Rattle.runs.specs.States.{ClientQuery, job_for}
use Rattle.engine.proofs.client.begun.Goals as goal

pub returns-clause-begins : goal.returns-clause-begins
returns-clause-begins g c =
    let q = c.client_query.inside.query in
    subst (λ (w : ClientQuery). IfOk c.begin_query.result (λ b. StartsWith c.args.home.now c.args.now (job_for c.args.now w.query) c.args.stores.now b c.begin_query.new.stores)) c.client_query.view_is
    (subst (λ (m : ℕ). IfOk c.begin_query.result (λ b. StartsWith c.args.home.now c.args.now (job_at q.name (type_number q.kind) m) c.args.stores.now b c.begin_query.new.stores)) (min-eq_left c.requires)
    (rw c.deref.ensures at (rw c.deref-2.ensures at c.begin_query.ensures.begins)))

pub returns-clause-stops : goal.returns-clause-stops
returns-clause-stops g c =
    let q = c.client_query.inside.query in
    subst (λ (w : ClientQuery). OnErr c.begin_query.result (Stops c.args.home.now c.args.now Start (job_for c.args.now w.query) c.args.stores.now c.begin_query.new.stores)) c.client_query.view_is
    (subst (λ (m : ℕ). OnErr c.begin_query.result (Stops c.args.home.now c.args.now Start (job_at q.name (type_number q.kind) m) c.args.stores.now c.begin_query.new.stores)) (min-eq_left c.requires)
    (rw c.deref.ensures at (rw c.deref-2.ensures at c.begin_query.ensures.stops)))
