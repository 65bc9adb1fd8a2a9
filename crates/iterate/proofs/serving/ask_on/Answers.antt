use Rattle.std.proofs.Common.{refl, sym, subst}
use Rattle.std.specs.Result.{IfOk, OnErr}
use Rattle.resolution.specs.Jobs.{Search, Go, point}
use Rattle.resolution.specs.Stops.{IsPart, untouched}
use Rattle.iterate.specs.Moves.{IsMove, with_search}
use Rattle.iterate.specs.Views.{move_view}
use Rattle.iterate.proofs.Accepted.{on_err}
use Rattle.iterate.proofs.serving.ask_on.Goals as goal

pub returns-in-Some-clause-is : goal.returns-in-Some-clause-is
returns-in-Some-clause-is g c =
    let up = sym c.in-Some.ensures.value in
    c.ask.ensures c.args.home.now c.args.stores.now c.args.search up c.in-Some.ensures.member (c.requires c.in-Some.server up) c.next_address.ensures.given

pub returns-in-Some-clause-part : goal.returns-in-Some-clause-part
returns-in-Some-clause-part g c = on_err c.ask.result (untouched refl)

pub returns-in-None-clause-is : goal.returns-in-None-clause-is
returns-in-None-clause-is g c =
    subst (λ (s : Search). IfOk c.go_further.result (λ t. IsMove c.args.home.now c.args.now (point Go (with_search c.args.job.now s) c.args.stores.now) (move_view t) c.go_further.new.job c.go_further.new.stores))
    c.in-None.ensures.none c.go_further.ensures.is

pub returns-in-None-clause-part : goal.returns-in-None-clause-part
returns-in-None-clause-part g c =
    subst (λ (s : Search). OnErr c.go_further.result (IsPart c.args.home.now c.args.now (point Go (with_search c.args.job.now s) c.args.stores.now) c.go_further.new.stores))
    c.in-None.ensures.none c.go_further.ensures.part
