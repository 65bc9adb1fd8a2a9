use Rattle.std.proofs.Common.{refl, ap, ◌∙◌, ◌+◌}
use Rattle.zone.specs.Zones.{a_type}
use Rattle.frames.specs.Frames.{opened}
use Rattle.resolution.specs.Jobs.{level_of, search_at, looked_up}
use Rattle.resolution.specs.Rules.{hears, descends}
use Rattle.iterate.specs.Moves.{with_search}
use Rattle.lookup.proofs.Uses.{found_part}
use Rattle.iterate.proofs.Accepted.{on_err}
use Rattle.iterate.proofs.Sought.{finds_at, misses_at, found_name, heard_at}
use Rattle.iterate.proofs.serving.look_for.Goals as goal

pub returns-in_ok-heard-in-Ok-Known-clause-rule : goal.returns-in_ok-heard-in-Ok-Known-clause-rule
returns-in_ok-heard-in-Ok-Known-clause-rule g c = λ before up next is.
    let link = c.in-Ok-Known.link in
    let finds = finds_at c.args.home.now c.args.now c.args.name c.args.name a_type a_type c.args.stores.now c.in-Ok-Known.field-0 c.find.new.stores refl refl c.in-Ok-Known.ensures.found link c.in-Ok-Known.field-0-is in
    let (after, marks, heard, job) = c.in_ok-heard-in-Ok-Known.ensures in
    hears before after c.args.job.now.searches c.args.name link marks refl (record { searches = refl; asked_all = up; turn = next; few = c.requires.few }) finds
    (heard_at c.find.new.stores link.name c.args.name link.link c.args.search _ c.args.job.now.failed after marks
    (found_name c.args.home.now c.args.now c.args.name a_type c.args.stores.now link c.find.new.stores finds) is heard)
    refl (c.count_look_up.ensures ∙ ap looked_up job)

pub returns-in_ok-sought-in-Ok-Start-clause-rule : goal.returns-in_ok-sought-in-Ok-Start-clause-rule
returns-in_ok-sought-in-Ok-Start-clause-rule g c = λ before up next is.
    let cut = c.in-Ok-Start.cut in
    let misses = misses_at c.args.home.now c.args.now c.args.name c.args.name a_type a_type c.args.stores.now c.in-Ok-Start.field-0 c.find.new.stores refl refl c.in-Ok-Start.ensures.found cut c.in-Ok-Start.field-0-is in
    descends before c.args.job.now.searches c.args.name cut refl (record { searches = refl; asked_all = up; turn = next; few = c.requires.few }) misses refl
    (c.count_look_up-in-Ok-Start.ensures ∙ ap looked_up (c.in_ok-sought-in-Ok-Start.ensures ∙ (λ i. with_search (with_search c.args.job.now (is i)) (search_at c.args.name a_type (opened (level_of c.find.new.stores) (((is i).frame).nesting + 1) cut)))))

pub returns-in_err-heard-in-Ok-Known-clause-part : goal.returns-in_err-heard-in-Ok-Known-clause-part
returns-in_err-heard-in-Ok-Known-clause-part g c = on_err c.from_residual.result (found_part c.args.home.now c.args.now c.args.name a_type c.args.stores.now c.in-Ok-Known.field-0 c.find.new.stores c.in-Ok-Known.ensures.found)

pub returns-in_err-sought-in-Ok-Start-clause-part : goal.returns-in_err-sought-in-Ok-Start-clause-part
returns-in_err-sought-in-Ok-Start-clause-part g c = on_err c.from_residual-in_err-sought-in-Ok-Start.result (found_part c.args.home.now c.args.now c.args.name a_type c.args.stores.now c.in-Ok-Start.field-0 c.find.new.stores c.in-Ok-Start.ensures.found)
