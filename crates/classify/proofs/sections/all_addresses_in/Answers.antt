use Rattle.std.proofs.Common.{[], ◌∷◌, ◌++◌, ◌∙◌, List, sym, ap, subst}
use Rattle.std.specs.List.Sorted.{IsSorted}
use Rattle.std.specs.Prelude.{filter}
use Rattle.dname.specs.Labels.{Name}
use Rattle.dname.specs.Order.{name_cmp}
use Rattle.classify.specs.Targets.{is_given}
use Rattle.classify.proofs.Walking.{chosen_on, chosen_all, all_given}
use Rattle.classify.proofs.sections.all_addresses_in.Goals as goal

pub put_given-requires : goal.put_given-requires
put_given-requires g c = subst (λ (names : List Name). IsSorted name_cmp names) (sym c.deref.ensures.value) c.in_ok-targets.ensures.sorted

pub loop-found-preserved : goal.loop-found-preserved
loop-found-preserved g c =
    let given = is_given c.args.zone.now c.in_ok-targets.targets.items in
    let put = c.in_ok-put_given.ensures ∙ ap (λ (names : List Name). c.loop-found.addresses ++ filter (is_given c.args.zone.now names) (c.in-Some.found ∷ [])) c.deref.ensures.value in
    chosen_on given (filter given c.args.section) c.loop-found.addresses c.put_given.new.addresses c.loop-found.section c.next.new.self c.in-Some.found c.loop-found.invariant c.in-Some.ensures put

pub returns : goal.returns
returns g c =
    let given = is_given c.args.zone.now c.in_ok-targets.targets.items in
    chosen_all given (filter given c.args.section) c.loop-found.addresses c.loop-found.section c.loop-found.invariant c.in_default.ensures
    ∙ all_given c.args.zone.now c.args.servers.now c.in_ok-targets.targets.items c.in_ok-targets.ensures.members c.args.section
