use Rattle.std.proofs.Common.{[], ◌∷◌, ◌++◌, ◌∙◌, ◌<◌, ◌≤◌, List, sym, ap, subst, arith}
use Rattle.std.specs.List.Sorted.{IsSorted}
use Rattle.std.specs.Prelude.{filter}
use Rattle.dname.specs.Labels.{Name}
use Rattle.dname.specs.Order.{name_cmp}
use Rattle.classify.specs.Targets.{is_given}
use Rattle.classify.proofs.Walking.{chosen_on, few_on, first_full, first_all, given_is_taken}
use Rattle.classify.proofs.sections.addresses_in.Goals as goal

pub put_given-requires : goal.put_given-requires
put_given-requires g c = subst (λ (names : List Name). IsSorted name_cmp names) (sym c.deref.ensures.value) c.in_ok-targets.ensures.sorted

pub loop-found-preserved : goal.loop-found-preserved
loop-found-preserved g c =
    let given = is_given c.args.zone.now c.in_ok-targets.targets.items in
    let room : c.len.result < 256 = omega (arith, c.if-len-ge-MAX_GLUE.false) in
    let put = c.in_ok-put_given.ensures ∙ ap (λ (names : List Name). c.loop-found.addresses ++ filter (is_given c.args.zone.now names) (c.in-Some.found ∷ [])) c.deref.ensures.value in (
      chosen_on given (filter given c.args.section) c.loop-found.addresses c.put_given.new.addresses c.loop-found.section c.next.new.self c.in-Some.found c.loop-found.invariant.0 c.in-Some.ensures put,
      few_on given c.loop-found.addresses c.put_given.new.addresses c.in-Some.found 256 c.len.result c.len.ensures room put,
    )

pub returns-then-len-ge-MAX_GLUE : goal.returns-then-len-ge-MAX_GLUE
returns-then-len-ge-MAX_GLUE g c =
    let given = is_given c.args.zone.now c.in_ok-targets.targets.items in
    let full : 256 ≤ c.len.result = omega (arith, c.if-len-ge-MAX_GLUE.true) in
    first_full given (filter given c.args.section) c.loop-found.addresses c.loop-found.section 256 c.len.result c.loop-found.invariant.0 c.loop-found.invariant.1 c.len.ensures full
    ∙ given_is_taken c.args.zone.now c.args.servers.now c.in_ok-targets.targets.items c.in_ok-targets.ensures.members c.args.section

pub returns : goal.returns
returns g c =
    let given = is_given c.args.zone.now c.in_ok-targets.targets.items in
    first_all given (filter given c.args.section) c.loop-found.addresses c.loop-found.section 256 c.loop-found.invariant.0 c.loop-found.invariant.1 c.in_default.ensures
    ∙ given_is_taken c.args.zone.now c.args.servers.now c.in_ok-targets.targets.items c.in_ok-targets.ensures.members c.args.section
