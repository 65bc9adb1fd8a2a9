use Rattle.std.proofs.Common.{List, subst, arith}
use Rattle.std.proofs.lemmas.Option.{slice_get_within}
use Rattle.resolution.specs.Jobs.{Taken}
use Rattle.iterate.specs.Moves.{IsTakenFrom}
use Rattle.iterate.proofs.Alive.{taken_from}
use Rattle.iterate.proofs.chain.Chain.take_from_dead.Goals as goal

pub remove-dead-requires : goal.remove-dead-requires
remove-dead-requires g c =
    let h = rw c.deref.ensures.value at c.in_ok-place.ensures in
    let lt = slice_get_within c.self.inside.links.items c.in_ok-place.place h.1 h.2 in
    omega (arith, lt, c.self.inside.links.ok.0)

pub returns : goal.returns
returns g c =
    let h = rw c.deref.ensures.value at c.in_ok-place.ensures in
    subst (λ (xs : List Taken). IsTakenFrom c.args.now xs c.remove-dead.result c.truncate.new.self.items) c.self.view_is
    (taken_from c.args.now c.self.inside.links.items c.remove-dead.new.self.items c.truncate.new.self.items c.in_ok-place.place c.remove-dead.result h.1 h.2 h.3 h.0
    c.remove-dead.ensures.value c.remove-dead.ensures.by_index.2 c.truncate.ensures.items)
