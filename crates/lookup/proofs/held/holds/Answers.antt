use Rattle.limits.specs.Limits.{max_aliases}
use Rattle.rdata.specs.Types.{type_number}
use Rattle.lookup.proofs.Following.{begins, decided, stopped, follows}
use Rattle.lookup.proofs.held.holds.Goals as goal

pub aliases-init : goal.aliases-init
aliases-init g c = begins c.args.home.now c.args.now (type_number c.args.kind) (c.args.stores.now).cache c.args.name.now max_aliases c.in_ok-link.link c.in_ok-link.ensures

pub returns-in_default : goal.returns-in_default
returns-in_default g c =
    decided c.args.home.now c.args.now (type_number c.args.kind) (c.args.stores.now).cache c.args.name.now max_aliases c.aliases.link c.aliases.left c.aliases.invariant
    c.in_default.ensures c.is_some.result c.is_some.ensures

pub returns-then-left-eq0 : goal.returns-then-left-eq0
returns-then-left-eq0 g c =
    stopped c.args.home.now c.args.now (type_number c.args.kind) (c.args.stores.now).cache c.args.name.now max_aliases c.aliases.link c.aliases.left c.aliases.invariant
    c.in-Some.target.now c.in-Some.ensures c.if-left-eq0.true

pub aliases-preserved : goal.aliases-preserved
aliases-preserved g c =
    follows c.args.home.now c.args.now (type_number c.args.kind) (c.args.stores.now).cache c.args.name.now max_aliases c.aliases.link c.aliases.left c.aliases.invariant
    c.in-Some.target.now c.in_ok-link-2.link c.in-Some.ensures c.if-left-eq0.false c.in_ok-link-2.ensures
