use Rattle.std.proofs.Common.{refl}
use Rattle.rdata.specs.Types.{type_number}
use Rattle.authority.specs.Answers.{local_view}
use Rattle.lookup.proofs.Kept.{says_is}
use Rattle.lookup.proofs.Following.{peeked}
use Rattle.lookup.proofs.held.peek.Goals as goal

pub returns : goal.returns
returns g c =
    let said = local_view c.in_ok-local.local in
    peeked c.args.home.now c.args.now (type_number c.args.kind) (c.args.stores.now).cache c.args.name.now said c.in_ok-peek_by.field-0
    (says_is c.args.home.now c.catalog.result.now c.args.name.now (type_number c.args.kind) said said c.catalog.ensures c.in_ok-local.ensures.value c.in_ok-local.ensures.relation refl) c.in_ok-peek_by.ensures
