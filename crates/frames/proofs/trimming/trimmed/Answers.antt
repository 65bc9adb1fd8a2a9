use Rattle.frames.proofs.Trims.{trimmed_is}
use Rattle.frames.proofs.trimming.trimmed.Goals as goal

pub returns : goal.returns
returns g c =
    trimmed_is _ c.args.cut.now c.as_slice-servers.result.now c.in_ok-addresses.addresses c.in_ok-taken.taken.items c.deref.result.now c.as_slice.result.now c.first_names-first.result.now
    c.in_ok-names.names c.in_ok-owner.owner c.cut.view_is c.as_slice-servers.ensures c.as_slice.ensures c.first_names-first.ensures c.in_ok-taken.ensures c.deref.ensures.value c.in_ok-addresses.ensures
    c.in_ok-names.ensures c.in_ok-owner.ensures.cases
