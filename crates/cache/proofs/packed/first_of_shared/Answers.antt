use Rattle.cache.proofs.Unpacked.{first_with}
use Rattle.cache.proofs.packed.first_of_shared.Goals as goal

pub returns : goal.returns
returns g c =
    first_with c.args.name.now c.args.ttl c.as_slice.result.now c.index-as_slice-0.result c.in_ok-owned.field-0 c.args.items.now c.as_slice.ensures.is c.as_slice.ensures.some c.index-as_slice-0.is
    c.in_ok-owned.ensures
