use Rattle.std.proofs.Common.{◌∙◌, ap, sym}
use Rattle.cache.specs.Cached.{as_alias}
use Rattle.cache.specs.Forms.{form_view}
use Rattle.cache.specs.Packed.{link_of}
use Rattle.cache.proofs.Unpacked.{first_alias}
use Rattle.cache.proofs.packed.Form.as_alias.Goals as goal

pub returns-in_ok-first_of_shared-in-Many : goal.returns-in_ok-first_of_shared-in-Many
returns-in_ok-first_of_shared-in-Many g c =
    first_alias _ c.in_ok-first_of_shared-in-Many.field-0 c.in_ok-first_of_shared-in-Many.ensures
    ∙ sym (ap (λ f. as_alias (link_of c.args.name.now c.args.ttl (form_view f))) c.in-Many.is)
