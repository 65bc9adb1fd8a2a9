use Rattle.std.proofs.Common.{◌∙◌, ap, sym}
use Rattle.zone.specs.Views.{link_view}
use Rattle.cache.specs.Cached.{as_alias}
use Rattle.cache.proofs.Unpacked.{first_alias}
use Rattle.cache.proofs.hit.alias_of.Goals as goal

pub returns-in_ok-first-in-Found : goal.returns-in_ok-first-in-Found
returns-in_ok-first-in-Found g c =
    first_alias _ c.in_ok-first-in-Found.field-0 c.in_ok-first-in-Found.ensures ∙ sym (ap (λ l. as_alias (link_view l)) c.in-Found.is)
