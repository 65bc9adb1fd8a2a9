-- A link, seen as the plain value of the zones' definitions.
use Rattle.zone.specs.Links as said
use Rattle.zone.specs.declared.link.Link.{Link}
use Rattle.zone.specs.declared.link.Link.TheVariants as link

abbrev pub link_view : {H : Type 0} → Link H → said.Link
link_view (link.Found set) = said.Found set
link_view (link.Alias r) = said.Alias r
link_view (link.NoData soa) = said.NoData soa
link_view (link.NxDomain soa) = said.NxDomain soa
