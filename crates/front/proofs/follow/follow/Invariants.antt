-- The aliases so far lead from the asked name to the one that was looked up last.
use Rattle.std.proofs.Common.{◌-◌, length}
use Rattle.rdata.specs.Types.{type_number}
use Rattle.zone.specs.Look.{Linked}
use Rattle.zone.specs.Views.{link_view}
use Rattle.authority.specs.Answers.{local_view}
use Rattle.authority.specs.Catalogs.{looked}
use Rattle.front.proofs.Following.{Going}
use Rattle.front.proofs.follow.follow.Given as goal

abbrev pub invariant-aliases : goal.invariant-aliases
invariant-aliases g l = Going (λ name. looked l.catalog name (type_number l.kind)) (Linked (link_view l.fn.first)) l.aliases (local_view l.found)

abbrev pub decreases-aliases : goal.decreases-aliases
decreases-aliases g l = 9 - length l.aliases
