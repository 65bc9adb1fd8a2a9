use Rattle.std.proofs.Common.{◌≡◌, true, rules}
use Rattle.dname.specs.Labels.{same_name}
use Rattle.zone.specs.Views.{link_view}
use Rattle.lookup.specs.Views.{owner_in, source_view}
use Rattle.lookup.proofs.Owners.{taken_own}
use Rattle.lookup.proofs.taken.named.Goals as goal

pub returns-then-eq : goal.returns-then-eq
returns-then-eq g c =
    let own : same_name (owner_in (link_view c.args.link)) c.args.name.now ≡ true = search rules in
    taken_own (link_view c.args.link) c.args.name.now (source_view c.args.source) own
