use Rattle.std.proofs.Common.{◌≡◌, ℕ, true, ap, ◌∙◌, rules}
use Rattle.dname.specs.Labels.{same_name}
use Rattle.zone.specs.Views.{link_view}
use Rattle.resolution.specs.Jobs.{Accepted}
use Rattle.lookup.specs.Views.{owner_in, taken_at}
use Rattle.lookup.proofs.Owners.{taken_own}
use Rattle.lookup.proofs.taken.Taken.accepted.Goals as goal

pub returns-then-eq : goal.returns-then-eq
returns-then-eq g c =
    let own : same_name (owner_in (link_view c.args.link)) c.args.name ≡ true = search rules in
    taken_own (link_view c.args.link) c.args.name (Accepted c.lifetime-ttl.result c.args.now) own
    ∙ ap (λ (ttl : ℕ). taken_at c.args.name (link_view c.args.link) (Accepted ttl c.args.now)) c.lifetime-ttl.ensures.value
