-- The chain ends, has a ninth alias, or goes on.
use Rattle.std.proofs.Common.{rules, ◌≡◌, subst}
use Rattle.zone.specs.Links.{Alias}
use Rattle.zone.specs.Look.{Linked}
use Rattle.authority.specs.Answers.{local_view}
use Rattle.front.specs.Chains.{IsEndAt}
use Rattle.front.specs.Steps.{IsStep}
use Rattle.front.proofs.Following.{going-more}
use Rattle.worlds.proofs.Followed.{followed_to_end, followed_to_ninth}
use Rattle.worlds.proofs.hosting.follow.Goals as goal

pub returns-in-Ended : goal.returns-in-Ended
returns-in-Ended g c =
    let ends : IsEndAt (local_view c.aliases.found) c.in-Ended.end = subst (IsStep (local_view c.aliases.found)) c.in-Ended.is c.in_ok-end.ensures in
    followed_to_end _ _ _ _ _ c.aliases.invariant ends

pub returns-then-len-eq-MAX_ALIASES : goal.returns-then-len-eq-MAX_ALIASES
returns-then-len-eq-MAX_ALIASES g c =
    let onward : local_view c.aliases.found ≡ Linked (Alias c.in-Onward.alias) = subst (IsStep (local_view c.aliases.found)) c.in-Onward.is c.in_ok-end.ensures in
    followed_to_ninth _ _ _ _ _ c.aliases.invariant onward (search rules)

pub aliases-preserved : goal.aliases-preserved
aliases-preserved g c =
    let onward : local_view c.aliases.found ≡ Linked (Alias c.in-Onward.alias) = subst (IsStep (local_view c.aliases.found)) c.in-Onward.is c.in_ok-end.ensures in
    going-more _ _ _ _ _ _ _ c.aliases.invariant onward (search rules) (search rules) (search rules)
