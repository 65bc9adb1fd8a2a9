use Rattle.std.proofs.Common.{◌≡◌, sym, ap, subst}
use Rattle.lru.specs.LruCache.{lru_cache}
use Rattle.retry.specs.Penalties.{answered, AreAtMost}
use Rattle.retry.proofs.Steps.{halved_is, missed_is, answered_only, answered_gone, answered_most}
use Rattle.retry.proofs.penalties.Penalties.answered.Goals as goal
use Rattle.retry.proofs.penalties.Penalties.answered.Goals.{in-Some, in_default}

pub returns-clause-value : goal.returns-clause-value
returns-clause-value g c =
    subst (λ n. c.match-get_mut.self-inside.levels ≡ lru_cache (answered c.args.addr n.entries) n.cap) c.self.view_is
    (elim c.match-get_mut.branch [
      | in-Some w ↦ halved_is c.self.inside.levels c.match-get_mut.self-inside.levels c.args.addr w.in-Some.level.now (sym w.in-Some.ensures.value) (ap (λ x. x.levels) w.self-inside-is)
      | in_default w ↦ missed_is c.self.inside.levels c.match-get_mut.self-inside.levels c.args.addr (sym w.in_default.ensures.value) (ap (λ x. x.levels) w.self-inside-is)
    ])

pub returns-clause-only : goal.returns-clause-only
returns-clause-only g c = answered_only c.args.self.now c.match-get_mut.self-inside.levels c.args.addr (returns-clause-value g c)

pub returns-clause-gone : goal.returns-clause-gone
returns-clause-gone g c = answered_gone c.args.self.now c.match-get_mut.self-inside.levels c.args.addr (returns-clause-value g c)

pub invariant_of-self : goal.invariant_of-self
invariant_of-self g c =
    answered_most c.args.self.now c.match-get_mut.self-inside.levels c.args.addr (returns-clause-value g c) (subst (λ n. AreAtMost 8 n.entries) c.self.view_is c.self.invariant)
