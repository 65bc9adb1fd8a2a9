use Rattle.std.proofs.Common.{sym, ◌∙◌}
use Rattle.lru.specs.LruCache.{lru_cache, promoted}
use Rattle.cache.specs.Failures.{same_failed}
use Rattle.cache.proofs.Failed.{lives_first}
use Rattle.cache.proofs.failures.Failures.recall.Goals as goal

pub returns-then-lives-clause-entries : goal.returns-then-lives-clause-entries
returns-then-lives-clause-entries g c =
    lives_first c.args.self.now c.promote.new.self c.args.now c.args.key.now (sym c.lives-lives.ensures ∙ c.if-lives.true)
    (c.promote.ensures.entries ∙ (λ i. lru_cache (promoted (same_failed c.args.key.now) (c.self.view_is i).entries) (c.self.view_is i).cap))
