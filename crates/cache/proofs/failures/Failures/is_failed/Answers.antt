use Rattle.std.proofs.Common.{rules, ◌≡◌}
use Rattle.lru.specs.LruCache.{lru_cache}
use Rattle.rdata.specs.Types.{type_number}
use Rattle.cache.specs.Failures.{failed_ask, after_is_failed}
use Rattle.cache.proofs.Failed.{members_after}
use Rattle.cache.proofs.failures.Failures.is_failed.Goals as goal

pub returns-clause-members : goal.returns-clause-members
returns-clause-members g c =
    let key = failed_ask c.args.name.now (type_number c.args.kind) c.args.server in
    let ok : c.recall.new.self ≡ lru_cache (after_is_failed c.args.now key c.args.self.now.entries) c.args.self.now.cap = search rules in
    members_after c.args.self.now c.recall.new.self c.args.now key ok
