use Rattle.std.proofs.Common.{◌∙◌, sym, subst}
use Rattle.lru.specs.LruCache.{LruCache}
use Rattle.lru_laws.specs.Orders.{HasSame}
use Rattle.cache.specs.Keys.{Key}
use Rattle.cache.specs.Cached.{Hit}
use Rattle.cache.proofs.cache.Cache.look.Goals as goal

pub returns-clause-members : goal.returns-clause-members
returns-clause-members g c =
    subst (λ (d : LruCache Key Hit). HasSame c.args.self.now.entries d.entries) (sym c.put_back.ensures)
    (subst (λ (d : LruCache Key Hit). HasSame d.entries ((c.look_at.new.self).lru).entries) (c.self.view_is ∙ c.in_ok-spare.ensures.same) c.in_ok-hit.ensures.members)
