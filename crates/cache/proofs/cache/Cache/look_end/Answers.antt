use Rattle.std.proofs.Common.{List, ℕ, IfOk, sym, ap, subst, ◌∙◌}
use Rattle.lru.specs.LruCache.{LruCache}
use Rattle.rdata.specs.Types.{type_number}
use Rattle.cache.specs.Keys.{Key}
use Rattle.cache.specs.Cached.{Hit}
use Rattle.cache.proofs.Ends.{Uses}
use Rattle.cache.proofs.cache.Cache.look_end.Goals as goal

pub returns-clause-ok : goal.returns-clause-ok
returns-clause-ok g c =
    let t = type_number c.args.kind in
    let q = (c.key-key.result).name in
    let before = ((c.self.inside).entries).lru in
    let found = c.look_end-found.result in
    subst (λ (n : List (List ℕ)). IfOk found (Uses n t c.args.now c.args.self.now c.put_back.new.self)) (ap (λ k. k.name) c.key-key.ensures ∙ c.in_ok-spare.ensures.name)
    (subst (λ (d : LruCache Key Hit). IfOk found (Uses q t c.args.now d c.put_back.new.self)) (c.self.view_is ∙ c.in_ok-spare.ensures.same)
    (subst (λ (d : LruCache Key Hit). IfOk found (Uses q t c.args.now before d)) (sym c.put_back.ensures) c.look_end-found.ensures.ok))
