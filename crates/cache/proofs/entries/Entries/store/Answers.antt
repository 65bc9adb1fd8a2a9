use Rattle.std.proofs.lemmas.Result.{on_ok_weaker}
use Rattle.cache.specs.Hashed.{name_hash}
use Rattle.cache.proofs.Unpacked.{stored_shows, stored_hashed}
use Rattle.cache.proofs.entries.Entries.store.Goals as goal

pub returns-clause-ok : goal.returns-clause-ok
returns-clause-ok g c =
    on_ok_weaker c.keep_for.result
    (λ is. (stored_shows (λ s. name_hash g.S.Hasher.Hasher.write g.S.Hasher.Hasher.finish (g.S.BuildHasher.build_hasher s)) c.args.self.now _ c.self.inside.links c.self.view_is c.self.invariant c.args.key c.requires c.args.packed c.ttl-ttl.result c.keep_for.new.entries is c.ttl-ttl.ensures).0) c.keep_for.ensures.ok

pub invariant_of-self : goal.invariant_of-self
invariant_of-self g c =
    stored_hashed (λ s. name_hash g.S.Hasher.Hasher.write g.S.Hasher.Hasher.finish (g.S.BuildHasher.build_hasher s)) c.args.self.now _ c.self.inside.links c.self.view_is c.self.invariant c.args.key c.requires c.keep_for.result c.args.packed c.ttl-ttl.result c.keep_for.new.entries
    c.keep_for.ensures.ok c.keep_for.ensures.err
