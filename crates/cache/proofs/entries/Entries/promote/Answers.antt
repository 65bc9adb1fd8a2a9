use Rattle.cache.specs.Hashed.{name_hash}
use Rattle.cache.proofs.Unpacked.{promoted_shows}
use Rattle.cache.proofs.entries.Entries.promote.Goals as goal

pub returns : goal.returns
returns g c = (promoted_shows (λ s. name_hash g.S.Hasher.Hasher.write g.S.Hasher.Hasher.finish (g.S.BuildHasher.build_hasher s)) c.args.self.now _ c.self.inside.links c.self.view_is c.self.invariant c.args.key.now c.requires c.promote.new.self c.promote.ensures.entries).0

pub invariant_of-self : goal.invariant_of-self
invariant_of-self g c = (promoted_shows (λ s. name_hash g.S.Hasher.Hasher.write g.S.Hasher.Hasher.finish (g.S.BuildHasher.build_hasher s)) c.args.self.now _ c.self.inside.links c.self.view_is c.self.invariant c.args.key.now c.requires c.promote.new.self c.promote.ensures.entries).1
