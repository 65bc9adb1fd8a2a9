use Rattle.cache.specs.Hashed.{name_hash}
use Rattle.cache.proofs.Unpacked.{valid_shows}
use Rattle.cache.proofs.entries.Entries.well_formed_law.Goals as goal

pub returns : goal.returns
returns g c = valid_shows (λ s. name_hash g.S.Hasher.Hasher.write g.S.Hasher.Hasher.finish (g.S.BuildHasher.build_hasher s)) c.args.self.now _ c.self.inside.links c.self.view_is c.self.invariant c.len.ensures.valid
