-- The errors above the name so far are those above the name that was given: none of those between lives.
use Rattle.std.proofs.Common.{◌≡◌, length}
use Rattle.cache.specs.Keys.{NameError}
use Rattle.cache.specs.Cached.{above_to, error_above}
use Rattle.cache.specs.Hashed.{name_hash, IsHashed}
use Rattle.cache.proofs.entries.Entries.error_above.Given as goal

abbrev pub invariant-loop-key : goal.invariant-loop-key
invariant-loop-key g l = ((l.key).slot ≡ NameError) × IsHashed (name_hash g.S.Hasher.Hasher.write g.S.Hasher.Hasher.finish (g.S.BuildHasher.build_hasher (l.self).hasher)) l.key × (error_above (above_to l.top l.key.name) l.now ((l.self).lru).entries ≡ error_above (above_to l.top l.fn.key.name) l.now ((l.self).lru).entries)

abbrev pub decreases-loop-key : goal.decreases-loop-key
decreases-loop-key g l = length (above_to l.top l.key.name)
