use Rattle.std.proofs.Common.{sym, ap, ◌∙◌}
use Rattle.std.specs.Map.{remove_entry}
use Rattle.lru.specs.LruCache.{lru_cache}
use Rattle.zone.specs.Views.{link_view}
use Rattle.cache.specs.Keys.{same_key}
use Rattle.cache.proofs.Steps.{swept_is}
use Rattle.cache.specs.Hashed.{name_hash}
use Rattle.cache.proofs.Unpacked.{popped_shows}
use Rattle.cache.proofs.entries.Entries.sweep.Goals as goal

pub returns-then-not-denies : goal.returns-then-not-denies
returns-then-not-denies g c =
    (popped_shows (λ s. name_hash g.S.Hasher.Hasher.write g.S.Hasher.Hasher.finish (g.S.BuildHasher.build_hasher s)) c.args.self.now _ c.self.inside.links c.self.view_is c.self.invariant c.args.error.now c.requires.hashed c.pop.new.self c.pop.ensures.entries).0
    ∙ ap (λ es. record c.args.self.now { lru = lru_cache es ((c.args.self.now).lru).cap }) (ap (λ k. remove_entry (same_key k) ((c.args.self.now).lru).entries) c.requires.is
    ∙ swept_is c.args.error.now.name (link_view c.args.link.now) ((c.args.self.now).lru).entries (sym c.if-not-denies.ensures))

pub invariant_of-self : goal.invariant_of-self
invariant_of-self g c = (popped_shows (λ s. name_hash g.S.Hasher.Hasher.write g.S.Hasher.Hasher.finish (g.S.BuildHasher.build_hasher s)) c.args.self.now _ c.self.inside.links c.self.view_is c.self.invariant c.args.error.now c.requires.hashed c.pop.new.self c.pop.ensures.entries).1
