use Rattle.std.proofs.Common.{rules, ◌≡◌, Some, None}
use Rattle.std.specs.Map.{lookup}
use Rattle.cache.specs.Hashed.{name_hash, same_hashed}
use Rattle.cache.proofs.Unpacked.{live_found, dead_found, none_found}
use Rattle.cache.proofs.entries.Entries.live_at.Goals as goal
use Rattle.cache.proofs.entries.Entries.live_at.Goals.{in_default-via-in-Some+else-is_live, in_default-via-in_default}

pub returns-in-Some : goal.returns-in-Some
returns-in-Some g c =
    let found : lookup (same_hashed c.args.key.now) c.self.inside.links.entries ≡ Some c.in-Some.kept.now = search rules in
    live_found (λ s. name_hash g.S.Hasher.Hasher.write g.S.Hasher.Hasher.finish (g.S.BuildHasher.build_hasher s)) c.args.self.now _ c.self.inside.links c.self.view_is c.self.invariant c.args.key.now c.requires c.args.now c.in-Some.kept.now c.is_live.result found (c.is_live.ensures c.args.key.now.name) c.if-is_live.true

pub returns-in_default : goal.returns-in_default
returns-in_default g c = elim c.in_default.branch [
  | in_default-via-in-Some+else-is_live w ↦
      let found : lookup (same_hashed c.args.key.now) c.self.inside.links.entries ≡ Some w.in-Some.kept.now = search rules in
      dead_found (λ s. name_hash g.S.Hasher.Hasher.write g.S.Hasher.Hasher.finish (g.S.BuildHasher.build_hasher s)) c.args.self.now _ c.self.inside.links c.self.view_is c.self.invariant c.args.key.now c.requires c.args.now w.in-Some.kept.now w.is_live.result found (w.is_live.ensures c.args.key.now.name) w.if-is_live.false
  | in_default-via-in_default w ↦
      let found : lookup (same_hashed c.args.key.now) c.self.inside.links.entries ≡ None = search rules in
      none_found (λ s. name_hash g.S.Hasher.Hasher.write g.S.Hasher.Hasher.finish (g.S.BuildHasher.build_hasher s)) c.args.self.now _ c.self.inside.links c.self.view_is c.self.invariant c.args.key.now c.requires c.args.now found
]
