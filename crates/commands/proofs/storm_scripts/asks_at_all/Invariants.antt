-- The scripts so far.
use Rattle.std.proofs.Common.{◌≡◌, map, string_bytes, take}
use Rattle.script.specs.Orders.{order_seen}
use Rattle.commands.specs.Storms.{HoldAsks}
use Rattle.commands.proofs.storm_scripts.asks_at_all.Given as goal

abbrev pub invariant-loop-path : goal.invariant-loop-path
invariant-loop-path g l =
    (g.T.Texts.held l.texts ≡ g.T.Texts.held l.initial.texts)
    × HoldAsks (λ p. g.T.Texts.held l.initial.texts (string_bytes p)) (take l.path-index l.paths) (map (λ s. map order_seen s.items) l.scripts.items)
