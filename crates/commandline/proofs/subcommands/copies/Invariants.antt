use Rattle.std.proofs.Common.{◌≡◌, map, string_bytes, take}
use Rattle.commandline.proofs.subcommands.copies.Given as goal

abbrev pub invariant-loop-text : goal.invariant-loop-text
invariant-loop-text l = map (λ t. t.now) (take l.text-index l.texts) ≡ map string_bytes l.copies.items
