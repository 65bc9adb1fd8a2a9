use Rattle.std.proofs.Common.{arith}
use Rattle.wire.proofs.Spelt.{spells}
use Rattle.wire.proofs.names.is_spelt.Goals as goal

pub returns : goal.returns
returns g c =
    spells c.args.letters.now c.wire.result.now c.args.name.now c.eq_ignore_ascii_case.result c.requires (λ i. omega (arith, c.type_inv.letters i)) c.well_formed_law.ensures.labels
    c.wire.ensures c.eq_ignore_ascii_case.ensures.test.0 c.eq_ignore_ascii_case.ensures.test.1
