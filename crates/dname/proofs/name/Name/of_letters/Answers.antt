use Rattle.std.proofs.Common.{◌∙◌, arith}
use Rattle.dname.proofs.Folds.{lower_names}
use Rattle.dname.proofs.name.Name.of_letters.Goals as goal

pub from_wire-requires : goal.from_wire-requires
from_wire-requires g c = (lower_names c.args.letters.now c.in_ok-lower.field-0 c.requires (λ i. omega (arith, c.type_inv.letters i)) c.in_ok-lower.ensures).good

pub returns : goal.returns
returns g c = c.from_wire.ensures ∙ (lower_names c.args.letters.now c.in_ok-lower.field-0 c.requires (λ i. omega (arith, c.type_inv.letters i)) c.in_ok-lower.ensures).same
