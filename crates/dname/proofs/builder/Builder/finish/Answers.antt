use Rattle.std.proofs.Common.{◌∙◌, ap}
use Rattle.dname.specs.Wire.{labels_of}
use Rattle.dname.proofs.Drafts.{finish_names}
use Rattle.dname.proofs.builder.Builder.finish.Goals as goal

pub from_wire-requires : goal.from_wire-requires
from_wire-requires g c = rw c.of_vec.ensures (finish_names c.self.inside.bytes.items c.self.inside.start c.args.self c.self.invariant c.self.view_is c.requires).good

pub returns : goal.returns
returns g c = c.from_wire.ensures ∙ ap labels_of c.of_vec.ensures ∙ (finish_names c.self.inside.bytes.items c.self.inside.start c.args.self c.self.invariant c.self.view_is c.requires).same
