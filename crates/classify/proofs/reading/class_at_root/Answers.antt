use Rattle.std.proofs.Common.{sym, ap, subst, ◌∙◌}
use Rattle.dname.specs.Labels.{Name}
use Rattle.rdata.specs.Types.{type_number}
use Rattle.classify.specs.Classes.{class_of}
use Rattle.classify.specs.Narrowed.{IsCut, uncut}
use Rattle.classify.proofs.Uncut.{class_cut}
use Rattle.classify.proofs.reading.class_at_root.Goals as goal

pub uncut-requires : goal.uncut-requires
uncut-requires g c =
    subst (IsCut c.in_ok-root.root c.args.message.now) (sym c.in_ok-class.ensures) (class_cut c.in_ok-root.root c.args.name.now (type_number c.args.kind) c.args.message.now c.args.via)

pub returns : goal.returns
returns g c =
    c.in_ok-uncut.ensures
    ∙ (ap (uncut c.in_ok-root.root c.args.message.now) c.in_ok-class.ensures
    ∙ ap (λ (r : Name). uncut r c.args.message.now (class_of r c.args.name.now (type_number c.args.kind) c.args.via c.args.message.now)) c.in_ok-root.ensures)
