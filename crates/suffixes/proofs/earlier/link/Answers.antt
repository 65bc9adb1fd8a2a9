use Rattle.std.proofs.Common.{refl, arith}
use Rattle.suffixes.proofs.Links.{linked_at, linked_first, led_put, led_notes, last_size}
use Rattle.suffixes.proofs.earlier.link.Goals as goal

pub returns-in-At-clause-put : goal.returns-in-At-clause-put
returns-in-At-clause-put c = linked_at _ c.args.notes.now c.args.firsts.now c.args.suffix.now c.in-At.field-0 c.requires.some c.requires.last c.requires.put c.in-At.ensures

pub returns-in-Behind-clause-put : goal.returns-in-Behind-clause-put
returns-in-Behind-clause-put c = led_put c.args.names.now c.args.notes.now c.args.firsts.now c.args.suffix.now c.in-Behind.number c.in-Behind.branch c.requires.kept c.requires.last (omega (arith, c.in-Behind.ensures.takes)) c.requires.put c.in-Behind.ensures

pub returns-in-Behind-clause-same : goal.returns-in-Behind-clause-same
returns-in-Behind-clause-same c = led_notes c.args.names.now c.args.notes.now c.in-Behind.number c.in-Behind.branch _

pub returns-in-Nowhere-clause-put : goal.returns-in-Nowhere-clause-put
returns-in-Nowhere-clause-put c =
    linked_first _ c.args.notes.now c.args.firsts.now c.args.suffix.now _ c.requires.some c.requires.short c.requires.last
    (last_size c.args.names.now c.args.notes.now c.args.suffix.now c.requires.kept c.requires.some c.requires.last) refl c.requires.put c.in-Nowhere.ensures
