-- By the way of the ask.
use Rattle.std.proofs.Common.{Some, sym, ◌∙◌, ap}
use Rattle.wire.specs.declared.via.Via.{Via}
use Rattle.play.specs.Plays.{take_truncated}
use Rattle.play.proofs.follow.take_truncated.Goals as goal

pub returns-in-None : goal.returns-in-None
returns-in-None g c = ap (take_truncated c.args.sends.now.marks c.args.number) (sym c.in-None.is ∙ c.way.ensures)

pub returns-in-Some-Udp : goal.returns-in-Some-Udp
returns-in-Some-Udp g c =
    c.take_off.ensures.marks
    ∙ ap (take_truncated c.args.sends.now.marks c.args.number) (ap (λ (way : Via). Some way) (sym c.in-Some-Udp.field-0-is) ∙ sym c.in-Some-Udp.is ∙ c.way.ensures)

pub returns-in-Some-Tcp : goal.returns-in-Some-Tcp
returns-in-Some-Tcp g c =
    ap (take_truncated c.args.sends.now.marks c.args.number) (ap (λ (way : Via). Some way) (sym c.in-Some-Tcp.field-0-is) ∙ sym c.in-Some-Tcp.is ∙ c.way.ensures)
