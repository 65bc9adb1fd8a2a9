use Rattle.std.proofs.Common.{Err, sym, ap, ◌∙◌}
use Rattle.masterfile.proofs.FieldLemmas.{long_address}
use Rattle.masterfile.proofs.addresses.ipv4.Goals as goal

pub returns-in-Some-behind-3 : goal.returns-in-Some-behind-3
returns-in-Some-behind-3 c =
    let a = rw c.in-Some.is at (c.in_ok-a.ensures {u = tt}).value in
    let b = rw c.in-Some-behind.is at (c.in_ok-b.ensures {u = tt}).value in
    let d = rw c.in-Some-behind-2.is at (c.in_ok-c.ensures {u = tt}).value in
    let e = rw c.in-Some-behind-3.is at (c.in_ok-d.ensures {u = tt}).value in
    long_address c.args.word.now c.in-Some.second.now c.in-Some-behind.third.now c.in-Some-behind-2.fourth.now c.in-Some-behind-3.rest.now c.in_ok-a.a c.in_ok-b.b c.in_ok-c.c c.in_ok-d.d a b d e
    ∙ ap Err (sym c.surplus.ensures)
