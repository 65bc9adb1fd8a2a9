use Rattle.std.proofs.Common.{◌≡◌, ◌∙◌, Ok, true, false, sym, ap, refl}
use Rattle.masterfile.specs.Addresses.{has_dot}
use Rattle.masterfile.proofs.FieldLemmas.{any_dot}
use Rattle.masterfile.proofs.Ipv6Lemmas.{ipv6_read, ipv6_unread}
use Rattle.masterfile.proofs.addresses.ipv6.Goals as goal

pub returns-in-Ok : goal.returns-in-Ok
returns-in-Ok c =
    let dots : has_dot c.args.word.now ≡ false = sym (any_dot c.args.word.now c.contains.result c.contains.ensures.value) ∙ c.if-contains.false in
    rw (dots, ipv6_read c.args.word.now c.in-Ok.address (c.in-Ok.ensures {u = tt})) (ap Ok (sym c.octets.ensures))

pub returns-in-Err : goal.returns-in-Err
returns-in-Err c =
    let dots : has_dot c.args.word.now ≡ false = sym (any_dot c.args.word.now c.contains.result c.contains.ensures.value) ∙ c.if-contains.false in
    rw (dots, ipv6_unread c.args.word.now (c.in-Err.ensures {u = tt})) refl

pub returns-then-contains : goal.returns-then-contains
returns-then-contains c =
    let dots : has_dot c.args.word.now ≡ true = sym (any_dot c.args.word.now c.contains.result c.contains.ensures.value) ∙ c.if-contains.true in
    rw dots refl
