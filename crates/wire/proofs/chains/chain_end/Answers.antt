use Rattle.std.proofs.Common.{◌≡◌, Ok, Err, sym, subst, arith, length}
use Rattle.wire.specs.declared.error.WireError.TheVariants.{Short, BadLabel}
use Rattle.wire.specs.declared.parts.Part.{Part}
use Rattle.wire.specs.declared.parts.Part.TheVariants.{End, Pointer}
use Rattle.wire.specs.Parts.{part_at}
use Rattle.wire.proofs.Chaining.{StaysAt, chain_goes, chain_stops}
use Rattle.wire.proofs.chains.chain_end.Goals as goal

pub returns-then-target-at : goal.returns-then-target-at
returns-then-target-at c =
    let found : Ok (Pointer c.in-Ok-Pointer.target) ≡ part_at c.args.bytes.now (length c.args.bytes.now) Short BadLabel c.args.at = rw c.in-Ok-Pointer.field-0-is at c.in-Ok-Pointer.ensures.is in
    chain_goes c.args.bytes.now c.args.ends.now c.args.at c.in-Ok-Pointer.target (λ i. omega (arith, c.type_inv.bytes i)) c.requires.known (sym found) c.if-target-at.true
    (omega (arith, c.if-target-at.true, c.requires.next))

pub returns-else-target-at : goal.returns-else-target-at
returns-else-target-at c =
    let found : Ok (Pointer c.in-Ok-Pointer.target) ≡ part_at c.args.bytes.now (length c.args.bytes.now) Short BadLabel c.args.at = rw c.in-Ok-Pointer.field-0-is at c.in-Ok-Pointer.ensures.is in
    chain_stops c.args.bytes.now c.args.at (Ok (Pointer c.in-Ok-Pointer.target)) found c.if-target-at.false

pub returns-in-Ok-End : goal.returns-in-Ok-End
returns-in-Ok-End c =
    let found : Ok End ≡ part_at c.args.bytes.now (length c.args.bytes.now) Short BadLabel c.args.at = rw c.in-Ok-End.field-0-is at c.in-Ok-End.ensures.is in
    chain_stops c.args.bytes.now c.args.at (Ok End) found tt

pub returns-in-Ok-Label : goal.returns-in-Ok-Label
returns-in-Ok-Label c =
    chain_stops c.args.bytes.now c.args.at (Ok c.in-Ok-Label.field-0) c.in-Ok-Label.ensures.is (subst (λ (p : Part). StaysAt c.args.at (Ok p)) (sym c.in-Ok-Label.field-0-is) tt)

pub returns-in-Err : goal.returns-in-Err
returns-in-Err c = chain_stops c.args.bytes.now c.args.at (Err c.in-Err.field-0) c.in-Err.ensures.is tt
