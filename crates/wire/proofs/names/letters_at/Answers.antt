use Rattle.std.proofs.Common.{◌∙◌, ◌≡◌, ◌+◌, sym, ap, Ok, [], ◌∷◌, ◌++◌, length, arith}
use Rattle.std.specs.Prelude.{slice_range}
use Rattle.wire.specs.Parts.{spelt_before}
use Rattle.wire.specs.Spellings.{spelt_by}
use Rattle.wire.proofs.Walks.{walk_refused, walk_too_long, walk_over, walk_forward, letters_begin, letters_label, letters_done, label_long}
use Rattle.wire.proofs.Chaining.{walk_chain, chain_leads, chain_lower}
use Rattle.wire.proofs.Skipping.{handed}
use Rattle.wire.proofs.names.letters_at.Goals as goal

pub parts-init : goal.parts-init
parts-init c = letters_begin c.args.bytes.now c.args.faults c.args.limit c.args.before c.args.at c.args.letters.now.items c.requires.fits c.requires.empty

pub returns-in_err-part_at-clause-is : goal.returns-in_err-part_at-clause-is
returns-in_err-part_at-clause-is c =
    let w = c.parts.invariant in
    ap (spelt_by c.parts.letters.items) (handed c.from_residual.result c.in_err-part_at.field-0.0 c.from_residual.ensures.1)
    ∙ sym (walk_refused c.args.bytes.now c.args.faults c.args.limit (spelt_before c.args.bytes.now c.args.faults c.args.limit c.args.before c.args.at) w.front c.parts.start c.parts.place c.parts.stop c.parts.border c.parts.room c.parts.end w.walk c.in_err-part_at.field-0.0 c.part_at.result c.part_at.ensures.is c.in_err-part_at.was)

pub push-requires : goal.push-requires
push-requires c =
    let w = c.parts.invariant in
    omega (arith, w.walk.taken, w.walk.some_room, ap length w.form)

pub returns-in-End-clause-is : goal.returns-in-End-clause-is
returns-in-End-clause-is c =
    let done = letters_done c.args.bytes.now c.args.faults c.args.limit c.args.before c.args.at c.parts.letters.items c.push.new.self.items c.parts.start c.parts.place c.parts.stop c.parts.border c.parts.room c.parts.end c.parts.invariant c.part_at.result c.part_at.ensures.is
    (c.in_ok-part_at.was ∙ ap (λ p. Ok p) c.in-End.is) c.push.ensures.items in
    ap (λ n. spelt_by c.push.new.self.items (Ok n)) c.unwrap_or.ensures ∙ sym done.1

pub returns-in-End-clause-spelling : goal.returns-in-End-clause-spelling
returns-in-End-clause-spelling c =
    (letters_done c.args.bytes.now c.args.faults c.args.limit c.args.before c.args.at c.parts.letters.items c.push.new.self.items c.parts.start c.parts.place c.parts.stop c.parts.border c.parts.room c.parts.end c.parts.invariant c.part_at.result c.part_at.ensures.is
    (c.in_ok-part_at.was ∙ ap (λ p. Ok p) c.in-End.is) c.push.ensures.items).0

pub returns-then-room-size-clause-is : goal.returns-then-room-size-clause-is
returns-then-room-size-clause-is c =
    let w = c.parts.invariant in
    sym (walk_too_long c.args.bytes.now c.args.faults c.args.limit (spelt_before c.args.bytes.now c.args.faults c.args.limit c.args.before c.args.at) w.front c.parts.start c.parts.place c.parts.stop c.parts.border c.parts.room c.parts.end w.walk c.in-Label.size c.part_at.result c.part_at.ensures.is
    (c.in_ok-part_at.was ∙ ap (λ p. Ok p) c.in-Label.is) c.if-room-size.true)

pub returns-then-stop-place-clause-is : goal.returns-then-stop-place-clause-is
returns-then-stop-place-clause-is c =
    let w = c.parts.invariant in
    sym (walk_over c.args.bytes.now c.args.faults c.args.limit (spelt_before c.args.bytes.now c.args.faults c.args.limit c.args.before c.args.at) w.front c.parts.start c.parts.place c.parts.stop c.parts.border c.parts.room c.parts.end w.walk c.in-Label.size c.part_at.result c.part_at.ensures.is
    (c.in_ok-part_at.was ∙ ap (λ p. Ok p) c.in-Label.is) c.if-room-size.false c.if-stop-place.true (rw c.in-Label.is at c.in_ok-part_at.ensures.shape).0)

pub put_letters-requires-clause-room : goal.put_letters-requires-clause-room
put_letters-requires-clause-room c =
    let w = c.parts.invariant in
    let place = c.parts.place in
    let size = c.in-Label.size in
    let within = (rw c.in-Label.is at c.in_ok-part_at.ensures.shape).0 in
    let inside = w.walk.fits in
    omega (arith, w.walk.taken, ap length w.form, c.if-room-size.false, label_long c.args.bytes.now place size (omega (arith, c.if-stop-place.false)))

pub parts-preserved-in-Label : goal.parts-preserved-in-Label
parts-preserved-in-Label c =
    let shape = rw c.in-Label.is at c.in_ok-part_at.ensures.shape in
    let place = c.parts.place in
    let size = c.in-Label.size in
    let label = slice_range c.args.bytes.now (place + 1) (place + 1 + size) in
    let within = shape.0 in
    let inside = c.parts.invariant.walk.fits in
    let fits = c.if-stop-place.false in
    let long : length label ≡ size = label_long c.args.bytes.now place size (omega arith) in
    letters_label c.args.bytes.now c.args.faults c.args.limit c.args.before c.args.at c.parts.letters.items c.put_letters.new.letters.items c.parts.start c.parts.place c.parts.stop c.parts.border c.parts.room c.parts.end c.parts.invariant c.in-Label.size c.part_at.result c.part_at.ensures.is
    (c.in_ok-part_at.was ∙ ap (λ p. Ok p) c.in-Label.is) c.if-room-size.false c.if-stop-place.false shape.0 shape.1 shape.2
    (c.put_letters.ensures ∙ ap (λ n. (c.parts.letters.items ++ n ∷ []) ++ label) long)

pub returns-then-target-start-clause-is : goal.returns-then-target-start-clause-is
returns-then-target-start-clause-is c =
    let w = c.parts.invariant in
    sym (walk_forward c.args.bytes.now c.args.faults c.args.limit (spelt_before c.args.bytes.now c.args.faults c.args.limit c.args.before c.args.at) w.front c.parts.start c.parts.place c.parts.stop c.parts.border c.parts.room c.parts.end w.walk c.in-Pointer.target c.part_at.result c.part_at.ensures.is
    (c.in_ok-part_at.was ∙ ap (λ p. Ok p) c.in-Pointer.is) c.if-target-start.true)

pub parts-preserved : goal.parts-preserved
parts-preserved c =
    let w = c.parts.invariant in
    let walk = walk_chain c.args.bytes.now c.args.faults c.args.limit (spelt_before c.args.bytes.now c.args.faults c.args.limit c.args.before c.args.at) w.front c.parts.start c.parts.place c.parts.stop c.parts.border c.parts.room c.parts.end w.walk c.in-Pointer.target c.part_at.result c.part_at.ensures.is
    (c.in_ok-part_at.was ∙ ap (λ p. Ok p) c.in-Pointer.is) c.if-target-start.false (rw c.in-Pointer.is at c.in_ok-part_at.ensures.shape).0
    c.chain_behind-next.result (chain_leads c.args.bytes.now c.args.ends.now c.in-Pointer.target c.chain_behind-next.result c.requires.known c.chain_behind-next.ensures) in
    record { front = w.front; walk = rw c.or-end.ensures walk; form = w.form; spelled = w.spelled }

pub parts-smaller : goal.parts-smaller
parts-smaller c =
    let lower = chain_lower c.args.bytes.now c.args.ends.now c.in-Pointer.target c.chain_behind-next.result c.requires.known c.chain_behind-next.ensures in
    omega (arith, lower, c.if-target-start.false)
