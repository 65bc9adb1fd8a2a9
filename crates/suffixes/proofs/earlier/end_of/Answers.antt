use Rattle.std.proofs.Common.{rules, ◌+◌, ◌-◌, ◌<◌, length, arith}
use Rattle.suffixes.proofs.Search.{following_begins, following_on, following_found, following_ends}
use Rattle.suffixes.proofs.earlier.end_of.Goals as goal

pub loop-number-init : goal.loop-number-init
loop-number-init c = following_begins _ c.args.notes.now c.args.first c.args.suffix.now c.requires.first

pub returns-then-has : goal.returns-then-has
returns-then-has c =
    following_found c.args.names.now c.args.notes.now c.args.first c.args.suffix.now c.loop-number.number c.loop-number.depth c.loop-number.end c.loop-number.invariant c.loop-number-test.true (search rules)

pub overflow_add-depth : goal.overflow_add-depth
overflow_add-depth c =
    let early : c.loop-number.depth < c.loop-number.number = c.loop-number.invariant.early c.loop-number-test.true in
    omega (arith, c.loop-number.auto.number-fits)

pub loop-number-smaller : goal.loop-number-smaller
loop-number-smaller c =
    let early : c.loop-number.depth < c.loop-number.number = c.loop-number.invariant.early c.loop-number-test.true in
    let within = c.loop-number.invariant.within in
    let less : length c.args.notes.now - (c.loop-number.depth + 1) < length c.args.notes.now - c.loop-number.depth = omega arith in
    less

pub loop-number-preserved : goal.loop-number-preserved
loop-number-preserved c =
    following_on c.args.names.now c.args.notes.now c.args.first c.args.suffix.now c.loop-number.number c.loop-number.depth c.branch_at-branch.result c.loop-number.end c.requires.linked
    c.loop-number.invariant c.loop-number-test.true (search rules) c.branch_at-branch.ensures.is

pub returns : goal.returns
returns c = following_ends _ c.args.notes.now c.args.first c.args.suffix.now c.loop-number.number c.loop-number.depth c.loop-number.end c.loop-number.invariant (omega arith)
