use Rattle.std.proofs.Common.{◌+◌, ◌-◌, ◌++◌, rules, arith, length, take, sym, ap, ◌∙◌, subst, le_refl}
use Rattle.std.proofs.lemmas.Slice.{take-put_mid_below}
use Rattle.std.specs.Io.KnownBytes.{Consumes}
use Rattle.std.proofs.KnownBytes.{Consumes-trans}
use borrow.Rule.Slice.PartMut.{put_mid}
use Rattle.sockets.proofs.Streams.{take_split, slice_range-put_mid}
use Rattle.sockets.proofs.reading.fill.Goals as goal

pub loop-at-preserved : goal.loop-at-preserved
loop-at-preserved g c =
    let from = c.loop-at.at in
    let room = length c.loop-at.buf - from in
    let within = c.loop-at.invariant.1 in
    let part = slice_range-put_mid from room c.in-Ok.count c.loop-at.buf c.read.new.buf within c.in-Ok.ensures.bound.0 in
    let joined = take_split from (from + c.in-Ok.count) c.loop-at.buf (put_mid from room c.loop-at.buf c.read.new.buf) (omega arith) (take-put_mid_below _ _ _ _ _ (le_refl _) within) in
    (search rules, search rules, subst (Consumes _ _) (ap (λ l. take from c.loop-at.buf ++ l) (sym part) ∙ joined) (Consumes-trans _ _ _ _ _ c.loop-at.invariant.2 c.in-Ok.ensures.bytes.0))
