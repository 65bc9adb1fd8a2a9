use Rattle.std.proofs.Common.{◌∷◌, [], ◌++◌, sym, ◌∙◌, ap}
use Rattle.std.proofs.lemmas.List.{take_all}
use Rattle.dname.specs.Labels.{Name}
use Rattle.world_text.specs.WorldTexts.{Block, locals_of}
use Rattle.world_text.proofs.WorldTexts.{local_step, remote_step}
use Rattle.world_text.proofs.build.locals.Goals as goal
use Rattle.world_text.proofs.build.locals.Goals.{then-block+in_ok-clone+in_ok-push, else-block}

pub loop-block-preserved : goal.loop-block-preserved
loop-block-preserved g c =
    elim c.if-block.branch [
      | then-block+in_ok-clone+in_ok-push w ↦ local_step c.args.blocks.now c.loop-block.locals.items c.if-block.locals.items c.loop-block.block-index
          c.block-item.result c.loop-block-test.true c.block-item.is (ap (λ (b : Block). b.is_local) (sym c.block.view_is) ∙ w.if-block.true) c.loop-block.invariant
          (ap (λ v. v.items) w.locals-is ∙ (w.in_ok-push.ensures.items
          ∙ ap (λ (n : Name). c.loop-block.locals.items ++ n ∷ []) (w.in_ok-clone.ensures.cases ∙ ap (λ (b : Block). b.origin) c.block.view_is)))
      | else-block w ↦ remote_step c.args.blocks.now c.loop-block.locals.items c.if-block.locals.items c.loop-block.block-index
          c.block-item.result c.loop-block-test.true c.block-item.is (ap (λ (b : Block). b.is_local) (sym c.block.view_is) ∙ w.if-block.false) c.loop-block.invariant (ap (λ v. v.items) w.locals-is)
    ]

pub returns : goal.returns
returns g c = c.loop-block.invariant ∙ ap locals_of (take_all c.loop-block.block-index c.args.blocks.now c.loop-block-test.false)
