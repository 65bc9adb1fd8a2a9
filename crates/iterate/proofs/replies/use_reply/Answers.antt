use Rattle.std.proofs.Common.{◌≡◌, inl, inr, ap, sym, subst, ◌∙◌}
use Rattle.std.proofs.lemmas.Result.{IfOk-weaker, on_err_weaker}
use Rattle.resolution.specs.Jobs.{Stores, Job, Go, point, with_failure, with_told}
use Rattle.resolution.specs.Rules.{ByClass}
use Rattle.classify.specs.Classes.{class_of}
use Rattle.iterate.specs.Moves.{with_search}
use Rattle.iterate.specs.Views.{task_view}
use Rattle.iterate.proofs.replies.use_reply.Goals as goal

pub returns-in-Ok-clause-part : goal.returns-in-Ok-clause-part
returns-in-Ok-clause-part g c = λ via m reads sought before is.
    let s = c.in-Some.search in
    let at = ap (λ (j : Job). j.searches) c.in-Some.ensures in
    let both = sought s c.pop.new.self.searches at in
    let told : c.note_failure.new.stores ≡ with_told c.args.now s c.args.server m before =
    c.in-Ok.ensures.ok m reads.failed ∙ ap (λ (z : Stores). with_failure c.args.now s c.args.server m z) is in
    on_err_weaker c.use_reply_for.result (λ part. inr (s, c.pop.new.self.searches, at, part))
    (c.use_reply_for.ensures.part via m (record { reads = reads; name = both.0; kind = both.1 }) before told)

pub returns-in-None-clause-enters : goal.returns-in-None-clause-enters
returns-in-None-clause-enters g c = λ via m reads sought before is. inl (c.in-None.ensures.0, λ i. point Go (c.in-None.ensures.1 i) (is i))

pub returns-in-Err-clause-part : goal.returns-in-Err-clause-part
returns-in-Err-clause-part g c = λ via m reads sought before is. inl (c.in-Err.ensures.err ∙ is)

pub returns-in-Ok-clause-enters : goal.returns-in-Ok-clause-enters
returns-in-Ok-clause-enters g c = λ via m reads sought before is.
    let s = c.in-Some.search in
    let rest = c.pop.new.self.searches in
    let at = ap (λ (j : Job). j.searches) c.in-Some.ensures in
    let both = sought s rest at in
    let told : c.note_failure.new.stores ≡ with_told c.args.now s c.args.server m before =
    c.in-Ok.ensures.ok m reads.failed ∙ ap (λ (z : Stores). with_failure c.args.now s c.args.server m z) is in
    let class = class_of s.frame.zone s.name s.kind via m in
    IfOk-weaker c.use_reply_for.result _ _
    (λ t k. inr (
      s,
      rest,
      at,
      subst (λ (j : Job). ByClass c.args.now c.args.server s rest class j (with_told c.args.now s c.args.server m before) (point (task_view t) c.use_reply_for.new.job c.use_reply_for.new.stores))
          (sym c.in-Some.ensures)
          (subst (λ (z : Stores). ByClass c.args.now c.args.server s rest class (with_search c.pop.new.self s) z (point (task_view t) c.use_reply_for.new.job c.use_reply_for.new.stores)) told k),
    ))
    (c.use_reply_for.ensures.by via m (record { reads = reads; name = both.0; kind = both.1 }))
