use Rattle.std.proofs.Common.{inl, sym, ap, ◌∙◌, subst, IfOk}
use Rattle.std.proofs.lemmas.Result.{on_err_weaker}
use Rattle.zone.specs.Views.{link_view}
use Rattle.classify.specs.Classes as class
use Rattle.classify.specs.Views.{class_view, reading_view}
use Rattle.frames.specs.Frames.{Frame}
use Rattle.resolution.specs.Jobs.{Job, Go, Again, point}
use Rattle.resolution.specs.Rules.{ByClass}
use Rattle.iterate.specs.Moves.{with_search}
use Rattle.iterate.specs.Views.{task_view}
use Rattle.iterate.proofs.Accepted.{kept_part, on_err}
use Rattle.iterate.proofs.Narrowly.{is_answer, is_referral, is_truncated, is_failed, same_use}
use Rattle.iterate.proofs.replies.use_reply_for.Goals as goal

pub returns-in-Ok-Answer-clause-by : goal.returns-in-Ok-Answer-clause-by
returns-in-Ok-Answer-clause-by g c = λ via m for.
    let at = c.zone-zone.ensures ∙ ap (λ (f : Frame). f.zone) c.frame.ensures in
    let same = same_use c.zone-zone.result.now c.args.search via m (reading_view c.args.reading.now) (class_view c.in-Ok-Answer.field-0) at c.narrow_law.ensures for c.in-Ok-Answer.ensures in
    let classed = is_answer _ (class_view c.in-Ok-Answer.field-0) (link_view c.in-Ok-Answer.link) same (ap class_view c.in-Ok-Answer.field-0-is) in
    subst
    (λ (k : class.Class). IfOk c.answer.result (λ t. ByClass c.args.now c.args.server c.args.search (c.args.job.now).searches k (with_search c.args.job.now c.args.search) c.args.stores.now (point (task_view t) c.answer.new.job c.answer.new.stores)))
    (sym classed) c.answer.ensures.by

pub returns-in_ok-refer-in-Ok-Referral-clause-by : goal.returns-in_ok-refer-in-Ok-Referral-clause-by
returns-in_ok-refer-in-Ok-Referral-clause-by g c = λ via m for.
    let at = c.zone-zone.ensures ∙ ap (λ (f : Frame). f.zone) c.frame.ensures in
    let same = same_use c.zone-zone.result.now c.args.search via m (reading_view c.args.reading.now) (class_view c.in-Ok-Referral.field-0) at c.narrow_law.ensures for c.in-Ok-Referral.ensures in
    let r = c.in-Ok-Referral.referral in
    let classed = is_referral _ (class_view c.in-Ok-Referral.field-0) r.owner r.servers r.addresses r.ttl same (ap class_view c.in-Ok-Referral.field-0-is) in
    subst (λ (k : class.Class). ByClass c.args.now c.args.server c.args.search (c.args.job.now).searches k (with_search c.args.job.now c.args.search) c.args.stores.now (point Go c.refer.new.job c.refer.new.stores))
    (sym classed) c.in_ok-refer-in-Ok-Referral.ensures.by

pub returns-in_ok-push-in-Ok-Truncated-clause-by : goal.returns-in_ok-push-in-Ok-Truncated-clause-by
returns-in_ok-push-in-Ok-Truncated-clause-by g c = λ via m for.
    let at = c.zone-zone.ensures ∙ ap (λ (f : Frame). f.zone) c.frame.ensures in
    let same = same_use c.zone-zone.result.now c.args.search via m (reading_view c.args.reading.now) (class_view c.in-Ok-Truncated.field-0) at c.narrow_law.ensures for c.in-Ok-Truncated.ensures in
    let classed = is_truncated _ (class_view c.in-Ok-Truncated.field-0) same (ap class_view c.in-Ok-Truncated.field-0-is) in
    subst (λ (k : class.Class). ByClass c.args.now c.args.server c.args.search (c.args.job.now).searches k (with_search c.args.job.now c.args.search) c.args.stores.now (point (Again c.args.server) c.push.new.self c.args.stores.now))
    (sym classed) (ap (λ (j : Job). point (Again c.args.server) j c.args.stores.now) c.in_ok-push-in-Ok-Truncated.ensures)

pub returns-in_ok-push-in-Ok-Failed-clause-by : goal.returns-in_ok-push-in-Ok-Failed-clause-by
returns-in_ok-push-in-Ok-Failed-clause-by g c = λ via m for.
    let at = c.zone-zone.ensures ∙ ap (λ (f : Frame). f.zone) c.frame.ensures in
    let same = same_use c.zone-zone.result.now c.args.search via m (reading_view c.args.reading.now) (class_view c.in-Ok-Failed.field-0) at c.narrow_law.ensures for c.in-Ok-Failed.ensures in
    let classed = (is_failed _ (class_view c.in-Ok-Failed.field-0) c.in-Ok-Failed.field-0-0 same (ap class_view c.in-Ok-Failed.field-0-is)).1 in
    subst (λ (k : class.Class). ByClass c.args.now c.args.server c.args.search (c.args.job.now).searches k (with_search c.args.job.now c.args.search) c.args.stores.now (point Go c.push-in-Ok-Failed.new.self c.args.stores.now))
    (sym classed) (ap (λ (j : Job). point Go j c.args.stores.now) c.in_ok-push-in-Ok-Failed.ensures)

pub returns-in-Ok-Answer-clause-part : goal.returns-in-Ok-Answer-clause-part
returns-in-Ok-Answer-clause-part g c = λ via m for before is.
    let at = c.zone-zone.ensures ∙ ap (λ (f : Frame). f.zone) c.frame.ensures in
    let same = same_use c.zone-zone.result.now c.args.search via m (reading_view c.args.reading.now) (class_view c.in-Ok-Answer.field-0) at c.narrow_law.ensures for c.in-Ok-Answer.ensures in
    let classed = is_answer _ (class_view c.in-Ok-Answer.field-0) (link_view c.in-Ok-Answer.link) same (ap class_view c.in-Ok-Answer.field-0-is) in
    on_err_weaker c.answer.result
    (kept_part c.args.now before c.args.stores.now c.answer.new.stores via c.args.server m c.args.search (link_view c.in-Ok-Answer.link) is classed)
    c.answer.ensures.stops

pub returns-in_err-refer-in-Ok-Referral-clause-part : goal.returns-in_err-refer-in-Ok-Referral-clause-part
returns-in_err-refer-in-Ok-Referral-clause-part g c = λ via m for before is.
    on_err c.from_residual.result (inl (c.in_err-refer-in-Ok-Referral.ensures.err ∙ is))

pub returns-in_err-push-in-Ok-Truncated-clause-part : goal.returns-in_err-push-in-Ok-Truncated-clause-part
returns-in_err-push-in-Ok-Truncated-clause-part g c = λ via m for before is.
    on_err c.from_residual-in_err-push-in-Ok-Truncated.result (inl is)

pub returns-in_err-push-in-Ok-Failed-clause-part : goal.returns-in_err-push-in-Ok-Failed-clause-part
returns-in_err-push-in-Ok-Failed-clause-part g c = λ via m for before is.
    on_err c.from_residual-in_err-push-in-Ok-Failed.result (inl is)

pub returns-in-Err-clause-part : goal.returns-in-Err-clause-part
returns-in-Err-clause-part g c = λ via m for before is. inl is
