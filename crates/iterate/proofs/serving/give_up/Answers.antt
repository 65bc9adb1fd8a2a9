use Rattle.std.proofs.Common.{refl, ap, ◌∙◌, List, ◌∷◌}
use Rattle.frames.specs.Frames.{Frame}
use Rattle.resolution.specs.Jobs.{Search, Job, Fail}
use Rattle.resolution.specs.Rules.{spent, gives_up, spent_cause}
use Rattle.iterate.proofs.Sought.{up_job}
use Rattle.iterate.proofs.serving.give_up.Goals as goal

pub returns-in-None : goal.returns-in-None
returns-in-None g c = λ home now stores before up none is.
    spent before refl (record { searches = ap (λ (ss : List Search). before ∷ ss) c.in-None.ensures.0; asked_all = up; none_left = none })
    (ap Fail (c.spent.ensures ∙ ap (λ (j : Job). spent_cause j.skipped) c.in-None.ensures.1)) refl

pub returns-in_ok-marked-in-Some : goal.returns-in_ok-marked-in-Some
returns-in_ok-marked-in-Some g c = λ home now stores before up none is.
    gives_up before c.in-Some.around c.pop.new.self.searches refl (record { searches = ap (λ (j : Job). before ∷ j.searches) c.in-Some.ensures; asked_all = up; none_left = none }) refl
    (up_job c.args.job.now c.pop.new.self c.mark-marked.new.self c.push.new.self before c.in-Some.around _ _ c.in-Some.ensures c.in_ok-marked-in-Some.ensures c.in_ok-push-in-Some.ensures
    (c.name.ensures ∙ ap (λ (s : Search). s.name) is) (c.nesting.ensures ∙ ap (λ (f : Frame). f.nesting) c.frame.ensures ∙ ap (λ (s : Search). (s.frame).nesting) is)) refl
