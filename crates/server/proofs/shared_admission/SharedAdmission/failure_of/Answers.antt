use Rattle.std.proofs.Common.{ℕ, List, ◌++◌, take, drop, inr, ap, subst, ◌∙◌}
use Rattle.dispatch.specs.Questions.{HasQuestion}
use Rattle.server.proofs.shared_admission.SharedAdmission.failure_of.Goals as goal

pub returns : goal.returns
returns c =
    let same = c.as_slice-query.ensures.is in
    inr (
      subst (λ (bs : List ℕ). (end : ℕ) → HasQuestion bs end → ⊥) same c.in_default.ensures.is,
      c.new.ensures ∙ c.in_ok-under_id.ensures.bytes ∙ ap (λ (bs : List ℕ). take 2 bs ++ drop 2 c.args.failure.now) same,
    )
