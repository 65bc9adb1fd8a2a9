use Rattle.std.proofs.Common.{◌≡◌, ◌∙◌, false, List, subst}
use Rattle.std.specs.Prelude.{MatchOption}
use Rattle.rdata.specs.Records.{Record}
use Rattle.zone.specs.Tree.{has_under, IsStand}
use Rattle.zone.proofs.tree.Tree.stand.Goals as goal

pub returns : goal.returns
returns g c =
    subst (λ (rs : List Record). MatchOption c.stand_at.result (has_under c.args.name.now rs ≡ false) (λ s. IsStand c.args.name.now rs s.own s.wild)) (c.as_slice.ensures ∙ c.self.view_is) c.stand_at.ensures
