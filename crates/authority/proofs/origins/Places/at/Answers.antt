use Rattle.std.proofs.Common.{◌∙◌, sym, ap, subst, ℕ, ◌≤◌, List, length, get_or, false}
use Rattle.authority.proofs.Places.{few, unmarked}
use Rattle.authority.proofs.origins.Places.at.Goals as goal

pub bounds-self-origin : goal.bounds-self-origin
bounds-self-origin g c = few (length c.wire-origin.result.now) (subst (λ (n : ℕ). n ≤ 255) (sym (ap length c.wire-origin.ensures)) c.well_formed_law.ensures.short)

pub returns-then-not-self-origin : goal.returns-then-not-self-origin
returns-then-not-self-origin g c =
    unmarked c.args.self.now.by_origin c.args.self.now.sizes c.args.name.now c.requires (sym (ap (λ (bs : List ℕ). get_or c.args.self.now.sizes (length bs) false) c.wire-origin.ensures) ∙ c.if-not-self-origin.true)
