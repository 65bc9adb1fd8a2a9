use Rattle.std.proofs.Common.{◌≡◌, ◌∷◌, [], ◌∙◌, ap, sym, true}
use Rattle.std.proofs.lemmas.Bool.{not-false}
use Rattle.dname.specs.Labels.{same_name}
use Rattle.rdata.specs.Kept.{datum}
use Rattle.rdata.specs.Shared.{values_of}
use Rattle.zone.specs.Links.{Found}
use Rattle.cache.proofs.Unpacked.{set_without}
use Rattle.cache.proofs.packed.set_of_name.Goals as goal

pub returns-in_ok-clone-in-Alone-clause-said : goal.returns-in_ok-clone-in-Alone-clause-said
returns-in_ok-clone-in-Alone-clause-said g c =
    let own : same_name c.set.inside.owner c.args.name.now ≡ true = not-false (same_name c.set.inside.owner c.args.name.now) (sym c.if-ne.ensures) in
    ap Found
    (set_without c.args.name.now c.set.inside.owner c.set.inside.ttl c.set.inside.values (datum c.in_ok-clone-in-Alone.field-0 ∷ []) c.args.set.now own c.set.view_is
    (ap (λ d. d ∷ []) c.in_ok-clone-in-Alone.ensures.cases ∙ (sym (ap values_of c.in-Alone.is) ∙ c.place.ensures)))

pub returns-in_ok-clone-in-Shared-clause-said : goal.returns-in_ok-clone-in-Shared-clause-said
returns-in_ok-clone-in-Shared-clause-said g c =
    let own : same_name c.set.inside.owner c.args.name.now ≡ true = not-false (same_name c.set.inside.owner c.args.name.now) (sym c.if-ne.ensures) in
    ap Found
    (set_without c.args.name.now c.set.inside.owner c.set.inside.ttl c.set.inside.values c.in_ok-clone-in-Shared.field-0 c.args.set.now own c.set.view_is
    (c.in_ok-clone-in-Shared.ensures.cases ∙ (sym (ap values_of c.in-Shared.is) ∙ c.place.ensures)))
