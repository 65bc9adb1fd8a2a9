use Rattle.std.proofs.Common.{◌∷◌, refl, sym, subst, ◌∙◌}
use Rattle.std.specs.Prelude.{IsPermutation}
use Rattle.std.proofs.lemmas.List.Sorted.{IsPermutation-swap_remove}
use Rattle.admission.proofs.Lists.{none_passes, not_there, passes_there, stands_within}
use Rattle.server.specs.Arrivals.{is_of}
use Rattle.server.proofs.tally.take.Goals as goal

pub returns-in-Some : goal.returns-in-Some
returns-in-Some c =
    let test = is_of c.args.asker c.args.id in
    let noted = c.args.open.now.items in
    let query = c.swap_remove.result in
    let there = sym c.place_of.ensures ∙ c.in-Some.is in
    record {
      query = query;
      its = passes_there test noted c.in-Some.place query there c.swap_remove.ensures.value;
      came = refl;
      others = subst (λ left. IsPermutation noted (query ∷ left)) (sym c.swap_remove.ensures.items) (IsPermutation-swap_remove noted c.in-Some.place query (stands_within test noted c.in-Some.place there) c.swap_remove.ensures.value);
    }

pub returns-in-None : goal.returns-in-None
returns-in-None c =
    let test = is_of c.args.asker c.args.id in
    let noted = c.args.open.now.items in
    (none_passes test noted (not_there test noted (sym c.place_of.ensures ∙ c.in-None.is)), refl)
