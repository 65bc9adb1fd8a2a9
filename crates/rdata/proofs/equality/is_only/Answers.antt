use Rattle.std.proofs.Common.{◌≡◌, List, [], ◌∷◌, map, length, sym, ◌∙◌, ap, arith}
use Rattle.std.proofs.lemmas.Bool.{false≢true}
use Rattle.std.proofs.lemmas.List.{length-map}
use Rattle.rdata.specs.Data.{Datum}
use Rattle.rdata.specs.Kept.{datum}
use Rattle.rdata.proofs.Exact.{same_data-exact, same_data-equal, only_item}
use Rattle.rdata.proofs.equality.is_only.Goals as goal

first_of : Datum → List Datum → Datum
first_of d [] = d
first_of d (e ∷ es) = e

same_first : (d e : Datum) → d ∷ [] ≡ e ∷ [] → d ≡ e
unfolding first_of
same_first d e h = ap (first_of d) h

pub returns-in-len1 : goal.returns-in-len1
returns-in-len1 g c =
    let alone = sym c.as_slice.ensures.is ∙ ap (map datum) (only_item c.as_slice.result.now c.only-item.result c.in-len1.len_at_least c.in-len1.len_below c.only-item.is) in
    let one = datum c.only-item.result in
    let other = datum c.args.value.now in (
      λ t. alone ∙ ap (λ (d : Datum). d ∷ []) (same_data-exact one other (sym c.eq.ensures ∙ t)),
      λ e. c.eq.ensures ∙ same_data-equal one other (same_first one other (sym alone ∙ e)),
    )

pub returns-in_default-2 : goal.returns-in_default-2
returns-in_default-2 g c = (
  λ t. absurd (false≢true t),
  λ e.
      let one : length c.as_slice.result.now ≡ 1 = sym (length-map c.as_slice.result.now datum) ∙ ap length (c.as_slice.ensures.is ∙ e) in
      let more = c.in_default.len_at_least in
      absurd (omega (arith, one, more)),
)
