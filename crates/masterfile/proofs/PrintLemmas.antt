-- Lines that are printed one after the other.
use Rattle.std.proofs.Common.{◌≡◌, ℕ, ◌+◌, ◌<◌, List, [], ◌∷◌, ◌++◌, length, take, get_or, sym, ap, ◌∙◌, append_assoc, append-nil, add-one}
use Rattle.std.specs.List.{flat_map}
use Rattle.std.proofs.Math.Seq.{take-suc}
use Rattle.std.proofs.lemmas.Grind.{flat_map-append}
use Rattle.rdata.specs.Records.{Record}
use Rattle.masterfile.specs.Printed.{line_text}

flat_map_next : (f : Record → List ℕ) (rs : List Record) (i : ℕ) (d : Record) → i < length rs → flat_map f (take (i + 1) rs) ≡ flat_map f (take i rs) ++ f (get_or rs i d)
flat_map_next f rs i d h =
    ap (λ (n : ℕ). flat_map f (take n rs)) (add-one i) ∙ (ap (λ (xs : List Record). flat_map f xs) (take-suc rs i d h)
    ∙ (flat_map-append f (take i rs) (get_or rs i d ∷ []) ∙ ap (λ (t : List ℕ). flat_map f (take i rs) ++ t) (append-nil (f (get_or rs i d)))))

pub printed_more : (first so more : List ℕ) (rs : List Record) (i : ℕ) (x : Record) → i < length rs → x ≡ get_or rs i x → so ≡ first ++ flat_map line_text (take i rs)
    → more ≡ so ++ line_text x → more ≡ first ++ flat_map line_text (take (i + 1) rs)
printed_more first so more rs i x h e s m =
    m ∙ (ap (λ (t : List ℕ). t ++ line_text x) s ∙ (append_assoc first (flat_map line_text (take i rs)) (line_text x)
    ∙ ap (λ (t : List ℕ). first ++ t) (ap (λ (y : Record). flat_map line_text (take i rs) ++ line_text y) e ∙ sym (flat_map_next line_text rs i x h))))
