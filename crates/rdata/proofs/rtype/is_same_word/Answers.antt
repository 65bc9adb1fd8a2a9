use Rattle.std.proofs.Common.{◌≡◌, ℕ, List, [], ◌∷◌, map, nat_eq, arith, refl, sym, ◌∙◌}
use Rattle.std.proofs.lemmas.Bool.Decides.{nat_tests, same_from_decides}
use Rattle.std.specs.Char.{to_ascii_lowercase}
use Rattle.std.specs.Cmp.Lexicographic.{pointwise, bytes_decides}
use Rattle.dname.specs.Labels.{folded}
use Rattle.rdata.proofs.rtype.is_same_word.Goals as goal

-- The two spellings of lower case are one.
lowered : (b : ℕ) → folded b ≡ to_ascii_lowercase b
lowered b = grind (arith, nat_tests)

all_lowered : (w : List ℕ) → map folded w ≡ map to_ascii_lowercase w
all_lowered [] = refl
all_lowered (b ∷ w) = λ i. lowered b i ∷ all_lowered w i

pub returns : goal.returns
returns c =
    let word = all_lowered c.args.word.now in
    let other = all_lowered c.args.other.now in
    let d = bytes_decides (map folded c.args.word.now) (map folded c.args.other.now) in
    same_from_decides c.eq_ignore_ascii_case.result (pointwise nat_eq (map folded c.args.word.now) (map folded c.args.other.now))
    (λ t. word ∙ (c.eq_ignore_ascii_case.ensures.test.0 t ∙ sym other), λ e. c.eq_ignore_ascii_case.ensures.test.1 (sym word ∙ (e ∙ other))) d
