-- Bytes are one message at most.
use Rattle.std.proofs.Common.{◌≡◌, ◌∙◌, sym, ap, arith, ℕ, Bool, false, nat_eq, List, subst, rules, ⊎_elim, ◌↔◌, IsTrue}
use Rattle.std.proofs.lemmas.Bool.Decides.{nat_tests}
use Rattle.message_grammar.specs.Messages.{Message, IsMessage}
use Rattle.message_grammar.proofs.Single.{message_one}
use Rattle.wire.specs.declared.error.WireError.TheVariants.{Memory}
use Rattle.score.specs.Counts.{IsFailure}
use Rattle.score.proofs.count.is_failure.Goals as goal

same_number : (n : ℕ) → IsTrue (nat_eq n 2) → n ≡ 2
same_number n h = grind (arith, nat_tests)

number_same : (n : ℕ) → n ≡ 2 → IsTrue (nat_eq n 2)
number_same n h = grind (arith, nat_tests)

fails_so : (bytes : List ℕ) (m : Message) (b : Bool) → IsMessage bytes m → b ≡ nat_eq (m.header).rcode 2 → IsTrue b ↔ IsFailure bytes
fails_so bytes m b is e = (
  λ h. (m, is, same_number (m.header).rcode (subst IsTrue e h)),
  λ f. let (n, there, two) = f in
      subst IsTrue (sym e) (number_same (m.header).rcode (ap (λ (k : Message). (k.header).rcode) (message_one bytes m n is there) ∙ two)),
)

no_failure : (bytes : List ℕ) → ((m : Message) → IsMessage bytes m → ⊥) → IsTrue false ↔ IsFailure bytes
no_failure bytes none = (λ h. absurd (cc), λ f. absurd (none f.0 f.1))

pub returns-in-Ok : goal.returns-in-Ok
returns-in-Ok g c = fails_so c.args.bytes.now c.in-Ok.message c.has_failed.result c.in-Ok.ensures.read c.has_failed.ensures

pub returns-in-Err : goal.returns-in-Err
returns-in-Err g c =
    let other : c.in-Err.field-0 ≡ Memory → ⊥ = search rules in
    no_failure c.args.bytes.now (⊎_elim (λ e. absurd (other e)) (λ none. none) c.in-Err.ensures.refused)
