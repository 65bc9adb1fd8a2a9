use Rattle.std.proofs.Common.{◌≡◌, ℕ, Bool, false, sym, ap, ◌∙◌}
use Rattle.std.specs.Prelude.{◌||◌}
use Rattle.admission.specs.States.{of_address, leaves_out, is_full}
use Rattle.admission.proofs.admission.Admission.is_shut.Goals as goal

pub returns-else-is_full : goal.returns-else-is_full
returns-else-is_full g c =
    let closed : is_full c.of_address-from_address.result c.args.self.now ≡ false = sym c.is_full.ensures ∙ c.if-is_full.false in
    c.leaves_out.ensures
    ∙ sym (ap (λ (b : Bool). b || leaves_out c.of_address-from_address.result c.args.domain c.args.was_answered c.args.self.now) closed)
    ∙ ap (λ (n : ℕ). is_full n c.args.self.now || leaves_out n c.args.domain c.args.was_answered c.args.self.now) (c.of_address-from_address.ensures ∙ ap (λ (a : ℕ). of_address a c.args.self.now) c.address_in.ensures)
