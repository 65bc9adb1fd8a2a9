use Rattle.std.proofs.Common.{◌≡◌, Bool, ◌&&◌, nat_eq, sym, ◌∙◌, ap, eqb-true, eq-eqb}
use Rattle.std.specs.Cmp.Lexicographic.{pointwise}
use Rattle.dname.specs.Labels.{same_name}
use Rattle.rdata.specs.Data.{same_data}
use Rattle.rdata.specs.Equality.{same_records}
use Rattle.rdata.proofs.Exact.{same_sets, same_lists, in_turn}
use Rattle.rdata.proofs.equality.RecordSetPartialEq.eq.Goals as goal
use Rattle.rdata.proofs.equality.RecordSetPartialEq.eq.Goals.{then-self-other, else-self-other}

pub returns-then-eq : goal.returns-then-eq
returns-then-eq g c =
    let owners = same_name c.self.inside.owner c.other.inside.owner in
    let told : c.if-self-other.value ≡ (nat_eq c.self.inside.ttl c.other.inside.ttl && owners) =
    elim c.if-self-other.branch [
      | then-self-other w ↦ w.value-is ∙ (w.eq.ensures ∙ ap (λ (b : Bool). b && owners) (sym (eq-eqb c.self.inside.ttl c.other.inside.ttl w.if-self-other.true)))
      | else-self-other w ↦ w.value-is ∙ in_turn (nat_eq c.self.inside.ttl c.other.inside.ttl) owners (λ h. w.if-self-other.false (eqb-true c.self.inside.ttl c.other.inside.ttl h))
    ] in
    let both = same_sets c.self.inside.owner c.other.inside.owner c.self.inside.ttl c.other.inside.ttl c.self.inside.values c.other.inside.values c.same_values.result c.len.ensures.some c.same_values.ensures in
    ap (λ (b : Bool). b && c.same_values.result) (sym c.if-eq.true ∙ told) ∙ (both ∙ (λ i. same_records (c.self.view_is i) (c.other.view_is i)))

pub returns-else-eq : goal.returns-else-eq
returns-else-eq g c =
    let owners = same_name c.self.inside.owner c.other.inside.owner in
    let told : c.if-self-other.value ≡ (nat_eq c.self.inside.ttl c.other.inside.ttl && owners) =
    elim c.if-self-other.branch [
      | then-self-other w ↦ w.value-is ∙ (w.eq.ensures ∙ ap (λ (b : Bool). b && owners) (sym (eq-eqb c.self.inside.ttl c.other.inside.ttl w.if-self-other.true)))
      | else-self-other w ↦ w.value-is ∙ in_turn (nat_eq c.self.inside.ttl c.other.inside.ttl) owners (λ h. w.if-self-other.false (eqb-true c.self.inside.ttl c.other.inside.ttl h))
    ] in
    let data_test : Bool = pointwise same_data c.self.inside.values c.other.inside.values in
    let both = same_sets c.self.inside.owner c.other.inside.owner c.self.inside.ttl c.other.inside.ttl c.self.inside.values c.other.inside.values data_test c.len.ensures.some (same_lists c.self.inside.values c.other.inside.values) in
    c.if-eq.false ∙ (ap (λ (b : Bool). b && data_test) (sym c.if-eq.false ∙ told) ∙ (both ∙ (λ i. same_records (c.self.view_is i) (c.other.view_is i))))
