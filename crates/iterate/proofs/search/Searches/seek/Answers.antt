use Rattle.std.proofs.Common.{rules, ◌≡◌, ◌∙◌, sym, ap, Some, IsTrue, nat_eq}
use Rattle.std.specs.Prelude.{slice_get}
use Rattle.dname.specs.Laws.{same_name-exact, same_name-equal}
use Rattle.rdata.specs.Types.{type_number}
use Rattle.resolution.specs.Jobs.{Search}
use Rattle.iterate.proofs.Seeking.{sought_by}
use Rattle.iterate.proofs.search.Searches.seek.Goals as goal

pub returns-then-number : goal.returns-then-number
returns-then-number g c =
    let s : Search = c.in-Some.search.now in
    let first : Some s ≡ slice_get c.args.self.now 0 = search rules in
    let name : c.search.inside.name ≡ s.name = ap (λ (z : Search). z.name) c.search.view_is in
    let kind : type_number c.args.kind ≡ s.kind = search rules in
    sought_by c.args.self.now s c.args.name.now (type_number c.args.kind) c.eq.result first
    (λ yes. (sym (same_name-exact c.search.inside.name c.args.name.now (sym c.eq.ensures ∙ yes)) ∙ name, kind))
    (λ h. c.eq.ensures ∙ same_name-equal c.search.inside.name c.args.name.now (name ∙ sym h.0))

pub returns-else-number : goal.returns-else-number
returns-else-number g c =
    let s : Search = c.in-Some.search.now in
    let first : Some s ≡ slice_get c.args.self.now 0 = search rules in
    let kind : type_number c.search.inside.kind ≡ s.kind = ap (λ (z : Search). z.kind) c.search.view_is in
    let other : IsTrue (nat_eq c.number.result c.number-in-Some.result) → ⊥ = search rules in
    sought_by c.args.self.now s c.args.name.now (type_number c.args.kind) (nat_eq c.number.result c.number-in-Some.result) first (λ yes. absurd (other yes))
    (λ h. let same : type_number c.args.kind ≡ s.kind = h.1 in search rules)
