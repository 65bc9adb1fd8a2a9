-- The test for the same question in the same letters finds equal questions, and no others.
use Rattle.std.proofs.Common.{◌≡◌, true, nat_eq, refl, subst, eqb-true, eq-eqb}
use Rattle.std.proofs.lemmas.Bool.{and_parts, and_from}
use Rattle.dname.specs.Labels.{same_name}
use Rattle.dname.specs.Laws.{same_name-exact, same_name-refl}
use Rattle.message_grammar.specs.Messages.{Question}
use Rattle.wire.specs.Echoes.{same_question}

pub same_question-exact : (q r : Question) → same_question q r ≡ true → q ≡ r
same_question-exact q r h =
    let p = and_parts _ (same_name q.name r.name) h in
    let o = and_parts (nat_eq q.qtype r.qtype) (nat_eq q.qclass r.qclass) p.0 in
    let n = same_name-exact q.name r.name p.1 in
    let t = eqb-true q.qtype r.qtype o.0 in
    let c = eqb-true q.qclass r.qclass o.1 in
    λ i. record { name = n i; qtype = t i; qclass = c i }

same_question-refl : (q : Question) → same_question q q ≡ true
same_question-refl q = and_from _ _ (and_from _ _ (eq-eqb q.qtype q.qtype refl) (eq-eqb q.qclass q.qclass refl)) (same_name-refl q.name)

pub same_question-equal : (q r : Question) → q ≡ r → same_question q r ≡ true
same_question-equal q r e = subst (λ (x : Question). same_question q x ≡ true) e (same_question-refl q)

pub ruleset exact = (same_question-exact, same_question-equal)
