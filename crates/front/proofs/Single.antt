-- What bytes ask, and what local zones answer, is one thing.
use Rattle.std.proofs.Common.{◌≡◌, ◌∙◌, sym, ap, ap₂, subst, inl, inr, arith, ℕ, ◌≤◌, true, List, [], ◌∷◌, length, refl}
use Rattle.rdata.specs.Records.{Record}
use Rattle.zone.specs.Links as said
use Rattle.zone.specs.Look as looked
use Rattle.zone.specs.Look.{Local}
use Rattle.message_grammar.specs.Messages.{Message, Question}
use Rattle.message_grammar.proofs.Reading.{spelling_one}
use Rattle.message_grammar.proofs.Single.{message_one}
use Rattle.front.specs.Openings.{Opening, opening_of}
use Rattle.front.specs.Queries.{Heard, nothing_heard, other_heard, one_heard, IsHeard, IsRequest, by_heard, by_question}
use Rattle.front.specs.Chains.{AliasesLead, IsEndAt, IsChain, IsLong, FollowsOn, AnswersFrom, AnswersLocally, alias_target}
use Rattle.front.specs.declared.queries.Request.{Request}
use Rattle.front.specs.declared.queries.End.{End}
use Rattle.front.specs.declared.queries.Outcome.{Outcome}
use Rattle.front.specs.declared.queries.Outcome.TheVariants.{Answer}

-- ---- queries

one_of_list : (q r : Question) → q ∷ [] ≡ r ∷ [] → q ≡ r
one_of_list q r e = cc

heard_once : {A : Type 0} (bytes : List ℕ) (s : Opening) (g h : Heard) → IsHeard bytes g → IsHeard bytes h → by_heard {A = A} s g ≡ by_heard s h
heard_once bytes s nothing_heard nothing_heard x y = refl
heard_once bytes s nothing_heard (other_heard m) x y = refl
heard_once bytes s nothing_heard (one_heard m q letters) x y = absurd (x m y.0)
heard_once bytes s (other_heard m) nothing_heard x y = refl
heard_once bytes s (other_heard m) (other_heard n) x y = refl
heard_once bytes s (other_heard m) (one_heard n q letters) x y =
    absurd (x.1 (ap (λ (k : Message). length k.questions) (message_one bytes m n x.0 y.0) ∙ ap length y.1))
heard_once bytes s (one_heard m q letters) nothing_heard x y = absurd (y m x.0)
heard_once bytes s (one_heard m q letters) (other_heard n) x y =
    absurd (y.1 (ap (λ (k : Message). length k.questions) (message_one bytes n m y.0 x.0) ∙ ap length x.1))
heard_once bytes s (one_heard m q letters) (one_heard n r spelt) x y =
    ap₂ (by_question s) (one_of_list q r (sym x.1 ∙ ap (λ (k : Message). k.questions) (message_one bytes m n x.0 y.0) ∙ y.1))
    (spelling_one bytes 12 letters spelt x.2.0 y.2.0 x.2.1 y.2.1).0

pub asked_once : {A : Type 0} (bytes : List ℕ) (a b : Request A) → IsRequest bytes a → IsRequest bytes b → a ≡ b
asked_once bytes a b (inl x) (inl y) = x.1 ∙ sym y.1
asked_once bytes a b (inl x) (inr y) = elim x.0 [ inl short ↦ (let whole : 12 ≤ length bytes = y.whole in absurd (omega arith)) | inr reply ↦ (let query = y.query in absurd (omega arith)) ]
asked_once bytes a b (inr x) (inl y) = elim y.0 [ inl short ↦ (let whole : 12 ≤ length bytes = x.whole in absurd (omega arith)) | inr reply ↦ (let query = x.query in absurd (omega arith)) ]
asked_once bytes a b (inr x) (inr y) = x.is ∙ heard_once bytes (opening_of bytes) x.heard y.heard x.hears y.hears ∙ sym y.is

-- ---- chains

one_alias : (r s : Record) → looked.Linked (said.Alias r) ≡ looked.Linked (said.Alias s) → r ≡ s
one_alias r s e = cc

no_end : {A : Type 0} (l : Local) (r : Record) (end : End A) → l ≡ looked.Linked (said.Alias r) → IsEndAt l end → ⊥
no_end l r end is ends = subst (λ (k : Local). IsEndAt k end) is ends

end_once : {A : Type 0} (l : Local) (x y : End A) → IsEndAt l x → IsEndAt l y → x ≡ y
end_once (looked.Linked (said.Found set)) x y a b = a ∙ sym b
end_once (looked.Linked (said.Alias r)) x y a b = absurd a
end_once (looked.Linked (said.NoData soa)) x y a b = a ∙ sym b
end_once (looked.Linked (said.NxDomain soa)) x y a b = a ∙ sym b
end_once (looked.Cut c ns glue) x y a b = a ∙ sym b
end_once looked.NotHere x y a b = a ∙ sym b

-- Two chains that end have the same aliases and the same last name.
chains_agree : {A : Type 0} (look : List (List ℕ) → Local) (from : List (List ℕ)) (rs ss : List Record) (a b : List (List ℕ)) (x y : End A)
    → AliasesLead look from rs a → AliasesLead look from ss b → IsEndAt (look a) x → IsEndAt (look b) y → (rs ≡ ss) × (a ≡ b)
chains_agree look from [] [] a b x y e f p q = (refl, e ∙ sym f)
chains_agree look from [] (s ∷ ss) a b x y e f p q = absurd (no_end (look a) s x (ap look e ∙ f.0) p)
chains_agree look from (r ∷ rs) [] a b x y e f p q = absurd (no_end (look b) r y (ap look f ∙ e.0) q)
chains_agree look from (r ∷ rs) (s ∷ ss) a b x y e f p q =
    let same : r ≡ s = one_alias r s (sym e.0 ∙ f.0) in
    let rest = chains_agree look (alias_target r) rs ss a b x y e.1 (subst (λ (t : Record). AliasesLead look (alias_target t) ss b) (sym same) f.1) p q in
    (ap₂ (λ (t : Record) (ts : List Record). t ∷ ts) same rest.0, rest.1)

-- A chain that ends is the longest.
chain_is_longest : {A : Type 0} (look : List (List ℕ) → Local) (from : List (List ℕ)) (rs ss : List Record) (a b : List (List ℕ)) (x : End A)
    → AliasesLead look from rs a → AliasesLead look from ss b → IsEndAt (look a) x → length ss ≤ length rs
chain_is_longest look from rs [] a b x e f p = omega arith
chain_is_longest look from [] (s ∷ ss) a b x e f p = absurd (no_end (look a) s x (ap look e ∙ f.0) p)
chain_is_longest look from (r ∷ rs) (s ∷ ss) a b x e f p =
    let same : r ≡ s = one_alias r s (sym e.0 ∙ f.0) in
    let rest = chain_is_longest look (alias_target r) rs ss a b x e.1 (subst (λ (t : Record). AliasesLead look (alias_target t) ss b) (sym same) f.1) p in
    omega arith

not_both : {A : Type 0} {X : Type 0} (look : List (List ℕ) → Local) (name : List (List ℕ)) (rs : List Record) (end : End A) → IsChain look name rs end → IsLong look name → X
not_both look name rs end chain long =
    let most = chain_is_longest look name rs long.aliases chain.to long.to end chain.leads long.leads chain.ends in
    let few = chain.few in
    let nine = long.nine in
    absurd (omega arith)

follows_once : {A : Type 0} (look : List (List ℕ) → Local) (name : List (List ℕ)) (a b : Outcome A) → FollowsOn look name a → FollowsOn look name b → a ≡ b
follows_once look name a b (inl (rs, x, c, e)) (inl (ss, y, d, f)) =
    let both = chains_agree look name rs ss c.to d.to x y c.leads d.leads c.ends d.ends in
    let ends : x ≡ y = end_once (look c.to) x y c.ends (subst (λ (n : List (List ℕ)). IsEndAt (look n) y) (sym both.1) d.ends) in
    e ∙ ap₂ (Answer true) both.0 ends ∙ sym f
follows_once look name a b (inl (rs, x, c, e)) (inr (long, f)) = not_both look name rs x c long
follows_once look name a b (inr (long, e)) (inl (ss, y, d, f)) = not_both look name ss y d long
follows_once look name a b (inr (long, e)) (inr (other, f)) = e ∙ sym f

answers_once : {A : Type 0} (look : List (List ℕ) → Local) (name : List (List ℕ)) (l : Local) (a b : Outcome A) → AnswersFrom look name l a → AnswersFrom look name l b → a ≡ b
answers_once look name looked.NotHere a b e f = e ∙ sym f
answers_once look name (looked.Cut c ns glue) a b e f = e ∙ sym f
answers_once look name (looked.Linked link) a b e f = follows_once look name a b e f

pub answer_once : {A : Type 0} (look : List (List ℕ) → Local) (name : List (List ℕ)) (a b : Outcome A) → AnswersLocally look name a → AnswersLocally look name b → a ≡ b
answer_once look name a b e f = answers_once look name (look name) a b e f
