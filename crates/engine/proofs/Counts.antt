-- How many queries a list has, by their numbers.
use Rattle.std.proofs.Common.{◌≡◌, ℕ, suc, ◌+◌, ◌≤◌, inl, inr, List, [], ◌∷◌, length, Contains, refl, sym, ◌∙◌, ap, arith}
use Rattle.slab.proofs.SlabLemmas.{Contains-cons}
use Rattle.open_queries.proofs.Pigeons.{Without, without}
use Rattle.runs.specs.States.{Open, AreApart}
use Rattle.runs.specs.Steps.{AreOthers, AreWith}

-- Some query of the list has this number.
abbrev pub HasNumber : List Open → ℕ → Type 0
HasNumber qs k = (q : Open) × Contains qs q × (q.number ≡ k)

abbrev number_of : Open → ℕ
number_of q = q.number

-- Queries that are apart, and each has the number of one of another list: they are no more than that list has.
pub no_more : (new old : List Open) → AreApart new → ((p : Open) → Contains new p → HasNumber old p.number) → length new ≤ length old
no_more [] old apart has = omega arith
no_more (p ∷ new) old apart has =
    let head : HasNumber old p.number = has p (0, omega arith, refl) in
    let w : Without number_of head.0 old = without number_of old head.0 head.1 in
    let tail : length new ≤ length w.rest =
    no_more new w.rest apart.1
    (λ r there. let it : HasNumber old r.number = has r (Contains-cons p r new there) in
    (it.0, w.stays it.0 it.1 (λ same. apart.0 r there (sym it.2 ∙ same ∙ head.2)), it.2))
    in
    let fewer : length old ≡ suc (length w.rest) = w.fewer in
    omega arith

pub others_no_more : (k : ℕ) (old new : List Open) → AreOthers k old new → AreApart new → length new ≤ length old
others_no_more k old new h apart = no_more new old apart (λ p there. (p, (h.only p there).0, refl))

-- Where one of its number was there, the list has no more with a query in its place; else one more.
pub with_no_more : (after : Open) (old new : List Open) → AreWith after old new → AreApart new → HasNumber old after.number → length new ≤ length old
with_no_more after old new h apart was =
    no_more new old apart
    (λ p there. elim (h.only p there) [ inl e ↦ (was.0, was.1, was.2 ∙ sym (ap (λ (q : Open). q.number) e)) | inr it ↦ (p, it.0, refl) ])

pub with_one_more : (after : Open) (old new : List Open) → AreWith after old new → AreApart new → length new ≤ length old + 1
with_one_more after old new h apart =
    let longer : length new ≤ length (after ∷ old) =
    no_more new (after ∷ old) apart
    (λ p there. elim (h.only p there) [ inl e ↦ (p, (0, omega arith, sym e), refl) | inr it ↦ (p, Contains-cons after p old it.0, refl) ])
    in
    omega arith
