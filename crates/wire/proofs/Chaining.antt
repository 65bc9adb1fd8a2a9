-- A walk that passes a chain of pointers in one step.
use Rattle.std.proofs.Common.{◌≡◌, ℕ, ◌+◌, ◌<◌, ◌≤◌, Bool, true, false, List, [], ◌∷◌, ◌++◌, length, Option, Some, None, Result, Ok, Err, IfOk, refl, sym, ◌∙◌, ap, subst, arith, length-append}
use Rattle.std.specs.Prelude.{nat_lt, if◌then◌else◌, slice_index}
use Rattle.std.specs.Option.{option_or}
use Rattle.std.proofs.Math.ListN.{get_or-append}
use Rattle.std.proofs.Math.Seq.{get_or-append_seam}
use Rattle.std.proofs.lemmas.Bool.Decides.{nat_tests}
use Rattle.std.proofs.lemmas.Option.{slice_get_within}
use Rattle.wire.specs.declared.error.WireError.{WireError}
use Rattle.wire.specs.declared.error.WireError.TheVariants.{Short, BadLabel}
use Rattle.wire.specs.declared.parts.Part.{Part}
use Rattle.wire.specs.declared.parts.Part.TheVariants.{End, Label, Pointer}
use Rattle.wire.specs.declared.parts.Faults.{Faults}
use Rattle.wire.specs.Parts.{part_at}
use Rattle.wire.specs.Chains.{LeadsBack, LeadsTo, stays_there, goes_back, IsChainEnd, AreChainEnds, chain_behind}
use Rattle.wire.proofs.Bytes.{AreSmall}
use Rattle.wire.proofs.NamesRead.{IsThere, part_there, pointer_part}
use Rattle.wire.proofs.Walks.{Spelt, Walk, walk_pointer}

-- ---- the ends of chains

leads_lower : (bytes : List ℕ) (at end : ℕ) → LeadsTo bytes at end → end ≤ at
leads_lower bytes at end (stays_there _ _ e) = omega arith
leads_lower bytes at end (goes_back _ target _ b r) =
    let less = b.back in
    let lower = leads_lower bytes target end r in
    omega arith

-- Where a pointer stands that leads to an earlier place, that is read.
back_part : (bytes : List ℕ) (bad : WireError) (at target : ℕ) → LeadsBack bytes at target → part_at bytes (length bytes) Short bad at ≡ Ok (Pointer target)
back_part bytes bad at target b = pointer_part bytes (length bytes) Short bad at target (slice_get_within bytes (at + 1) b.stands.low b.stands.second) b.stands

pub chain_goes : (bytes ends : List ℕ) (at target : ℕ) → AreSmall bytes → AreChainEnds bytes ends → part_at bytes (length bytes) Short BadLabel at ≡ Ok (Pointer target)
    → target < at → target < length ends → IsChainEnd bytes at (slice_index ends target)
chain_goes bytes ends at target small known is less within =
    let there = subst (λ (r : Result Part WireError). IfOk r (IsThere bytes (length bytes) at)) is (part_there bytes (length bytes) Short BadLabel at small (omega arith)) in
    let behind = known target within in
    record { reached = goes_back at target (slice_index ends target) (record { stands = there.1; back = less }) behind.reached; last = behind.last }

-- What is read there is no pointer to an earlier place.
abbrev pub StaysAt : ℕ → Result Part WireError → Type 0
StaysAt at (Ok (Pointer target)) = at ≤ target
StaysAt at (Ok End) = Unit {0}
StaysAt at (Ok (Label size)) = Unit {0}
StaysAt at (Err e) = Unit {0}

pub chain_stops : (bytes : List ℕ) (at : ℕ) (p : Result Part WireError) → p ≡ part_at bytes (length bytes) Short BadLabel at → StaysAt at p → IsChainEnd bytes at at
chain_stops bytes at p is stays = record {
  reached = stays_there at at refl;
  last = λ target b.
      let more = subst (λ (r : Result Part WireError). StaysAt at r) (is ∙ back_part bytes BadLabel at target b) stays in
      let less = b.back in
      absurd (omega arith);
}

one_more : (bytes ends : List ℕ) (end : ℕ) → AreChainEnds bytes ends → IsChainEnd bytes (length ends) end → AreChainEnds bytes (ends ++ end ∷ [])
one_more bytes ends end known last at within = by (nat_lt at (length ends)) refl
  where
    by : (b : Bool) → nat_lt at (length ends) ≡ b → IsChainEnd bytes at (slice_index (ends ++ end ∷ []) at)
    by true inside =
        let less : at < length ends = grind (arith, nat_tests) in
        subst (λ (n : ℕ). IsChainEnd bytes at n) (sym (get_or-append ends (end ∷ []) 0 at less)) (known at less)
    by false over =
        let more : length ends ≤ at = grind (arith, nat_tests) in
        let same : length ends ≡ at = omega (arith, length-append ends (end ∷ [])) in
        subst (λ (n : ℕ). IsChainEnd bytes n (slice_index (ends ++ end ∷ []) n)) same (subst (λ (n : ℕ). IsChainEnd bytes (length ends) n) (sym (get_or-append_seam ends end [] 0)) last)

-- The ends from so many places, and one more.
pub ends_more : (bytes ends more : List ℕ) (at end : ℕ) → length ends ≡ at → AreChainEnds bytes ends → IsChainEnd bytes at end → more ≡ ends ++ end ∷ []
    → (length more ≡ at + 1) × AreChainEnds bytes more
ends_more bytes ends more at end long known last put = (
  omega (arith, ap length put, length-append ends (end ∷ []), long),
  subst (λ (xs : List ℕ). AreChainEnds bytes xs) (sym put) (one_more bytes ends end known (subst (λ (n : ℕ). IsChainEnd bytes n end) (sym long) last)),
)

-- ---- past a chain

pub chain_leads : (bytes ends : List ℕ) (at next : ℕ) → AreChainEnds bytes ends → next ≡ chain_behind ends at → LeadsTo bytes at next
chain_leads bytes ends at next known is = subst (λ (n : ℕ). LeadsTo bytes at n) (sym is) (by (nat_lt at (length ends)) refl)
  where
    by : (b : Bool) → nat_lt at (length ends) ≡ b → LeadsTo bytes at (if b then slice_index ends at else at)
    by true inside = let less : at < length ends = grind (arith, nat_tests) in (known at less).reached
    by false over = stays_there at at refl

pub chain_lower : (bytes ends : List ℕ) (at next : ℕ) → AreChainEnds bytes ends → next ≡ chain_behind ends at → next ≤ at
chain_lower bytes ends at next known is = leads_lower bytes at next (chain_leads bytes ends at next known is)

walk_on : (bytes : List ℕ) (faults : Faults) (limit : ℕ) (whole : Spelt) (front : List (List ℕ)) (room before at end : ℕ) → LeadsTo bytes at end
    → Walk bytes faults limit whole front at at (length bytes) Short room (Some before) → Walk bytes faults limit whole front end end (length bytes) Short room (Some before)
walk_on bytes faults limit whole front room before at end (stays_there _ _ e) w =
    subst (λ (n : ℕ). Walk bytes faults limit whole front n n (length bytes) Short room (Some before)) (sym e) w
walk_on bytes faults limit whole front room before at end (goes_back _ target _ b r) w =
    walk_on bytes faults limit whole front room before target end r
    (walk_pointer bytes faults limit whole front at at (length bytes) Short room (Some before) w target (Ok (Pointer target)) (sym (back_part bytes faults.bad_label at target b)) refl b.back
    (slice_get_within bytes (at + 1) b.stands.low b.stands.second))

-- A pointer, and the chain behind it.
pub walk_chain : (bytes : List ℕ) (faults : Faults) (limit : ℕ) (whole : Spelt) (front : List (List ℕ)) (start place stop : ℕ) (border : WireError) (room : ℕ)
    (end : Option ℕ) (w : Walk bytes faults limit whole front start place stop border room end) (target : ℕ) (p : Result Part WireError) → p ≡ part_at bytes stop border faults.bad_label place
    → p ≡ Ok (Pointer target) → target < start → place + 1 < stop → (next : ℕ) → LeadsTo bytes target next
    → Walk bytes faults limit whole front next next (length bytes) Short room (option_or end (Some (place + 2)))
walk_chain bytes faults limit whole front start place stop border room end w target p is pointer earlier within next leads =
    by end (walk_pointer bytes faults limit whole front start place stop border room end w target p is pointer earlier within)
  where
    by : (o : Option ℕ) → Walk bytes faults limit whole front target target (length bytes) Short room (option_or o (Some (place + 2)))
        → Walk bytes faults limit whole front next next (length bytes) Short room (option_or o (Some (place + 2)))
    by None h = walk_on bytes faults limit whole front room (place + 2) target next leads h
    by (Some before) h = walk_on bytes faults limit whole front room before target next leads h
