-- A walk that caps or sets each TTL in its place.
use Rattle.std.proofs.Common.{◌≡◌, ℕ, ◌+◌, ◌<◌, ◌≤◌, min, List, ◌++◌, length, take, drop, take_all, get_or, slice_set, map, append-nil, ◌∙◌, ap, arith}
use Rattle.std.proofs.lemmas.List.{drop_all}
use Rattle.std.proofs.lemmas.List.Edits.{map_over_more}
use Rattle.rdata.specs.Records.{Record, greatest_ttl}
use Rattle.rdata.specs.Caps.{capped}
use Rattle.rdata.specs.Sets.{with_ttl}

pub cap_more : (most : ℕ) (rs now : List Record) (i ttl : ℕ) (r s : Record) → i < length rs → now ≡ map (capped most) (take i rs) ++ drop i rs → r ≡ get_or now i r → s ≡ r
    → ttl ≡ min s.ttl most → slice_set now i (record { owner = s.owner; ttl = ttl; value = s.value }) ≡ map (capped most) (take (i + 1) rs) ++ drop (i + 1) rs
cap_more most rs now i ttl r s lt walked at_i is least =
    ap (slice_set now i) (ap (λ (n : ℕ). record { owner = s.owner; ttl = n; value = s.value }) least ∙ ap (capped most) is) ∙ map_over_more (capped most) rs now i r lt walked at_i

pub cap_fits : (most own ttl : ℕ) → ttl ≡ min own most → own ≤ greatest_ttl → ttl ≤ greatest_ttl
cap_fits most own ttl least fits = omega arith

pub cap_whole : (most : ℕ) (rs now : List Record) (i : ℕ) → length rs ≤ i → now ≡ map (capped most) (take i rs) ++ drop i rs → now ≡ map (capped most) rs
cap_whole most rs now i le walked =
    walked ∙ (ap (λ (xs : List Record). map (capped most) (take i rs) ++ xs) (drop_all i rs le)
    ∙ (append-nil (map (capped most) (take i rs)) ∙ ap (map (capped most)) (take_all i rs le)))

pub set_more : (ttl : ℕ) (rs now : List Record) (i : ℕ) (r s : Record) → i < length rs → now ≡ map (with_ttl ttl) (take i rs) ++ drop i rs → r ≡ get_or now i r → s ≡ r
    → slice_set now i (record { owner = s.owner; ttl = ttl; value = s.value }) ≡ map (with_ttl ttl) (take (i + 1) rs) ++ drop (i + 1) rs
set_more ttl rs now i r s lt walked at_i is = ap (slice_set now i) (ap (with_ttl ttl) is) ∙ map_over_more (with_ttl ttl) rs now i r lt walked at_i

pub set_whole : (ttl : ℕ) (rs now : List Record) (i : ℕ) → length rs ≤ i → now ≡ map (with_ttl ttl) (take i rs) ++ drop i rs → now ≡ map (with_ttl ttl) rs
set_whole ttl rs now i le walked =
    walked ∙ (ap (λ (xs : List Record). map (with_ttl ttl) (take i rs) ++ xs) (drop_all i rs le)
    ∙ (append-nil (map (with_ttl ttl) (take i rs)) ∙ ap (map (with_ttl ttl)) (take_all i rs le)))
