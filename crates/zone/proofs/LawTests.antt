-- The tests of a zone are the relations: cuts, names that exist, closest enclosers.
use Rattle.std.proofs.Common.{◌≡◌, ◌≢◌, ◌≤◌, ℕ, ⊎_elim, Bool, true, false, not, ◌&&◌, cond, is_some, Option, Some, None, List, [], ◌∷◌, length, refl, sym, ◌∙◌, ap, subst, arith, eqb-true, eq-eqb}
use Rattle.std.proofs.lemmas.Bool.{and_parts, and_from, both_ways, false_from_ne_true, not-true, not_from_false}
use Rattle.dname.specs.Labels.{same_name, is_under, IsAtOrUnder}
use Rattle.dname.specs.Laws.{same_name-exact, same_name-equal}
use Rattle.dname.proofs.Under.{under_is, is_under_holds}
use Rattle.rdata.specs.Data.{type_of}
use Rattle.rdata.specs.Records.{Record}
use Rattle.zone.specs.Zones.{Zone, At, IsCut, IsUncut, IsCutOver, IsBeneath, Exists, IsEncloser, ns_type}
use Rattle.zone.specs.Ruled.{IsNamed}
use Rattle.zone.specs.Look.{is_owned, is_type, owns, is_cut, or_else, cut_of, is_beneath_cut, exists, closest}
use Rattle.zone.proofs.LawLists.{any_from, any_of, over_one, under_cases, under_length, same_over, at_itself, one_under}
use Rattle.zone.proofs.LawExists.{cut_of_is, cut_kept, cut_itself, server_of, counts, some_or_none}

-- Cuts.
pub is_cut_is : (z : Zone) (c : List (List ℕ)) → is_cut z c ≡ true → IsCut z c
is_cut_is z c h =
    let s = server_of z c h in
    let p = and_parts (owns ns_type c z.records) (not (same_name c z.origin)) h in (
      λ e. both_ways (same_name c z.origin) (not-true (same_name c z.origin) p.1) (same_name-equal c z.origin e),
      (s.0, record { stands = s.1; owner = s.2; kind = eqb-true (type_of s.0.value) ns_type s.3 }),
    )

pub is_cut_holds : (z : Zone) (c : List (List ℕ)) → IsCut z c → is_cut z c ≡ true
is_cut_holds z c h =
    let r = h.1.0 in
    let a : At z c ns_type r = h.1.1 in
    let test : (is_owned c r && is_type ns_type r) ≡ true = and_from (is_owned c r) (is_type ns_type r) (same_name-equal r.owner c a.owner) (eq-eqb (type_of r.value) ns_type a.kind) in
    and_from (owns ns_type c z.records) (not (same_name c z.origin))
    (any_from (λ (x : Record). is_owned c x && is_type ns_type x) z.records r a.stands test)
    (not_from_false (same_name c z.origin) (false_from_ne_true (same_name c z.origin) (λ t. h.0 (same_name-exact c z.origin t))))

-- An owner of NS records is a name.
pub cut_named : (z : Zone) (c : List (List ℕ)) → IsNamed z → IsCut z c → c ≢ []
cut_named z c n h e = let a : At z c ns_type h.1.0 = h.1.1 in n h.1.0 a.stands (a.owner ∙ e)

-- A cut has itself or one above it as the cut over it.
cut_over_step : (z : Zone) (l : List ℕ) (ls : List (List ℕ)) (o : Option (List (List ℕ))) → is_cut z (l ∷ ls) ≡ true
    → (c : List (List ℕ)) × (or_else o (cond (is_cut z (l ∷ ls)) (Some (l ∷ ls)) None) ≡ Some c)
cut_over_step z l ls (Some d) h = (d, refl)
cut_over_step z l ls None h = (l ∷ ls, rw h refl)

pub cut_over_itself : (z : Zone) (c : List (List ℕ)) → c ≢ [] → is_cut z c ≡ true → (d : List (List ℕ)) × (cut_of z c ≡ Some d)
cut_over_itself z [] e h = absurd (e refl)
cut_over_itself z (l ∷ ls) e h = cut_over_step z l ls (cut_of z ls) h

-- The cut that a name is referred to.
pub cut_of_holds : (z : Zone) (q c : List (List ℕ)) → IsNamed z → cut_of z q ≡ Some c → IsCutOver z q c
cut_of_holds z q c n h =
    let m = cut_of_is z q c h in
    record {
      cut = is_cut_is z c m.cut;
      over = m.over;
      nearest = λ d k u. ⊎_elim
          (λ (v : IsAtOrUnder c d).
          let x = cut_over_itself z d (cut_named z d n k) (is_cut_holds z d k) in
          let e : Some x.0 ≡ Some c = sym (cut_kept z c d x.0 v x.1) ∙ cut_itself z q c h in
          let f : x.0 ≡ c = cc in
          under_length d c (subst (λ (y : List (List ℕ)). IsAtOrUnder d y) f ((cut_of_is z d x.0 x.1).over)))
          (λ (v : IsAtOrUnder d c). under_length d c v)
          (over_one q c d m.over u);
    }

pub uncut_holds : (z : Zone) (q : List (List ℕ)) → IsNamed z → cut_of z q ≡ None → IsUncut z q
uncut_holds z q n h c k u =
    let x = cut_over_itself z c (cut_named z c n k) (is_cut_holds z c k) in
    let e = cut_kept z q c x.0 u x.1 in
    absurd (cc)

pub uncut_is : (z : Zone) (q : List (List ℕ)) → IsUncut z q → cut_of z q ≡ None
uncut_is z q h = ⊎_elim (λ e. e) (λ x. let m = cut_of_is z q x.0 x.1 in absurd (h x.0 (is_cut_is z x.0 m.cut) m.over)) (some_or_none (cut_of z q))

pub cut_of_one : (z : Zone) (q c : List (List ℕ)) → IsNamed z → IsCutOver z q c → cut_of z q ≡ Some c
cut_of_one z q c n h =
    let x = cut_over_itself z c (cut_named z c n h.cut) (is_cut_holds z c h.cut) in
    let e : cut_of z q ≡ Some x.0 = cut_kept z q c x.0 h.over x.1 in
    let k : IsCutOver z q x.0 = cut_of_holds z q x.0 n e in
    let a : length c ≤ length x.0 = h.nearest x.0 k.cut k.over in
    let b : length x.0 ≤ length c = k.nearest c h.cut h.over in
    let f : x.0 ≡ c = same_over q x.0 c k.over h.over (omega arith) in
    e ∙ ap Some f

-- Owners beneath a cut.
beneath_none : (o : Option (List (List ℕ))) → is_some o ≡ false → o ≡ None
beneath_none None h = refl
beneath_none (Some c) h = absurd (cc)

pub plain_holds : (z : Zone) (o : List (List ℕ)) → IsNamed z → is_beneath_cut z o ≡ false → (c : List (List ℕ)) → IsCut z c → IsBeneath o c → ⊥
plain_holds z [] n h c k b = cut_named z c n k (empty_over c b.0)
  where
    empty_over : (c : List (List ℕ)) → IsAtOrUnder [] c → c ≡ []
    empty_over c ([], e) = sym e
    empty_over c (l ∷ f, e) = absurd (cc)
plain_holds z (l ∷ ls) n h c k b =
    ⊎_elim (λ e. b.1 e) (λ u. uncut_holds z ls n (beneath_none (cut_of z ls) h) c k u) (under_cases l ls c b.0)

pub plain_is : (z : Zone) (o : List (List ℕ)) → ((c : List (List ℕ)) → IsCut z c → IsBeneath o c → ⊥) → is_beneath_cut z o ≡ false
plain_is z [] h = refl
plain_is z (l ∷ ls) h = ⊎_elim (λ e. ap is_some e)
    (λ x.
    let m = cut_of_is z ls x.0 x.1 in
    let short : length x.0 ≤ length ls = under_length ls x.0 m.over in
    absurd (h x.0 (is_cut_is z x.0 m.cut) (one_under l ls x.0 m.over, λ e. absurd (omega (arith, ap length e)))))
    (some_or_none (cut_of z ls))

-- Names that exist.
pub exists_holds : (z : Zone) (n : List (List ℕ)) → IsNamed z → exists z n ≡ true → Exists z n
exists_holds z n named h =
    let m = any_of (counts z n) z.records h in
    let p = and_parts (not (is_beneath_cut z m.0.owner)) (is_under m.0.owner n) m.2 in
    (m.0, m.1, under_is m.0.owner n p.1, plain_holds z m.0.owner named (not-true (is_beneath_cut z m.0.owner) p.0))

pub exists_is : (z : Zone) (n : List (List ℕ)) → Exists z n → exists z n ≡ true
exists_is z n h = any_from (counts z n) z.records h.0 h.1
    (and_from (not (is_beneath_cut z h.0.owner)) (is_under h.0.owner n) (not_from_false (is_beneath_cut z h.0.owner) (plain_is z h.0.owner h.3)) (is_under_holds h.0.owner n h.2))

-- Closest enclosers.
pub record ClosestIs (z : Zone) (q e : List (List ℕ)) : Type 0 where
  pub real : exists z e ≡ true
  pub named : e ≢ []
  pub over : IsAtOrUnder q e
  pub longest : (d : List (List ℕ)) → exists z d ≡ true → IsAtOrUnder q d → length d ≤ length e

closest_step : (z : Zone) (l : List ℕ) (ls e : List (List ℕ)) (b : Bool) → exists z (l ∷ ls) ≡ b → (closest z ls ≡ Some e → ClosestIs z ls e)
    → cond b (Some (l ∷ ls)) (closest z ls) ≡ Some e → ClosestIs z (l ∷ ls) e
closest_step z l ls e true x k h =
    let s : (l ∷ ls) ≡ e = cc in
    subst (λ (y : List (List ℕ)). ClosestIs z (l ∷ ls) y) s (record { real = x; named = λ p. absurd (cc); over = at_itself (l ∷ ls); longest = λ d f u. under_length (l ∷ ls) d u })
closest_step z l ls e false x k h =
    let m = k h in
    record {
      real = m.real;
      named = m.named;
      over = one_under l ls e m.over;
      longest = λ d f u. ⊎_elim (λ p. absurd (let y : exists z (l ∷ ls) ≡ true = ap (exists z) p ∙ f in both_ways (exists z (l ∷ ls)) x y)) (λ v. m.longest d f v) (under_cases l ls d u);
    }

pub closest_is : (z : Zone) (q e : List (List ℕ)) → closest z q ≡ Some e → ClosestIs z q e
closest_is z [] e h = absurd (cc)
closest_is z (l ∷ ls) e h = closest_step z l ls e (exists z (l ∷ ls)) refl (closest_is z ls e) h

pub closest_holds : (z : Zone) (q e : List (List ℕ)) → IsNamed z → closest z q ≡ Some e → IsEncloser z q e
closest_holds z q e n h =
    let m = closest_is z q e h in
    record { exists = exists_holds z e n m.real; over = m.over; longest = λ d x u. m.longest d (exists_is z d x) u }

-- A name with one over it that exists has a closest encloser.
closest_more : (z : Zone) (l : List ℕ) (ls : List (List ℕ)) (b : Bool) → ((b ≡ true → ⊥) → (d : List (List ℕ)) × (closest z ls ≡ Some d)) → (d : List (List ℕ)) × (cond b (Some (l ∷ ls)) (closest z ls) ≡ Some d)
closest_more z l ls true k = (l ∷ ls, refl)
closest_more z l ls false k = k (λ e. absurd (cc))

pub closest_some : (z : Zone) (q e : List (List ℕ)) → e ≢ [] → exists z e ≡ true → IsAtOrUnder q e → (d : List (List ℕ)) × (closest z q ≡ Some d)
closest_some z [] e n x ([], p) = absurd (n (sym p))
closest_some z [] e n x (l ∷ f, p) = absurd (cc)
closest_some z (l ∷ ls) e n x u = closest_more z l ls (exists z (l ∷ ls))
    (λ f. ⊎_elim (λ p. absurd (f (ap (exists z) p ∙ x))) (λ v. closest_some z ls e n x v) (under_cases l ls e u))

pub closest_one : (z : Zone) (q e : List (List ℕ)) → IsNamed z → e ≢ [] → IsEncloser z q e → closest z q ≡ Some e
closest_one z q e n ne h =
    let x = closest_some z q e ne (exists_is z e h.exists) h.over in
    let k : IsEncloser z q x.0 = closest_holds z q x.0 n x.1 in
    let a : length x.0 ≤ length e = h.longest x.0 k.exists k.over in
    let b : length e ≤ length x.0 = k.longest e h.exists h.over in
    x.1 ∙ ap Some (same_over q x.0 e k.over h.over (omega arith))
