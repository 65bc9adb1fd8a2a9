-- Without a cut over a name all owners count, and so does the climb to its closest encloser.
use Rattle.std.proofs.Common.{◌≡◌, ℕ, ◌⊎◌, inl, inr, ⊎_elim, Bool, true, false, not, ◌&&◌, cond, is_some, Option, Some, None, List, [], ◌∷◌, ◌++◌, refl, sym, ◌∙◌, ap, subst}
use Rattle.std.specs.Prelude.{Contains}
use Rattle.std.specs.List.{list_any}
use Rattle.std.proofs.lemmas.Bool.{and_parts, and_from}
use Rattle.dname.specs.Labels.{star, same_name, is_under, IsAtOrUnder}
use Rattle.dname.specs.Laws.{same_name-exact}
use Rattle.dname.proofs.Under.{under_is, is_under_holds}
use Rattle.rdata.specs.Records.{Record}
use Rattle.zone.specs.Zones.{Zone, ns_type}
use Rattle.zone.specs.Look.{is_owned, is_type, owns, is_cut, or_else, cut_of, is_beneath_cut, exists, closest, at, said_wild, wild_at, wild, climbed}
use Rattle.zone.proofs.LawLists.{any_from, any_of, same_tests, over_one, under_cases, at_itself, one_under}

-- What the cut over a name is.
pub record CutIs (z : Zone) (n c : List (List ℕ)) : Type 0 where
  pub first : List ℕ
  pub rest : List (List ℕ)
  pub is : c ≡ first ∷ rest
  pub cut : is_cut z c ≡ true
  pub above : cut_of z rest ≡ None
  pub over : IsAtOrUnder n c

cut_here : (z : Zone) (l : List ℕ) (ls c : List (List ℕ)) (b : Bool) → is_cut z (l ∷ ls) ≡ b → cut_of z ls ≡ None → cond b (Some (l ∷ ls)) None ≡ Some c → CutIs z (l ∷ ls) c
cut_here z l ls c true e h k =
    let s : (l ∷ ls) ≡ c = cc in
    subst (λ (x : List (List ℕ)). CutIs z (l ∷ ls) x) s (record { first = l; rest = ls; is = refl; cut = e; above = h; over = at_itself (l ∷ ls) })
cut_here z l ls c false e h k = absurd (cc)

cut_step : (z : Zone) (l : List ℕ) (ls c : List (List ℕ)) (o : Option (List (List ℕ))) → cut_of z ls ≡ o → (cut_of z ls ≡ Some c → CutIs z ls c)
    → or_else o (cond (is_cut z (l ∷ ls)) (Some (l ∷ ls)) None) ≡ Some c → CutIs z (l ∷ ls) c
cut_step z l ls c (Some d) e k h =
    let m = k (e ∙ h) in
    record { first = m.first; rest = m.rest; is = m.is; cut = m.cut; above = m.above; over = one_under l ls c m.over }
cut_step z l ls c None e k h = cut_here z l ls c (is_cut z (l ∷ ls)) refl e h

pub cut_of_is : (z : Zone) (n c : List (List ℕ)) → cut_of z n ≡ Some c → CutIs z n c
cut_of_is z [] c h = absurd (cc)
cut_of_is z (l ∷ ls) c h = cut_step z l ls c (cut_of z ls) refl (cut_of_is z ls c) h

-- The cut over a name is the cut over all names under it.
kept : (z : Zone) (front : List (List ℕ)) (n c : List (List ℕ)) → cut_of z n ≡ Some c → cut_of z (front ++ n) ≡ Some c
kept z [] n c h = h
kept z (l ∷ front) n c h = ap (λ (o : Option (List (List ℕ))). or_else o (cond (is_cut z (l ∷ (front ++ n))) (Some (l ∷ (front ++ n))) None)) (kept z front n c h)

pub cut_kept : (z : Zone) (a n c : List (List ℕ)) → IsAtOrUnder a n → cut_of z n ≡ Some c → cut_of z a ≡ Some c
cut_kept z a n c u h = subst (λ (x : List (List ℕ)). cut_of z x ≡ Some c) (sym u.1) (kept z u.0 n c h)

-- The cut over a name is the cut over itself.
pub cut_itself : (z : Zone) (n c : List (List ℕ)) → cut_of z n ≡ Some c → cut_of z c ≡ Some c
cut_itself z n c h =
    let m = cut_of_is z n c h in
    let e : cut_of z (m.first ∷ m.rest) ≡ Some (m.first ∷ m.rest) = rw (m.above, ap (is_cut z) (sym m.is) ∙ m.cut) refl in
    subst (λ (x : List (List ℕ)). cut_of z x ≡ Some x) (sym m.is) e

pub some_or_none : {X : Type 0} (o : Option X) → (o ≡ None) ⊎ ((x : X) × (o ≡ Some x))
some_or_none None = inl refl
some_or_none (Some x) = inr (x, refl)

pub uncut_above : (z : Zone) (l : List ℕ) (ls : List (List ℕ)) → cut_of z (l ∷ ls) ≡ None → cut_of z ls ≡ None
uncut_above z l ls h = ⊎_elim (λ e. e) (λ k. absurd (let p = cut_kept z (l ∷ ls) ls k.0 (l ∷ [], refl) k.1 in cc)) (some_or_none (cut_of z ls))

-- A name of which the test says that it is beneath a cut.
pub beneath_some : (o : Option (List (List ℕ))) → is_some o ≡ true → (c : List (List ℕ)) × (o ≡ Some c)
beneath_some None h = absurd (cc)
beneath_some (Some c) h = (c, refl)

-- An owner that is not beneath a cut.
abbrev pub counts : Zone → List (List ℕ) → Record → Bool
counts z n r = not (is_beneath_cut z r.owner) && is_under r.owner n

abbrev pub is_beneath_name : List (List ℕ) → Record → Bool
is_beneath_name n r = is_under r.owner n

-- The owner of a cut's NS records is not beneath a cut.
pub cut_not_beneath : (z : Zone) (n c : List (List ℕ)) → cut_of z n ≡ Some c → is_beneath_cut z c ≡ false
cut_not_beneath z n c h =
    let m = cut_of_is z n c h in
    subst (λ (x : List (List ℕ)). is_beneath_cut z x ≡ false) (sym m.is) (ap is_some m.above)

-- The NS record of a cut.
pub server_of : (z : Zone) (c : List (List ℕ)) → is_cut z c ≡ true → (r : Record) × Contains z.records r × (r.owner ≡ c) × (is_type ns_type r ≡ true)
server_of z c h =
    let p = and_parts (owns ns_type c z.records) (not (same_name c z.origin)) h in
    let m = any_of (λ (r : Record). is_owned c r && is_type ns_type r) z.records p.0 in
    let s = and_parts (is_owned c m.0) (is_type ns_type m.0) m.2 in
    (m.0, m.1, same_name-exact m.0.owner c s.0, s.1)

-- A name over a cut exists: the cut's own NS record shows it.
cut_shows : (z : Zone) (n m c : List (List ℕ)) → cut_of z m ≡ Some c → IsAtOrUnder c n → exists z n ≡ true
cut_shows z n m c h u =
    let s = server_of z c ((cut_of_is z m c h).cut) in
    let e : counts z n s.0 ≡ true =
    subst (λ (x : List (List ℕ)). (not (is_beneath_cut z x) && is_under x n) ≡ true) (sym s.2)
    (and_from (not (is_beneath_cut z c)) (is_under c n) (ap not (cut_not_beneath z m c h)) (is_under_holds c n u)) in
    any_from (counts z n) z.records s.0 s.1 e

-- A name that an owner beneath a cut is at or under, with no cut over it.
shown_by : (z : Zone) (n : List (List ℕ)) (l : List ℕ) (ls c : List (List ℕ)) → cut_of z n ≡ None → IsAtOrUnder (l ∷ ls) n → cut_of z ls ≡ Some c → exists z n ≡ true
shown_by z n l ls c free u h =
    ⊎_elim (λ (e : (l ∷ ls) ≡ n). absurd (let p = cut_kept z (l ∷ ls) ls c (l ∷ [], refl) h in let q : cut_of z (l ∷ ls) ≡ None = ap (cut_of z) e ∙ free in cc))
    (λ (v : IsAtOrUnder ls n). ⊎_elim
    (λ (w : IsAtOrUnder n c). absurd (let p = cut_kept z n c c w (cut_itself z ls c h) in cc))
    (λ (w : IsAtOrUnder c n). cut_shows z n ls c h w)
    (over_one ls n c v ((cut_of_is z ls c h).over)))
    (under_cases l ls n u)

shown_at : (z : Zone) (n o : List (List ℕ)) → cut_of z n ≡ None → is_under o n ≡ true → is_beneath_cut z o ≡ true → exists z n ≡ true
shown_at z n [] free u b = absurd (cc)
shown_at z n (l ∷ ls) free u b = let c = beneath_some (cut_of z ls) b in shown_by z n l ls c.0 free (under_is (l ∷ ls) n u) c.1

shown : (z : Zone) (n : List (List ℕ)) (r : Record) (b : Bool) → cut_of z n ≡ None → Contains z.records r → is_under r.owner n ≡ true → is_beneath_cut z r.owner ≡ b → exists z n ≡ true
shown z n r true free h u e = shown_at z n r.owner free u e
shown z n r false free h u e = any_from (counts z n) z.records r h (and_from (not (is_beneath_cut z r.owner)) (is_under r.owner n) (ap not e) u)

-- Without a cut over a name all owners at or under it show that it exists.
pub exists_plain : (z : Zone) (n : List (List ℕ)) → cut_of z n ≡ None → exists z n ≡ list_any (λ (r : Record). is_under r.owner n) z.records
exists_plain z n free = same_tests (exists z n) (list_any (is_beneath_name n) z.records)
    (λ h. let m = any_of (counts z n) z.records h in any_from (is_beneath_name n) z.records m.0 m.1 ((and_parts (not (is_beneath_cut z m.0.owner)) (is_under m.0.owner n) m.2).1))
    (λ h. let m = any_of (is_beneath_name n) z.records h in shown z n m.0 (is_beneath_cut z m.0.owner) free m.1 m.2 refl)

-- The closest encloser above a name with no cut over it.
climb_step : (soa : Record) (q : List (List ℕ)) (t : ℕ) (z : Zone) (m : List ℕ) (ms : List (List ℕ)) (b : Bool) → exists z (m ∷ ms) ≡ b
    → climbed soa q t z.records (m ∷ ms) ≡ said_wild soa q t (wild_at z (closest z ms))
    → cond b (said_wild soa q t (at (star ∷ m ∷ ms) z.records)) (climbed soa q t z.records (m ∷ ms)) ≡ said_wild soa q t (wild_at z (closest z (m ∷ ms)))
climb_step soa q t z m ms true e h = rw e refl
climb_step soa q t z m ms false e h = rw e h

pub climbed_from : (soa : Record) (q : List (List ℕ)) (t : ℕ) (z : Zone) (l : List ℕ) (ls : List (List ℕ)) → cut_of z (l ∷ ls) ≡ None
    → climbed soa q t z.records (l ∷ ls) ≡ said_wild soa q t (wild_at z (closest z ls))
climbed_from soa q t z l [] free = refl
climbed_from soa q t z l (m ∷ ms) free =
    let above : cut_of z (m ∷ ms) ≡ None = uncut_above z l (m ∷ ms) free in
    ap (λ (b : Bool). cond b (said_wild soa q t (at (star ∷ m ∷ ms) z.records)) (climbed soa q t z.records (m ∷ ms))) (sym (exists_plain z (m ∷ ms) above))
    ∙ climb_step soa q t z m ms (exists z (m ∷ ms)) refl (climbed_from soa q t z m ms above)

-- Where the name itself does not exist the climb gives what its wildcard says.
pub climbed_is : (soa : Record) (q : List (List ℕ)) (t : ℕ) (z : Zone) (n : List (List ℕ)) → cut_of z n ≡ None → list_any (λ (r : Record). is_under r.owner n) z.records ≡ false
    → climbed soa q t z.records n ≡ said_wild soa q t (wild z n)
climbed_is soa q t z [] free h = refl
climbed_is soa q t z (l ∷ ls) free h =
    let none : exists z (l ∷ ls) ≡ false = exists_plain z (l ∷ ls) free ∙ h in
    climbed_from soa q t z l ls free ∙ ap (λ (b : Bool). said_wild soa q t (wild_at z (cond b (Some (l ∷ ls)) (closest z ls)))) (sym none)
