-- Labels that an origin stands behind.
use Rattle.std.proofs.Common.{◌≡◌, ℕ, ◌+◌, ◌<◌, ◌≤◌, Ok, Err, List, [], ◌∷◌, ◌++◌, length, take, sym, ◌∙◌, ap, subst, arith, length-append}
use Rattle.std.proofs.Math.Seq.{take-append_seam}
use Rattle.std.proofs.lemmas.Bool.Decides.{nat_tests}
use Rattle.dname.specs.Labels.{wire, AreLabels}
use Rattle.dname.specs.Wire.{labels_of, IsWire, IsNameWire}
use Rattle.dname.specs.Laws.{labels_of-wire}
use Rattle.dname.specs.Draft.{Draft, AllLabels}
use Rattle.dname.specs.Written.{draft_of, IsWritten}
use Rattle.dname.specs.Text.{with_origin}
use Rattle.dname.specs.declared.text.NameError.TheVariants.{LongName}
use Rattle.dname.proofs.Split.{wire_is}
use Rattle.dname.proofs.Drafts.{wire-append, Names}

pub labels_on : (ls ns : List (List ℕ)) → AllLabels ls → AreLabels ns → AreLabels (ls ++ ns)
labels_on ls [] h k = absurd k
labels_on [] (m ∷ ms) h k = k
labels_on (l ∷ []) (m ∷ ms) h k = (h.0, k)
labels_on (l ∷ l' ∷ ls) (m ∷ ms) h k = (h.0, labels_on (l' ∷ ls) (m ∷ ms) h.1 k)

joined : (closed : List (List ℕ)) (origin : List ℕ) → IsWire origin → wire (closed ++ labels_of origin) ≡ wire closed ++ origin
joined closed origin h = wire-append closed (labels_of origin) ∙ ap (λ (x : List ℕ). wire closed ++ x) h.bytes

pub too_long : (origin closed : List (List ℕ)) → 255 < length (wire (closed ++ origin)) → with_origin origin closed ≡ Err LongName
too_long origin closed h = grind (arith, nat_tests)

pub fits : (origin closed : List (List ℕ)) → length (wire (closed ++ origin)) ≤ 255 → with_origin origin closed ≡ Ok (closed ++ origin)
fits origin closed h = grind (arith, nat_tests)

module _ (bytes : List ℕ) (start : ℕ) (d : Draft) (origin : List ℕ) (h : IsWritten bytes start) (e : draft_of bytes start ≡ d) (o : IsNameWire origin) where
  closed_is : (draft_of bytes start).closed ≡ d.closed
  closed_is = ap (λ (x : Draft). x.closed) e

  size : length (wire (d.closed ++ labels_of origin)) ≡ start + length origin
  size =
      let begins : start ≡ length (wire d.closed) = h.begins ∙ ap (λ (x : List (List ℕ)). length (wire x)) closed_is in
      ap length (joined d.closed origin o.wire) ∙ (length-append (wire d.closed) origin ∙ ap (λ (n : ℕ). n + length origin) (sym begins))

  pub origin_too_long : 255 < start + length origin → with_origin (labels_of origin) d.closed ≡ Err LongName
  origin_too_long lt = too_long (labels_of origin) d.closed (omega (arith, size))

  pub origin_fits : start + length origin ≤ 255 → with_origin (labels_of origin) d.closed ≡ Ok (d.closed ++ labels_of origin)
  origin_fits le = fits (labels_of origin) d.closed (omega (arith, size))

  pub origin_named : (new : List ℕ) → start + length origin ≤ 255 → new ≡ take start bytes ++ origin → Names new (d.closed ++ labels_of origin)
  origin_named new le en =
      let begins : start ≡ length (wire d.closed) = h.begins ∙ ap (λ (x : List (List ℕ)). length (wire x)) closed_is in
      let all : bytes ≡ wire d.closed ++ 0 ∷ d.opened = h.all ∙ ap (λ (x : Draft). wire x.closed ++ 0 ∷ x.opened) e in
      let front : take start bytes ≡ wire d.closed =
      ap (λ (n : ℕ). take n bytes) begins ∙ (ap (λ (x : List ℕ). take (length (wire d.closed)) x) all ∙ take-append_seam (wire d.closed) (0 ∷ d.opened)) in
      let whole : new ≡ wire (d.closed ++ labels_of origin) = en ∙ (ap (λ (x : List ℕ). x ++ origin) front ∙ sym (joined d.closed origin o.wire)) in
      let labels : AllLabels d.closed = subst (λ (x : Draft). AllLabels x.closed) e h.draft.labels in
      subst (λ (x : List ℕ). Names x (d.closed ++ labels_of origin)) (sym whole) (record {
        good = record { wire = wire_is (d.closed ++ labels_of origin) (labels_on d.closed (labels_of origin) labels o.wire.labels); short = omega (arith, size) };
        same = labels_of-wire (d.closed ++ labels_of origin);
      })
