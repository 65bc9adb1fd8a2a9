-- A text is read as a name exactly where it writes that name.
use Rattle.std.proofs.Common.{◌≡◌, ℕ, ◌+◌, ◌<◌, ◌≤◌, Bool, true, false, cond, nat_eq, nat_le, Result, Ok, Err, List, [], ◌∷◌, ◌++◌, length, refl, sym, ap, subst, ◌∙◌, append_assoc, length-append, arith, inl, inr}
use Rattle.std.proofs.lemmas.List.{append-nil, nil_from_length}
use Rattle.std.proofs.lemmas.Bool.{cases_lt}
use Rattle.std.proofs.lemmas.Bool.Decides.{nat_tests}
use Rattle.std.specs.Cmp.Lexicographic.{pointwise, bytes_decides}
use Rattle.dname.specs.Labels.{root, wire, folded, folded_label, folded_labels, AreLabels, IsName}
use Rattle.dname.specs.Draft.{Draft, IsDraft, empty_draft, pushed, shut}
use Rattle.dname.specs.declared.builder.Overflow.{Overflow}
use Rattle.dname.specs.declared.builder.Overflow.TheVariants as over
use Rattle.dname.specs.declared.text.NameError.{NameError}
use Rattle.dname.specs.declared.text.NameError.TheVariants.{EmptyLabel, LongName}
use Rattle.dname.specs.Text.{Token, Dot, Byte, Bad, tokens, spelled, after_push, completed, completed_draft, with_origin, name_under}
use Rattle.dname.specs.Spelling.{Spells, first_part, later_parts, parts, Writes, root_alone, absolute, relative, AreBytes, TextWritesName}
use Rattle.dname.proofs.Drafts.{wire-append, more_draft, label_more, folded_twice, folded_fits}
use Rattle.dname.proofs.Origins.{labels_on, fits}
use Rattle.dname.proofs.Spellings.{told, NoBad, Small, spells, spells_read, never_bad, small}

-- The labels of tokens behind bytes that stand open.
abbrev joined : List ℕ → List Token → List (List ℕ)
joined opened ts = (opened ++ folded_label (first_part ts)) ∷ folded_labels (later_parts ts)

abbrev more : Draft → ℕ → Draft
more d b = record { closed = d.closed; opened = d.opened ++ folded b ∷ [] }

data Pushed (d : Draft) (b : ℕ) : Type 0 where
  fits_in : length d.opened < 63 → length (wire d.closed) + 1 + length d.opened < 254 → pushed d b ≡ Ok (more d b) → Pushed d b
  refused : (e : Overflow) → pushed d b ≡ Err e → Pushed d b

pushed_says : (d : Draft) (b : ℕ) → Pushed d b
pushed_says d b = elim (cases_lt (length d.opened) 63) [
  | inl few ↦ elim (cases_lt (length (wire d.closed) + 1 + length d.opened) 254) [
    | inl room ↦ fits_in few room (grind (arith, nat_tests))
    | inr full ↦ refused over.LongName (grind (arith, nat_tests))
  ]
  | inr many ↦ refused over.LongLabel (grind (arith, nat_tests))
]

shut_draft : (d : Draft) → IsDraft d → 0 < length d.opened → IsDraft (shut d)
shut_draft d h some =
    label_more d.closed d.opened h.labels (record { nonempty = some; short = h.short; bytes = h.folded_bytes }) (let room : length (wire d.closed) + length d.opened + 2 ≤ 255 = h.open_room some in omega arith)

record Read (d : Draft) (ts : List Token) (d' : Draft) : Type 0 where
  no_bad : NoBad ts
  whole : d'.closed ++ d'.opened ∷ [] ≡ d.closed ++ joined d.opened ts
  good : IsDraft d → Small ts → IsDraft d'

read_nothing : (d d' : Draft) → d ≡ d' → Read d [] d'
read_nothing d d' e = subst (λ (x : Draft). Read d [] x) e (record { no_bad = tt; whole = ap (λ (x : List ℕ). d.closed ++ x ∷ []) (sym (append-nil d.opened)); good = λ h _. h })

read_dot : (d d' : Draft) (ts : List Token) → 0 < length d.opened → Read (shut d) ts d' → Read d (Dot ∷ ts) d'
read_dot d d' ts some r = record {
  no_bad = r.no_bad;
  whole = r.whole ∙ (append_assoc d.closed (d.opened ∷ []) (joined [] ts) ∙ ap (λ (x : List ℕ). d.closed ++ x ∷ joined [] ts) (sym (append-nil d.opened)));
  good = λ h s. r.good (shut_draft d h some) s;
}

read_byte : (d d' : Draft) (b : ℕ) (ts : List Token) → length d.opened < 63 → length (wire d.closed) + 1 + length d.opened < 254 → Read (more d b) ts d' → Read d (Byte b ∷ ts) d'
read_byte d d' b ts few room r = record {
  no_bad = r.no_bad;
  whole = r.whole ∙ ap (λ (x : List ℕ). d.closed ++ x ∷ folded_labels (later_parts ts)) (append_assoc d.opened (folded b ∷ []) (folded_label (first_part ts)));
  good = λ h s. r.good (more_draft d (folded b) h (folded_fits b s.0) (folded_twice b) few room) s.1;
}

read_parts : (d d' : Draft) (ts : List Token) → spelled d ts ≡ Ok d' → Read d ts d'
read_parts d d' [] e = read_nothing d d' cc
read_parts d d' (Dot ∷ ts) e = elim (told (nat_eq (length d.opened) 0)) [
  | inl t ↦ absurd (let x : Err EmptyLabel ≡ Ok d' = ap (λ (z : Bool). cond z (Err EmptyLabel) (spelled (shut d) ts)) (sym t) ∙ e in cc)
  | inr f ↦ read_dot d d' ts (grind (arith, nat_tests)) (read_parts (shut d) d' ts (ap (λ (z : Bool). cond z (Err EmptyLabel) (spelled (shut d) ts)) (sym f) ∙ e))
]
read_parts d d' (Byte b ∷ ts) e = elim (pushed_says d b) [
  | fits_in few room p ↦ read_byte d d' b ts few room (read_parts (more d b) d' ts (ap (after_push (λ next. spelled next ts)) (sym p) ∙ e))
  | refused o p ↦ absurd (let x = ap (after_push (λ next. spelled next ts)) (sym p) ∙ e in cc)
]
read_parts d d' (Bad ∷ ts) e = absurd (cc)

-- ---- tokens that write a name are read

first_label : (l : List ℕ) (ls : List (List ℕ)) → 0 < length l → AreLabels (l ∷ ls) → (length l < 64) × (0 < length (wire ls))
first_label l [] some h = absurd (omega (arith, ap length h))
first_label l (m ∷ ls) some h = (h.0.short, omega arith)

reads : (d : Draft) (ts : List Token) (s : List (List ℕ)) → NoBad ts → AreLabels (joined d.opened ts ++ s) → length (wire (d.closed ++ (joined d.opened ts ++ s))) ≤ 255
    → (d' : Draft) × (spelled d ts ≡ Ok d')
reads d [] s nb h k = (d, refl)
reads d (Dot ∷ ts) s nb h k =
    let some : 0 < length d.opened = omega (arith, h.0.nonempty, ap length (append-nil d.opened)) in
    let size : length (wire ((d.closed ++ d.opened ∷ []) ++ (joined [] ts ++ s))) ≤ 255 =
    subst (λ (x : List (List ℕ)). length (wire x) ≤ 255) (ap (λ (x : List ℕ). d.closed ++ x ∷ (joined [] ts ++ s)) (append-nil d.opened) ∙ sym (append_assoc d.closed (d.opened ∷ []) (joined [] ts ++ s))) k in
    let r = reads (shut d) ts s nb h.1 size in
    (r.0, ap (λ (z : Bool). cond z (Err EmptyLabel) (spelled (shut d) ts)) (let f : nat_eq (length d.opened) 0 ≡ false = grind (arith, nat_tests) in f) ∙ r.1)
reads d (Byte b ∷ ts) s nb h k =
    let l : List ℕ = d.opened ++ folded_label (b ∷ first_part ts) in
    let ls : List (List ℕ) = folded_labels (later_parts ts) ++ s in
    let long : length l ≡ length d.opened + length (folded_label (b ∷ first_part ts)) = length-append d.opened (folded_label (b ∷ first_part ts)) in
    let fit : (length l < 64) × (0 < length (wire ls)) = first_label l ls (omega arith) h in
    let size : length (wire (d.closed ++ l ∷ ls)) ≡ length (wire d.closed) + (1 + (length l + length (wire ls))) =
    ap length (wire-append d.closed (l ∷ ls)) ∙ (length-append (wire d.closed) (wire (l ∷ ls)) ∙ (omega (arith, length-append l (wire ls)))) in
    let same : l ≡ (d.opened ++ folded b ∷ []) ++ folded_label (first_part ts) = sym (append_assoc d.opened (folded b ∷ []) (folded_label (first_part ts))) in
    elim (pushed_says d b) [
      | fits_in few room p ↦
          let r = reads (more d b) ts s nb (subst (λ (x : List ℕ). AreLabels (x ∷ ls)) same h) (subst (λ (x : List ℕ). length (wire (d.closed ++ x ∷ ls)) ≤ 255) same k) in
          (r.0, ap (after_push (λ next. spelled next ts)) p ∙ r.1)
      | refused e p ↦ absurd (let ok : pushed d b ≡ Ok (more d b) = grind (arith, nat_tests) in cc)
    ]
reads d (Bad ∷ ts) s nb h k = absurd nb

-- ---- both ways

empty_good : IsDraft empty_draft
empty_good = record { labels = tt; folded_bytes = tt; short = omega arith; room = omega arith; open_room = λ h. omega arith }

closed_name : (d : Draft) → IsDraft d → IsName (d.closed ++ root)
closed_name d h = record {
  labels = labels_on d.closed root h.labels refl;
  short = omega (arith, h.room, ap length (wire-append d.closed root), length-append (wire d.closed) (wire root));
}

root_name : IsName root
root_name = record { labels = refl; short = omega arith }

with_ok : (origin labels n : List (List ℕ)) → with_origin origin labels ≡ Ok n → (labels ++ origin ≡ n) × (length (wire (labels ++ origin)) ≤ 255)
with_ok origin labels n e = elim (told (nat_le (length (wire (labels ++ origin))) 255)) [
  | inl t ↦ (let x = ap (λ (z : Bool). cond z (Ok (labels ++ origin)) (Err LongName)) (sym t) ∙ e in cc, grind (arith, nat_tests))
  | inr f ↦ absurd (let x = ap (λ (z : Bool). cond z (Ok (labels ++ origin)) (Err LongName)) (sym f) ∙ e in cc)
]

completed_ok : (origin : List (List ℕ)) (r : Result Draft NameError) (n : List (List ℕ)) → completed_draft origin r ≡ Ok n → (d : Draft) × (r ≡ Ok d) × (completed origin d ≡ Ok n)
completed_ok origin (Ok d) n e = (d, refl, e)
completed_ok origin (Err x) n e = absurd (cc)

ends : (origin : List (List ℕ)) (text : List ℕ) (ts : List Token) (n : List (List ℕ)) (d : Draft) → IsName origin → Spells text ts → 0 < length text → Read empty_draft ts d → IsDraft d
    → completed origin d ≡ Ok n → Writes origin text n × IsName n
ends origin text ts n d ho s some r g e = elim (told (nat_eq (length d.opened) 0)) [
  | inl t ↦
      let x = ap (λ (z : Bool). cond z (Ok (d.closed ++ root)) (with_origin origin (shut d).closed)) (sym t) ∙ e in
      let en : d.closed ++ root ≡ n = cc in
      let none : d.opened ≡ [] = nil_from_length d.opened (grind (arith, nat_tests)) in
      (absolute ts s some (sym en ∙ (ap (λ (l : List ℕ). d.closed ++ l ∷ []) (sym none) ∙ r.whole)), subst (λ (m : List (List ℕ)). IsName m) en (closed_name d g))
  | inr f ↦
      let w = with_ok origin (shut d).closed n (ap (λ (z : Bool). cond z (Ok (d.closed ++ root)) (with_origin origin (shut d).closed)) (sym f) ∙ e) in
      let open_label : 0 < length d.opened = grind (arith, nat_tests) in (
        relative ts s (sym w.0 ∙ ap (λ (ls : List (List ℕ)). ls ++ origin) r.whole),
        subst (λ (m : List (List ℕ)). IsName m) w.0 (record { labels = labels_on (shut d).closed origin (shut_draft d g open_label).labels ho.labels; short = w.1 }),
      )
]

-- What the reader makes of a text that is neither empty nor a dot alone.
abbrev read_long : List (List ℕ) → List ℕ → Result (List (List ℕ)) NameError
read_long origin text = completed_draft origin (spelled empty_draft (tokens text))

no_text : (origin : List (List ℕ)) (text : List ℕ) → nat_eq (length text) 0 ≡ true → name_under origin text ≡ Err EmptyLabel
no_text origin text t = ap (λ (z : Bool). cond z (Err EmptyLabel) (cond (pointwise nat_eq text (46 ∷ [])) (Ok root) (read_long origin text))) t

one_dot : (origin : List (List ℕ)) (text : List ℕ) → nat_eq (length text) 0 ≡ false → pointwise nat_eq text (46 ∷ []) ≡ true → name_under origin text ≡ Ok root
one_dot origin text f t =
    ap (λ (z : Bool). cond z (Err EmptyLabel) (cond (pointwise nat_eq text (46 ∷ [])) (Ok root) (read_long origin text))) f ∙ ap (λ (z : Bool). cond z (Ok root) (read_long origin text)) t

long_text : (origin : List (List ℕ)) (text : List ℕ) → nat_eq (length text) 0 ≡ false → pointwise nat_eq text (46 ∷ []) ≡ false → name_under origin text ≡ read_long origin text
long_text origin text f g =
    ap (λ (z : Bool). cond z (Err EmptyLabel) (cond (pointwise nat_eq text (46 ∷ [])) (Ok root) (read_long origin text))) f ∙ ap (λ (z : Bool). cond z (Ok root) (read_long origin text)) g

written : (origin : List (List ℕ)) (text : List ℕ) (n : List (List ℕ)) → IsName origin → AreBytes text → name_under origin text ≡ Ok n → Writes origin text n × IsName n
written origin text n ho hb e = elim (told (nat_eq (length text) 0)) [
  | inl t ↦ absurd (let x = sym (no_text origin text t) ∙ e in cc)
  | inr f ↦ elim (told (pointwise nat_eq text (46 ∷ []))) [
    | inl t ↦
        let x = sym (one_dot origin text f t) ∙ e in
        let en : root ≡ n = cc in
        (root_alone ((bytes_decides text (46 ∷ [])).0 t) (sym en), subst (λ (m : List (List ℕ)). IsName m) en root_name)
    | inr g ↦
        let c = completed_ok origin (spelled empty_draft (tokens text)) n (sym (long_text origin text f g) ∙ e) in
        let r : Read empty_draft (tokens text) c.0 = read_parts empty_draft c.0 (tokens text) c.1 in
        let s : Spells text (tokens text) = spells text r.no_bad in
        ends origin text (tokens text) n c.0 ho s (grind (arith, nat_tests)) r (r.good empty_good (small text (tokens text) s hb)) c.2
  ]
]

last_root : (ls : List (List ℕ)) (l : List ℕ) → AreLabels (ls ++ l ∷ []) → l ≡ []
last_root [] l h = h
last_root (x ∷ []) l h = h.1
last_root (x ∷ y ∷ ls) l h = last_root (y ∷ ls) l h.1

inner : (ls : List (List ℕ)) (l : List ℕ) (o : List (List ℕ)) → AreLabels o → AreLabels ((ls ++ l ∷ []) ++ o) → 0 < length l
inner ls l [] k h = absurd k
inner [] l (m ∷ ms) k h = h.0.nonempty
inner (x ∷ []) l (m ∷ ms) k h = h.1.0.nonempty
inner (x ∷ y ∷ ls) l (m ∷ ms) k h = inner (y ∷ ls) l (m ∷ ms) k h.1

not_a_dot : (text : List ℕ) (ts : List Token) (s : List (List ℕ)) → tokens text ≡ ts → AreLabels (parts ts ++ s) → text ≡ 46 ∷ [] → ⊥
not_a_dot text ts s e h et =
    let k : AreLabels (parts (tokens (46 ∷ [])) ++ s) = subst (λ (x : List Token). AreLabels (parts x ++ s)) (sym e ∙ ap tokens et) h in omega (arith, k.0.nonempty)

some_text : (text : List ℕ) (ts : List Token) (o : List (List ℕ)) → tokens text ≡ ts → AreLabels o → AreLabels (parts ts ++ o) → 0 < length text
some_text text ts [] e k h = absurd k
some_text [] ts (m ∷ ms) e k h = let z : AreLabels (parts [] ++ m ∷ ms) = subst (λ (x : List Token). AreLabels (parts x ++ m ∷ ms)) (sym e) h in absurd (omega (arith, z.0.nonempty))
some_text (c ∷ cs) ts (m ∷ ms) e k h = omega arith

named : (origin : List (List ℕ)) (text : List ℕ) (ts : List Token) (n : List (List ℕ)) (d : Draft) → 0 < length text → (text ≡ 46 ∷ [] → ⊥) → tokens text ≡ ts → spelled empty_draft ts ≡ Ok d
    → completed origin d ≡ Ok n → name_under origin text ≡ Ok n
named origin text ts n d some other et es ec =
    let full : nat_eq (length text) 0 ≡ false = grind (arith, nat_tests) in
    let no_dot : pointwise nat_eq text (46 ∷ []) ≡ false = elim (told (pointwise nat_eq text (46 ∷ []))) [ inl t ↦ absurd (other ((bytes_decides text (46 ∷ [])).0 t)) | inr f ↦ f ] in
    long_text origin text full no_dot ∙ (ap (λ (x : List Token). completed_draft origin (spelled empty_draft x)) et ∙ (ap (completed_draft origin) es ∙ ec))

shut_ends : (origin : List (List ℕ)) (d : Draft) → d.opened ≡ [] → completed origin d ≡ Ok (d.closed ++ d.opened ∷ [])
shut_ends origin d e =
    let t : nat_eq (length d.opened) 0 ≡ true = ap (λ (l : List ℕ). nat_eq (length l) 0) e in
    ap (λ (z : Bool). cond z (Ok (d.closed ++ root)) (with_origin origin (shut d).closed)) t ∙ ap (λ (l : List ℕ). Ok (d.closed ++ l ∷ [])) (sym e)

open_ends : (origin : List (List ℕ)) (d : Draft) → 0 < length d.opened → length (wire ((d.closed ++ d.opened ∷ []) ++ origin)) ≤ 255 → completed origin d ≡ Ok ((d.closed ++ d.opened ∷ []) ++ origin)
open_ends origin d some short =
    let f : nat_eq (length d.opened) 0 ≡ false = grind (arith, nat_tests) in
    ap (λ (z : Bool). cond z (Ok (d.closed ++ root)) (with_origin origin (shut d).closed)) f ∙ fits origin (shut d).closed short

names : (origin : List (List ℕ)) (text : List ℕ) (n : List (List ℕ)) → IsName origin → Writes origin text n → IsName n → name_under origin text ≡ Ok n
names origin text n ho (root_alone et en) hn = ap (name_under origin) et ∙ ap (λ (x : List (List ℕ)). Ok x) (sym en)
names origin text n ho (absolute ts s some en) hn =
    let same : n ≡ parts ts ++ [] = en ∙ sym (append-nil (parts ts)) in
    let h : IsName (parts ts ++ []) = subst (λ (x : List (List ℕ)). IsName x) same hn in
    let r = reads empty_draft ts [] (never_bad text ts s) h.labels h.short in
    let whole : r.0.closed ++ r.0.opened ∷ [] ≡ n = (read_parts empty_draft r.0 ts r.1).whole ∙ sym en in
    let none : r.0.opened ≡ [] = last_root r.0.closed r.0.opened (subst (λ (x : List (List ℕ)). AreLabels x) (sym whole) hn.labels) in
    named origin text ts n r.0 some (not_a_dot text ts [] (spells_read text ts s) h.labels) (spells_read text ts s) r.1
    (shut_ends origin r.0 none ∙ ap (λ (x : List (List ℕ)). Ok x) whole)
names origin text n ho (relative ts s en) hn =
    let h : IsName (parts ts ++ origin) = subst (λ (x : List (List ℕ)). IsName x) en hn in
    let r = reads empty_draft ts origin (never_bad text ts s) h.labels h.short in
    let whole : (r.0.closed ++ r.0.opened ∷ []) ++ origin ≡ n = ap (λ (x : List (List ℕ)). x ++ origin) (read_parts empty_draft r.0 ts r.1).whole ∙ sym en in
    let back : IsName ((r.0.closed ++ r.0.opened ∷ []) ++ origin) = subst (λ (x : List (List ℕ)). IsName x) (sym whole) hn in
    named origin text ts n r.0 (some_text text ts origin (spells_read text ts s) ho.labels h.labels) (not_a_dot text ts origin (spells_read text ts s) h.labels) (spells_read text ts s) r.1
    (open_ends origin r.0 (inner r.0.closed r.0.opened origin ho.labels back.labels) back.short ∙ ap (λ (x : List (List ℕ)). Ok x) whole)

pub both_ways : TextWritesName
both_ways origin text n ho hb = (written origin text n ho hb, λ w. names origin text n ho w.0 w.1)
