-- TTL, class and type: the words by cases, and the function that reads them.
use Rattle.std.proofs.Common.{◌≡◌, ℕ, Bool, true, false, cond, Option, Some, None, is_some, Ok, Err, List, [], ◌∷◌, refl, sym, ap, ◌∙◌}
use Rattle.rdata.specs.Records.{greatest_ttl}
use Rattle.rdata.specs.declared.rtype.RType.{RType}
use Rattle.master_lexer.specs.Lexemes.{Word, plain, quoted, broken}
use Rattle.masterfile.specs.declared.faults.FileKind.TheVariants.{UnknownType, BadClass, BadData}
use Rattle.masterfile.specs.Faults.{◌>>=◌}
use Rattle.decimal.specs.Digits.{value_from}
use Rattle.masterfile.specs.Numbers.{is_number, within, number_of}
use Rattle.masterfile.specs.Fields.{type_named}
use Rattle.masterfile.specs.Entries.{Head, take_head, head_of_type, is_internet, is_foreign_class}
use Rattle.masterfile.specs.MasterText.{IsTtlWord, IsClassWord, IsTypeWord, HasHead, type_alone, class_first, ttl_first, ttl_and_class, class_and_ttl}
use Rattle.master_lexer.specs.Parts.{AreWhole}
use Rattle.masterfile.proofs.HeadLemmas.{third}
use Rattle.masterfile.proofs.WordLemmas.{type_no_number, type_no_internet, type_no_class, class_no_number}
use Rattle.masterfile.proofs.Inverse.{steps, cond_ok, ok_is}

number_digits : (limit : ℕ) (w : List ℕ) (n : ℕ) → number_of limit w ≡ Ok n → is_number w ≡ true
number_digits limit w n e = (cond_ok (is_number w) (within limit (value_from 0 w)) BadData n e).0

type_step : (ttl : Option ℕ) (classed : Bool) (w : List ℕ) (kind : RType) (ws : List Word) → IsTypeWord w kind → take_head ttl classed (plain w ∷ ws) ≡ Ok (record { ttl = ttl; kind = kind; rest = ws })
type_step ttl classed w kind ws h = rw (type_no_number w kind h, type_no_internet w kind h, type_no_class w kind h, h) refl

class_step : (ttl : Option ℕ) (w : List ℕ) (ws : List Word) → IsClassWord w → take_head ttl false (plain w ∷ ws) ≡ take_head ttl true ws
class_step ttl w ws h = rw (class_no_number w h, h) refl

ttl_step : (classed : Bool) (w : List ℕ) (n : ℕ) (ws : List Word) → IsTtlWord w n → take_head None classed (plain w ∷ ws) ≡ take_head (Some n) classed ws
ttl_step classed w n ws h =
    sym (third (is_number w) false (number_of greatest_ttl w) n (Err UnknownType) _ (λ (m : ℕ). take_head (Some m) classed ws) (number_digits greatest_ttl w n h) refl h)

pub head_read : (ws : List Word) (ttl : Option ℕ) (kind : RType) (rest : List Word) → HasHead ws ttl kind rest → take_head None false ws ≡ Ok (record { ttl = ttl; kind = kind; rest = rest })
head_read _ _ _ _ (type_alone ws ttl kind rest t e n k) = rw (e, n) (type_step None false t kind rest k)
head_read _ _ _ _ (class_first ws ttl kind rest c t e n i k) = rw (e, n) (class_step None c (plain t ∷ rest) i ∙ type_step None true t kind rest k)
head_read _ _ _ _ (ttl_first ws ttl kind rest v t m e n l k) = rw (e, n) (ttl_step false v m (plain t ∷ rest) l ∙ type_step (Some m) false t kind rest k)
head_read _ _ _ _ (ttl_and_class ws ttl kind rest v c t m e n l i k) =
    rw (e, n) (ttl_step false v m (plain c ∷ plain t ∷ rest) l ∙ (class_step (Some m) c (plain t ∷ rest) i ∙ type_step (Some m) true t kind rest k))
head_read _ _ _ _ (class_and_ttl ws ttl kind rest c v t m e n i l k) =
    rw (e, n) (class_step None c (plain v ∷ plain t ∷ rest) i ∙ (ttl_step true v m (plain t ∷ rest) l ∙ type_step (Some m) true t kind rest k))

-- the other way round: what each word of a head that was read is
type_is : (o : Option RType) (ttl : Option ℕ) (ws : List Word) (h : Head) → head_of_type o ttl ws ≡ Ok h → (o ≡ Some h.kind) × (h.ttl ≡ ttl) × (h.rest ≡ ws)
type_is None ttl ws h e = cc
type_is (Some t) ttl ws h e =
    let p = ok_is (let x : Head = record { ttl = ttl; kind = t; rest = ws } in x) h e in
    (ap (λ (x : Head). Some x.kind) p, sym (ap (λ (x : Head). x.ttl) p), sym (ap (λ (x : Head). x.rest) p))

-- the three things that a word of a head can be
data Step (ttl : Option ℕ) (classed : Bool) (w : List ℕ) (ws : List Word) (h : Head) : Type 0 where
  a_ttl : (n : ℕ) → is_some ttl ≡ false → IsTtlWord w n → take_head (Some n) classed ws ≡ Ok h → Step ttl classed w ws h
  a_class : classed ≡ false → IsClassWord w → take_head ttl true ws ≡ Ok h → Step ttl classed w ws h
  a_type : IsTypeWord w h.kind → h.ttl ≡ ttl → h.rest ≡ ws → Step ttl classed w ws h

step_by : (ttl : Option ℕ) (classed : Bool) (w : List ℕ) (ws : List Word) (h : Head) (a b d : Bool) → is_number w ≡ a → is_internet w ≡ b → is_foreign_class w ≡ d
    → cond a (cond (is_some ttl) (Err UnknownType) (number_of greatest_ttl w >>= λ (n : ℕ). take_head (Some n) classed ws))
    (cond b (cond classed (Err UnknownType) (take_head ttl true ws)) (cond d (cond classed (Err UnknownType) (Err BadClass)) (head_of_type (type_named w) ttl ws))) ≡ Ok h
    → Step ttl classed w ws h
step_by None classed w ws h true b d p q r e =
    let s = steps (number_of greatest_ttl w) (λ (n : ℕ). take_head (Some n) classed ws) h e in a_ttl s.0 refl s.1 s.2
step_by (Some n) classed w ws h true b d p q r e = cc
step_by ttl true w ws h false true d p q r e = cc
step_by ttl false w ws h false true d p q r e = a_class refl q e
step_by ttl true w ws h false false true p q r e = cc
step_by ttl false w ws h false false true p q r e = cc
step_by ttl classed w ws h false false false p q r e = let t = type_is (type_named w) ttl ws h e in a_type t.0 t.1 t.2

word_step : (ttl : Option ℕ) (classed : Bool) (ws : List Word) (h : Head) → take_head ttl classed ws ≡ Ok h → (w : List ℕ) × (rest : List Word) × (ws ≡ plain w ∷ rest) × Step ttl classed w rest h
word_step ttl classed [] h e = cc
word_step ttl classed (quoted w ∷ ws) h e = cc
word_step ttl classed (broken ∷ ws) h e = cc
word_step ttl classed (plain w ∷ ws) h e = (w, ws, refl, step_by ttl classed w ws h (is_number w) (is_internet w) (is_foreign_class w) refl refl refl e)

-- with both a TTL and a class read, a type follows
last_step : (n : ℕ) (ws : List Word) (h : Head) → take_head (Some n) true ws ≡ Ok h → (t : List ℕ) × (ws ≡ plain t ∷ h.rest) × IsTypeWord t h.kind × (h.ttl ≡ Some n)
last_step n ws h e =
    let s = word_step (Some n) true ws h e in
    elim s.3 [ a_ttl m p l r ↦ cc | a_class p c r ↦ cc | a_type k t r ↦ (s.0, s.2 ∙ ap (λ (x : List Word). plain s.0 ∷ x) (sym r), k, t) ]

ttl_last : (v : List ℕ) (n : ℕ) (all ws : List Word) (h : Head) → all ≡ plain v ∷ ws → IsTtlWord v n → take_head (Some n) false ws ≡ Ok h → HasHead all h.ttl h.kind h.rest
ttl_last v n all ws h a l e =
    let s = word_step (Some n) false ws h e in
    elim s.3 [
      | a_ttl m p q r ↦ cc
      | a_class p c r ↦ (let f = last_step n s.1 h r in
          ttl_and_class _ _ _ _ v s.0 f.0 n (a ∙ ap (λ (x : List Word). plain v ∷ x) (s.2 ∙ ap (λ (x : List Word). plain s.0 ∷ x) f.1)) f.3 l c f.2)
      | a_type k t r ↦ ttl_first _ _ _ _ v s.0 n (a ∙ ap (λ (x : List Word). plain v ∷ x) (s.2 ∙ ap (λ (x : List Word). plain s.0 ∷ x) (sym r))) t l k
    ]

class_last : (c : List ℕ) (all ws : List Word) (h : Head) → all ≡ plain c ∷ ws → IsClassWord c → take_head None true ws ≡ Ok h → HasHead all h.ttl h.kind h.rest
class_last c all ws h a i e =
    let s = word_step None true ws h e in
    elim s.3 [
      | a_ttl m p l r ↦ (let f = last_step m s.1 h r in
          class_and_ttl _ _ _ _ c s.0 f.0 m (a ∙ ap (λ (x : List Word). plain c ∷ x) (s.2 ∙ ap (λ (x : List Word). plain s.0 ∷ x) f.1)) f.3 i l f.2)
      | a_class p q r ↦ cc
      | a_type k t r ↦ class_first _ _ _ _ c s.0 (a ∙ ap (λ (x : List Word). plain c ∷ x) (s.2 ∙ ap (λ (x : List Word). plain s.0 ∷ x) (sym r))) t i k
    ]

pub head_is : (ws : List Word) (h : Head) → take_head None false ws ≡ Ok h → HasHead ws h.ttl h.kind h.rest
head_is ws h e =
    let s = word_step None false ws h e in
    elim s.3 [
      | a_ttl m p l r ↦ ttl_last s.0 m ws s.1 h s.2 l r
      | a_class p c r ↦ class_last s.0 ws s.1 h s.2 c r
      | a_type k t r ↦ type_alone _ _ _ _ s.0 (s.2 ∙ ap (λ (x : List Word). plain s.0 ∷ x) (sym r)) t k
    ]

pub head_first : (ws : List Word) (ttl : Option ℕ) (kind : RType) (rest : List Word) → HasHead ws ttl kind rest → (w : List ℕ) × (more : List Word) × (ws ≡ plain w ∷ more)
head_first _ _ _ _ (type_alone ws ttl kind rest t e n k) = (t, rest, e)
head_first _ _ _ _ (class_first ws ttl kind rest c t e n i k) = (c, plain t ∷ rest, e)
head_first _ _ _ _ (ttl_first ws ttl kind rest v t m e n l k) = (v, plain t ∷ rest, e)
head_first _ _ _ _ (ttl_and_class ws ttl kind rest v c t m e n l i k) = (v, plain c ∷ plain t ∷ rest, e)
head_first _ _ _ _ (class_and_ttl ws ttl kind rest c v t m e n i l k) = (c, plain v ∷ plain t ∷ rest, e)

pub head_whole : (ws : List Word) (ttl : Option ℕ) (kind : RType) (rest : List Word) → HasHead ws ttl kind rest → AreWhole rest → AreWhole ws
head_whole _ _ _ _ (type_alone ws ttl kind rest t e n k) h = rw e h
head_whole _ _ _ _ (class_first ws ttl kind rest c t e n i k) h = rw e h
head_whole _ _ _ _ (ttl_first ws ttl kind rest v t m e n l k) h = rw e h
head_whole _ _ _ _ (ttl_and_class ws ttl kind rest v c t m e n l i k) h = rw e h
head_whole _ _ _ _ (class_and_ttl ws ttl kind rest c v t m e n i l k) h = rw e h
