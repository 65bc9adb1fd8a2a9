-- On the words before a record's data.
use Rattle.std.proofs.Common.{◌≡◌, ℕ, ◌≤◌, Bool, true, false, cond, Option, Some, None, is_some, Result, Ok, Err, List, [], ◌∷◌, refl, sym, ap, subst, ◌∙◌, arith}
use Rattle.std.proofs.lemmas.Bool.Decides.{nat_tests}
use Rattle.std.specs.Option.{option_or}
use Rattle.std.specs.Result.{IsErrAnd}
use Rattle.masterfile.specs.declared.faults.FileKind.{FileKind}
use Rattle.masterfile.specs.declared.faults.FileKind.TheVariants.{UnknownType, BadName, BadNumber, NoTtl, NoOwner, OpenText, UnknownDirective, BadClass, BadData, Memory}
use Rattle.masterfile.specs.Faults.{◌>>=◌, FaultIn}
use Rattle.rdata.specs.Records.{Record, greatest_ttl}
use Rattle.master_lexer.specs.Lexemes.{Word, plain, quoted, broken}
use Rattle.masterfile.specs.Given.{GivesEntry}
use Rattle.masterfile.specs.Numbers.{is_number, within, number_of}
use Rattle.masterfile.specs.Fields.{plain_word, name_of, take_data}
use Rattle.masterfile.specs.Entries.{Context, Head, take_head, is_internet, first_some, or_no_ttl, ttl_in, record_of, record_of_named}

pub plain_is : (ws : List Word) (w : List ℕ) (rest : List Word) → plain_word ws ≡ Ok (w, rest) → ws ≡ plain w ∷ rest
plain_is [] w rest e = cc
plain_is (plain x ∷ xs) w rest e = let p : ◌≡◌ {A = List ℕ × List Word} (x, xs) (w, rest) = cc in λ i. plain (p i).0 ∷ (p i).1
plain_is (quoted x ∷ xs) w rest e = cc
plain_is (broken ∷ xs) w rest e = cc

pub third : {X : Type 0} (a b : Bool) (r : Result ℕ FileKind) (n : ℕ) (x y : Result X FileKind) (f : ℕ → Result X FileKind) → a ≡ true → b ≡ false → r ≡ Ok n → f n ≡ cond a (cond b x (r >>= f)) y
third a b r n x y f p q e = rw (p, q, e) refl

pub ttl_then : (w : List ℕ) (ws : List Word) (ttl : Option ℕ) (classed : Bool) (n : ℕ) (v : List ℕ) (rest : List Word) → is_number w ≡ true → is_some ttl ≡ false
    → number_of greatest_ttl w ≡ Ok n → plain_word ws ≡ Ok (v, rest) → take_head (Some n) classed (plain v ∷ rest) ≡ take_head ttl classed (plain w ∷ ws)
ttl_then w ws ttl classed n v rest a b e p =
    ap (λ (xs : List Word). take_head (Some n) classed xs) (sym (plain_is ws v rest p))
    ∙ third (is_number w) (is_some ttl) (number_of greatest_ttl w) n (Err UnknownType) _ (λ (m : ℕ). take_head (Some m) classed ws) a b e

pub class_then : (w : List ℕ) (ws : List Word) (ttl : Option ℕ) (classed : Bool) (v : List ℕ) (rest : List Word) → is_number w ≡ false → is_internet w ≡ true
    → classed ≡ false → plain_word ws ≡ Ok (v, rest) → take_head ttl true (plain v ∷ rest) ≡ take_head ttl classed (plain w ∷ ws)
class_then w ws ttl classed v rest a b e p = rw (plain_is ws v rest p, a, b, e) refl

within_is : (limit m : ℕ) (b : Bool) (n : ℕ) → within limit m ≡ Ok n → n ≤ limit
within_is limit m b n e = grind (arith, nat_tests)

pub number_within : (limit : ℕ) (w : List ℕ) (n : ℕ) → number_of limit w ≡ Ok n → n ≤ limit
number_within limit w n e = grind (arith, nat_tests)

pub bound : {X Y : Type 0} (r : Result X FileKind) (x : X) (f : X → Result Y FileKind) → r ≡ Ok x → f x ≡ (r >>= f)
bound r x f e = rw e refl

pub named_is : (c : Context) (w first : List ℕ) (owner : List (List ℕ)) (ws rest : List Word) → name_of c.origin w ≡ Ok owner → plain_word ws ≡ Ok (first, rest)
    → record_of c owner (plain first ∷ rest) ≡ record_of_named c w ws
named_is c w first owner ws rest e p =
    ap (λ (xs : List Word). record_of c owner xs) (sym (plain_is ws first rest p)) ∙ bound (name_of c.origin w) owner (λ (o : List (List ℕ)). record_of c o ws) e

-- A fault of the first reading is the fault of both.
pub fault_then : {X Y : Type 0} (e : FileKind) (r : Result X FileKind) (f : X → Result Y FileKind) → FaultIn e r → FaultIn e (r >>= f)
fault_then UnknownType r f h = ap (λ x. x >>= f) h
fault_then BadName r f h = ap (λ x. x >>= f) h
fault_then BadNumber r f h = ap (λ x. x >>= f) h
fault_then NoTtl r f h = ap (λ x. x >>= f) h
fault_then NoOwner r f h = ap (λ x. x >>= f) h
fault_then OpenText r f h = ap (λ x. x >>= f) h
fault_then UnknownDirective r f h = ap (λ x. x >>= f) h
fault_then BadClass r f h = ap (λ x. x >>= f) h
fault_then BadData r f h = ap (λ x. x >>= f) h
fault_then Memory r f h = tt

-- A record whose data are bad.
pub record_fails : (c : Context) (owner : List (List ℕ)) (ws : List Word) (h : Head) (ttl : ℕ) (e : FileKind) → take_head None false ws ≡ Ok h → ttl_in c h.ttl ≡ Ok ttl
    → FaultIn e (take_data c.origin h.kind h.rest) → FaultIn e (record_of c owner ws)
record_fails c owner ws h ttl e head time bad = rw (head, time) (fault_then e (take_data c.origin h.kind h.rest) _ bad)

-- What a `?` hands on.
pub gives_fault : (r : Result (Option Record) FileKind) (e : FileKind) (after : Context) (read : Result (Option Record × Context) FileKind) → IsErrAnd r (λ y. y ≡ e) → FaultIn e read
    → GivesEntry r after read
gives_fault (Ok x) e after read h k = absurd h
gives_fault (Err y) e after read h k = subst (λ (z : FileKind). FaultIn z read) (sym h) k

-- The first of three TTLs that is there.
pub ttl_found : (a b c x y : Option ℕ) (n : ℕ) → x ≡ option_or a b → y ≡ option_or x c → y ≡ Some n → or_no_ttl (first_some a (first_some b c)) ≡ Ok n
ttl_found a b c x y n h k e = by a b c (sym (k ∙ ap (λ (z : Option ℕ). option_or z c) h) ∙ e)
  where
    by : (a b c : Option ℕ) → option_or (option_or a b) c ≡ Some n → or_no_ttl (first_some a (first_some b c)) ≡ Ok n
    by (Some m) b c e = ap or_no_ttl e
    by None (Some m) c e = ap or_no_ttl e
    by None None c e = ap or_no_ttl e
