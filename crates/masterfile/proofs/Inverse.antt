-- What a reading that succeeded says of each of its steps.
use Rattle.std.proofs.Common.{◌≡◌, ℕ, ◌+◌, ◌≤◌, Bool, true, false, cond, nat_le, Result, Ok, Err, List, [], ◌∷◌, length, refl, sym, ap, ◌∙◌, arith}
use Rattle.std.proofs.lemmas.Bool.Decides.{nat_tests}
use Rattle.master_lexer.specs.Lexemes.{Word, plain, quoted, broken}
use Rattle.master_lexer.specs.Parts.{AreWhole}
use Rattle.rdata.specs.Data.{Datum, Ipv4, Ns, Cname, Soa, Ptr, Mx, Txt, Ipv6, Srv, Authority, Service}
use Rattle.rdata.specs.declared.rtype.RType.{RType}
use Rattle.rdata.specs.declared.rtype.RType.TheVariants as rtype
use Rattle.masterfile.specs.declared.faults.FileKind.{FileKind}
use Rattle.masterfile.specs.declared.faults.FileKind.TheVariants.{BadData}
use Rattle.masterfile.specs.Faults.{◌>>=◌, onto}
use Rattle.masterfile.specs.Numbers.{number_of}
use Rattle.masterfile.specs.Addresses.{ipv4_of, ipv6_of, has_dot}
use Rattle.masterfile.proofs.Ipv6Texts.{text_is_address, address_is_text}
use Rattle.masterfile.specs.Strings.{string_word, strings_from}
use Rattle.masterfile.specs.Fields.{take_by, take_name, take_number, take_end, name_of, take_authority, take_exchange, take_service, take_data, greatest_16, greatest_32}
use Rattle.masterfile.specs.MasterText.{AreStrings, strings_size, IsNameData, IsAuthorityData, IsServiceData, IsData}

-- the value of the first step, and what the second made of it
pub steps : {X Y : Type 0} (r : Result X FileKind) (f : X → Result Y FileKind) (y : Y) → (r >>= f) ≡ Ok y → (x : X) × (r ≡ Ok x) × (f x ≡ Ok y)
steps (Ok x) f y e = (x, refl, e)
steps (Err k) f y e = cc

pub ok_is : {X : Type 0} (x y : X) → (let r : Result X FileKind = Ok x in r) ≡ Ok y → x ≡ y
ok_is x y e = cc

pub pair_is : {A B : Type 0} (a c : A) (b d : B) → (let r : Result (A × B) FileKind = Ok (a, b) in r) ≡ Ok (c, d) → (a ≡ c) × (b ≡ d)
pair_is {A} {B} a c b d e = let p : ◌≡◌ {A = A × B} (a, b) (c, d) = cc in (λ i. (p i).0, λ i. (p i).1)

pub cond_ok : {X : Type 0} (b : Bool) (r : Result X FileKind) (k : FileKind) (x : X) → cond b r (Err k) ≡ Ok x → (b ≡ true) × (r ≡ Ok x)
cond_ok true r k x e = (refl, e)
cond_ok false r k x e = cc

pub onto_ok : {X E : Type 0} (x : X) (r : Result (List X) E) (ys : List X) → onto x r ≡ Ok ys → (xs : List X) × (r ≡ Ok xs) × (ys ≡ x ∷ xs)
onto_ok {X} {E} x (Ok xs) ys e = let p : x ∷ xs ≡ ys = cc in (xs, refl, sym p)
onto_ok x (Err k) ys e = cc

-- a field is a word, and its reading
pub field : {X : Type 0} (read : List ℕ → Result X FileKind) (ws : List Word) (x : X) (rest : List Word) → take_by read ws ≡ Ok (x, rest)
    → (w : List ℕ) × (ws ≡ plain w ∷ rest) × (read w ≡ Ok x)
field read [] x rest e = cc
field read (quoted w ∷ ws) x rest e = cc
field read (broken ∷ ws) x rest e = cc
field {X} read (plain w ∷ ws) x rest e =
    let t = steps (read w) (λ (y : X). Ok (y, ws)) (x, rest) e in
    let p = pair_is t.0 x ws rest t.2 in
    (w, ap (λ (r : List Word). plain w ∷ r) p.1, t.1 ∙ ap Ok p.0)

pub ended : {X : Type 0} (x y : X) (ws : List Word) → take_end x ws ≡ Ok y → (ws ≡ []) × (x ≡ y)
ended x y [] e = (refl, ok_is x y e)
ended x y (plain w ∷ ws) e = cc
ended x y (quoted w ∷ ws) e = cc
ended x y (broken ∷ ws) e = cc

at_end : (w : List ℕ) (ws rest last : List Word) → ws ≡ plain w ∷ rest → rest ≡ last → last ≡ [] → ws ≡ plain w ∷ []
at_end w ws rest last e f g = e ∙ ap (λ (r : List Word). plain w ∷ r) (f ∙ g)

address_data : (make : List ℕ → Datum) (read : List ℕ → Result (List ℕ) FileKind) (ws : List Word) (d : Datum) (rest : List Word)
    → ◌>>=◌ {B = Datum × List Word} (take_by read ws) (λ (a : List ℕ × List Word). Ok (make a.0, a.1)) ≡ Ok (d, rest) → rest ≡ []
    → (w : List ℕ) × (a : List ℕ) × (ws ≡ plain w ∷ []) × (read w ≡ Ok a) × (d ≡ make a)
address_data make read ws d rest e h =
    let s = steps (take_by read ws) (λ (a : List ℕ × List Word). Ok (make a.0, a.1)) (d, rest) e in
    let p = pair_is (make s.0.0) d s.0.1 rest s.2 in
    let f = field read ws s.0.0 s.0.1 s.1 in
    (f.0, s.0.0, at_end f.0 ws s.0.1 rest f.1 p.1 h, f.2, sym p.0)

name_data : (origin : List (List ℕ)) (make : List (List ℕ) → Datum) (ws : List Word) (d : Datum) (rest : List Word)
    → ◌>>=◌ {B = Datum × List Word} (take_name origin ws) (λ (n : List (List ℕ) × List Word). Ok (make n.0, n.1)) ≡ Ok (d, rest) → rest ≡ []
    → (n : List (List ℕ)) × IsNameData origin ws n × (d ≡ make n)
name_data origin make ws d rest e h =
    let s = steps (take_name origin ws) (λ (n : List (List ℕ) × List Word). Ok (make n.0, n.1)) (d, rest) e in
    let p = pair_is (make s.0.0) d s.0.1 rest s.2 in
    let f = field (name_of origin) ws s.0.0 s.0.1 s.1 in
    (s.0.0, (f.0, at_end f.0 ws s.0.1 rest f.1 p.1 h, f.2), sym p.0)

authority_data : (origin : List (List ℕ)) (ws : List Word) (s : Authority) (rest : List Word) → take_authority origin ws ≡ Ok (s, rest) → rest ≡ [] → IsAuthorityData origin ws s
authority_data origin ws s rest e h =
    let a = steps (take_name origin ws) _ (s, rest) e in
    let b = steps (take_name origin a.0.1) _ (s, rest) a.2 in
    let c = steps (take_number greatest_32 b.0.1) _ (s, rest) b.2 in
    let d = steps (take_number greatest_32 c.0.1) _ (s, rest) c.2 in
    let f = steps (take_number greatest_32 d.0.1) _ (s, rest) d.2 in
    let g = steps (take_number greatest_32 f.0.1) _ (s, rest) f.2 in
    let k = steps (take_number greatest_32 g.0.1) _ (s, rest) g.2 in
    let p = pair_is _ s k.0.1 rest k.2 in
    let wa = field (name_of origin) ws a.0.0 a.0.1 a.1 in
    let wb = field (name_of origin) a.0.1 b.0.0 b.0.1 b.1 in
    let wc = field (number_of greatest_32) b.0.1 c.0.0 c.0.1 c.1 in
    let wd = field (number_of greatest_32) c.0.1 d.0.0 d.0.1 d.1 in
    let wf = field (number_of greatest_32) d.0.1 f.0.0 f.0.1 f.1 in
    let wg = field (number_of greatest_32) f.0.1 g.0.0 g.0.1 g.1 in
    let wk = field (number_of greatest_32) g.0.1 k.0.0 k.0.1 k.1 in
    record {
      primary = wa.0;
      mailbox = wb.0;
      serial = wc.0;
      refresh = wd.0;
      retry = wf.0;
      expire = wg.0;
      minimum = wk.0;
      spelled = wa.1 ∙ ap (λ (r : List Word). plain wa.0 ∷ r) (wb.1 ∙ ap (λ (r : List Word). plain wb.0 ∷ r) (wc.1 ∙ ap (λ (r : List Word). plain wc.0 ∷ r)
          (wd.1 ∙ ap (λ (r : List Word). plain wd.0 ∷ r) (wf.1 ∙ ap (λ (r : List Word). plain wf.0 ∷ r) (wg.1 ∙ ap (λ (r : List Word). plain wg.0 ∷ r)
          (at_end wk.0 g.0.1 k.0.1 rest wk.1 p.1 h))))));
      names = (wa.2 ∙ ap (λ (x : Authority). (let r : Result (List (List ℕ)) FileKind = Ok x.primary in r)) p.0, wb.2 ∙ ap (λ (x : Authority). (let r : Result (List (List ℕ)) FileKind = Ok x.mailbox in r)) p.0);
      numbers = (
        wc.2 ∙ ap (λ (x : Authority). (let r : Result ℕ FileKind = Ok x.serial in r)) p.0,
        wd.2 ∙ ap (λ (x : Authority). (let r : Result ℕ FileKind = Ok x.refresh in r)) p.0,
        wf.2 ∙ ap (λ (x : Authority). (let r : Result ℕ FileKind = Ok x.retry in r)) p.0,
        wg.2 ∙ ap (λ (x : Authority). (let r : Result ℕ FileKind = Ok x.expire in r)) p.0,
        wk.2 ∙ ap (λ (x : Authority). (let r : Result ℕ FileKind = Ok x.minimum in r)) p.0,
      );
    }

exchange_data : (origin : List (List ℕ)) (ws : List Word) (d : Datum) (rest : List Word) → take_exchange origin ws ≡ Ok (d, rest) → rest ≡ [] → IsData origin rtype.Mx ws d
exchange_data origin ws d rest e h =
    let a = steps (take_number greatest_16 ws) (λ (q : ℕ × List Word). take_name origin q.1 >>= λ (n : List (List ℕ) × List Word). Ok (Mx q.0 n.0, n.1)) (d, rest) e in
    let b = steps (take_name origin a.0.1) (λ (n : List (List ℕ) × List Word). Ok (Mx a.0.0 n.0, n.1)) (d, rest) a.2 in
    let p = pair_is (Mx a.0.0 b.0.0) d b.0.1 rest b.2 in
    let f = field (number_of greatest_16) ws a.0.0 a.0.1 a.1 in
    let g = field (name_of origin) a.0.1 b.0.0 b.0.1 b.1 in
    (f.0, g.0, a.0.0, b.0.0, f.1 ∙ ap (λ (r : List Word). plain f.0 ∷ r) (at_end g.0 a.0.1 b.0.1 rest g.1 p.1 h), f.2, g.2, sym p.0)

service_data : (origin : List (List ℕ)) (ws : List Word) (s : Service) (rest : List Word) → take_service origin ws ≡ Ok (s, rest) → rest ≡ [] → IsServiceData origin ws s
service_data origin ws s rest e h =
    let a = steps (take_number greatest_16 ws) _ (s, rest) e in
    let b = steps (take_number greatest_16 a.0.1) _ (s, rest) a.2 in
    let c = steps (take_number greatest_16 b.0.1) _ (s, rest) b.2 in
    let d = steps (take_name origin c.0.1) _ (s, rest) c.2 in
    let p = pair_is _ s d.0.1 rest d.2 in
    let wa = field (number_of greatest_16) ws a.0.0 a.0.1 a.1 in
    let wb = field (number_of greatest_16) a.0.1 b.0.0 b.0.1 b.1 in
    let wc = field (number_of greatest_16) b.0.1 c.0.0 c.0.1 c.1 in
    let wd = field (name_of origin) c.0.1 d.0.0 d.0.1 d.1 in
    record {
      priority = wa.0;
      weight = wb.0;
      port = wc.0;
      target = wd.0;
      spelled = wa.1 ∙ ap (λ (r : List Word). plain wa.0 ∷ r) (wb.1 ∙ ap (λ (r : List Word). plain wb.0 ∷ r) (wc.1 ∙ ap (λ (r : List Word). plain wc.0 ∷ r)
          (at_end wd.0 c.0.1 d.0.1 rest wd.1 p.1 h)));
      numbers = (
        wa.2 ∙ ap (λ (x : Service). (let r : Result ℕ FileKind = Ok x.priority in r)) p.0,
        wb.2 ∙ ap (λ (x : Service). (let r : Result ℕ FileKind = Ok x.weight in r)) p.0,
        wc.2 ∙ ap (λ (x : Service). (let r : Result ℕ FileKind = Ok x.port in r)) p.0,
      );
      host = wd.2 ∙ ap (λ (x : Service). (let r : Result (List (List ℕ)) FileKind = Ok x.target in r)) p.0;
    }

strings_are : (size : ℕ) (ws : List Word) (ts : List (List ℕ)) → size ≤ 65535 → strings_from size ws ≡ Ok ts → AreStrings ws ts × (size + strings_size ts ≤ 65535)
strings_are size [] [] h e = (tt, omega arith)
strings_are size [] (t ∷ ts) h e = cc
strings_are size (w ∷ ws) ts h e =
    let a = steps (string_word w) (λ (s : List ℕ). cond (nat_le (size + (1 + length s)) 65535) (onto s (strings_from (size + (1 + length s)) ws)) (Err BadData)) ts e in
    let b = cond_ok (nat_le (size + (1 + length a.0)) 65535) (onto a.0 (strings_from (size + (1 + length a.0)) ws)) BadData ts a.2 in
    let d = onto_ok a.0 (strings_from (size + (1 + length a.0)) ws) ts b.1 in
    let fits : size + (1 + length a.0) ≤ 65535 = grind (arith, nat_tests) in
    let rec = strings_are (size + (1 + length a.0)) ws d.0 fits d.1 in
    rw d.2 ((a.1, rec.0), omega (arith, rec.1))

text_data : (origin : List (List ℕ)) (ws : List Word) (d : Datum) (rest : List Word) → take_data origin rtype.Txt ws ≡ Ok (d, rest) → IsData origin rtype.Txt ws d
text_data origin [] d rest e = cc
text_data origin (w ∷ ws) d rest e =
    let s = steps (strings_from 0 (w ∷ ws)) (λ (ts : List (List ℕ)). (let r : Result (Datum × List Word) FileKind = Ok (Txt ts, []) in r)) (d, rest) e in
    let p = pair_is (Txt s.0) d [] rest s.2 in
    let a = strings_are 0 (w ∷ ws) s.0 (omega arith) s.1 in
    (s.0, omega arith, a.0, omega (arith, a.1), sym p.0)

strings_whole : (ws : List Word) (ts : List (List ℕ)) → AreStrings ws ts → AreWhole ws
strings_whole [] [] h = tt
strings_whole [] (t ∷ ts) h = absurd h
strings_whole (w ∷ ws) [] h = absurd h
strings_whole (plain w ∷ ws) (t ∷ ts) h = strings_whole ws ts h.1
strings_whole (quoted w ∷ ws) (t ∷ ts) h = strings_whole ws ts h.1
strings_whole (broken ∷ ws) (t ∷ ts) h = let e = h.0 in cc

pub data_whole : (origin : List (List ℕ)) (t : RType) (ws : List Word) (d : Datum) → IsData origin t ws d → AreWhole ws
data_whole origin rtype.A ws d h = rw h.2 tt
data_whole origin rtype.Ns ws d h = rw h.1.1 tt
data_whole origin rtype.Cname ws d h = rw h.1.1 tt
data_whole origin rtype.Soa ws d h = rw h.1.spelled tt
data_whole origin rtype.Ptr ws d h = rw h.1.1 tt
data_whole origin rtype.Mx ws d h = rw h.4 tt
data_whole origin rtype.Txt ws d h = strings_whole ws h.0 h.2
data_whole origin rtype.Aaaa ws d h = rw h.2 tt
data_whole origin rtype.Srv ws d h = rw h.1.spelled tt

pub data_is : (origin : List (List ℕ)) (t : RType) (ws : List Word) (d : Datum) (rest : List Word) → take_data origin t ws ≡ Ok (d, rest) → rest ≡ [] → IsData origin t ws d
data_is origin rtype.A ws d rest e h = address_data Ipv4 ipv4_of ws d rest e h
data_is origin rtype.Ns ws d rest e h = name_data origin Ns ws d rest e h
data_is origin rtype.Cname ws d rest e h = name_data origin Cname ws d rest e h
data_is origin rtype.Soa ws d rest e h =
    let s = steps (take_authority origin ws) (λ (a : Authority × List Word). Ok (Soa a.0, a.1)) (d, rest) e in
    let p = pair_is (Soa s.0.0) d s.0.1 rest s.2 in
    (s.0.0, authority_data origin ws s.0.0 s.0.1 s.1 (p.1 ∙ h), sym p.0)
data_is origin rtype.Ptr ws d rest e h = name_data origin Ptr ws d rest e h
data_is origin rtype.Mx ws d rest e h = exchange_data origin ws d rest e h
data_is origin rtype.Txt ws d rest e h = text_data origin ws d rest e
data_is origin rtype.Aaaa ws d rest e h =
    let (w, a, spelled, read, is) = address_data Ipv6 ipv6_of ws d rest e h in
    let (groups, text, octets) = address_is_text w a (has_dot w) refl read in
    (w, groups, spelled, text, is ∙ ap Ipv6 octets)
data_is origin rtype.Srv ws d rest e h =
    let s = steps (take_service origin ws) (λ (a : Service × List Word). Ok (Srv a.0, a.1)) (d, rest) e in
    let p = pair_is (Srv s.0.0) d s.0.1 rest s.2 in
    (s.0.0, service_data origin ws s.0.0 s.0.1 s.1 (p.1 ∙ h), sym p.0)

-- the other way round
strings_read : (size : ℕ) (ws : List Word) (ts : List (List ℕ)) → AreStrings ws ts → size + strings_size ts ≤ 65535 → strings_from size ws ≡ Ok ts
strings_read size [] [] h k = refl
strings_read size [] (t ∷ ts) h k = absurd h
strings_read size (w ∷ ws) [] h k = absurd h
strings_read size (w ∷ ws) (t ∷ ts) h k =
    let fits : nat_le (size + (1 + length t)) 65535 ≡ true = grind (arith, nat_tests) in
    let rec = strings_read (size + (1 + length t)) ws ts h.1 (omega (arith, k)) in
    rw (h.0, fits, rec) refl

pub data_read : (origin : List (List ℕ)) (t : RType) (ws : List Word) (d : Datum) → IsData origin t ws d → take_data origin t ws ≡ Ok (d, [])
data_read origin rtype.A ws d h = rw (h.2, h.3, h.4) refl
data_read origin rtype.Ns ws d h = rw (h.1.1, h.1.2, h.2) refl
data_read origin rtype.Cname ws d h = rw (h.1.1, h.1.2, h.2) refl
data_read origin rtype.Soa ws d h = rw (h.1.spelled, h.1.names.0, h.1.names.1, h.1.numbers.0, h.1.numbers.1, h.1.numbers.2, h.1.numbers.3, h.1.numbers.4, h.2) refl
data_read origin rtype.Ptr ws d h = rw (h.1.1, h.1.2, h.2) refl
data_read origin rtype.Mx ws d h = rw (h.4, h.5, h.6, h.7) refl
data_read origin rtype.Txt [] d h = absurd (omega (arith, h.1))
data_read origin rtype.Txt (w ∷ ws) d h = rw (strings_read 0 (w ∷ ws) h.0 h.2 (omega (arith, h.3)), h.4) refl
data_read origin rtype.Aaaa ws d h = rw (h.2, text_is_address h.0 h.1 h.3, h.4) refl
data_read origin rtype.Srv ws d h = rw (h.1.spelled, h.1.numbers.0, h.1.numbers.1, h.1.numbers.2, h.1.host, h.2) refl
