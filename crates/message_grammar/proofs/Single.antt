-- Bytes are one message at most.
use Rattle.std.proofs.Common.{◌≡◌, ℕ, ◌+◌, ◌/◌, ◌%◌, ◌^◌, ◌<◌, ◌≤◌, Bool, true, false, List, [], ◌∷◌, ◌++◌, length, refl, sym, ◌∙◌, ap, arith}
use Rattle.std.specs.Prelude.{slice_index}
use Rattle.std.specs.Int.{bytes_high_first}
use Rattle.dname.specs.Labels.{folded_label, wire}
use Rattle.rdata.specs.Data.{Authority, Service, Datum, Ipv4, Ns, Cname, Soa, Ptr, Mx, Txt, Ipv6, Srv, type_of}
use Rattle.rdata.specs.Records.{Record}
use Rattle.message_grammar.specs.Names.{NameAt}
use Rattle.message_grammar.specs.Pieces.{Flat, plain_bytes}
use Rattle.message_grammar.specs.Places.{IsAt, FlatsAt, PiecesAt}
use Rattle.message_grammar.specs.Messages.{Header, Question, Message, bit, high_flags, low_flags, IsHeader, strings_bytes, data_flats, internet, any_record_pieces, FitsRdata, served_type, ttl_of, QuestionAt, QuestionsAt, RecordAt, SkippedAt, SectionAt, none_left, kept_first, skipped_first, IsMessage}
use Rattle.message_grammar.proofs.Served.{data_kept}
use Rattle.message_grammar.proofs.Reading.{one_reading}
use Rattle.message_grammar.proofs.Standing.{wire-onto}

-- ---- bytes and numbers

text_one : (bytes : List ℕ) (at place : ℕ) (a b : List ℕ) (x y : ℕ) → IsAt bytes at a x → IsAt bytes place b y → place ≡ at → length a ≡ length b
    → (a ≡ b) × (x ≡ y)
text_one bytes at place a b x y h k same long =
    let first = h.is in
    let second = k.is in
    let e = h.last in
    let d = k.last in
    ((cc), omega arith)

two_one : (n k : ℕ) → n < 65536 → k < 65536 → bytes_high_first 2 n ≡ bytes_high_first 2 k → n ≡ k
two_one n k few small h =
    let high : n / 256 % 256 ≡ k / 256 % 256 = cc in
    let low : n % 256 ≡ k % 256 = cc in
    omega arith

four_one : (n k : ℕ) → n < 2 ^ 32 → k < 2 ^ 32 → bytes_high_first 4 n ≡ bytes_high_first 4 k → n ≡ k
four_one n k few small h =
    let a : n / 16777216 % 256 ≡ k / 16777216 % 256 = cc in
    let b : n / 65536 % 256 ≡ k / 65536 % 256 = cc in
    let c : n / 256 % 256 ≡ k / 256 % 256 = cc in
    let d : n % 256 ≡ k % 256 = cc in
    omega arith

short_one : (bytes : List ℕ) (at place n k x y : ℕ) → IsAt bytes at (bytes_high_first 2 n) x → IsAt bytes place (bytes_high_first 2 k) y → place ≡ at
    → n < 65536 → k < 65536 → n ≡ k
short_one bytes at place n k x y h i same few small =
    two_one n k few small (text_one bytes at place _ _ x y h i same refl).0

long_one : (bytes : List ℕ) (at place n k x y : ℕ) → IsAt bytes at (bytes_high_first 4 n) x → IsAt bytes place (bytes_high_first 4 k) y → place ≡ at
    → n < 2 ^ 32 → k < 2 ^ 32 → n ≡ k
long_one bytes at place n k x y h i same few small =
    four_one n k few small (text_one bytes at place _ _ x y h i same refl).0

name_at_one : (bytes : List ℕ) (at place : ℕ) (a b : List (List ℕ)) (x y : ℕ) → NameAt bytes at a x → NameAt bytes place b y → place ≡ at → (a ≡ b) × (x ≡ y)
name_at_one bytes at place a b x y h k same = one_reading folded_label bytes at at x a h.stands place place y b k.stands same

-- ---- the header

bit_small : (b : Bool) → bit b ≤ 1
bit_small true = omega arith
bit_small false = omega arith

bit_one : (a b : Bool) → bit a ≡ bit b → a ≡ b
bit_one true true h = refl
bit_one true false h = absurd (omega arith)
bit_one false true h = absurd (omega arith)
bit_one false false h = refl

header_one : (g h : Header) → IsHeader g → IsHeader h → g.id ≡ h.id → high_flags g ≡ high_flags h → low_flags g ≡ low_flags h → g ≡ h
header_one g h is it id high low =
    let a = is.opcode in
    let b = it.opcode in
    let c = is.z in
    let d = it.z in
    let e = is.rcode in
    let f = it.rcode in
    let g1 = bit_small g.qr in
    let g2 = bit_small g.aa in
    let g3 = bit_small g.tc in
    let g4 = bit_small g.rd in
    let g5 = bit_small g.ra in
    let h1 = bit_small h.qr in
    let h2 = bit_small h.aa in
    let h3 = bit_small h.tc in
    let h4 = bit_small h.rd in
    let h5 = bit_small h.ra in
    let qr : g.qr ≡ h.qr = bit_one g.qr h.qr (omega arith) in
    let opcode : g.opcode ≡ h.opcode = omega arith in
    let aa : g.aa ≡ h.aa = bit_one g.aa h.aa (omega arith) in
    let tc : g.tc ≡ h.tc = bit_one g.tc h.tc (omega arith) in
    let rd : g.rd ≡ h.rd = bit_one g.rd h.rd (omega arith) in
    let ra : g.ra ≡ h.ra = bit_one g.ra h.ra (omega arith) in
    let z : g.z ≡ h.z = omega arith in
    let rcode : g.rcode ≡ h.rcode = omega arith in
    λ i. record { id = id i; qr = qr i; opcode = opcode i; aa = aa i; tc = tc i; rd = rd i; ra = ra i; z = z i; rcode = rcode i }

-- ---- data

strings_wire : (ts : List (List ℕ)) → strings_bytes ts ≡ wire ts
strings_wire [] = refl
strings_wire (t ∷ ts) = ap (λ x. length t ∷ (t ++ x)) (strings_wire ts)

strings_one : (ts us : List (List ℕ)) → strings_bytes ts ≡ strings_bytes us → ts ≡ us
strings_one ts us h = wire-onto ts us (sym (strings_wire ts) ∙ (h ∙ strings_wire us))

authority_one : (bytes : List ℕ) (at place x y : ℕ) (s t : Authority) → FitsRdata (Soa s) → FitsRdata (Soa t) → FlatsAt bytes at (data_flats (Soa s)) x
    → FlatsAt bytes place (data_flats (Soa t)) y → place ≡ at → s ≡ t
authority_one bytes at place x y s t is it h k same =
    let a = name_at_one bytes at place s.primary t.primary h.0 k.0 h.1 k.1 same in
    let b = name_at_one bytes h.0 k.0 s.mailbox t.mailbox h.2.0 k.2.0 h.2.1 k.2.1 (sym a.1) in
    let l1 = h.2.2.1.last in
    let m1 = k.2.2.1.last in
    let l2 = h.2.2.2.1.last in
    let m2 = k.2.2.2.1.last in
    let l3 = h.2.2.2.2.1.last in
    let m3 = k.2.2.2.2.1.last in
    let l4 = h.2.2.2.2.2.1.last in
    let m4 = k.2.2.2.2.2.1.last in
    let e1 : k.2.0 ≡ h.2.0 = sym b.1 in
    let e2 : k.2.2.0 ≡ h.2.2.0 = omega arith in
    let e3 : k.2.2.2.0 ≡ h.2.2.2.0 = omega arith in
    let e4 : k.2.2.2.2.0 ≡ h.2.2.2.2.0 = omega arith in
    let e5 : k.2.2.2.2.2.0 ≡ h.2.2.2.2.2.0 = omega arith in
    let n1 = long_one bytes h.2.0 k.2.0 s.serial t.serial h.2.2.0 k.2.2.0 h.2.2.1 k.2.2.1 e1 is.0 it.0 in
    let n2 = long_one bytes h.2.2.0 k.2.2.0 s.refresh t.refresh h.2.2.2.0 k.2.2.2.0 h.2.2.2.1 k.2.2.2.1 e2 is.1 it.1 in
    let n3 = long_one bytes h.2.2.2.0 k.2.2.2.0 s.retry t.retry h.2.2.2.2.0 k.2.2.2.2.0 h.2.2.2.2.1 k.2.2.2.2.1 e3 is.2 it.2 in
    let n4 = long_one bytes h.2.2.2.2.0 k.2.2.2.2.0 s.expire t.expire h.2.2.2.2.2.0 k.2.2.2.2.2.0 h.2.2.2.2.2.1 k.2.2.2.2.2.1 e4 is.3 it.3 in
    let n5 = long_one bytes h.2.2.2.2.2.0 k.2.2.2.2.2.0 s.minimum t.minimum h.2.2.2.2.2.2.0 k.2.2.2.2.2.2.0 h.2.2.2.2.2.2.1 k.2.2.2.2.2.2.1 e5 is.4 it.4 in
    λ i. record { primary = a.0 i; mailbox = b.0 i; serial = n1 i; refresh = n2 i; retry = n3 i; expire = n4 i; minimum = n5 i }

service_one : (bytes : List ℕ) (at place x y : ℕ) (s t : Service) → FitsRdata (Srv s) → FitsRdata (Srv t) → FlatsAt bytes at (data_flats (Srv s)) x
    → FlatsAt bytes place (data_flats (Srv t)) y → place ≡ at → s ≡ t
service_one bytes at place x y s t is it h k same =
    let l1 = h.1.last in
    let m1 = k.1.last in
    let l2 = h.2.1.last in
    let m2 = k.2.1.last in
    let l3 = h.2.2.1.last in
    let m3 = k.2.2.1.last in
    let e1 : k.0 ≡ h.0 = omega arith in
    let e2 : k.2.0 ≡ h.2.0 = omega arith in
    let e3 : k.2.2.0 ≡ h.2.2.0 = omega arith in
    let n1 = short_one bytes at place s.priority t.priority h.0 k.0 h.1 k.1 same is.0 it.0 in
    let n2 = short_one bytes h.0 k.0 s.weight t.weight h.2.0 k.2.0 h.2.1 k.2.1 e1 is.1 it.1 in
    let n3 = short_one bytes h.2.0 k.2.0 s.port t.port h.2.2.0 k.2.2.0 h.2.2.1 k.2.2.1 e2 is.2 it.2 in
    let n4 = (one_reading folded_label bytes 0 h.2.2.0 h.2.2.2.0 s.target h.2.2.2.1.stands 0 k.2.2.0 k.2.2.2.0 t.target k.2.2.2.1.stands e3).0 in
    λ i. record { priority = n1 i; weight = n2 i; port = n3 i; target = n4 i }

data_one : (bytes : List ℕ) (at place x y : ℕ) (d e : Datum) → type_of d ≡ type_of e → FitsRdata d → FitsRdata e → FlatsAt bytes at (data_flats d) x
    → FlatsAt bytes place (data_flats e) y → place ≡ at → x ≡ y → d ≡ e
data_one bytes at place x y (Ipv4 a) (Ipv4 b) kind is it h k same ends = ap Ipv4 (text_one bytes at place a b h.0 k.0 h.1 k.1 same (omega arith)).0
data_one bytes at place x y (Ns a) (Ns b) kind is it h k same ends = ap Ns (name_at_one bytes at place a b h.0 k.0 h.1 k.1 same).0
data_one bytes at place x y (Cname a) (Cname b) kind is it h k same ends = ap Cname (name_at_one bytes at place a b h.0 k.0 h.1 k.1 same).0
data_one bytes at place x y (Soa a) (Soa b) kind is it h k same ends = ap Soa (authority_one bytes at place x y a b is it h k same)
data_one bytes at place x y (Ptr a) (Ptr b) kind is it h k same ends = ap Ptr (name_at_one bytes at place a b h.0 k.0 h.1 k.1 same).0
data_one bytes at place x y (Mx p a) (Mx q b) kind is it h k same ends =
    let n = short_one bytes at place p q h.0 k.0 h.1 k.1 same is it in
    let f = h.1.last in
    let g = k.1.last in
    let m = (name_at_one bytes h.0 k.0 a b h.2.0 k.2.0 h.2.1 k.2.1 (omega arith)).0 in
    λ i. Mx (n i) (m i)
data_one bytes at place x y (Txt a) (Txt b) kind is it h k same ends =
    let f = h.1.last in
    let g = k.1.last in
    let e = h.2 in
    let d = k.2 in
    ap Txt (strings_one a b (text_one bytes at place (strings_bytes a) (strings_bytes b) h.0 k.0 h.1 k.1 same (omega arith)).0)
data_one bytes at place x y (Ipv6 a) (Ipv6 b) kind is it h k same ends = ap Ipv6 (text_one bytes at place a b h.0 k.0 h.1 k.1 same (omega arith)).0
data_one bytes at place x y (Srv a) (Srv b) kind is it h k same ends = ap Srv (service_one bytes at place x y a b is it h k same)
data_one bytes at place x y _ _ kind is it h k same ends = absurd (omega arith)

-- ---- records

-- What two rows of a record's pieces at one place have in common.
record RowsAgree (bytes : List ℕ) (at place x y : ℕ) (o p : List (List ℕ)) (k l c d t u : ℕ) (fs gs : List Flat) (h : PiecesAt bytes at (any_record_pieces o k c t fs) x)
    (i : PiecesAt bytes place (any_record_pieces p l d u gs) y) : Type 0 where
  owner : o ≡ p
  kind : k ≡ l
  class : c ≡ d
  ttl_place : i.2.2.0 ≡ h.2.2.0
  group_place : i.2.2.2.0 ≡ h.2.2.2.0
  end : x ≡ y

rows_agree : (bytes : List ℕ) (at place x y : ℕ) (o p : List (List ℕ)) (k l c d t u : ℕ) (fs gs : List Flat) (h : PiecesAt bytes at (any_record_pieces o k c t fs) x)
    (i : PiecesAt bytes place (any_record_pieces p l d u gs) y) → place ≡ at → k < 65536 → l < 65536 → c < 65536 → d < 65536
    → RowsAgree bytes at place x y o p k l c d t u fs gs h i
rows_agree bytes at place x y o p k l c d t u fs gs h i same k1 l1 c1 d1 =
    let n = name_at_one bytes at place o p h.0 i.0 h.1 i.1 same in
    let e0 : i.0 ≡ h.0 = sym n.1 in
    let a0 = h.2.1.last in
    let b0 = i.2.1.last in
    let a1 = h.2.2.1.last in
    let b1 = i.2.2.1.last in
    let a2 = h.2.2.2.1.last in
    let b2 = i.2.2.2.1.last in
    let e1 : i.2.0 ≡ h.2.0 = omega arith in
    let e2 : i.2.2.0 ≡ h.2.2.0 = omega arith in
    let e3 : i.2.2.2.0 ≡ h.2.2.2.0 = omega arith in
    let group = h.2.2.2.2.1 in
    let other = i.2.2.2.2.1 in
    let size : group.size ≡ other.size =
    short_one bytes h.2.2.2.0 i.2.2.2.0 group.size other.size (h.2.2.2.0 + 2) (i.2.2.2.0 + 2) group.length_first other.length_first e3 group.fits other.fits in
    let f = group.fills in
    let g = other.fills in
    let z1 = h.2.2.2.2.2 in
    let z2 = i.2.2.2.2.2 in
    record {
      owner = n.0;
      kind = short_one bytes h.0 i.0 k l h.2.0 i.2.0 h.2.1 i.2.1 e0 k1 l1;
      class = short_one bytes h.2.0 i.2.0 c d h.2.2.0 i.2.2.0 h.2.2.1 i.2.2.1 e1 c1 d1;
      ttl_place = e2;
      group_place = e3;
      end = omega arith;
    }

kind_small : (d : Datum) → type_of d < 65536
kind_small (Ipv4 a) = omega arith
kind_small (Ns a) = omega arith
kind_small (Cname a) = omega arith
kind_small (Soa a) = omega arith
kind_small (Ptr a) = omega arith
kind_small (Mx p a) = omega arith
kind_small (Txt a) = omega arith
kind_small (Ipv6 a) = omega arith
kind_small (Srv s) = omega arith

record_one : (bytes : List ℕ) (at place : ℕ) (r s : Record) (x y : ℕ) → RecordAt bytes at r x → RecordAt bytes place s y → place ≡ at → (r ≡ s) × (x ≡ y)
record_one bytes at place r s x y h i same =
    let rows = rows_agree bytes at place x y r.owner s.owner (type_of r.value) (type_of s.value) internet internet h.ttl i.ttl (data_flats r.value) (data_flats s.value)
    h.stands i.stands same (kind_small r.value) (kind_small s.value) (omega arith) (omega arith) in
    let e3 = rows.group_place in
    let ttl = long_one bytes h.stands.2.2.0 i.stands.2.2.0 h.ttl i.ttl h.stands.2.2.2.0 i.stands.2.2.2.0 h.stands.2.2.2.1 i.stands.2.2.2.1 rows.ttl_place h.fits_ttl i.fits_ttl in
    let group = h.stands.2.2.2.2.1 in
    let other = i.stands.2.2.2.2.1 in
    let z1 = h.stands.2.2.2.2.2 in
    let z2 = i.stands.2.2.2.2.2 in
    let e = rows.end in
    let value = data_one bytes (h.stands.2.2.2.0 + 2) (i.stands.2.2.2.0 + 2) h.stands.2.2.2.2.0 i.stands.2.2.2.2.0 r.value s.value rows.kind h.fits i.fits
    group.stands other.stands (omega arith) (omega arith) in
    let owner = rows.owner in
    let life : r.ttl ≡ s.ttl = h.is_ttl ∙ (ap ttl_of ttl ∙ sym i.is_ttl) in
    (λ j. record { owner = owner j; ttl = life j; value = value j }, e)

not_skipped : (bytes : List ℕ) (at place : ℕ) (r : Record) (x y : ℕ) → RecordAt bytes at r x → SkippedAt bytes place y → place ≡ at → ⊥
not_skipped bytes at place r x y h i same =
    let rows = rows_agree bytes at place x y r.owner i.owner (type_of r.value) i.kind internet i.class h.ttl i.ttl (data_flats r.value) (plain_bytes i.rdata ∷ [])
    h.stands i.stands same (kind_small r.value) i.fits_kind (omega arith) i.fits_class in
    data_kept r.value ((λ j. served_type (rows.kind j) (rows.class j)) ∙ i.other)

skipped_one : (bytes : List ℕ) (at place x y : ℕ) → SkippedAt bytes at x → SkippedAt bytes place y → place ≡ at → x ≡ y
skipped_one bytes at place x y h i same =
    (rows_agree bytes at place x y h.owner i.owner h.kind i.kind h.class i.class h.ttl i.ttl (plain_bytes h.rdata ∷ []) (plain_bytes i.rdata ∷ [])
    h.stands i.stands same h.fits_kind i.fits_kind h.fits_class i.fits_class).end

section_one : (bytes : List ℕ) (at count : ℕ) (rs : List Record) (x : ℕ) → SectionAt bytes at count rs x
    → (place many : ℕ) (ss : List Record) (y : ℕ) → SectionAt bytes place many ss y → place ≡ at → many ≡ count → (rs ≡ ss) × (x ≡ y)
section_one bytes at count rs x (none_left _ _ _ none e) place many ss y (none_left _ _ _ zero_left d) same number = (refl, omega arith)
section_one bytes at count rs x (none_left _ _ _ none e) place many ss y (kept_first _ _ left mid _ r rest more first others) same number = absurd (omega arith)
section_one bytes at count rs x (none_left _ _ _ none e) place many ss y (skipped_first _ _ left mid _ rest more first others) same number = absurd (omega arith)
section_one bytes at count rs x (kept_first _ _ left mid _ r rest more first others) place many ss y (none_left _ _ _ zero_left d) same number = absurd (omega arith)
section_one bytes at count rs x (kept_first _ _ left mid _ r rest more first others) place many ss y (kept_first _ _ less next _ s tail plus head after) same number =
    let one = record_one bytes at place r s mid next first head same in
    let both = section_one bytes mid left rest x others next less tail y after (sym one.1) (omega arith) in
    let a = one.0 in
    let b = both.0 in
    ((λ i. a i ∷ b i), both.1)
section_one bytes at count rs x (kept_first _ _ left mid _ r rest more first others) place many ss y (skipped_first _ _ less next _ tail plus head after) same number =
    absurd (not_skipped bytes at place r mid next first head same)
section_one bytes at count rs x (skipped_first _ _ left mid _ rest more first others) place many ss y (none_left _ _ _ zero_left d) same number = absurd (omega arith)
section_one bytes at count rs x (skipped_first _ _ left mid _ rest more first others) place many ss y (kept_first _ _ less next _ s tail plus head after) same number =
    absurd (not_skipped bytes place at s next mid head first (sym same))
section_one bytes at count rs x (skipped_first _ _ left mid _ rest more first others) place many ss y (skipped_first _ _ less next _ tail plus head after) same number =
    section_one bytes mid left rs x others next less ss y after (sym (skipped_one bytes at place mid next first head same)) (omega arith)

-- ---- questions

question_one : (bytes : List ℕ) (at place : ℕ) (p q : Question) (x y : ℕ) → QuestionAt bytes at p x → QuestionAt bytes place q y → place ≡ at → (p ≡ q) × (x ≡ y)
question_one bytes at place p q x y h k same =
    let n = name_at_one bytes at place p.name q.name h.behind_name k.behind_name h.name k.name same in
    let a = h.rest.1.last in
    let b = k.rest.1.last in
    let c = h.rest.2.1.last in
    let d = k.rest.2.1.last in
    let e = h.rest.2.2 in
    let f = k.rest.2.2 in
    let e0 : k.behind_name ≡ h.behind_name = sym n.1 in
    let e1 : k.rest.0 ≡ h.rest.0 = omega arith in
    let kind = short_one bytes h.behind_name k.behind_name p.qtype q.qtype h.rest.0 k.rest.0 h.rest.1 k.rest.1 e0 h.fits_type k.fits_type in
    let class = short_one bytes h.rest.0 k.rest.0 p.qclass q.qclass h.rest.2.0 k.rest.2.0 h.rest.2.1 k.rest.2.1 e1 h.fits_class k.fits_class in
    let name = n.0 in
    (λ i. record { name = name i; qtype = kind i; qclass = class i }, omega arith)

questions_one : (bytes : List ℕ) (at place : ℕ) (ps qs : List Question) (x y : ℕ) → QuestionsAt bytes at ps x → QuestionsAt bytes place qs y → place ≡ at
    → length ps ≡ length qs → (ps ≡ qs) × (x ≡ y)
questions_one bytes at place [] [] x y h k same long = (refl, omega arith)
questions_one bytes at place [] (q ∷ qs) x y h k same long = absurd (omega arith)
questions_one bytes at place (p ∷ ps) [] x y h k same long = absurd (omega arith)
questions_one bytes at place (p ∷ ps) (q ∷ qs) x y (mid, first, rest) (next, head, tail) same long =
    let one = question_one bytes at place p q mid next first head same in
    let both = questions_one bytes mid next ps qs x y rest tail (sym one.1) (omega arith) in
    let a = one.0 in
    let b = both.0 in
    ((λ i. a i ∷ b i), both.1)

-- ---- the message

pub message_one : (bytes : List ℕ) (m n : Message) → IsMessage bytes m → IsMessage bytes n → m ≡ n
message_one bytes m n h k =
    let p = h.header in
    let q = k.header in
    let l1 = p.1.last in
    let l2 = p.2.1.last in
    let l3 = p.2.2.1.last in
    let l4 = p.2.2.2.1.last in
    let l5 = p.2.2.2.2.1.last in
    let r1 = q.1.last in
    let r2 = q.2.1.last in
    let r3 = q.2.2.1.last in
    let r4 = q.2.2.2.1.last in
    let r5 = q.2.2.2.2.1.last in
    let e1 : q.0 ≡ p.0 = omega arith in
    let e2 : q.2.0 ≡ p.2.0 = omega arith in
    let e3 : q.2.2.0 ≡ p.2.2.0 = omega arith in
    let e4 : q.2.2.2.0 ≡ p.2.2.2.0 = omega arith in
    let e5 : q.2.2.2.2.0 ≡ p.2.2.2.2.0 = omega arith in
    let id = short_one bytes 0 0 m.header.id n.header.id p.0 q.0 p.1 q.1 refl h.fits_header.id k.fits_header.id in
    let flags : high_flags m.header ∷ low_flags m.header ∷ [] ≡ high_flags n.header ∷ low_flags n.header ∷ [] =
    (text_one bytes p.0 q.0 _ _ p.2.0 q.2.0 p.2.1 q.2.1 e1 refl).0 in
    let high = ap (λ x. slice_index x 0) flags in
    let low = ap (λ x. slice_index x 1) flags in
    let header = header_one m.header n.header h.fits_header k.fits_header id high low in
    let c1 = short_one bytes p.2.0 q.2.0 h.counts.questions k.counts.questions p.2.2.0 q.2.2.0 p.2.2.1 q.2.2.1 e2 h.fit_counts.questions k.fit_counts.questions in
    let c2 = short_one bytes p.2.2.0 q.2.2.0 h.counts.answer k.counts.answer p.2.2.2.0 q.2.2.2.0 p.2.2.2.1 q.2.2.2.1 e3 h.fit_counts.answer k.fit_counts.answer in
    let c3 = short_one bytes p.2.2.2.0 q.2.2.2.0 h.counts.authority k.counts.authority p.2.2.2.2.0 q.2.2.2.2.0 p.2.2.2.2.1 q.2.2.2.2.1 e4 h.fit_counts.authority k.fit_counts.authority in
    let c4 = short_one bytes p.2.2.2.2.0 q.2.2.2.2.0 h.counts.additional k.counts.additional p.2.2.2.2.2.0 q.2.2.2.2.2.0 p.2.2.2.2.2.1 q.2.2.2.2.2.1 e5 h.fit_counts.additional k.fit_counts.additional in
    let many = h.count in
    let more = k.count in
    let asked = questions_one bytes 12 12 m.questions n.questions h.behind_questions k.behind_questions h.questions k.questions refl (omega arith) in
    let answer = section_one bytes h.behind_questions h.counts.answer m.answer h.behind_answer h.answer k.behind_questions k.counts.answer n.answer k.behind_answer k.answer
    (sym asked.1) (sym c2) in
    let authority = section_one bytes h.behind_answer h.counts.authority m.authority h.behind_authority h.authority k.behind_answer k.counts.authority n.authority
    k.behind_authority k.authority (sym answer.1) (sym c3) in
    let additional = section_one bytes h.behind_authority h.counts.additional m.additional (length bytes) h.additional k.behind_authority k.counts.additional n.additional
    (length bytes) k.additional (sym authority.1) (sym c4) in
    let a = asked.0 in
    let b = answer.0 in
    let c = authority.0 in
    let d = additional.0 in
    λ i. record { header = header i; questions = a i; answer = b i; authority = c i; additional = d i }
