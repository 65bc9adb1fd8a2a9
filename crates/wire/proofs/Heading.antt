-- A header that stands at a message's start is the one that is read there.
use Rattle.std.proofs.Common.{◌≡◌, ℕ, zero, suc, ◌/◌, ◌%◌, ◌<◌, ◌≤◌, Bool, true, false, List, [], ◌∷◌, length, refl, sym, ◌∙◌, ap, arith}
use Rattle.std.specs.Prelude.{nat_eq, slice_index}
use Rattle.message_grammar.specs.Places.{IsAt, PiecesAt}
use Rattle.message_grammar.specs.Messages.{Header, Counts, bit, high_flags, low_flags, IsHeader, AreCounts, header_pieces}
use Rattle.wire.specs.Numbers.{two_at}
use Rattle.wire.specs.Heads.{is_set, header_by, header_of}
use Rattle.wire.proofs.Bytes.{AreSmall, at-along, two_bytes, two_stands, two_small, two_takes}

bit_back : (n : ℕ) → n < 2 → bit (nat_eq n 1) ≡ n
bit_back zero h = refl
bit_back (suc zero) h = refl
bit_back (suc (suc n)) h = absurd (omega arith)

bit_read : (b : Bool) (n : ℕ) → n ≡ bit b → nat_eq n 1 ≡ b
bit_read true n h = ap (λ k. nat_eq k 1) h
bit_read false n h = ap (λ k. nat_eq k 1) h

bit_small : (b : Bool) → bit b ≤ 1
bit_small true = omega arith
bit_small false = omega arith

high_back : (id high low : ℕ) → high < 256 → high_flags (header_by id high low) ≡ high
high_back id high low few =
    let a = bit_back (high / 128 % 2) (omega arith) in
    let b = bit_back (high / 4 % 2) (omega arith) in
    let c = bit_back (high / 2 % 2) (omega arith) in
    let d = bit_back (high / 1 % 2) (omega arith) in
    omega arith

low_back : (id high low : ℕ) → low < 256 → low_flags (header_by id high low) ≡ low
low_back id high low few =
    let a = bit_back (low / 128 % 2) (omega arith) in
    omega arith

header_read : (h : Header) (id high low : ℕ) → IsHeader h → id ≡ h.id → high ≡ high_flags h → low ≡ low_flags h → header_by id high low ≡ h
header_read h id high low is e f g =
    let a = is.opcode in
    let b = is.z in
    let c = is.rcode in
    let g1 = bit_small h.qr in
    let g2 = bit_small h.aa in
    let g3 = bit_small h.tc in
    let g4 = bit_small h.rd in
    let g5 = bit_small h.ra in
    let qr : is_set high 128 ≡ h.qr = bit_read h.qr (high / 128 % 2) (omega arith) in
    let opcode : high / 8 % 16 ≡ h.opcode = omega arith in
    let aa : is_set high 4 ≡ h.aa = bit_read h.aa (high / 4 % 2) (omega arith) in
    let tc : is_set high 2 ≡ h.tc = bit_read h.tc (high / 2 % 2) (omega arith) in
    let rd : is_set high 1 ≡ h.rd = bit_read h.rd (high / 1 % 2) (omega arith) in
    let ra : is_set low 128 ≡ h.ra = bit_read h.ra (low / 128 % 2) (omega arith) in
    let z : low / 16 % 8 ≡ h.z = omega arith in
    let rcode : low % 16 ≡ h.rcode = omega arith in
    λ i. record { id = e i; qr = qr i; opcode = opcode i; aa = aa i; tc = tc i; rd = rd i; ra = ra i; z = z i; rcode = rcode i }

-- The counts that bytes hold.
abbrev pub counts_at : List ℕ → Counts
counts_at bytes = record { questions = two_at bytes 4; answer = two_at bytes 6; authority = two_at bytes 8; additional = two_at bytes 10 }

pub header_stands : (bytes : List ℕ) → AreSmall bytes → 12 ≤ length bytes → PiecesAt bytes 0 (header_pieces (header_of bytes) (counts_at bytes)) 12
header_stands bytes small fits =
    let high = slice_index bytes 2 in
    let low = slice_index bytes 3 in
    let a = high_back (two_at bytes 0) high low (small 2) in
    let b = low_back (two_at bytes 0) high low (small 3) in
    let flags : IsAt bytes 2 (high_flags (header_of bytes) ∷ low_flags (header_of bytes) ∷ []) 4 = record {
      there = omega arith;
      is = two_bytes bytes 2 (omega arith) ∙ (λ i. sym a i ∷ sym b i ∷ []);
      last = refl;
    } in (
      2,
      two_stands bytes 0 small (omega arith),
      (
        4,
        flags,
        (
          6,
          two_stands bytes 4 small (omega arith),
          (8, two_stands bytes 6 small (omega arith), (10, two_stands bytes 8 small (omega arith), (12, two_stands bytes 10 small (omega arith), refl))),
        ),
      ),
    )

pub header_fits : (bytes : List ℕ) → AreSmall bytes → IsHeader (header_of bytes) × AreCounts (counts_at bytes)
header_fits bytes small = (
  record { id = two_small bytes 0 small; opcode = omega arith; z = omega arith; rcode = omega arith },
  record { questions = two_small bytes 4 small; answer = two_small bytes 6 small; authority = two_small bytes 8 small; additional = two_small bytes 10 small },
)

-- What is read where a header stands.
pub record HeaderRead (bytes : List ℕ) (h : Header) (c : Counts) : Type 0 where
  pub long : 12 ≤ length bytes
  pub header : header_of bytes ≡ h
  pub questions : two_at bytes 4 ≡ c.questions
  pub answer : two_at bytes 6 ≡ c.answer
  pub authority : two_at bytes 8 ≡ c.authority
  pub additional : two_at bytes 10 ≡ c.additional

pub header_takes : (bytes : List ℕ) (h : Header) (c : Counts) → PiecesAt bytes 0 (header_pieces h c) 12 → IsHeader h → AreCounts c → HeaderRead bytes h c
header_takes bytes h c p is are =
    let l1 = p.1.last in
    let l2 = p.2.1.last in
    let l3 = p.2.2.1.last in
    let l4 = p.2.2.2.1.last in
    let l5 = p.2.2.2.2.1.last in
    let there = p.2.2.2.2.2.1.there in
    let e1 : p.0 ≡ 2 = omega arith in
    let e2 : p.2.0 ≡ 4 = omega arith in
    let e3 : p.2.2.0 ≡ 6 = omega arith in
    let e4 : p.2.2.2.0 ≡ 8 = omega arith in
    let e5 : p.2.2.2.2.0 ≡ 10 = omega arith in
    let id = two_takes bytes 0 0 h.id p.0 p.1 refl is.id in
    let flags = at-along bytes p.0 2 _ p.2.0 p.2.0 p.2.1 e1 refl in
    let two : slice_index bytes 2 ∷ slice_index bytes 3 ∷ [] ≡ high_flags h ∷ low_flags h ∷ [] = sym (two_bytes bytes 2 flags.there) ∙ flags.is in
    let high : slice_index bytes 2 ≡ high_flags h = ap (λ l. slice_index l 0) two in
    let low : slice_index bytes 3 ≡ low_flags h = ap (λ l. slice_index l 1) two in
    record {
      long = omega arith;
      header = header_read h (two_at bytes 0) (slice_index bytes 2) (slice_index bytes 3) is id high low;
      questions = two_takes bytes 4 p.2.0 c.questions p.2.2.0 p.2.2.1 e2 are.questions;
      answer = two_takes bytes 6 p.2.2.0 c.answer p.2.2.2.0 p.2.2.2.1 e3 are.answer;
      authority = two_takes bytes 8 p.2.2.2.0 c.authority p.2.2.2.2.0 p.2.2.2.2.1 e4 are.authority;
      additional = two_takes bytes 10 p.2.2.2.2.0 c.additional p.2.2.2.2.2.0 p.2.2.2.2.2.1 e5 are.additional;
    }
