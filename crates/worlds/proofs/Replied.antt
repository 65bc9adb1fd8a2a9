-- The right message, and the right bytes.
use Rattle.std.proofs.Common.{◌≡◌, ℕ, inl, inr, IsTrue, Bool, true, false, not, List, [], ◌∷◌, refl, sym, ◌∙◌, ap, subst}
use Rattle.std.proofs.lemmas.Bool.{both_ways}
use Rattle.dname.specs.Labels.{Name}
use Rattle.message_grammar.specs.Messages.{Question, Message, IsMessage, internet}
use Rattle.message_grammar.proofs.Single.{message_one}
use Rattle.world_truth.specs.Worlds.{World}
use Rattle.world_truth.specs.Truths.{Truth}
use Rattle.world_truth.specs.Replies.{IsReplyTo, IsBare, IsWhole, IsRight}
use Rattle.worlds.specs.Judging.{IsRest, IsRightMessage, is_none, is_asked, is_reply_to, is_empty}
use Rattle.worlds.proofs.Decided.{Yes, fails, yes_and, yes_as, yes_same}
use Rattle.worlds.proofs.Judged.{yes_none, yes_code}

abbrev question : Name → ℕ → Question
question q t = record { name = q; qtype = t; qclass = internet }

asked_first : (x y : Question) → (x ∷ []) ≡ y ∷ [] → x ≡ y
asked_first x y e = cc

none_asked : (y : Question) → [] ≡ y ∷ [] → ⊥
none_asked y e = cc

more_asked : (x y z : Question) (qs : List Question) → (x ∷ y ∷ qs) ≡ z ∷ [] → ⊥
more_asked x y z qs e = cc

yes_asked : (q : Name) (t : ℕ) (qs : List Question) → Yes (is_asked q t qs) (qs ≡ question q t ∷ [])
yes_asked q t [] = record { so = λ h. absurd (cc); test = λ e. absurd (none_asked (question q t) e) }
yes_asked q t (x ∷ []) = yes_as
    (λ p. λ i. record { name = p.0.0 i; qtype = p.0.1 i; qclass = p.1 i } ∷ [])
    (λ e. let f : x ≡ question q t = asked_first x (question q t) e in ((ap (λ (y : Question). y.name) f, ap (λ (y : Question). y.qtype) f), ap (λ (y : Question). y.qclass) f))
    (yes_and (yes_and (yes_same x.name q) (yes_code x.qtype t)) (yes_code x.qclass internet))
yes_asked q t (x ∷ y ∷ qs) = record { so = λ h. absurd (cc); test = λ e. absurd (more_asked x y (question q t) qs e) }

yes_set : (b : Bool) → Yes b (b ≡ true)
yes_set b = record { so = λ h. h; test = λ h. h }

pub yes_reply : (q : Name) (t : ℕ) (m : Message) → Yes (is_reply_to q t m) (IsReplyTo q t m)
yes_reply q t m = yes_as (λ p. record { qr = p.0; question = p.1 }) (λ h. let k : IsReplyTo q t m = h in (k.qr, k.question)) (yes_and (yes_set m.header.qr) (yes_asked q t m.questions))

abbrev pub Clause : Bool → Type 0 → Type 0
Clause x P = (IsTrue x → P) × (P → IsTrue x)

pub other_reply : (W : World) (q : Name) (t : ℕ) (m : Message) → is_reply_to q t m ≡ false → Clause false (IsRightMessage W q t m)
other_reply W q t m h = (λ e. absurd (cc), λ p. absurd (fails (yes_reply q t m) h p.0))

yes_empty : (m : Message) → Yes (is_empty m) (((m.answer ≡ []) × (m.authority ≡ [])) × (m.additional ≡ []))
yes_empty m = yes_and (yes_and (yes_none m.answer) (yes_none m.authority)) (yes_none m.additional)

pub truncated_reply : (W : World) (q : Name) (t : ℕ) (m : Message) (x : Bool) → is_reply_to q t m ≡ true → m.header.tc ≡ true → x ≡ is_empty m → Clause x (IsRightMessage W q t m)
truncated_reply W q t m x r tc e = (
  λ h. let p = Yes.so (yes_empty m) (sym e ∙ h) in (Yes.so (yes_reply q t m) r, inl (record { tc = tc; answer = p.0.0; authority = p.0.1; additional = p.1 })),
  λ p. e ∙ Yes.test (yes_empty m) (emptied p),
)
  where
    emptied : IsRightMessage W q t m → ((m.answer ≡ []) × (m.authority ≡ [])) × (m.additional ≡ [])
    emptied (reply, inl b) = let k : IsBare m = b in ((k.answer, k.authority), k.additional)
    emptied (reply, inr w) = let k : IsWhole W q t m = w in absurd (both_ways m.header.tc k.tc tc)

stray : (b : Bool) → not b ≡ true → b ≡ false
stray true h = sym h
stray false h = refl

clear : (b : Bool) → not b ≡ false → b ≡ true
clear true h = refl
clear false h = sym h

pub stray_reply : (W : World) (q : Name) (t : ℕ) (m : Message) → m.header.tc ≡ false → not (is_none m.additional) ≡ true → Clause false (IsRightMessage W q t m)
stray_reply W q t m tc e = (λ h. absurd (cc), λ p. absurd (refuted p))
  where
    refuted : IsRightMessage W q t m → ⊥
    refuted (reply, inl b) = let k : IsBare m = b in both_ways m.header.tc tc k.tc
    refuted (reply, inr w) = let k : IsWhole W q t m = w in fails (yes_none m.additional) (stray (is_none m.additional) e) k.additional

pub whole_reply : (W : World) (q : Name) (t : ℕ) (m : Message) (x : Bool) → is_reply_to q t m ≡ true → m.header.tc ≡ false → not (is_none m.additional) ≡ false
    → Clause x (IsRest W t q 8 m.answer m.header.rcode m.authority) → Clause x (IsRightMessage W q t m)
whole_reply W q t m x r tc e rest = (λ h. (Yes.so (yes_reply q t m) r, inr (whole (rest.0 h))), λ p. rest.1 (parts p))
  where
    whole : IsRest W t q 8 m.answer m.header.rcode m.authority → IsWhole W q t m
    whole h = record {
      tc = tc;
      chain = h.chain;
      rest = h.rest;
      last = h.last;
      truth = record { to = h.to; leads = h.leads; few = h.few; link = h.link; ends = h.stops };
      answer = h.is;
      ends = h.ends;
      additional = Yes.so (yes_none m.additional) (clear (is_none m.additional) e);
    }

    parts : IsRightMessage W q t m → IsRest W t q 8 m.answer m.header.rcode m.authority
    parts (reply, inl b) = let k : IsBare m = b in absurd (both_ways m.header.tc tc k.tc)
    parts (reply, inr w) =
        let k : IsWhole W q t m = w in
        let u : Truth W q t k.chain k.last = k.truth in
        record { chain = k.chain; rest = k.rest; last = k.last; to = u.to; leads = u.leads; few = u.few; link = u.link; stops = u.ends; is = k.answer; ends = k.ends }

-- The bytes are one message at most.
pub right_bytes : (W : World) (q : Name) (t : ℕ) (bytes : List ℕ) (m : Message) (x : Bool) → IsMessage bytes m → Clause x (IsRightMessage W q t m) → Clause x (IsRight W q t bytes)
right_bytes W q t bytes m x is c = (
  λ h. let p = c.0 h in (m, is, p.0, p.1),
  λ p. let (n, there, reply, kind) = p in c.1 (subst (IsRightMessage W q t) (message_one bytes n m there is) (reply, kind)),
)

pub no_message : (W : World) (q : Name) (t : ℕ) (bytes : List ℕ) → ((m : Message) → IsMessage bytes m → ⊥) → Clause false (IsRight W q t bytes)
no_message W q t bytes none = (λ h. absurd (cc), λ p. absurd (none p.0 p.1))
