-- What bytes ask, from what they mean.
use Rattle.std.proofs.Common.{◌≡◌, ◌∙◌, refl, sym, ap, inl, inr, ℕ, ◌<◌, ◌≤◌, None, List, [], ◌∷◌, length, slice_index}
use Rattle.message_grammar.specs.Names.{SpeltAt}
use Rattle.message_grammar.specs.Messages.{Message, Question, IsMessage}
use Rattle.wire.specs.Asked.{IsOnlyQuestion, HasNotOne}
use Rattle.front.specs.Openings.{Opening, opening_of}
use Rattle.front.specs.Queries.{IsRequest, nothing_heard, other_heard, one_heard, by_question}
use Rattle.front.specs.declared.queries.Refusal.TheVariants.{FormErr}
use Rattle.front.specs.declared.queries.Request.{Request}
use Rattle.front.specs.declared.queries.Request.TheVariants.{Refuse}

-- A message of none or several questions.
pub other_read : {A : Type 0} (bytes : List ℕ) (m : Message) (qs : List Question) (s : Opening) → 12 ≤ length bytes → slice_index bytes 2 < 128
    → IsMessage bytes m → m.questions ≡ qs → (length qs ≡ 1 → ⊥) → s ≡ opening_of bytes → IsRequest {A = A} bytes (Refuse FormErr s None)
other_read bytes m qs s whole query is same several opens = inr (record {
  whole = whole;
  query = query;
  heard = other_heard m;
  hears = (is, λ e. several (sym (ap length same) ∙ e));
  is = ap (λ o. Refuse FormErr o None) opens;
})

pub one_read : {A : Type 0} (bytes : List ℕ) (m : Message) (q : Question) (letters : List (List ℕ)) (s : Opening) (asked : Request A) → 12 ≤ length bytes
    → slice_index bytes 2 < 128 → IsMessage bytes m → m.questions ≡ q ∷ [] → ((end : ℕ) × SpeltAt bytes 12 letters end) → s ≡ opening_of bytes
    → asked ≡ by_question s q letters → IsRequest bytes asked
one_read bytes m q letters s asked whole query is only spelt opens sorted = inr (record {
  whole = whole;
  query = query;
  heard = one_heard m q letters;
  hears = (is, only, spelt);
  is = sorted ∙ ap (λ o. by_question o q letters) opens;
})

-- Bytes that are no message of one question.
pub not_one_read : {A : Type 0} (bytes : List ℕ) (s : Opening) → 12 ≤ length bytes → slice_index bytes 2 < 128 → HasNotOne bytes → s ≡ opening_of bytes
    → IsRequest {A = A} bytes (Refuse FormErr s None)
not_one_read bytes s whole query (inl none) opens = inr (record {
  whole = whole;
  query = query;
  heard = nothing_heard;
  hears = none;
  is = ap (λ o. Refuse FormErr o None) opens;
})
not_one_read bytes s whole query (inr (m, is, several)) opens = other_read bytes m m.questions s whole query is refl several opens

-- A message of one question.
pub only_read : {A : Type 0} (bytes : List ℕ) (name : List (List ℕ)) (echo : Question) (s : Opening) (asked : Request A) → 12 ≤ length bytes → slice_index bytes 2 < 128
    → IsOnlyQuestion bytes name echo → s ≡ opening_of bytes → asked ≡ by_question s (record { name = name; qtype = echo.qtype; qclass = echo.qclass }) echo.name → IsRequest bytes asked
only_read bytes name echo s asked whole query h opens sorted =
    one_read bytes h.message (record { name = name; qtype = echo.qtype; qclass = echo.qclass }) echo.name s asked whole query h.is h.only (h.end, h.spelt) opens sorted
