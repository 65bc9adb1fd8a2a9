-- What bytes ask does not depend on where memory comes from.
use Rattle.std.proofs.Common.{◌≡◌, ◌∙◌, ap, inl, inr, List, ℕ, Option, Some, None, Result, Ok, Err, IfOk, refl}
use Rattle.rdata.specs.declared.rtype.RType.{RType}
use Rattle.message_grammar.specs.Messages.{Question}
use Rattle.front.specs.Openings.{Opening, opening_of}
use Rattle.front.specs.Queries.{Heard, nothing_heard, other_heard, one_heard, IsRequest, answerable_type, by_type, by_heard}
use Rattle.front.specs.declared.queries.Request.{Request}
use Rattle.events.specs.Plain.{plain_asked}

typed : (A : Type 0) (s : Opening) (q : Question) (letters : List (List ℕ)) (kind : Option RType) → plain_asked (by_type {A = A} s q letters kind) ≡ by_type s q letters kind
typed A s q letters None = refl
typed A s q letters (Some kind) = refl

meant : (A : Type 0) (s : Opening) (heard : Heard) → plain_asked (by_heard {A = A} s heard) ≡ by_heard s heard
meant A s nothing_heard = refl
meant A s (other_heard m) = refl
meant A s (one_heard m q letters) = typed A s q letters (answerable_type s q)

pub asked_plainly : {A : Type 0} (bytes : List ℕ) (asked : Request A) → IsRequest bytes asked → IsRequest bytes (plain_asked asked)
asked_plainly bytes asked (inl dropped) = inl (dropped.0, ap plain_asked dropped.1)
asked_plainly {A = A} bytes asked (inr read) = inr (record {
  whole = read.whole;
  query = read.query;
  heard = read.heard;
  hears = read.hears;
  is = ap plain_asked read.is ∙ meant A (opening_of bytes) read.heard;
})

pub read_plainly : {A E : Type 0} (bytes : List ℕ) (r : Result (Request A) E) → IfOk r (λ a. IsRequest bytes a) → IfOk r (λ a. IsRequest bytes (plain_asked a))
read_plainly bytes (Ok asked) is = asked_plainly bytes asked is
read_plainly bytes (Err e) is = tt
