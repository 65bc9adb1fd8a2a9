-- The refusals of an encoder, and a reply's message as the parts that it is written from.
use Rattle.std.specs.Prelude.{ℕ, ◌<◌, Option, Some, None, List, [], ◌∷◌, ◌++◌, length}
use Rattle.rdata.specs.Records.{Record}
use Rattle.message_grammar.specs.Messages.{Header, Question, Message, Counts}
use Rattle.wire.specs.declared.error.WireError.{WireError}
use Rattle.wire.specs.declared.error.WireError.TheVariants.{OverLimit, Memory}
use Rattle.wire.specs.declared.writer.Tally.{Tally}

-- When an encoder may refuse so: where the text is longer than the limit; out of memory at any time.
abbrev pub RefusesText : WireError → List ℕ → ℕ → Type 0
RefusesText OverLimit text limit = limit < length text
RefusesText Memory text limit = Unit {0}
RefusesText _ text limit = ⊥

abbrev pub counts_by : Tally → Counts
counts_by t = record { questions = t.questions; answer = t.answer; authority = t.authority; additional = t.additional }

abbrev pub asked_alone : Option Question → List Question
asked_alone None = []
asked_alone (Some q) = q ∷ []

-- The message of a header, of questions and perhaps one in its own letters, of an answer in two parts, and of two
-- sections.
abbrev pub drafted : Header → List Question → Option Question → List Record → List Record → List Record → List Record → Message
drafted header questions echo first second authority additional = record {
  header = header;
  questions = questions ++ asked_alone echo;
  answer = first ++ second;
  authority = authority;
  additional = additional;
}
