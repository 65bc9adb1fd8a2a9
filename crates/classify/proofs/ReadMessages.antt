-- What is read of bytes.
use Rattle.std.proofs.Common.{ℕ, Option, Some, None, MatchOption, List, subst}
use Rattle.message_grammar.specs.Messages.{Message, IsMessage}
use Rattle.message_grammar.specs.Laws.{AreUnderRoot}
use Rattle.message_grammar.proofs.Single.{message_one}
use Rattle.message_grammar.proofs.Roots.{names_end_in_root}
use Rattle.wire.specs.declared.via.Via.{Via}
use Rattle.classify.specs.Read.{IsReadingOf, IsNoReply, AreRead}
use Rattle.classify.specs.Views.{reading_view, read_view}
use Rattle.classify.specs.declared.reading.Reading.{Reading}

pub message_read : {A : Type 0} (via : Via) (bytes : List ℕ) (m : Message) (o : Option (Reading A)) → IsMessage bytes m
    → (AreUnderRoot m → MatchOption o (IsNoReply m) (λ r. IsReadingOf via m (reading_view r))) → AreRead via bytes (read_view o)
message_read via bytes m None is h = λ n there. subst IsNoReply (message_one bytes m n is there) (h (names_end_in_root bytes m is))
message_read via bytes m (Some r) is h = record { message = m; is = is; reads = h (names_end_in_root bytes m is) }
