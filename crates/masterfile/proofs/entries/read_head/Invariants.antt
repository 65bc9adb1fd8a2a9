use Rattle.std.proofs.Common.{◌≡◌, ◌∷◌, None, false, length}
use Rattle.master_lexer.specs.Lexemes.{plain}
use Rattle.masterfile.specs.Entries.{take_head, IsTtl}
use Rattle.masterfile.proofs.entries.read_head.Given as goal

abbrev pub invariant-words : goal.invariant-words
invariant-words l = record {
  read : take_head l.ttl l.classed (plain l.word ∷ l.words.words) ≡ take_head None false (plain l.fn.first ∷ l.fn.words.words);
  ttl : IsTtl l.ttl;
  later : l.words.later ≡ l.fn.words.later;
}

abbrev pub decreases-words : goal.decreases-words
decreases-words l = length l.words.words
