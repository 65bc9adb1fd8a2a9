use Rattle.std.proofs.Common.{sym, ◌∙◌}
use Rattle.masterfile.proofs.HeadLemmas.{ttl_then, class_then, number_within}
use Rattle.masterfile.proofs.entries.read_head.Goals as goal

pub words-preserved-then-is_number : goal.words-preserved-then-is_number
words-preserved-then-is_number c =
    let p = c.in_ok-word.ensures {u = tt} in
    let n = sym (c.in_ok-number.ensures {u = tt}) in
    record {
      read = ttl_then c.words.word.now c.words.words.words c.words.ttl c.words.classed c.in_ok-number.field-0 c.in_ok-word.word.now c.plain.new.words.words
          (sym (c.if-is_number.ensures {u = tt})) (sym (c.if-is_some.ensures {u = tt})) n p.value ∙ c.words.invariant.read;
      ttl = number_within _ c.words.word.now c.in_ok-number.field-0 n;
      later = p.later ∙ c.words.invariant.later;
    }

pub words-preserved : goal.words-preserved
words-preserved c =
    let p = c.in_ok-word-2.ensures {u = tt} in
    record {
      read = class_then c.words.word.now c.words.words.words c.words.ttl c.words.classed c.in_ok-word-2.word.now c.plain-then-is_internet.new.words.words
          (sym (c.if-is_number.ensures {u = tt})) (sym (c.if-is_internet.ensures {u = tt})) c.if-classed.false p.value ∙ c.words.invariant.read;
      ttl = c.words.invariant.ttl;
      later = p.later ∙ c.words.invariant.later;
    }
