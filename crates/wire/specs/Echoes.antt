-- Equality of questions in their own letters, with its laws.
use Rattle.std.specs.Prelude.{Bool, ◌&&◌, nat_eq}
use Rattle.std.specs.Cmp.{IsPartialEquivalence, IsEquivalence, on_equiv, and_equiv, nat_eq_equiv, partial_equiv_from_equiv}
use Rattle.dname.specs.Labels.{same_name}
use Rattle.dname.specs.Laws.{same_name_equiv}
use Rattle.message_grammar.specs.Messages.{Question}

abbrev pub same_question : Question → Question → Bool
same_question q r = nat_eq q.qtype r.qtype && nat_eq q.qclass r.qclass && same_name q.name r.name

pub same_question_equiv : IsEquivalence same_question
same_question_equiv =
    and_equiv (and_equiv (on_equiv (λ (q : Question). q.qtype) nat_eq_equiv) (on_equiv (λ (q : Question). q.qclass) nat_eq_equiv))
    (on_equiv (λ (q : Question). q.name) same_name_equiv)

pub same_question_per : IsPartialEquivalence same_question
same_question_per = partial_equiv_from_equiv same_question_equiv
