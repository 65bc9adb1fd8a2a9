-- The header and the questions, then the sections.
use Rattle.std.proofs.Common.{◌≡◌, ◌∙◌, ap, ℕ, List, ◌++◌, append_assoc, refl, flat_map, codes}
use Rattle.std.proofs.lemmas.Grind.{put_two}
use Rattle.std.proofs.Output.{has_written_of_eq}
use Rattle.rdata.specs.Records.{Record}
use Rattle.wire.specs.Shown.{header_text, question_line, record_line, message_text}
use Rattle.wire.proofs.shown.MessageDisplay.fmt.Goals as goal

joined : (a b c d e : List ℕ) → (a ++ b) ++ (c ++ (d ++ e)) ≡ a ++ b ++ c ++ d ++ e
joined a b c d e = simp append_assoc

-- The sections that are lent are those of the message.
lent : {x y z a b c : List Record} → x ≡ a → y ≡ b → z ≡ c
    → flat_map (record_line (codes "an")) x ++ (flat_map (record_line (codes "ns")) y ++ flat_map (record_line (codes "ar")) z)
    ≡ flat_map (record_line (codes "an")) a ++ (flat_map (record_line (codes "ns")) b ++ flat_map (record_line (codes "ar")) c)
lent d e f = λ i. flat_map (record_line (codes "an")) (d i) ++ (flat_map (record_line (codes "ns")) (e i) ++ flat_map (record_line (codes "ar")) (f i))

pub returns-clause-writes : goal.returns-clause-writes
returns-clause-writes g c = λ plain ok.
    let m = c.self.inside in
    let head = header_text m.header ++ flat_map question_line m.questions in
    let sections = flat_map (record_line (codes "an")) m.answer ++ (flat_map (record_line (codes "ns")) m.authority ++ flat_map (record_line (codes "ar")) m.additional) in
    let first = c.in_ok-write.ensures.writes plain refl in
    let second = has_written_of_eq _ _ _ _ _ (lent c.as_slice.ensures c.as_slice-2.ensures c.as_slice-3.ensures) (c.write-2.ensures.writes first.plain ok) in
    put_two _ _ _ _ head sections (message_text c.args.self.now) first second
    (joined (header_text m.header) (flat_map question_line m.questions) (flat_map (record_line (codes "an")) m.answer) (flat_map (record_line (codes "ns")) m.authority)
    (flat_map (record_line (codes "ar")) m.additional)
    ∙ ap message_text c.self.view_is)
