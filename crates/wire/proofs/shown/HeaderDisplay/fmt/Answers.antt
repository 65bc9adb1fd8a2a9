-- The numbers, then the flags.
use Rattle.std.proofs.Common.{◌≡◌, ◌∙◌, ap, ℕ, List, ◌++◌, append_assoc, refl, codes, decimal}
use Rattle.std.proofs.lemmas.Grind.{put_two}
use Rattle.message_grammar.specs.Messages.{Header}
use Rattle.wire.specs.Shown.{flag_text, header_text}
use Rattle.wire.proofs.shown.HeaderDisplay.fmt.Goals as goal

abbrev numbers : Header → List ℕ
numbers h = codes "id " ++ (decimal h.id ++ (codes " opcode " ++ (decimal h.opcode ++ (codes " rcode " ++ decimal h.rcode))))

abbrev flags : Header → List ℕ
flags h = flag_text h.qr (codes "qr") ++ (flag_text h.aa (codes "aa") ++ (flag_text h.tc (codes "tc") ++ (flag_text h.rd (codes "rd") ++ flag_text h.ra (codes "ra"))))

joined : (a b c d e f g h i j k : List ℕ) → (a ++ (b ++ (c ++ (d ++ (e ++ f))))) ++ (g ++ (h ++ (i ++ (j ++ k)))) ≡ a ++ b ++ c ++ d ++ e ++ f ++ g ++ h ++ i ++ j ++ k
joined a b c d e f g h i j k = simp append_assoc

both : (h : Header) → numbers h ++ flags h ≡ header_text h
unfolding header_text
both h =
    joined (codes "id ") (decimal h.id) (codes " opcode ") (decimal h.opcode) (codes " rcode ") (decimal h.rcode) (flag_text h.qr (codes "qr")) (flag_text h.aa (codes "aa")) (flag_text h.tc (codes "tc"))
    (flag_text h.rd (codes "rd")) (flag_text h.ra (codes "ra"))

pub returns-clause-writes : goal.returns-clause-writes
returns-clause-writes g c = λ plain ok.
    let s = c.self.inside in
    let h : Header = record { id = s.id; qr = s.qr; opcode = s.opcode; aa = s.aa; tc = s.tc; rd = s.rd; ra = s.ra; z = s.z; rcode = s.rcode } in
    let first = c.in_ok-write.ensures.writes plain refl in
    put_two _ _ _ _ (numbers h) (flags h) (header_text c.args.self.now) first (c.write-2.ensures.writes first.plain ok) (both h ∙ ap header_text c.self.view_is)
