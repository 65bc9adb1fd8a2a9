use Rattle.std.proofs.Common.{◌∷◌, ◌∙◌, List, ℕ, subst, ap}
use Rattle.std.specs.Fmt.{HasWritten, styled_decimal}
use Rattle.dname.proofs.Numbers.{padded_byte}
use Rattle.dname.proofs.text.write_number.Goals as goal

pub returns : goal.returns
returns g c = λ plain ok.
    let digits = ap (λ options. styled_decimal options c.args.byte) c.laid_out.ensures ∙ padded_byte c.args.byte c.ranges.byte.fits in
    subst (λ (text : List ℕ). HasWritten g.W.Write.write_str_gives c.args.f.now (92 ∷ text) c.write.new.self) digits (c.write.ensures.writes plain ok)
