use Rattle.std.proofs.Common.{length, ap, subst, arith}
use Rattle.std.specs.List.{AllByRecursion}
use Rattle.dname.specs.Spelling.{AreBytes}
use Rattle.rdata.specs.Strings.{IsShort}
use Rattle.masterfile.proofs.KeptRecords.{strings_sound}
use Rattle.masterfile.proofs.sound.texts_are_sound.Goals as goal

pub returns-clause-some : goal.returns-clause-some
returns-clause-some g c = omega (arith, ap length c.wire.ensures.strings, c.wire.ensures.form.some)

pub returns-clause-strings : goal.returns-clause-strings
returns-clause-strings g c =
    strings_sound c.args.texts.now (subst AreBytes c.wire.ensures.is c.bytes_law.ensures) (subst (AllByRecursion IsShort) c.wire.ensures.strings c.wire.ensures.form.strings.short)
