use Rattle.masterfile.proofs.FieldLemmas.{no_dot, first_dot}
use Rattle.masterfile.proofs.addresses.first_field.Goals as goal

pub returns-in-Some-clause-value : goal.returns-in-Some-clause-value
returns-in-Some-clause-value c = first_dot c.args.word.now c.in-Some.size c.in-Some.ensures

pub returns-in-None-clause-value : goal.returns-in-None-clause-value
returns-in-None-clause-value c = no_dot c.args.word.now c.in-None.ensures
