use Rattle.lookup.proofs.Kept.{begun_under}
use Rattle.lookup.proofs.lookup.found_under.Goals as goal

pub returns-in_ok-start_under-in-Best : goal.returns-in_ok-start_under-in-Best
returns-in_ok-start_under-in-Best g c =
    λ home n. begun_under home n c.args.at c.args.servers c.args.glue c.as_slice.result.now c.as_slice-in-Best.result.now c.in-Best.best c.args.kept c.in_ok-start_under-in-Best.field-0
    c.in-Best.is c.as_slice.ensures c.as_slice-in-Best.ensures (c.in_ok-start_under-in-Best.ensures home n)
