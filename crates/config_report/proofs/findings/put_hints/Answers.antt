-- Two lines, one behind the other.
use Rattle.config_report.proofs.Appends.{two}
use Rattle.config_report.proofs.findings.put_hints.Goals as goal

pub returns : goal.returns
returns g c = two c.put_if-2.result _ _ _ _ _ c.in_ok-put_if.ensures c.put_if-2.ensures
