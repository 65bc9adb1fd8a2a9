use Rattle.runs.proofs.Heard.{accepted_is_heard, tcp_is_heard}
use Rattle.runs.proofs.laws.heard_law.Goals as goal

pub returns : goal.returns
returns c = record { accepted = accepted_is_heard; tcp = tcp_is_heard }
