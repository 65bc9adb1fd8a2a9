-- Its line is that of the ask that the network shows under its number.
use Rattle.std.proofs.Common.{ap, string_bytes}
use Rattle.std.proofs.lemmas.Result.{on_ok_weaker}
use Rattle.events.specs.Paths.{endpoint_view, path_view}
use Rattle.score.specs.Sends.{Passage}
use Rattle.play.specs.Seen.{seen}
use Rattle.play.proofs.Acting.{goes_out}
use Rattle.play.proofs.show.Show.went_out.Goals as goal

pub returns-in-Some-clause-is : goal.returns-in-Some-clause-is
returns-in-Some-clause-is g c =
    let x = c.sent-in-Some.inside in
    on_ok_weaker c.put_action.result
    (λ puts. goes_out (seen c.args.self.now) c.args.number c.args.way (c.push.new.self).marks (string_bytes c.put_action.new.out) c.in-Some.sent.now
    (path_view x.path) (endpoint_view x.to) x.bytes c.as_slice.result.now (ap (λ (p : Passage). p.marks) c.in_ok-push.ensures) c.sent-in-Some.view_is
    c.as_slice.ensures.is c.in-Some.ensures puts)
    c.put_action.ensures.ok
