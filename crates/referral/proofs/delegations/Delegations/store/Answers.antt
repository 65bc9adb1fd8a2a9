use Rattle.std.proofs.lemmas.Result.{on_ok_weaker}
use Rattle.referral.proofs.Shown.{stored_shows}
use Rattle.referral.proofs.delegations.Delegations.store.Goals as goal

pub returns-clause-ok : goal.returns-clause-ok
returns-clause-ok g c =
    on_ok_weaker c.keep_for.result
    (λ is. stored_shows c.args.self.now c.self.inside.entries c.self.view_is c.args.at c.args.servers c.ttl-ttl.result c.keep_for.new.entries is c.ttl-ttl.ensures) c.keep_for.ensures.ok
