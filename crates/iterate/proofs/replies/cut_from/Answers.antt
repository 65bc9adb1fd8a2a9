use Rattle.lookup.proofs.Lists.{made_is_cut}
use Rattle.iterate.proofs.replies.cut_from.Goals as goal

pub returns : goal.returns
returns g c =
    made_is_cut c.args.referral.owner c.args.referral.servers c.args.referral.addresses c.in_ok-into_cut.field-0 c.in_ok-into_cut.ensures
