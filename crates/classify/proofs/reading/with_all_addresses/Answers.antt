use Rattle.std.proofs.Common.{◌<◌, length, arith}
use Rattle.classify.proofs.Uncut.{all_of_few}
use Rattle.classify.proofs.reading.with_all_addresses.Goals as goal

pub returns-then-len-lt-MAX_GLUE : goal.returns-then-len-lt-MAX_GLUE
returns-then-len-lt-MAX_GLUE g c =
    let few : length c.args.referral.addresses < 256 = omega (arith, c.len.ensures, c.if-len-lt-MAX_GLUE.true) in
    all_of_few c.args.zone.now c.args.referral.owner c.args.message.now c.args.referral.servers c.args.referral.addresses c.args.referral.ttl c.requires few
