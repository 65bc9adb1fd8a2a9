use Rattle.std.specs.NonZero.{non_zero_usize_get}
use Rattle.referral.proofs.Shown.{resized}
use Rattle.referral.proofs.delegations.Delegations.new.Goals as goal

pub returns : goal.returns
returns g c = resized c.in_ok-entries.entries c.resize.new.self 18446744073709551615 (non_zero_usize_get c.args.cap) c.in_ok-entries.ensures c.resize.ensures
