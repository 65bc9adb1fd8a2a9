use Rattle.world_truth.proofs.Grown.{hints_start, cut_starts, kept_starts, kept_below_starts, referral_starts, address_adds, frame_asks}
use Rattle.world_truth.proofs.laws.frame_law.Goals as goal

pub returns : goal.returns
returns c = record {
  hints = hints_start;
  cut = cut_starts;
  kept = kept_starts;
  kept_below = kept_below_starts;
  referral = referral_starts;
  address = address_adds;
  asks = frame_asks;
}
