use Rattle.classify.proofs.Readings.{referral_read}
use Rattle.classify.proofs.Uses.{referral_over, referral_ttl}
use Rattle.classify.proofs.laws.referral_law.Goals as goal

pub returns : goal.returns
returns c = record { read = λ f q t via m. referral_read f q t m via; over = λ f q t via m. referral_over f q t m via; lowest = λ f q t via m. referral_ttl f q t m via }
