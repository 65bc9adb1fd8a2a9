use Rattle.classify.proofs.Uses.{used, followed}
use Rattle.classify.proofs.laws.use_law.Goals as goal

pub returns : goal.returns
returns c = record { used = λ f q t via m. used f q t m via; followed = λ f q t via m. followed f q t m via }
