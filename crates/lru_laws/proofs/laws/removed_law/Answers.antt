use Rattle.lru.proofs.CallerLemmas.{Contains-remove_entry}
use Rattle.lru_laws.proofs.Kept.{removed_gone, removed_others_of}
use Rattle.lru_laws.proofs.laws.removed_law.Goals as goal

pub returns : goal.returns
returns g c = record {
  only = λ test es e. Contains-remove_entry test es e;
  gone = λ same k es x. removed_gone same x k es;
  others = λ same k j es x. removed_others_of same x k j es;
}
