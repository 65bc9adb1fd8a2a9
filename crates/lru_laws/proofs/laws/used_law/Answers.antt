use Rattle.lru_laws.proofs.Kept.{promoted_is_used, used_members, used_found}
use Rattle.lru_laws.proofs.laws.used_law.Goals as goal

pub returns : goal.returns
returns g c = record {
  promoted = λ same k es x. promoted_is_used same x k es;
  members = λ same k es x. used_members same x k es;
  found = λ same k j es x. used_found same x k j es;
}
