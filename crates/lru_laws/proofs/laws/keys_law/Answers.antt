use Rattle.lru_laws.proofs.Keys.{kept_valid, used_valid, removed_valid, member_found, removed_missed}
use Rattle.lru_laws.proofs.laws.keys_law.Goals as goal

pub returns : goal.returns
returns g c = record {
  kept = λ same cap k v es x h. kept_valid same x cap k v es h;
  used = λ same cap k es x h. used_valid same x cap k es h;
  removed = λ same cap k es x h. removed_valid same x cap k es h;
  found = λ same k v es x d m. member_found same x k v es d m;
  missed = λ same k es x d. removed_missed same x k es d;
}
