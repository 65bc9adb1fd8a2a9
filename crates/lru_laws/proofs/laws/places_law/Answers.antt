use Rattle.std.proofs.Common.{◌≡◌, ℕ, suc, ◌+◌, subst, arith}
use Rattle.lru_laws.specs.Orders.{kept, used, IsWithin}
use Rattle.lru_laws.proofs.Places.{within_put, within_kept, within_used, within_removed, within_further, within_found}
use Rattle.lru_laws.proofs.laws.places_law.Goals as goal

next : (n : ℕ) → suc n ≡ n + 1
next n = omega arith

pub returns : goal.returns
returns g c = record {
  put = λ same cap k v es x. within_put same x cap k v es;
  kept = λ same cap n k j v w es x apart few h. subst (λ m. IsWithin same m k v (kept same cap j w es)) (next n) (within_kept same x cap n k j v w es apart few h);
  used = λ same n k j v es x h. subst (λ m. IsWithin same m k v (used same j es)) (next n) (within_used same x n k j v es h);
  removed = λ same n k j v es x apart h. within_removed same x n k j v es apart h;
  further = λ same n m k v es le h. within_further same n m k v es le h;
  found = λ same n k v es h. within_found same n k v es h;
}
