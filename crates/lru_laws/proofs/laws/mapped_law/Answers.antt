use Rattle.lru_laws.proofs.Mapped.{valid_mapped, looked_mapped, kept_mapped, used_mapped, removed_mapped}
use Rattle.lru_laws.proofs.laws.mapped_law.Goals as goal

pub returns : goal.returns
returns g c = record {
  valid = λ f same cap es h. valid_mapped f same cap es h;
  found = λ f same k es x. looked_mapped f same x k es;
  kept = λ f same cap k v es x. kept_mapped f same x k cap v es;
  used = λ f same k es x. used_mapped f same x k es;
  removed = λ f test es. removed_mapped f test es;
}
