use Rattle.lru_laws.proofs.Kept.{put_is_kept, kept_there, kept_only, kept_gone, kept_found, kept_others}
use Rattle.lru_laws.proofs.laws.kept_law.Goals as goal

pub returns : goal.returns
returns g c = record {
  put = λ same cap k v es x. put_is_kept same x k cap v es;
  there = λ same cap k v es. kept_there same k cap v es;
  only = λ same cap k v es. kept_only same k cap v es;
  gone = λ same cap k v es x. kept_gone same x k cap v es;
  found = λ same cap k v es x. kept_found same x k cap v es;
  others = λ same cap k v es j x. kept_others same x k cap v es j;
}
