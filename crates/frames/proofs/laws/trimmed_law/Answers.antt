use Rattle.std.proofs.Common.{refl}
use Rattle.frames.proofs.Steps.{few_taken}
use Rattle.frames.proofs.Trims.{trimmed_opens, few_trimmed, trimmed_names, trimmed_addresses}
use Rattle.frames.proofs.laws.trimmed_law.Goals as goal

pub returns : goal.returns
returns c = record {
  same = λ level nesting cut. trimmed_opens cut level nesting;
  few_names = λ cut. few_taken cut.names;
  few_addresses = λ cut. few_trimmed cut;
  names = λ cut n. trimmed_names cut n;
  addresses = λ cut s. trimmed_addresses cut s;
  owner = λ cut. refl;
}
