use Rattle.referral.proofs.Making.{names_are_targets, targets_are_names, addresses_are_glue, glue_is_addresses}
use Rattle.referral.proofs.laws.made_law.Goals as goal

pub returns : goal.returns
returns c = record { names = names_are_targets; targets = targets_are_names; addresses = addresses_are_glue; glue = glue_is_addresses }
