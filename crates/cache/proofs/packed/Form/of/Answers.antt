use Rattle.std.proofs.Common.{rules, ◌≡◌, ◌∙◌, sym, ap, true}
use Rattle.dname.specs.Labels.{same_name}
use Rattle.rdata.specs.Kept.{datum}
use Rattle.zone.specs.Links.{Alias}
use Rattle.zone.specs.Views.{link_view}
use Rattle.cache.proofs.Unpacked.{alias_is}
use Rattle.cache.proofs.packed.Form.of.Goals as goal

pub returns-then-eq-clause-said : goal.returns-then-eq-clause-said
returns-then-eq-clause-said g c =
    let own : same_name c.alias.inside.owner c.args.name.now ≡ true = search rules in
    ap Alias (alias_is c.args.name.now (record { owner = c.alias.inside.owner; ttl = c.alias.inside.ttl; value = datum c.alias.inside.value }) (datum c.in_ok-clone-in-Alias.field-0) own c.in_ok-clone-in-Alias.ensures.cases ∙ c.alias.view_is)
    ∙ sym (ap link_view c.in-Alias.is)
