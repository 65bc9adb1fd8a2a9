use Rattle.std.proofs.Common.{◌≡◌, None, List, ap, sym, ◌∙◌}
use Rattle.std.specs.Prelude.{find}
use Rattle.rdata.specs.Records.{Record}
use Rattle.zone.specs.Zones.{soa_type}
use Rattle.zone.specs.Look.{is_type, denial_by}
use Rattle.zone.specs.Kept.{zone_with}
use Rattle.zone.proofs.Above.{lacks_all, fault_soa}
use Rattle.zone.proofs.zone.Zone.build.Goals as goal

pub returns-in_default : goal.returns-in_default
returns-in_default g c =
    let given : denial_by (find (is_type soa_type) c.as_slice.result.now) ≡ None = sym c.in_ok-denial.ensures ∙ c.in_default.is in
    let same : c.as_slice.result.now ≡ c.args.records = c.as_slice.ensures in
    fault_soa (zone_with c.args.origin c.args.records) (lacks_all c.args.origin c.args.records
    (ap (λ (rs : List Record). denial_by (find (is_type soa_type) rs)) (sym same) ∙ given))
