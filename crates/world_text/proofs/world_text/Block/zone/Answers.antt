use Rattle.std.proofs.Common.{◌≡◌, Ok, subst, sym}
use Rattle.world_text.specs.declared.world_fault.WorldFault.{WorldFault}
use Rattle.world_text.specs.WorldFaults.{file_fault, zone_fault}
use Rattle.world_text.specs.WorldTexts.{Block, zone_of, IsFaultOf}
use Rattle.world_text.proofs.Building.{zone_is, zone_refused, file_refused, refused_by}
use Rattle.world_text.proofs.world_text.Block.zone.Goals as goal

pub returns-in_err-records : goal.returns-in_err-records
returns-in_err-records g c =
    let e = c.in_err-records.field-0.0 in
    let b : Block = record { origin = c.self.inside.origin; is_local = c.self.inside.is_local; line = c.self.inside.line; text = c.self.inside.text.now } in
    refused_by c.from_residual.result (file_fault e e.kind) _ _ c.from_residual.ensures.1
    (subst (λ (x : Block). IsFaultOf (file_fault e e.kind) (zone_of x)) c.self.view_is (file_refused b e c.in_err-records.ensures))

pub returns-in-Ok : goal.returns-in-Ok
returns-in-Ok g c =
    let b : Block = record { origin = c.self.inside.origin; is_local = c.self.inside.is_local; line = c.self.inside.line; text = c.self.inside.text.now } in
    subst (λ (x : Block). zone_of x ≡ Ok c.in-Ok.zone) c.self.view_is
    (zone_is b c.in_ok-records.records c.in_ok-clone.field-0 c.in-Ok.zone c.in_ok-records.ensures c.in_ok-clone.ensures.cases c.in-Ok.ensures)

pub returns-in-Err : goal.returns-in-Err
returns-in-Err g c =
    let b : Block = record { origin = c.self.inside.origin; is_local = c.self.inside.is_local; line = c.self.inside.line; text = c.self.inside.text.now } in
    subst (λ (f : WorldFault). IsFaultOf f (zone_of c.args.self.now)) (sym c.of_zone.ensures)
    (subst (λ (x : Block). IsFaultOf (zone_fault b.line c.in-Err.error) (zone_of x)) c.self.view_is
    (zone_refused b c.in_ok-records.records c.in_ok-clone.field-0 c.in-Err.error c.in_ok-records.ensures c.in_ok-clone.ensures.cases c.in-Err.ensures))
