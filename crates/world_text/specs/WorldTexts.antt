-- The zones that the blocks of a world text stand for.
use Rattle.std.specs.Prelude.{◌≡◌, ◌⊎◌, ℕ, ◌+◌, Bool, cond, Option, Some, None, Result, Ok, Err, List, [], ◌∷◌, ◌++◌}
use Rattle.dname.specs.Labels.{Name}
use Rattle.rdata.specs.Records.{Record}
use Rattle.zone.specs.declared.fault.ZoneError.{ZoneError}
use Rattle.zone.specs.Zones.{Zone as ZoneSpec}
use Rattle.zone.specs.Kept.{zone_with}
use Rattle.zone.specs.Faults.{fault_of}
use Rattle.masterfile.specs.declared.faults.FileError.{FileError}
use Rattle.masterfile.specs.Files.{read_lines}
use Rattle.world_text.specs.declared.world_fault.WorldFault.{WorldFault}
use Rattle.world_text.specs.declared.world_fault.WorldFault.TheVariants.{File, Zone, Memory}

-- A block: the zone's origin, whether it is local, the line that opens it, and the text up to its end.
pub record Block : Type 0 where
  pub origin : Name
  pub is_local : Bool
  pub line : ℕ
  pub text : List ℕ

abbrev pub keeping_rules : ℕ → ZoneSpec → Option ZoneError → Result ZoneSpec WorldFault
keeping_rules line z None = Ok z
keeping_rules line z (Some e) = Err (Zone line e)

abbrev pub zone_read : Block → Result (List Record) FileError → Result ZoneSpec WorldFault
zone_read b (Err e) = Err (File e)
zone_read b (Ok records) = keeping_rules b.line (zone_with b.origin records) (fault_of (zone_with b.origin records))

-- The text of the block is a master file that begins on the line behind, and its records keep the rules of a zone.
abbrev pub zone_of : Block → Result ZoneSpec WorldFault
zone_of b = zone_read b (read_lines b.origin (b.line + 1) b.text)

-- The first fault counts.
infixl 10 ◌>>>◌
abbrev pub ◌>>>◌ : {X Y : Type 0} → Result X WorldFault → (X → Result Y WorldFault) → Result Y WorldFault
Ok x >>> f = f x
Err e >>> f = Err e

abbrev pub zones_from : List ZoneSpec → List Block → Result (List ZoneSpec) WorldFault
zones_from zs [] = Ok zs
zones_from zs (b ∷ bs) = zone_of b >>> λ z. zones_from (zs ++ z ∷ []) bs

-- The zones of the blocks, one by one.
abbrev pub zones_of : List Block → Result (List ZoneSpec) WorldFault
zones_of bs = zones_from [] bs

-- The origins of the local blocks.
abbrev pub locals_of : List Block → List Name
locals_of [] = []
locals_of (b ∷ bs) = cond b.is_local (b.origin ∷ locals_of bs) (locals_of bs)

-- What is said of a refusal: it is the fault that stands there, or memory was wanting.
abbrev pub IsFaultOf : {X : Type 0} → WorldFault → Result X WorldFault → Type 0
IsFaultOf e r = (e ≡ Memory) ⊎ (r ≡ Err e)
