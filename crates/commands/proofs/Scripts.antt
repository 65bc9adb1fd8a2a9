-- Which fault of a command a text of lines is refused for, and which a world's.
use Rattle.std.proofs.Common.{◌≡◌, ◌⊎◌, refl, sym, subst, ⊎_elim, ℕ, List, Result, Err}
use Rattle.std.specs.Prelude.{Option, Some}
use Rattle.std.specs.Borrow.{Bor}
use Rattle.masterfile.specs.declared.faults.FileKind.{FileKind}
use Rattle.masterfile.specs.declared.faults.FileKind.TheVariants as file
use Rattle.masterfile.specs.declared.faults.FileError.{FileError}
use Rattle.zone.specs.declared.fault.ZoneError.{ZoneError}
use Rattle.zone.specs.declared.fault.ZoneError.TheVariants as zone
use Rattle.text_lines.specs.declared.fault.LineKind.{LineKind}
use Rattle.text_lines.specs.declared.fault.LineKind.TheVariants as line
use Rattle.text_lines.specs.declared.fault.LineError.{LineError}
use Rattle.text_lines.specs.Texts.{IsTextFault}
use Rattle.worlds.specs.declared.fault.WorldError.{WorldError}
use Rattle.worlds.specs.declared.fault.WorldError.TheVariants as rule
use Rattle.world_text.specs.declared.world_fault.WorldFault.{WorldFault}
use Rattle.world_text.specs.declared.world_fault.WorldFault.TheVariants as of
use Rattle.world_text.specs.Worlds.{IsNoWorld}
use Rattle.commands.specs.Texts.{MayHold}
use Rattle.commands.specs.declared.fault.Fault.{Fault}
use Rattle.commands.specs.declared.fault.Fault.TheVariants.{Unreadable, Memory}
use Rattle.commands.specs.Faults.{kind_fault, line_fault, line_kind_fault, block_fault, rule_fault, world_fault}
use Rattle.commands.specs.Scripts.{HoldsNo, IsRefusedFor, HoldsNoWorld}

module _ (held : List ℕ → Option (Option (List ℕ))) (path : Bor (List ℕ)) where
  no_line : (e : LineError) (k : LineKind) → IsRefusedFor (held path.now) (of.Line e) → HoldsNoWorld held path.now (line_kind_fault path e k)
  no_line e line.UnknownWord why = (refl, why)
  no_line e line.BadNumber why = (refl, why)
  no_line e line.BadName why = (refl, why)
  no_line e line.BadType why = (refl, why)
  no_line e line.WordCount why = (refl, why)
  no_line e line.BadHex why = (refl, why)
  no_line e line.OpenBlock why = (refl, why)
  no_line e line.BadAddress why = (refl, why)
  no_line e line.Memory why = tt

  no_file : (e : FileError) (k : FileKind) → IsRefusedFor (held path.now) (of.File e) → HoldsNoWorld held path.now (kind_fault path e k)
  no_file e file.UnknownType why = (refl, why)
  no_file e file.BadName why = (refl, why)
  no_file e file.BadNumber why = (refl, why)
  no_file e file.NoTtl why = (refl, why)
  no_file e file.NoOwner why = (refl, why)
  no_file e file.OpenText why = (refl, why)
  no_file e file.UnknownDirective why = (refl, why)
  no_file e file.BadClass why = (refl, why)
  no_file e file.BadData why = (refl, why)
  no_file e file.Memory why = tt

  no_block : (at_line : ℕ) (e : ZoneError) → IsRefusedFor (held path.now) (of.Zone at_line e) → HoldsNoWorld held path.now (block_fault path at_line e)
  no_block at_line zone.Soa why = (refl, why)
  no_block at_line zone.NoServers why = (refl, why)
  no_block at_line zone.ForeignOwner why = (refl, why)
  no_block at_line zone.CnameClash why = (refl, why)
  no_block at_line zone.MixedTtls why = (refl, why)
  no_block at_line zone.DataAtCut why = (refl, why)
  no_block at_line zone.InnerStar why = (refl, why)
  no_block at_line zone.WildcardAuthority why = (refl, why)
  no_block at_line zone.WildcardBeneathCut why = (refl, why)
  no_block at_line zone.Memory why = tt

  no_rule : (e : WorldError) → IsRefusedFor (held path.now) (of.World e) → HoldsNoWorld held path.now (rule_fault path e)
  no_rule rule.NoRoot why = (refl, why)
  no_rule rule.LooseCut why = (refl, why)
  no_rule rule.Undelegated why = (refl, why)
  no_rule rule.Lame why = (refl, why)
  no_rule rule.NoStart why = (refl, why)
  no_rule rule.Twins why = (refl, why)
  no_rule rule.Memory why = tt

  named : (e : WorldFault) → IsRefusedFor (held path.now) e → HoldsNoWorld held path.now (world_fault path e)
  named (of.Line e) why = no_line e e.kind why
  named (of.File e) why = no_file e e.kind why
  named (of.Zone at_line e) why = no_block at_line e why
  named (of.World e) why = no_rule e why
  named of.Memory why = tt

  pub no_world : (text : List ℕ) (e : WorldFault) → MayHold (held path.now) (Some text) → IsNoWorld text e → HoldsNoWorld held path.now (world_fault path e)
  no_world text e there fails = named e (record { text = text; held = there; fails = fails })

-- ---- a text that is not there

-- Where a text is not read, what holds of an unreadable path and of want of memory holds.
pub unread : {N : Type 0} (P : Fault → Type 0) (path : Bor (List ℕ)) (f : Fault) → ((f ≡ Unreadable path) × N) ⊎ (f ≡ Memory) → (N → P (Unreadable path)) → P Memory → P f
unread {N} P path f why none memory =
    ⊎_elim (λ (h : (f ≡ Unreadable path) × N). subst P (sym h.0) (none h.1)) (λ (is : f ≡ Memory). subst P (sym is) memory) why

-- ---- a text of lines

module _ {T : Type 0} (read : List ℕ → Result T LineError) (held : List ℕ → Option (Option (List ℕ))) (path : Bor (List ℕ)) (text : List ℕ) (there : MayHold (held path.now) (Some text)) where
  first_line : (e : LineError) (k : LineKind) → read text ≡ Err e → HoldsNo read held path.now (line_kind_fault path e k)
  first_line e line.UnknownWord why = (refl, (text, there, why))
  first_line e line.BadNumber why = (refl, (text, there, why))
  first_line e line.BadName why = (refl, (text, there, why))
  first_line e line.BadType why = (refl, (text, there, why))
  first_line e line.WordCount why = (refl, (text, there, why))
  first_line e line.BadHex why = (refl, (text, there, why))
  first_line e line.OpenBlock why = (refl, (text, there, why))
  first_line e line.BadAddress why = (refl, (text, there, why))
  first_line e line.Memory why = tt

  pub bad_line : (e : LineError) → IsTextFault e (read text) → HoldsNo read held path.now (line_fault path e)
  bad_line e =
      ⊎_elim (λ (is : e.kind ≡ line.Memory). subst (λ (k : LineKind). HoldsNo read held path.now (line_kind_fault path e k)) (sym is) tt) (λ why. first_line e e.kind why)
