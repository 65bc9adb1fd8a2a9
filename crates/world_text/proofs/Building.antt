-- Zones and worlds of what a text said.
use Rattle.std.proofs.Common.{◌≡◌, ◌⊎◌, inl, inr, refl, sym, ap, ◌∙◌, subst, ℕ, ◌+◌, ◌<◌, ◌≤◌, Option, Some, None, Result, Ok, Err, IsErrAnd, MatchResult, List, [], ◌∷◌, ◌++◌, length, drop, get_or}
use Rattle.std.proofs.lemmas.List.{drop_more, drop_all}
use Rattle.dname.specs.Labels.{Name}
use Rattle.rdata.specs.Records.{Record}
use Rattle.zone.specs.declared.fault.ZoneError.{ZoneError}
use Rattle.zone.specs.declared.fault.ZoneError.TheVariants.{Soa, NoServers, ForeignOwner, CnameClash, MixedTtls, DataAtCut, InnerStar, WildcardAuthority, WildcardBeneathCut, Memory as zone_memory}
use Rattle.zone.specs.Zones.{Zone as ZoneSpec}
use Rattle.zone.specs.Kept.{zone_with}
use Rattle.zone.specs.Faults.{fault_of, IsFault}
use Rattle.text_lines.specs.declared.fault.LineKind.{LineKind}
use Rattle.text_lines.specs.declared.fault.LineKind.TheVariants.{UnknownWord, BadNumber, BadName, BadType, WordCount, BadHex, OpenBlock, BadAddress, Memory as line_memory}
use Rattle.text_lines.specs.declared.fault.LineError.{LineError}
use Rattle.masterfile.specs.declared.faults.FileKind.{FileKind}
use Rattle.masterfile.specs.declared.faults.FileKind.TheVariants as file
use Rattle.masterfile.specs.declared.faults.FileError.{FileError}
use Rattle.masterfile.specs.Files.{read_lines, IsFirstFault}
use Rattle.world_truth.specs.Worlds.{World as WorldSpec, IsWorld}
use Rattle.worlds.specs.Refusals.{IsWorldRefused}
use Rattle.worlds.specs.declared.fault.WorldError.{WorldError}
use Rattle.worlds.specs.declared.fault.WorldError.TheVariants as rule
use Rattle.world_text.specs.declared.world_fault.WorldFault.{WorldFault}
use Rattle.world_text.specs.declared.world_fault.WorldFault.TheVariants.{Line, File, Zone, World, Memory}
use Rattle.world_text.specs.WorldFaults.{line_fault, file_fault, zone_fault, rule_fault}
use Rattle.world_text.specs.WorldTexts.{Block, keeping_rules, zone_read, zone_of, zones_from, zones_of, locals_of, IsFaultOf, ◌>>>◌}
use Rattle.world_text.specs.Readings.{Said, said_in}
use Rattle.world_text.specs.Worlds.{said_world, IsSaidWorld, BreaksRule, IsNoSaidWorld, IsWorldOf, IsNoWorld}

-- The refusal that is handed over.
pub refused_by : {T : Type 0} (r : Result T WorldFault) (e : WorldFault) (P : T → Type 0) (Q : WorldFault → Type 0) → IsErrAnd r (λ f. f ≡ e) → Q e → MatchResult r P Q
refused_by (Ok x) e P Q is h = absurd is
refused_by (Err f) e P Q is h = subst Q (sym is) h

-- ---- one block

pub zone_is : (b : Block) (records : List Record) (origin : Name) (z : ZoneSpec) → read_lines b.origin (b.line + 1) b.text ≡ Ok records → origin ≡ b.origin
    → (z ≡ zone_with origin records) × (fault_of (zone_with origin records) ≡ None) → zone_of b ≡ Ok z
zone_is b records origin z read same (is, sound) =
    let at : zone_with origin records ≡ zone_with b.origin records = ap (λ (n : Name). zone_with n records) same in
    let keeps : fault_of (zone_with b.origin records) ≡ None = ap fault_of (sym at) ∙ sound in
    ap (zone_read b) read ∙ (ap (keeping_rules b.line (zone_with b.origin records)) keeps ∙ ap Ok (sym at ∙ sym is))

zone_fails : (b : Block) (z : ZoneSpec) (e : ZoneError) → IsFault e (fault_of z) → IsFaultOf (zone_fault b.line e) (keeping_rules b.line z (fault_of z))
zone_fails b z zone_memory fault = inl refl
zone_fails b z Soa fault = inr (ap (keeping_rules b.line z) fault)
zone_fails b z NoServers fault = inr (ap (keeping_rules b.line z) fault)
zone_fails b z ForeignOwner fault = inr (ap (keeping_rules b.line z) fault)
zone_fails b z CnameClash fault = inr (ap (keeping_rules b.line z) fault)
zone_fails b z MixedTtls fault = inr (ap (keeping_rules b.line z) fault)
zone_fails b z DataAtCut fault = inr (ap (keeping_rules b.line z) fault)
zone_fails b z InnerStar fault = inr (ap (keeping_rules b.line z) fault)
zone_fails b z WildcardAuthority fault = inr (ap (keeping_rules b.line z) fault)
zone_fails b z WildcardBeneathCut fault = inr (ap (keeping_rules b.line z) fault)

pub zone_refused : (b : Block) (records : List Record) (origin : Name) (e : ZoneError) → read_lines b.origin (b.line + 1) b.text ≡ Ok records → origin ≡ b.origin
    → IsFault e (fault_of (zone_with origin records)) → IsFaultOf (zone_fault b.line e) (zone_of b)
zone_refused b records origin e read same fault =
    subst (IsFaultOf (zone_fault b.line e)) (sym (ap (zone_read b) read))
    (zone_fails b (zone_with b.origin records) e (subst (λ (n : Name). IsFault e (fault_of (zone_with n records))) same fault))

file_fails : (b : Block) (read : Result (List Record) FileError) (e : FileError) (k : FileKind) → IsFirstFault k e read → IsFaultOf (file_fault e k) (zone_read b read)
file_fails b read e file.Memory fault = inl refl
file_fails b read e file.UnknownType fault = inr (ap (zone_read b) fault)
file_fails b read e file.BadName fault = inr (ap (zone_read b) fault)
file_fails b read e file.BadNumber fault = inr (ap (zone_read b) fault)
file_fails b read e file.NoTtl fault = inr (ap (zone_read b) fault)
file_fails b read e file.NoOwner fault = inr (ap (zone_read b) fault)
file_fails b read e file.OpenText fault = inr (ap (zone_read b) fault)
file_fails b read e file.UnknownDirective fault = inr (ap (zone_read b) fault)
file_fails b read e file.BadClass fault = inr (ap (zone_read b) fault)
file_fails b read e file.BadData fault = inr (ap (zone_read b) fault)

pub file_refused : (b : Block) (e : FileError) → IsFirstFault e.kind e (read_lines b.origin (b.line + 1) b.text) → IsFaultOf (file_fault e e.kind) (zone_of b)
file_refused b e fault = file_fails b (read_lines b.origin (b.line + 1) b.text) e e.kind fault

-- ---- all of them

-- A block is refused as a file or as a zone.
abbrev IsOfBlock : WorldFault → Type 0
IsOfBlock (Line e) = ⊥
IsOfBlock (File e) = Unit {0}
IsOfBlock (Zone line e) = Unit {0}
IsOfBlock (World e) = ⊥
IsOfBlock Memory = Unit {0}

abbrev RefusesBlocks : {X : Type 0} → Result X WorldFault → Type 0
RefusesBlocks (Ok x) = Unit {0}
RefusesBlocks (Err f) = IsOfBlock f

keeping : (line : ℕ) (z : ZoneSpec) (o : Option ZoneError) → RefusesBlocks (keeping_rules line z o)
keeping line z None = tt
keeping line z (Some e) = tt

reads : (b : Block) (read : Result (List Record) FileError) → RefusesBlocks (zone_read b read)
reads b (Err e) = tt
reads b (Ok records) = keeping b.line (zone_with b.origin records) (fault_of (zone_with b.origin records))

behind : (r : Result ZoneSpec WorldFault) (f : ZoneSpec → Result (List ZoneSpec) WorldFault) → RefusesBlocks r → ((z : ZoneSpec) → RefusesBlocks (f z)) → RefusesBlocks (r >>> f)
behind (Ok z) f one more = more z
behind (Err e) f one more = one

all : (zs : List ZoneSpec) (bs : List Block) → RefusesBlocks (zones_from zs bs)
all zs [] = tt
all zs (b ∷ bs) = behind (zone_of b) (λ z. zones_from (zs ++ z ∷ []) bs) (reads b (read_lines b.origin (b.line + 1) b.text)) (λ z. all (zs ++ z ∷ []) bs)

of_block : (bs : List Block) (f : WorldFault) → zones_of bs ≡ Err f → IsOfBlock f
of_block bs f e = subst (λ (r : Result (List ZoneSpec) WorldFault). RefusesBlocks r) e (all [] bs)

-- ---- the blocks, one by one

abbrev behind_one : List ZoneSpec → List Block → Result ZoneSpec WorldFault → Result (List ZoneSpec) WorldFault
behind_one zs bs r = r >>> λ z. zones_from (zs ++ z ∷ []) bs

one_more : (bs : List Block) (zs : List ZoneSpec) (i : ℕ) (b : Block) → i < length bs → b ≡ get_or bs i b
    → zones_from zs (drop i bs) ≡ behind_one zs (drop (i + 1) bs) (zone_of b)
one_more bs zs i b lt at =
    ap (zones_from zs) (drop_more bs i b lt) ∙ ap (λ (x : Block). behind_one zs (drop (i + 1) bs) (zone_of x)) (sym at)

-- A block more is a zone,
pub zones_step : (bs : List Block) (zs new : List ZoneSpec) (i : ℕ) (b : Block) (z : ZoneSpec) → i < length bs → b ≡ get_or bs i b → zone_of b ≡ Ok z → new ≡ zs ++ z ∷ []
    → zones_from zs (drop i bs) ≡ zones_of bs → zones_from new (drop (i + 1) bs) ≡ zones_of bs
zones_step bs zs new i b z lt at is grows so_far =
    ap (λ (l : List ZoneSpec). zones_from l (drop (i + 1) bs)) grows
    ∙ (sym (one_more bs zs i b lt at ∙ ap (behind_one zs (drop (i + 1) bs)) is) ∙ so_far)

-- or none,
pub zones_stop : (bs : List Block) (zs : List ZoneSpec) (i : ℕ) (b : Block) (f : WorldFault) → i < length bs → b ≡ get_or bs i b → IsFaultOf f (zone_of b)
    → zones_from zs (drop i bs) ≡ zones_of bs → IsFaultOf f (zones_of bs)
zones_stop bs zs i b f lt at (inl starved) so_far = inl starved
zones_stop bs zs i b f lt at (inr is) so_far = inr (sym so_far ∙ (one_more bs zs i b lt at ∙ ap (behind_one zs (drop (i + 1) bs)) is))

-- and none is left.
pub zones_end : (bs : List Block) (zs : List ZoneSpec) (i : ℕ) → length bs ≤ i → zones_from zs (drop i bs) ≡ zones_of bs → zones_of bs ≡ Ok zs
zones_end bs zs i over so_far = sym so_far ∙ ap (zones_from zs) (drop_all i bs over)

-- ---- a world

pub blocks_refused : (s : Said) (f : WorldFault) → IsFaultOf f (zones_of s.blocks) → IsNoSaidWorld s f
blocks_refused s (Line e) (inl h) = absurd (cc)
blocks_refused s (Line e) (inr h) = of_block s.blocks (Line e) h
blocks_refused s (File e) (inl h) = absurd (cc)
blocks_refused s (File e) (inr h) = h
blocks_refused s (Zone line e) (inl h) = absurd (cc)
blocks_refused s (Zone line e) (inr h) = h
blocks_refused s (World e) (inl h) = absurd (cc)
blocks_refused s (World e) (inr h) = absurd (of_block s.blocks (World e) h)
blocks_refused s Memory h = tt

pub world_stands : (s : Said) (zs : List ZoneSpec) (ls : List Name) (W : WorldSpec) → zones_of s.blocks ≡ Ok zs → ls ≡ locals_of s.blocks
    → W ≡ record { zones = zs; hosts = s.hosts; locals = ls; hints = s.hints } → IsWorld (record { zones = zs; hosts = s.hosts; locals = ls; hints = s.hints }) → IsSaidWorld s W
world_stands s zs ls W built local is well =
    let world : List Name → WorldSpec = λ l. record { zones = zs; hosts = s.hosts; locals = l; hints = s.hints } in
    let zones : W.zones ≡ zs = ap (λ (w : WorldSpec). w.zones) is in
    record {
      zones = built ∙ ap Ok (sym zones);
      is = is ∙ (ap world local ∙ ap (said_world s) (sym zones));
      well_formed = subst IsWorld (sym is) well;
    }

rule_named : (s : Said) (e : WorldError) → BreaksRule s e → IsNoSaidWorld s (rule_fault e)
rule_named s rule.NoRoot h = h
rule_named s rule.LooseCut h = h
rule_named s rule.Undelegated h = h
rule_named s rule.Lame h = h
rule_named s rule.NoStart h = h
rule_named s rule.Twins h = h
rule_named s rule.Memory h = tt

pub rule_refused : (s : Said) (zs : List ZoneSpec) (ls : List Name) (e : WorldError) → zones_of s.blocks ≡ Ok zs → ls ≡ locals_of s.blocks
    → IsWorldRefused (record { zones = zs; hosts = s.hosts; locals = ls; hints = s.hints }) e → IsNoSaidWorld s (rule_fault e)
rule_refused s zs ls e built local refused =
    let world : List Name → WorldSpec = λ l. record { zones = zs; hosts = s.hosts; locals = l; hints = s.hints } in
    rule_named s e (record { zones = zs; built = built; refused = subst (λ (l : List Name). IsWorldRefused (world l) e) local refused })

-- ---- a text

line_named : (text : List ℕ) (e : LineError) (k : LineKind) → (k ≡ line_memory) ⊎ (said_in text ≡ Err e) → IsNoWorld text (line_fault e k)
line_named text e line_memory h = tt
line_named text e UnknownWord (inl h) = absurd (cc)
line_named text e UnknownWord (inr h) = h
line_named text e BadNumber (inl h) = absurd (cc)
line_named text e BadNumber (inr h) = h
line_named text e BadName (inl h) = absurd (cc)
line_named text e BadName (inr h) = h
line_named text e BadType (inl h) = absurd (cc)
line_named text e BadType (inr h) = h
line_named text e WordCount (inl h) = absurd (cc)
line_named text e WordCount (inr h) = h
line_named text e BadHex (inl h) = absurd (cc)
line_named text e BadHex (inr h) = h
line_named text e OpenBlock (inl h) = absurd (cc)
line_named text e OpenBlock (inr h) = h
line_named text e BadAddress (inl h) = absurd (cc)
line_named text e BadAddress (inr h) = h

pub line_refused : (text : List ℕ) (e : LineError) → (e.kind ≡ line_memory) ⊎ (said_in text ≡ Err e) → IsNoWorld text (line_fault e e.kind)
line_refused text e h = line_named text e e.kind h

pub text_refused : (text : List ℕ) (s : Said) (f : WorldFault) → said_in text ≡ Ok s → IsNoSaidWorld s f → IsNoWorld text f
text_refused text s (Line e) says h = absurd h
text_refused text s (File e) says h = record { said = s; says = says; fails = h }
text_refused text s (Zone line e) says h = record { said = s; says = says; fails = h }
text_refused text s (World e) says h = record { said = s; says = says; fails = h }
text_refused text s Memory says h = tt

pub world_says : (text : List ℕ) (s : Said) (r : Result WorldSpec WorldFault) → said_in text ≡ Ok s → MatchResult r (IsSaidWorld s) (IsNoSaidWorld s)
    → MatchResult r (IsWorldOf text) (IsNoWorld text)
world_says text s (Ok W) says h = record { said = s; says = says; stands = h }
world_says text s (Err f) says h = text_refused text s f says h
