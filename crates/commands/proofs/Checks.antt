-- What is said of a refused file goes with its fault.
use Rattle.std.proofs.Common.{arith, ◌≡◌, ◌≢◌, ℕ, zero, suc, true, false, nat_eq, List, refl, sym, subst, Result, Ok, Err, IfOk, inl, inr, ⊎_elim}
use Rattle.std.specs.Prelude.{◌⊎◌, ◌++◌, Option, Some, None, codes}
use Rattle.std.proofs.lemmas.Result.{IfOk-weaker}
use Rattle.std.specs.Io.KnownBytes.{Appends}
use Rattle.std.specs.Borrow.{Bor}
use Rattle.dname.specs.Labels.{Name}
use Rattle.rdata.specs.Records.{Record}
use Rattle.masterfile.specs.Files.{IsFirstFault, read_text}
use Rattle.masterfile.specs.declared.faults.FileError.{FileError}
use Rattle.masterfile.specs.declared.faults.FileKind.{FileKind}
use Rattle.masterfile.specs.declared.faults.FileKind.TheVariants as file
use Rattle.zone.specs.Zones.{Zone as ZoneSpec}
use Rattle.zone.specs.Faults.{IsFault, fault_of}
use Rattle.zone.specs.Kept.{zone_with}
use Rattle.zone.specs.declared.fault.ZoneError.{ZoneError}
use Rattle.zone.specs.declared.fault.ZoneError.TheVariants as rule
use Rattle.text_lines.specs.Texts.{IsTextFault}
use Rattle.text_lines.specs.declared.fault.LineError.{LineError}
use Rattle.text_lines.specs.declared.fault.LineKind.{LineKind}
use Rattle.text_lines.specs.declared.fault.LineKind.TheVariants as line
use Rattle.config.specs.Configs.{Config, End, LocalZone, config_of}
use Rattle.config_report.specs.Reports.{file_report_text, line_report_text}
use Rattle.commands.specs.Checks.{end_text, Explains, HasReason, IsTold, Tells, TellsRule, TellsUnbound, TellsUnmade, TellsUnstarted}
use Rattle.commands.specs.Faults.{IsReported, fault_line, file_fault, kind_fault, line_fault, line_kind_fault, status_of, zone_fault}
use Rattle.commands.specs.Runs.{IsPrinted}
use Rattle.commands.specs.Servers.{IsNoServer, IsUnbound, IsUnmade, LacksSeed, LacksZone}
use Rattle.commands.specs.Texts.{MayHold}
use Rattle.commands.specs.Zones.{HoldsZone, HoldsNoZone}
use Rattle.commands.specs.declared.fault.Fault.{Fault}
use Rattle.commands.specs.declared.fault.Fault.TheVariants.{File, Zone, Script, Block, World, Unreadable, BadName, BadType, Settings, Memory, Pool, Socket, Threads, Output}
use Rattle.commands.proofs.Servers.{lacks_memory}
use Rattle.commands.proofs.Broken.{zone_refused}
use Rattle.commands.proofs.Scripts.{bad_line}

more : (known : Option (Option (List ℕ))) (text t : List ℕ) → MayHold known (Some text) → Some text ≡ Some t → MayHold known (Some t)
more known text t h is = subst (λ (o : Option (List ℕ)). MayHold known o) is h

nothing : (text : List ℕ) → ◌≡◌ {A = Option (List ℕ)} (Some text) None → ⊥
nothing text is = cc

-- Want of memory goes with any words.
pub starved_no_zone : (held : List ℕ → Option (Option (List ℕ))) (path : List ℕ) (origin : Name) (f : Fault) (words : List ℕ) → f ≡ Memory → HoldsNoZone held path origin f × Explains held f words
starved_no_zone held path origin f words is = (subst (HoldsNoZone held path origin) (sym is) tt, subst (λ (g : Fault). Explains held g words) (sym is) tt)

pub starved_no_server : (held : List ℕ → Option (Option (List ℕ))) (path : List ℕ) (f : Fault) (words : List ℕ) → f ≡ Memory → IsNoServer held path f × Explains held f words
starved_no_server held path f words is = (subst (IsNoServer held path) (sym is) (inl tt), subst (λ (g : Fault). Explains held g words) (sym is) tt)

-- ---- A line of the server's file.

module _ (held : List ℕ → Option (Option (List ℕ))) (path : Bor (List ℕ)) where
  says_line : (text : List ℕ) → MayHold (held path.now) (Some text) → (e : LineError) (k : LineKind) (words : List ℕ) → words ≡ line_report_text path.now text e
      → Explains held (line_kind_fault path e k) words
  says_line text h e line.UnknownWord words is = (text, h, is)
  says_line text h e line.BadNumber words is = (text, h, is)
  says_line text h e line.BadName words is = (text, h, is)
  says_line text h e line.BadType words is = (text, h, is)
  says_line text h e line.WordCount words is = (text, h, is)
  says_line text h e line.BadHex words is = (text, h, is)
  says_line text h e line.OpenBlock words is = (text, h, is)
  says_line text h e line.BadAddress words is = (text, h, is)
  says_line text h e line.Memory words is = tt

  pub line_refused : (text : List ℕ) → MayHold (held path.now) (Some text) → (e : LineError) → IsTextFault e (config_of text) → (f : Fault) (words : List ℕ)
      → Tells (line_fault path e) (λ ws. ws ≡ line_report_text path.now text e) f words → IsNoServer held path.now f × Explains held f words
  line_refused text h e why f words =
      ⊎_elim
      (λ (t : (f ≡ line_fault path e) × (words ≡ line_report_text path.now text e)). (
        subst (IsNoServer held path.now) (sym t.0) (inl (bad_line config_of held path text h e why)),
        subst (λ (g : Fault). Explains held g words) (sym t.0) (says_line text h e e.kind words t.1),
      ))
      (starved_no_server held path.now f words)

  pub missing_config : MayHold (held path.now) None → (f : Fault) (words : List ℕ) → Tells (Unreadable path) (HasReason path.now) f words → IsNoServer held path.now f × Explains held f words
  missing_config none f words =
      ⊎_elim
      (λ (t : (f ≡ Unreadable path) × HasReason path.now words). (subst (IsNoServer held path.now) (sym t.0) (inl (refl, none)), subst (λ (g : Fault). Explains held g words) (sym t.0) t.1))
      (starved_no_server held path.now f words)

  -- ---- A zone file.

  pub missing_zone : (origin : Name) → MayHold (held path.now) None → (f : Fault) (words : List ℕ) → Tells (Unreadable path) (HasReason path.now) f words → HoldsNoZone held path.now origin f × Explains held f words
  missing_zone origin none f words =
      ⊎_elim
      (λ (t : (f ≡ Unreadable path) × HasReason path.now words). (subst (HoldsNoZone held path.now origin) (sym t.0) (refl, none), subst (λ (g : Fault). Explains held g words) (sym t.0) t.1))
      (starved_no_zone held path.now origin f words)

module _ (path : Bor (List ℕ)) (origin : Name) (text : List ℕ) where
  says_file : (e : FileError) (k : FileKind) (words : List ℕ) → words ≡ file_report_text path.now text e → Explains (λ _. Some (Some text)) (kind_fault path e k) words
  says_file e file.UnknownType words is = (text, refl, is)
  says_file e file.BadName words is = (text, refl, is)
  says_file e file.BadNumber words is = (text, refl, is)
  says_file e file.NoTtl words is = (text, refl, is)
  says_file e file.NoOwner words is = (text, refl, is)
  says_file e file.OpenText words is = (text, refl, is)
  says_file e file.UnknownDirective words is = (text, refl, is)
  says_file e file.BadClass words is = (text, refl, is)
  says_file e file.BadData words is = (text, refl, is)
  says_file e file.Memory words is = tt

  no_file : (e : FileError) (k : FileKind) → IsFirstFault k e (read_text origin text) → HoldsNoZone (λ _. Some (Some text)) path.now origin (kind_fault path e k)
  no_file e file.UnknownType why = (refl, (text, refl, why))
  no_file e file.BadName why = (refl, (text, refl, why))
  no_file e file.BadNumber why = (refl, (text, refl, why))
  no_file e file.NoTtl why = (refl, (text, refl, why))
  no_file e file.NoOwner why = (refl, (text, refl, why))
  no_file e file.OpenText why = (refl, (text, refl, why))
  no_file e file.UnknownDirective why = (refl, (text, refl, why))
  no_file e file.BadClass why = (refl, (text, refl, why))
  no_file e file.BadData why = (refl, (text, refl, why))
  no_file e file.Memory why = tt

  pub file_refused : (e : FileError) → IsFirstFault e.kind e (read_text origin text) → (f : Fault) (words : List ℕ) → Tells (file_fault path e) (λ ws. ws ≡ file_report_text path.now text e) f words
      → HoldsNoZone (λ _. Some (Some text)) path.now origin f × Explains (λ _. Some (Some text)) f words
  file_refused e why f words =
      ⊎_elim
      (λ (t : (f ≡ file_fault path e) × (words ≡ file_report_text path.now text e)). (
        subst (HoldsNoZone (λ _. Some (Some text)) path.now origin) (sym t.0) (no_file e e.kind why),
        subst (λ (g : Fault). Explains (λ _. Some (Some text)) g words) (sym t.0) (says_file e e.kind words t.1),
      ))
      (starved_no_zone (λ _. Some (Some text)) path.now origin f words)

  says_rule : (e : ZoneError) (words : List ℕ) → TellsRule path.now origin text e words → Explains (λ _. Some (Some text)) (zone_fault path e) words
  says_rule rule.Soa words (records, reads, is) = (origin, records, (text, refl, reads), is)
  says_rule rule.NoServers words (records, reads, is) = (origin, records, (text, refl, reads), is)
  says_rule rule.ForeignOwner words (records, reads, is) = (origin, records, (text, refl, reads), is)
  says_rule rule.CnameClash words (records, reads, is) = (origin, records, (text, refl, reads), is)
  says_rule rule.MixedTtls words (records, reads, is) = (origin, records, (text, refl, reads), is)
  says_rule rule.DataAtCut words (records, reads, is) = (origin, records, (text, refl, reads), is)
  says_rule rule.InnerStar words (records, reads, is) = (origin, records, (text, refl, reads), is)
  says_rule rule.WildcardAuthority words (records, reads, is) = (origin, records, (text, refl, reads), is)
  says_rule rule.WildcardBeneathCut words (records, reads, is) = (origin, records, (text, refl, reads), is)
  says_rule rule.Memory words told = tt

  pub rule_refused : (records : List Record) → read_text origin text ≡ Ok records → (e : ZoneError) → IsFault e (fault_of (zone_with origin records)) → (f : Fault) (words : List ℕ)
      → Tells (zone_fault path e) (TellsRule path.now origin text e) f words → HoldsNoZone (λ _. Some (Some text)) path.now origin f × Explains (λ _. Some (Some text)) f words
  rule_refused records reads e why f words =
      ⊎_elim
      (λ (t : (f ≡ zone_fault path e) × TellsRule path.now origin text e words). (
        subst (HoldsNoZone (λ _. Some (Some text)) path.now origin) (sym t.0) (zone_refused (λ _. Some (Some text)) origin path records (text, refl, reads) e why),
        subst (λ (g : Fault). Explains (λ _. Some (Some text)) g words) (sym t.0) (says_rule e words t.1),
      ))
      (starved_no_zone (λ _. Some (Some text)) path.now origin f words)

-- ---- What holds of a text holds of the path at which it stands.

pub zone_there : (known : Option (Option (List ℕ))) (text : List ℕ) (origin : Name) (z : ZoneSpec) → MayHold known (Some text) → HoldsZone (Some (Some text)) origin z → HoldsZone known origin z
zone_there known text origin z h (records, (t, there, reads), whole, is) = (records, (t, more known text t h there, reads), whole, is)

module _ (held : List ℕ → Option (Option (List ℕ))) (path : List ℕ) (origin : Name) (text : List ℕ) (h : MayHold (held path) (Some text)) where
  at_path : (at : List ℕ) → at ≡ path → (t : List ℕ) → Some text ≡ Some t → MayHold (held at) (Some t)
  at_path at named t is = subst (λ (p : List ℕ). MayHold (held p) (Some t)) (sym named) (more (held path) text t h is)

  pub refused_there : (f : Fault) (words : List ℕ) → HoldsNoZone (λ _. Some (Some text)) path origin f → Explains (λ _. Some (Some text)) f words → HoldsNoZone held path origin f × Explains held f words
  refused_there (File at e) words (named, (t, there, reads)) (t2, there2, is) = ((named, (t, more (held path) text t h there, reads)), (t2, at_path at.now named t2 there2, is))
  refused_there (Zone at e) words (named, (records, (t, there, reads), breaks)) (o, rs, (t2, there2, reads2), is) =
      ((named, (records, (t, more (held path) text t h there, reads), breaks)), (o, rs, (t2, at_path at.now named t2 there2, reads2), is))
  refused_there (Unreadable at) words (named, none) is = absurd (nothing text none)
  refused_there Memory words left is = (tt, tt)
  refused_there (Script at e) words never is = absurd never
  refused_there (Block at n e) words never is = absurd never
  refused_there (World at e) words never is = absurd never
  refused_there (BadName e) words never is = absurd never
  refused_there BadType words never is = absurd never
  refused_there Settings words never is = absurd never
  refused_there (Pool e) words never is = absurd never
  refused_there Socket words never is = absurd never
  refused_there Threads words never is = absurd never
  refused_there Output words never is = absurd never

-- ---- A file whose zones are read.

module _ (held : List ℕ → Option (Option (List ℕ))) (c : Config) where
  says_unmade : (f : Fault) (words : List ℕ) → IsUnmade c f → TellsUnmade f words → Explains held f words
  says_unmade f words why says =
      ⊎_elim
      (λ (l : LacksSeed c f). subst (λ (g : Fault). Explains held g words) (sym l.is) (subst (λ (g : Fault). TellsUnmade g words) l.is says))
      (⊎_elim
      (λ (is : f ≡ Settings). subst (λ (g : Fault). Explains held g words) (sym is) (subst (λ (g : Fault). TellsUnmade g words) is says))
      (λ (is : f ≡ Memory). subst (λ (g : Fault). Explains held g words) (sym is) tt)) why

  pub unmade_refused : (f0 : Fault) → IsUnmade c f0 → (f : Fault) (words : List ℕ) → Tells f0 (TellsUnmade f0) f words → IsUnmade c f × Explains held f words
  unmade_refused f0 why f words =
      ⊎_elim
      (λ (t : (f ≡ f0) × TellsUnmade f0 words). (subst (IsUnmade c) (sym t.0) why, subst (λ (g : Fault). Explains held g words) (sym t.0) (says_unmade f0 words why t.1)))
      (λ (is : f ≡ Memory). (inr (inr is), subst (λ (g : Fault). Explains held g words) (sym is) tt))

pub unmade_told : (c : Config) (f0 : Fault) → IsUnmade c f0 → (f : Fault) (words : List ℕ) → Tells f0 (TellsUnmade f0) f words → TellsUnstarted c f words
unmade_told c f0 why f words told = (inl (unmade_refused (λ _. None) c f0 why f words told).0, λ held. (unmade_refused held c f0 why f words told).1)

pub starved_unstarted : (c : Config) (f : Fault) (words : List ℕ) → f ≡ Memory → TellsUnstarted c f words
starved_unstarted c f words is = (inl (inr (inr is)), λ held. subst (λ (g : Fault). Explains held g words) (sym is) tt)

pub unbound_told : (c : Config) (f : Fault) (words : List ℕ) → Tells Socket TellsUnbound f words → TellsUnstarted c f words
unbound_told c f words =
    ⊎_elim
    (λ (t : (f ≡ Socket) × TellsUnbound words). (subst (λ (g : Fault). IsUnmade c g ⊎ IsUnbound g) (sym t.0) (inr tt), λ held. subst (λ (g : Fault). Explains held g words) (sym t.0) t.1))
    (λ (is : f ≡ Memory). starved_unstarted c f words is)

pub starved_zone_less : (held : List ℕ → Option (Option (List ℕ))) (ls : List LocalZone) (f : Fault) (words : List ℕ) → f ≡ Memory → LacksZone held ls f × Explains held f words
starved_zone_less held ls f words is = (lacks_memory held ls f is, subst (λ (g : Fault). Explains held g words) (sym is) tt)

-- ---- What is told.

-- The words that were made go with the fault.
pub tell : {S E : Type 0} (bytes : S → List ℕ) (r : Result S E) (P : List ℕ → Type 0) (f fault : Fault) (s : S) → IfOk r (λ x. P (bytes x)) → ((fault ≡ f) × (r ≡ Ok s)) ⊎ (fault ≡ Memory)
    → Tells f P fault (bytes s)
tell {S} {E} bytes r P f fault s ok =
    ⊎_elim (λ (h : (fault ≡ f) × (r ≡ Ok s)). inl (h.0, subst (λ (q : Result S E). IfOk q (λ x. P (bytes x))) h.1 ok)) (λ (is : fault ≡ Memory). inr is)

-- The words were written, and then the line.
pub both_written : (f : Fault) (words : List ℕ) (out out2 err err1 err2 : Option (List ℕ)) (k n : ℕ) → IsPrinted words 0 out out2 err err1 k → k ≡ 0 → IsReported f err1 err2 n
    → IsTold f words out out2 err err2 n
both_written f words out out2 err err1 err2 k n printed is reported =
    ⊎_elim
    (λ (p : (k ≡ 0) × Appends out out2 words × (err1 ≡ err)).
    ⊎_elim (λ (r : (n ≡ status_of f) × Appends err1 err2 (fault_line f)). inl (r.0, p.1, subst (λ (e : Option (List ℕ)). Appends e err2 (fault_line f)) p.2 r.1)) (λ (four : n ≡ 4). inr four) reported)
    (λ (four : k ≡ 4). absurd (omega (arith, is, four))) printed

-- The words could not be written.
pub not_written : (f : Fault) (words : List ℕ) (out out2 err err2 : Option (List ℕ)) (k : ℕ) → IsPrinted words 0 out out2 err err2 k → k ≢ 0 → IsTold f words out out2 err err2 k
not_written f words out out2 err err2 k printed other =
    ⊎_elim (λ (p : (k ≡ 0) × Appends out out2 words × (err2 ≡ err)). absurd (other p.0)) (λ (four : k ≡ 4). inr four) printed

-- ---- Why an address is not bound, and a path not read.

module _ {S E : Type 0} (bytes : S → List ℕ) (r : Result S E) where
  pub listen_told : (e : End) (reason : List ℕ) → IfOk r (λ s. bytes s ≡ end_text (codes "listen") e ++ codes ": " ++ reason ++ codes "\n") → IfOk r (λ s. TellsUnbound (bytes s))
  listen_told e reason h = IfOk-weaker r _ _ (λ s is. (codes "listen", inl refl, (e, (reason, is)))) h

  pub metrics_told : (e : End) (reason : List ℕ) → IfOk r (λ s. bytes s ≡ end_text (codes "metrics") e ++ codes ": " ++ reason ++ codes "\n") → IfOk r (λ s. TellsUnbound (bytes s))
  metrics_told e reason h = IfOk-weaker r _ _ (λ s is. (codes "metrics", inr refl, (e, (reason, is)))) h

  pub reason_told : (about reason : List ℕ) → IfOk r (λ s. bytes s ≡ about ++ codes ": " ++ reason ++ codes "\n") → IfOk r (λ s. HasReason about (bytes s))
  reason_told about reason h = IfOk-weaker r _ _ (λ s is. (reason, is)) h
