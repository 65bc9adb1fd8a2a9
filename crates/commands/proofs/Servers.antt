-- Faults of a server's parts are faults of its start, and its zones come one by one.
use Rattle.std.proofs.Common.{◌≡◌, arith, ◌+◌, ◌<◌, ℕ, zero, suc, true, false, nat_eq, List, [], ◌∷◌, ◌++◌, length, take, get_or, refl, sym, ◌∙◌, ap, subst, Ok, Err, inl, inr, ⊎_elim}
use Rattle.std.specs.Prelude.{Option, Some, None, IfSome}
use Rattle.std.proofs.lemmas.Bool.{eq-eqb}
use Rattle.std.proofs.Math.Dec.{eqb-suc-zero}
use Rattle.std.proofs.lemmas.List.{take_more}
use Rattle.zone.specs.Zones.{Zone as ZoneSpec}
use Rattle.config.specs.Configs.{Config, LocalZone}
use Rattle.commands.specs.Faults.{IsReported, status_of}
use Rattle.commands.specs.Texts.{MayHold}
use Rattle.commands.specs.Zones.{HoldsZone, HoldsNoZone}
use Rattle.commands.specs.Runs.{IsRun}
use Rattle.commands.specs.Servers.{Prepared, AreZonesIn, LacksZone, IsServer, IsUnmade, StartsWith, Starts}
use Rattle.commands.specs.declared.fault.Fault.{Fault}
use Rattle.commands.specs.declared.fault.Fault.TheVariants.{File, Zone, Script, Block, World, Unreadable, BadName, BadType, Settings, Memory, Pool, Socket, Threads, Output}

pub run_weaker : {P P' : List ℕ → Type 0} {Q Q' : Fault → Type 0} {out out2 err err2 : Option (List ℕ)} {n : ℕ}
    → ((text : List ℕ) → P text → P' text) → ((f : Fault) → Q f → Q' f) → IsRun P Q out out2 err err2 n → IsRun P' Q' out out2 err err2 n
run_weaker texts faults (Ok text, allowed, ended) = (Ok text, texts text allowed, ended)
run_weaker texts faults (Err f, allowed, ended) = (Err f, faults f allowed, ended)

-- ---- Exit statuses.

one_not : ◌≡◌ {A = ℕ} 1 0 → ⊥
one_not is = omega arith

three_not : ◌≡◌ {A = ℕ} 3 0 → ⊥
three_not is = omega arith

four_not : ◌≡◌ {A = ℕ} 4 0 → ⊥
four_not is = omega arith

-- What holds anyway holds where something is there.
pub some_so : {A : Type 0} (o : Option A) (P : Type 0) → P → IfSome o (λ _. P)
some_so (Some x) P p = p
some_so None P p = tt

-- No fault has the status of what is done.
some_status : (f : Fault) → status_of f ≡ 0 → ⊥
some_status (File path e) is = one_not is
some_status (Zone path e) is = one_not is
some_status (Script path e) is = one_not is
some_status (Block path line e) is = one_not is
some_status (World path e) is = one_not is
some_status (Unreadable path) is = four_not is
some_status (BadName e) is = one_not is
some_status BadType is = one_not is
some_status Settings is = one_not is
some_status Memory is = three_not is
some_status Socket is = four_not is
some_status (Pool e) is = one_not is
some_status Threads is = four_not is
some_status Output is = four_not is

pub failed : (f : Fault) (err err2 : Option (List ℕ)) (n : ℕ) → IsReported f err err2 n → n ≡ 0 → ⊥
failed f err err2 n reported none = ⊎_elim (λ h. some_status f (sym h.0 ∙ none)) (λ four. four_not (sym four ∙ none)) reported

-- ---- The server that is started.

pub starts_so : (made : Prepared) (n : ℕ) → nat_eq n 0 ≡ true → StartsWith made n (Some made)
starts_so made zero is = inl (refl, refl)
starts_so made (suc n) is = let no = eqb-suc-zero n in absurd (cc)

pub starts_not : (made : Prepared) (n : ℕ) → nat_eq n 0 ≡ false → StartsWith made n None
starts_not made n is = inr ((λ none. let same = eq-eqb n 0 none in absurd (cc)), refl)

pub started : (held : List ℕ → Option (Option (List ℕ))) (path text : List ℕ) (made : Prepared) (n : ℕ) (server : Option Prepared)
    → MayHold (held path) (Some text) → IsServer held text made → StartsWith made n server → Starts held path n server
started held path text made n server there is starts =
    ⊎_elim (λ h. inl (h.0, (made, h.1, record { text = text; there = there; is = is }))) (λ h. inr h) starts

-- ---- The zones of a server's file, one after the other.

zones_more : (held : List ℕ → Option (Option (List ℕ))) (ls : List LocalZone) (zs : List ZoneSpec) (l : LocalZone) (z : ZoneSpec)
    → AreZonesIn held ls zs → HoldsZone (held l.file) l.origin z → AreZonesIn held (ls ++ l ∷ []) (zs ++ z ∷ [])
zones_more held [] [] l z h more = (more, tt)
zones_more held (k ∷ ks) (y ∷ ys) l z h more = (h.0, zones_more held ks ys l z h.1 more)
zones_more held [] (y ∷ ys) l z h more = absurd h
zones_more held (k ∷ ks) [] l z h more = absurd h

pub zones_step : (held : List ℕ → Option (Option (List ℕ))) (ls : List LocalZone) (i : ℕ) (l : LocalZone) (zs zs2 : List ZoneSpec) (z : ZoneSpec) → i < length ls → l ≡ get_or ls i l
    → AreZonesIn held (take i ls) zs → HoldsZone (held l.file) l.origin z → zs2 ≡ zs ++ z ∷ [] → AreZonesIn held (take (i + 1) ls) zs2
zones_step held ls i l zs zs2 z lt at_i so_far more is =
    subst (AreZonesIn held (take (i + 1) ls)) (sym is)
    (subst (λ (ks : List LocalZone). AreZonesIn held ks (zs ++ z ∷ [])) (sym (take_more ls i l lt ∙ ap (λ (k : LocalZone). take i ls ++ k ∷ []) (sym at_i)))
    (zones_more held (take i ls) zs l z so_far more))

-- ---- The first line whose file holds no zone.

module _ (held : List ℕ → Option (Option (List ℕ))) where
  -- The files of those before it hold one.
  pub lacks_at : (ls : List LocalZone) (zs : List ZoneSpec) (i : ℕ) (l : LocalZone) (f : Fault) → i < length ls → l ≡ get_or ls i l → AreZonesIn held (take i ls) zs
      → HoldsNoZone held l.file l.origin f → LacksZone held ls f
  lacks_at [] zs i l f lt at_i so_far bad = absurd (omega (arith, lt))
  lacks_at (k ∷ ks) zs zero l f lt at_i so_far bad = inl (subst (λ (m : LocalZone). HoldsNoZone held m.file m.origin f) at_i bad)
  lacks_at (k ∷ ks) [] (suc i) l f lt at_i so_far bad = absurd so_far
  lacks_at (k ∷ ks) (z ∷ zs) (suc i) l f lt at_i so_far bad = inr (z, so_far.0, lacks_at ks zs i l f (omega (arith, lt)) at_i so_far.1 bad)

  pub lacks_memory : (ls : List LocalZone) (f : Fault) → f ≡ Memory → LacksZone held ls f
  lacks_memory [] f is = is
  lacks_memory (l ∷ ls) f is = inl (subst (HoldsNoZone held l.file l.origin) (sym is) tt)

pub bad_settings : (c : Config) → IsUnmade c Settings
bad_settings c = inr (inl refl)

pub wants_memory : (c : Config) → IsUnmade c Memory
wants_memory c = inr (inr refl)
