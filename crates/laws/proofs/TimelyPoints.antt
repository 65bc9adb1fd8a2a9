-- What stands at each point of the work on a query, and that the rules keep it.
use Rattle.std.proofs.Common.{◌≡◌, ◌≢◌, ℕ, zero, suc, ◌+◌, ◌-◌, ◌≤◌, ◌<◌, true, inl, inr, Option, Some, None, List, [], ◌∷◌, refl, sym, ap, ◌∙◌, subst, arith, add-one}
use Rattle.dname.specs.Labels.{Name, IsAtOrUnder}
use Rattle.rdata.specs.Records.{Record}
use Rattle.rdata.specs.declared.addr.Addr.{Addr}
use Rattle.zone.specs.Zones.{a_type}
use Rattle.zone.specs.Links.{Link, Found}
use Rattle.zone.specs.Look as local
use Rattle.authority.specs.Catalogs.{IsLooked}
use Rattle.cache.proofs.Failed.{failed_was_kept}
use Rattle.referral.specs.Cuts.{Cut, IsBest}
use Rattle.frames.specs.Frames.{Frame, Failed, marked, fresh_addresses, opened}
use Rattle.frames.proofs.Marks.{marked_only}
use Rattle.frames.specs.Trimmed.{trimmed}
use Rattle.frames.proofs.Steps.{added_there}
use Rattle.frames.proofs.Trims.{trimmed_opens}
use Rattle.resolution.specs.Jobs.{Home, Stores, level_of, IsCutOf, IsRootCut, Search, search_at, ask_of, fails_now, Job, looked_up, Task, Seek, Take, Go, Again, Point}
use Rattle.resolution.specs.Rules.{Says, Begins, Misses, UsesServerAddress, turned, Rule, takes, asks, follows, restarts, skips, hears, descends, gives_up, Rules}
use Rattle.resolution.proofs.Passing.{passes_first, passes_keep, passes_name, passes_members}
use Rattle.runs.specs.States.{Turn}
use Rattle.runs.specs.Runs.{Earlier}
use Rattle.laws.specs.Failures.{SaysFailure}
use Rattle.laws.specs.Spent.{HasNoAddress, IsFound, MayStart, IsOver, IsBeyond}
use Rattle.laws.proofs.TimelySearches.{Passed, SomeKnown, FailsTwice, IsIdle, IsAsk, IsWaiting, AreAround, IsMarked, AreMarked, idle_at, passes_idle, waits, goes_on, adds, nesting_stays, used_up, marked_up}
use Rattle.laws.proofs.Grown.{idle_on, around_on, marks_on}
use Rattle.laws.proofs.Told.{AreTold, low_level, found_told, found_set, found_none, missed_told, local_start}

-- A cut that the zones at hand say is over the name.
looked_over : (home : Home) (n : Name) (t : ℕ) (at : Name) (ns glue : List Record) → Says home n t (local.Cut at ns glue) → IsAtOrUnder n at
looked_over home n t at ns glue says = by says.1
  where
    by : IsLooked home.zones n t (local.Cut at ns glue) → IsAtOrUnder n at
    by (inl (z, charge, is)) = is.over.over
    by (inr (none, e)) = absurd (cc)

module _ (port : ℕ) (home : Home) (run : List Turn) where
  -- A start over the name, at which a frame opens as at the cut.
  abbrev pub BeginsAt : Cut → Name → Type 0
  BeginsAt c n = (s : Cut) × MayStart port home run s × IsOver s n × ((level : Addr → ℕ) (nesting : ℕ) → opened level nesting c ≡ opened level nesting s)

  pub missed_start : (now : ℕ) (n : Name) (t : ℕ) (old new : Stores) (c : Cut) → AreTold port home run old → Misses home now n t old c new → BeginsAt c n
  missed_start now n t old new c told m = by m.what m.best m.says m.is_best m.begins
    where
      root_start : (past : List Turn) → IsRootCut home c → MayStart port home past c
      root_start [] e = inl e
      root_start (turn ∷ past) e = inl (root_start past e)

      kept : (k : Cut) → IsBest n now old.delegations (Some k) → c ≡ k → BeginsAt c n
      kept k (m, d, deepest, is) e =
          let (name, (s, start, some)) = told.cuts m d deepest.there in
          let same : c ≡ trimmed s = e ∙ (sym is ∙ some) in (
            s,
            start,
            inr (subst (IsAtOrUnder n) (name ∙ ap (λ (x : Cut). x.owner) some) deepest.over),
            λ level nesting. ap (opened level nesting) same ∙ trimmed_opens s level nesting,
          )

      at_cut : (at : Name) (ns glue : List Record) → Says home n t (local.Cut at ns glue) → IsCutOf at ns glue c → BeginsAt c n
      at_cut at ns glue says is = (c, local_start port home run n t at ns glue c says is, inr (subst (IsAtOrUnder n) (sym is.owner) (looked_over home n t at ns glue says)), λ level nesting. refl)

      by : (what : local.Local) (best : Option Cut) → Says home n t what → IsBest n now old.delegations best → Begins home n what best c → BeginsAt c n
      by (local.Linked l) best says is b = absurd b
      by (local.Cut at ns glue) None says is b = at_cut at ns glue says b
      by (local.Cut at ns glue) (Some k) says is (inl b) = kept k is b.1
      by (local.Cut at ns glue) (Some k) says is (inr b) = at_cut at ns glue says b.1
      by local.NotHere None says is b = (c, root_start run b, inl (ap (λ (x : Cut). x.owner) b), λ level nesting. refl)
      by local.NotHere (Some k) says is b = kept k is b

module _ (port : ℕ) (home : Home) (k : ℕ) (run : List Turn) (Known : Name → ℕ → Addr → Type 0) where
  -- The innermost search is so, and the others wait around it.
  abbrev pub OnTop : Name → ℕ → List Search → (Search → Type 0) → Type 0
  OnTop name kind [] P = ⊥
  OnTop name kind (s ∷ rest) P = P s × AreAround port home k run Known name kind s.name s.kind (s.frame).nesting rest

  more_marks : (fs : Failed) (n : Name) (d : ℕ) → AreMarked port home k run Known fs → IsMarked port home k run Known n d → AreMarked port home k run Known (marked fs n d)
  more_marks fs n d marks is m e c = elim (marked_only fs n d (m, e) c) [ inl h ↦ marks m e h | inr same ↦ subst (λ (x : Name × ℕ). IsMarked port home k run Known x.0 x.1) (sym same) is ]

  -- What a server's name has, or that it has none, goes to the search that waits for it.
  pub heard : (stores : Stores) (n : Name) (l : Link) (w after : Search) (failed marks : Failed) → AreTold port home run stores
      → ((set : List Record) → l ≡ Found set → IsFound port home run n set) → (((set : List Record) → l ≢ Found set) → HasNoAddress port home run n)
      → IsWaiting port home k run Known w n → AreMarked port home k run Known failed → UsesServerAddress stores n l w failed after marks
      → IsIdle port home k run Known after × AreMarked port home k run Known marks × (after.name ≡ w.name) × (after.kind ≡ w.kind) × ((after.frame).nesting ≡ (w.frame).nesting)
  heard stores n l w after failed marks told sets nones waiting marked h = elim h.is [
    | inl (set, found, is, are, new, marks_is) ↦
        let idle = adds port home k run Known (level_of stores) (low_level port home run stores told) w n waiting set found (fresh_addresses w.frame found) (added_there (level_of stores) w.frame found) (sets set is) are in (
          subst (IsIdle port home k run Known) (sym new) idle,
          subst (AreMarked port home k run Known) (sym marks_is) marked,
          ap (λ (x : Search). x.name) new,
          ap (λ (x : Search). x.kind) new,
          ap (λ (x : Search). (x.frame).nesting) new ∙ nesting_stays port home k run Known (level_of stores) (low_level port home run stores told) w n waiting (fresh_addresses w.frame found),
        )
    | inr (none, new, marks_is) ↦ (
      subst (IsIdle port home k run Known) (sym new) (goes_on port home k run Known w n waiting (λ z. inr (inr (inl (nones none))))),
      subst (AreMarked port home k run Known) (sym marks_is) (more_marks failed n 0 marked (inl (nones none))),
      ap (λ (x : Search). x.name) new,
      ap (λ (x : Search). x.kind) new,
      ap (λ (x : Search). (x.frame).nesting) new,
    )
  ]

  around_stays : (name : Name) (kind : ℕ) (rest : List Search) (m n : Name) (t u d e : ℕ) → m ≡ n → t ≡ u → d ≡ e → AreAround port home k run Known name kind n u e rest → AreAround port home k run Known name kind m t d rest
  around_stays name kind rest m n t u d e p q r h =
      subst (λ (x : Name). AreAround port home k run Known name kind x t d rest) (sym p) (subst (λ (x : ℕ). AreAround port home k run Known name kind n x d rest) (sym q)
      (subst (λ (x : ℕ). AreAround port home k run Known name kind n u x rest) (sym r) h))

  begins : (level : Addr → ℕ) (low : (a : Addr) → level a ≤ 8) (nesting : ℕ) (c : Cut) (n : Name) (t : ℕ) → BeginsAt port home run c n → IsIdle port home k run Known (search_at n t (opened level nesting c))
  begins level low nesting c n t (s, start, over, same) =
      subst (λ (f : Frame). IsIdle port home k run Known (search_at n t f)) (sym (same level nesting)) (idle_at port home k run Known level low nesting s n t start over)

module _ (port : ℕ) (home : Home) (k : ℕ) (run : List Turn) (K : Name → ℕ → Addr → Type 0) (Truncates : Addr → Name → ℕ → Type 0) where
  abbrev pub StandsBy : Task → Job → Type 0
  StandsBy Seek j = Unit {0}
  StandsBy (Take l) j = Unit {0}
  StandsBy Go j = OnTop port home k run (Passed j.skipped K) j.name j.kind j.searches (IsIdle port home k run (Passed j.skipped K))
  StandsBy (Again a) j = OnTop port home k run (Passed j.skipped K) j.name j.kind j.searches (λ s. IsAsk port home k run (Passed j.skipped K) s a × Truncates a s.name s.kind)

  pub record IsSound (p : Point) : Type 0 where
    pub told : AreTold port home run p.stores
    pub marks : AreMarked port home k run (Passed (p.job).skipped K) (p.job).failed
    pub stands : StandsBy p.task p.job
    pub known : (p.job).skipped ≡ true → SomeKnown K

  pub put : (p : Point) (t : Task) (j : Job) → p.task ≡ t → p.job ≡ j → AreTold port home run p.stores → AreMarked port home k run (Passed j.skipped K) j.failed → StandsBy t j → (j.skipped ≡ true → SomeKnown K) → IsSound p
  put p t j te je told marks stands known = record {
    told = told;
    marks = subst (λ (x : Job). AreMarked port home k run (Passed x.skipped K) x.failed) (sym je) marks;
    stands = subst (λ (y : Task). StandsBy y p.job) (sym te) (subst (StandsBy t) (sym je) stands);
    known = subst (λ (x : Job). x.skipped ≡ true → SomeKnown K) (sym je) known;
  }

  pub at_go : (p : Point) → IsSound p → p.task ≡ Go → (s : Search) (rest : List Search) → (p.job).searches ≡ s ∷ rest
      → IsIdle port home k run (Passed (p.job).skipped K) s × AreAround port home k run (Passed (p.job).skipped K) (p.job).name (p.job).kind s.name s.kind (s.frame).nesting rest
  at_go p h te s rest e = subst (λ (l : List Search). OnTop port home k run (Passed (p.job).skipped K) (p.job).name (p.job).kind l (IsIdle port home k run (Passed (p.job).skipped K))) e (subst (λ (y : Task). StandsBy y p.job) te h.stands)

  -- The search that waits goes on.
  pub heard_at : (p : Point) (n : Name) (l : Link) (w after : Search) (rest : List Search) (j : Job) (marks : Failed) → AreTold port home run p.stores
      → ((set : List Record) → l ≡ Found set → IsFound port home run n set) → (((set : List Record) → l ≢ Found set) → HasNoAddress port home run n)
      → IsWaiting port home k run (Passed j.skipped K) w n → AreAround port home k run (Passed j.skipped K) j.name j.kind w.name w.kind (w.frame).nesting rest → AreMarked port home k run (Passed j.skipped K) j.failed
      → UsesServerAddress p.stores n l w j.failed after marks → p.task ≡ Go → p.job ≡ record j { searches = after ∷ rest; failed = marks } → (j.skipped ≡ true → SomeKnown K) → IsSound p
  heard_at p n l w after rest j marks told sets nones waiting around marked h to job known =
      let (idle, more, name, kind, nesting) = heard port home k run (Passed j.skipped K) p.stores n l w after j.failed marks told sets nones waiting marked h in
      put p Go _ to job told more (idle, around_stays port home k run (Passed j.skipped K) j.name j.kind rest after.name w.name after.kind w.kind (after.frame).nesting (w.frame).nesting name kind nesting around) known

  -- What failed lately, by the stores, is known.
  abbrev pub Lately : ℕ → Type 0
  Lately now = (n : Name) (t : ℕ) (a : Addr) (since : ℕ) → Earlier (SaysFailure port n t a since) run → now - since < 30000 → K n t a

  failed_known : (now : ℕ) (s : Search) (stores : Stores) → Lately now → AreTold port home run stores → (a : Addr) → fails_now now stores.failures s a ≡ true → K s.name s.kind a
  failed_known now s stores lately told a e = let (since, there, young) = failed_was_kept now (ask_of s a) stores.failures e in lately s.name s.kind a since (told.failures (ask_of s a) since there) young

  pub rule_keeps : (now : ℕ) → Lately now → (a b : Point) → IsSound a → Rule home now a b → IsSound b
  rule_keeps now lately a b h (takes l task finds to job) =
      put b (Take l) a.job to job (found_told port home run now (a.job).name (a.job).kind a.stores b.stores l h.told finds) h.marks tt h.known
  rule_keeps now lately a b h (asks c task misses to job) =
      let told = missed_told port home run now (a.job).name (a.job).kind a.stores b.stores c h.told misses in
      let start = missed_start port home run now (a.job).name (a.job).kind a.stores b.stores c h.told misses in
      put b Go _ to job told h.marks
      (begins port home k run (Passed (a.job).skipped K) (level_of b.stores) (low_level port home run b.stores told) 0 c (a.job).name (a.job).kind start, (refl, refl, refl)) h.known
  rule_keeps now lately a b h (follows l r task is few to job stores) = put b Seek _ to job (subst (AreTold port home run) (sym stores) h.told) h.marks tt h.known
  rule_keeps now lately a b h (restarts l d front back task ending is fresh dead to job stores) = put b Seek _ to job (subst (AreTold port home run) (sym stores) h.told) h.marks tt h.known
  rule_keeps now lately a b h (skips n s t rest failures task searches passes free to job stores) =
      let here = at_go a h task s rest searches in
      let (server, next, fails) = passes_first now n s (a.stores).failures t failures passes in
      let known = failed_known now s a.stores lately h.told in
      let wider : (m : Name) (u : ℕ) (d : Addr) → Passed (a.job).skipped K m u d → Passed true K m u d = λ m u d x. (refl, x.1) in
      let first = idle_on port home run run (inl refl) k (Passed (a.job).skipped K) (Passed true K) wider s here.0 in
      let last = passes_idle port home k run (Passed true K) now (suc n) s (a.stores).failures t failures passes (λ d e. (refl, known d e)) first in
      let (name, kind) = passes_name now (suc n) s (a.stores).failures t failures passes in
      let nesting : (t.frame).nesting ≡ (s.frame).nesting = passes_keep (λ x. (x.frame).nesting ≡ (s.frame).nesting) now (suc n) s (a.stores).failures t failures (λ x e. e) passes refl in
      put b Go _ to job
      (subst (AreTold port home run) (sym stores) (record { links = h.told.links; cuts = h.told.cuts; low = h.told.low; failures = λ f since c. h.told.failures f since ((passes_members now (suc n) s (a.stores).failures t failures passes).0 (f, since) c) }))
      (marks_on port home run run (inl refl) k (Passed (a.job).skipped K) (Passed true K) wider (a.job).failed h.marks) (
        last,
        around_stays port home k run (Passed true K) (a.job).name (a.job).kind rest t.name s.name t.kind s.kind (t.frame).nesting (s.frame).nesting name kind nesting
            (around_on port home run run (inl refl) k (Passed (a.job).skipped K) (Passed true K) wider (a.job).name (a.job).kind s.name s.kind (s.frame).nesting rest here.1),
      )
      (λ e. (s.name, s.kind, server, known server fails))
  rule_keeps now lately a b h (hears before after rest n l marks task turn finds hears_of to job) =
      let here = at_go a h task before rest turn.searches in
      heard_at b n l.link (turned (a.job).failed before) after rest (looked_up a.job) marks (found_told port home run now n a_type a.stores b.stores l h.told finds)
      (λ set e. found_set port home run now n a.stores b.stores l set h.told finds e) (λ none. found_none port home run now n a.stores b.stores l h.told finds none)
      (waits port home k run (Passed (a.job).skipped K) (a.job).failed before n h.marks here.0 turn.asked_all turn.turn) here.1 h.marks hears_of to job h.known
  rule_keeps now lately a b h (descends s rest n c task turn misses to job) =
      let here = at_go a h task s rest turn.searches in
      let told = missed_told port home run now n a_type a.stores b.stores c h.told misses in
      let start = missed_start port home run now n a_type a.stores b.stores c h.told misses in
      put b Go _ to job told h.marks (
        begins port home k run (Passed (a.job).skipped K) (level_of b.stores) (low_level port home run b.stores told) ((s.frame).nesting + 1) c n a_type start,
        (refl, add-one (s.frame).nesting, waits port home k run (Passed (a.job).skipped K) (a.job).failed s n h.marks here.0 turn.asked_all turn.turn, here.1),
      ) h.known
  rule_keeps now lately a b h (gives_up s around rest task up to job stores) =
      let here = at_go a h task s (around ∷ rest) up.searches in
      let (kind, nesting, waiting, further) = here.1 in
      let mark = marked_up port home k run (Passed (a.job).skipped K) s kind (used_up port home k run (Passed (a.job).skipped K) (a.job).failed s h.marks here.0 up.asked_all up.none_left) in
      put b Go _ to job (subst (AreTold port home run) (sym stores) h.told) (more_marks port home k run (Passed (a.job).skipped K) (a.job).failed s.name (s.frame).nesting h.marks (inr mark))
      (goes_on port home k run (Passed (a.job).skipped K) around s.name waiting (λ z. inr (inr (inr (shallower (around.frame).nesting (s.frame).nesting nesting mark)))), further) h.known
    where
      shallower : (d e : ℕ) → e ≡ suc d → IsBeyond port home run (FailsTwice port home k run (Passed (a.job).skipped K)) (4 - e) s.name → IsBeyond port home run (FailsTwice port home k run (Passed (a.job).skipped K)) (3 - d) s.name
      shallower d e is b = let same : 4 - e ≡ 3 - d = omega arith in subst (λ (m : ℕ). IsBeyond port home run (FailsTwice port home k run (Passed (a.job).skipped K)) m s.name) same b

  pub rules_keep : (now : ℕ) → Lately now → (n : ℕ) (a b : Point) → IsSound a → Rules home now n a b → IsSound b
  rules_keep now lately zero a b h is = subst IsSound (sym is) h
  rules_keep now lately (suc n) a b h (mid, before, last) = rule_keeps now lately mid b (rules_keep now lately n a mid h before) last
