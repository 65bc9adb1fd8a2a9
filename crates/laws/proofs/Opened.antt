-- Rules change no penalty, and what they look up changes no start: a frame stands as it was opened.
use Rattle.std.proofs.Common.{◌≡◌, ℕ, zero, suc, ◌+◌, ◌⊎◌, inl, inr, Option, Some, None, List, [], ◌∷◌, refl, sym, ap, ◌∙◌, subst}
use Rattle.std.specs.Map.{lookup}
use Rattle.dname.specs.Labels.{Name, same_name}
use Rattle.rdata.specs.declared.addr.Addr.{Addr}
use Rattle.zone.specs.Zones.{a_type}
use Rattle.zone.specs.Links.{Link}
use Rattle.zone.specs.Look.{Linked}
use Rattle.lru_laws.proofs.Kept.{used_found}
use Rattle.retry.specs.Penalties.{penalty}
use Rattle.referral.specs.Cuts.{Cut, Known, nearest, moved, Lives, IsBest}
use Rattle.referral.proofs.Exact.{same_name_exact}
use Rattle.referral.proofs.Steps.{moved_same}
use Rattle.cache.specs.Cached.{Hit}
use Rattle.frames.specs.Frames.{opened}
use Rattle.resolution.specs.Jobs.{Home, Stores, level_of, Taken, local_link, Search, search_at, next_server, Job, Next, AskUdp, Go, Point}
use Rattle.resolution.specs.Rules.{Says, turned, Hits, Finds, Misses, Rule, takes, asks, follows, restarts, skips, hears, descends, gives_up, Rules, Leaves}
use Rattle.runs.specs.Steps.{IsAsk}
use Rattle.laws.specs.Calls.{GoesOut, IsGivenOf, Opening, StartsSearch, FramesOpenRightly}
use Rattle.laws.proofs.Calls.{goes_alike, asks_first, first_shown}
use Rattle.laws.proofs.Skipped.{same_after}

abbrev Cuts : Type 0
Cuts = List (Name × Known)

-- ---- a look-up moves a cut and changes no other

moved_looks : (a : Option (Name × Known)) (es : Cuts) (n : Name) → lookup (same_name n) (moved a es) ≡ lookup (same_name n) es
moved_looks None es n = refl
moved_looks (Some a) es n = used_found same_name same_name_exact a.0 n es

lives_before : (a : Option (Name × Known)) (now : ℕ) (es : Cuts) (n : Name) (k : Known) → Lives now (moved a es) n k → Lives now es n k
lives_before a now es n k h = (sym (moved_looks a es n) ∙ h.0, h.1)

pub best_kept : (q : Name) (now : ℕ) (es : Cuts) (a : Option (Name × Known)) (best : Option Cut) → IsBest q now es best → IsBest q now (moved a es) best
best_kept q now es a None h = λ m j some lives over. h m j some (lives_before a now es m j lives) over
best_kept q now es a (Some c) (n, k, deepest, is) = (
  n,
  k,
  record {
    there = (moved_same a es).1 (n, k) deepest.there;
    lives = (moved_looks a es n ∙ (deepest.lives).0, (deepest.lives).1);
    over = deepest.over;
    deepest = λ m j lives over. deepest.deepest m j (lives_before a now es m j lives) over;
  },
  is,
)

-- ---- what rules leave of the stores

module _ (home : Home) (now : ℕ) where
  -- The penalties are the same, and so is each start.
  pub record StartsSo (old new : Stores) : Type 0 where
    pub penalties : new.penalties ≡ old.penalties
    pub best : (q : Name) (b : Option Cut) → IsBest q now old.delegations b → IsBest q now new.delegations b

  starts_same : (old new : Stores) → new ≡ old → StartsSo old new
  starts_same old new e = subst (StartsSo old) (sym e) (record { penalties = refl; best = λ q b h. h })

  starts_found : (n : Name) (t : ℕ) (old : Stores) (l : Taken) (new : Stores) → Finds home now n t old l new → StartsSo old new
  starts_found n t old l new f = by f.is
    where
      by : ((k : Link) × Says home n t (Linked k) × (l ≡ local_link n k) × (new ≡ old)) ⊎ ((hit : Hit) × Hits home now n t old l hit new) → StartsSo old new
      by (inl (k, says, is, same)) = starts_same old new same
      by (inr (hit, h)) = subst (StartsSo old) (sym h.stores) (record { penalties = refl; best = λ q b x. x })

  starts_missed : (n : Name) (t : ℕ) (old : Stores) (c : Cut) (new : Stores) → Misses home now n t old c new → StartsSo old new
  starts_missed n t old c new m = subst (StartsSo old) (sym m.stores)
      (record { penalties = refl; best = λ q b x. best_kept q now old.delegations (nearest n now old.delegations) b x })

  starts_rule : (a b : Point) → Rule home now a b → StartsSo a.stores b.stores
  starts_rule a b (takes l t f u j) = starts_found _ _ a.stores l b.stores f
  starts_rule a b (asks c t m u j) = starts_missed _ _ a.stores c b.stores m
  starts_rule a b (follows l r t is few u j e) = starts_same a.stores b.stores e
  starts_rule a b (restarts l d front back t is whole fresh dead u j e) = starts_same a.stores b.stores e
  starts_rule a b (skips n s u rest failures t searches passes free v j e) = subst (StartsSo a.stores) (sym e) (record { penalties = refl; best = λ q b x. x })
  starts_rule a b (hears before around rest n l marks t turn f h u j) = starts_found _ _ a.stores l b.stores f
  starts_rule a b (descends s rest n c t turn m u j) = starts_missed _ _ a.stores c b.stores m
  starts_rule a b (gives_up s around rest t up u j e) = starts_same a.stores b.stores e

  pub starts_rules : (n : ℕ) (a b : Point) → Rules home now n a b → StartsSo a.stores b.stores
  starts_rules zero a b e = starts_same a.stores b.stores (ap (λ (p : Point). p.stores) e)
  starts_rules (suc n) a b (mid, more, rule) =
      let before = starts_rules n a mid more in
      let here = starts_rule mid b rule in
      record { penalties = here.penalties ∙ before.penalties; best = λ q c h. here.best q c (before.best q c h) }

  -- A frame that was opened at the cut of a miss, and what follows.
  module _ (a b last : Point) (count : ℕ) (next : Next) (new : Job) (after : Stores) (n : Name) (t d : ℕ) (c : Cut) (rest : List Search)
      (task : b.task ≡ Go) (m : Misses home now n t a.stores c b.stores) (job : (b.job).searches ≡ search_at n t (opened (level_of b.stores) d c) ∷ rest)
      (deadline : (b.job).deadline ≡ (a.job).deadline) (number : (b.job).asks ≡ (a.job).asks)
      (rules : Rules home now count b last) (leaves : Leaves home now last next new after) where
    later : StartsSo b.stores after
    later = subst (StartsSo b.stores) (sym (same_after home now last next new after leaves)) (starts_rules count b last rules)

    level : level_of b.stores ≡ level_of after
    level = λ i x. penalty x (sym later.penalties i)

    pub start_stands : StartsSearch home now n t after c
    start_stands = record { what = m.what; says = m.says; best = m.best; is_best = later.best n m.best ((starts_missed n t a.stores c b.stores m).best n m.best m.is_best); begins = m.begins }

    pub frame_stands : (more : List Search) × ((b.job).searches ≡ search_at n t (opened (level_of after) d c) ∷ more)
    frame_stands = (rest, job ∙ ap (λ (f : Addr → ℕ). search_at n t (opened f d c) ∷ rest) level)

    pub first_is_asked : (x : Addr) → next_server now after.failures (search_at n t (opened (level_of after) d c)) ≡ Some x
        → GoesOut now a.job (AskUdp x n t) next
        × (IsAsk next → (sought : Search) × (more : List Search) × IsGivenOf (search_at n t (opened (level_of after) d c)) sought × (new.searches ≡ sought ∷ more))
    first_is_asked x due =
        let due_then : next_server now after.failures (search_at n t (opened (level_of b.stores) d c)) ≡ Some x = ap (λ (f : Addr → ℕ). next_server now after.failures (search_at n t (opened f d c))) level ∙ due in
        let s : Search = search_at n t (opened (level_of b.stores) d c) in (
          goes_alike now b.job a.job (AskUdp x n t) next deadline number (asks_first home now b s rest x job task count last next new after rules leaves due_then),
          λ goes.
              let (sought, of, is) = first_shown home now b s rest x job task count last next new after rules leaves due_then goes in
              (sought, rest, subst (λ (f : Addr → ℕ). IsGivenOf (search_at n t (opened f d c)) sought) level of, is),
        )

pub frames_open_rightly : FramesOpenRightly
frames_open_rightly home now a b last count next new after (takes l t f u j) o rules leaves is = absurd (cc)
frames_open_rightly home now a b last count next new after (follows l r t i few u j e) o rules leaves is = absurd (cc)
frames_open_rightly home now a b last count next new after (restarts l d front back t i whole fresh dead u j e) o rules leaves is = absurd (cc)
frames_open_rightly home now a b last count next new after (skips n s u rest failures t searches passes free v j e) o rules leaves is = absurd (cc)
frames_open_rightly home now a b last count next new after (hears before around rest n l marks t turn f h u j) o rules leaves is = absurd (cc)
frames_open_rightly home now a b last count next new after (gives_up s around rest t up u j e) o rules leaves is = absurd (cc)
frames_open_rightly home now a b last count next new after (asks c t m u j) o rules leaves is =
    let same : record { name = (a.job).name; kind = (a.job).kind; nesting = 0; cut = c } ≡ o = cc in
    let P : Opening → Type 0 = λ p. StartsSearch home now p.name p.kind after p.cut × ((rest : List Search) × ((b.job).searches ≡ search_at p.name p.kind (opened (level_of after) p.nesting p.cut) ∷ rest))
    × ((d : Addr) → next_server now after.failures (search_at p.name p.kind (opened (level_of after) p.nesting p.cut)) ≡ Some d → GoesOut now a.job (AskUdp d p.name p.kind) next
    × (IsAsk next → (sought : Search) × (rest : List Search) × IsGivenOf (search_at p.name p.kind (opened (level_of after) p.nesting p.cut)) sought × (new.searches ≡ sought ∷ rest))) in
    let searches : (b.job).searches ≡ search_at (a.job).name (a.job).kind (opened (level_of b.stores) 0 c) ∷ [] = ap (λ (k : Job). k.searches) j in
    let deadline : (b.job).deadline ≡ (a.job).deadline = ap (λ (k : Job). k.deadline) j in
    let number : (b.job).asks ≡ (a.job).asks = ap (λ (k : Job). k.asks) j in
    subst P same (
      start_stands home now a b last count next new after (a.job).name (a.job).kind 0 c [] u m searches deadline number rules leaves,
      frame_stands home now a b last count next new after (a.job).name (a.job).kind 0 c [] u m searches deadline number rules leaves,
      first_is_asked home now a b last count next new after (a.job).name (a.job).kind 0 c [] u m searches deadline number rules leaves,
    )
frames_open_rightly home now a b last count next new after (descends s rest n c t turn m u j) o rules leaves is =
    let same : record { name = n; kind = a_type; nesting = (s.frame).nesting + 1; cut = c } ≡ o = cc in
    let P : Opening → Type 0 = λ p. StartsSearch home now p.name p.kind after p.cut × ((rest : List Search) × ((b.job).searches ≡ search_at p.name p.kind (opened (level_of after) p.nesting p.cut) ∷ rest))
    × ((d : Addr) → next_server now after.failures (search_at p.name p.kind (opened (level_of after) p.nesting p.cut)) ≡ Some d → GoesOut now a.job (AskUdp d p.name p.kind) next
    × (IsAsk next → (sought : Search) × (rest : List Search) × IsGivenOf (search_at p.name p.kind (opened (level_of after) p.nesting p.cut)) sought × (new.searches ≡ sought ∷ rest))) in
    let more : List Search = turned (a.job).failed s ∷ rest in
    let searches : (b.job).searches ≡ search_at n a_type (opened (level_of b.stores) ((s.frame).nesting + 1) c) ∷ more = ap (λ (k : Job). k.searches) j in
    let deadline : (b.job).deadline ≡ (a.job).deadline = ap (λ (k : Job). k.deadline) j in
    let number : (b.job).asks ≡ (a.job).asks = ap (λ (k : Job). k.asks) j in
    subst P same (
      start_stands home now a b last count next new after n a_type ((s.frame).nesting + 1) c more u m searches deadline number rules leaves,
      frame_stands home now a b last count next new after n a_type ((s.frame).nesting + 1) c more u m searches deadline number rules leaves,
      first_is_asked home now a b last count next new after n a_type ((s.frame).nesting + 1) c more u m searches deadline number rules leaves,
    )
