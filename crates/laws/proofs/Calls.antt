-- Where a server is due no rule applies, so what goes out is its ask.
use Rattle.std.proofs.Common.{◌≡◌, ℕ, zero, suc, ◌≤◌, ◌<◌, ◌⊎◌, inl, inr, true, false, Option, Some, None, List, ◌∷◌, refl, sym, ap, ◌∙◌, subst}
use Rattle.dname.specs.Labels.{Name}
use Rattle.rdata.specs.declared.addr.Addr.{Addr}
use Rattle.lru_laws.proofs.Kept.{by_test}
use Rattle.cache.specs.Failures.{FailedAsk, failed_ask, is_failed}
use Rattle.classify.specs.Classes as class
use Rattle.classify.specs.Classes.{class_of}
use Rattle.classify.specs.declared.class.Failure.{Failure}
use Rattle.retry.specs.Plans.{upcoming, advanced}
use Rattle.resolution.specs.Jobs.{Home, Stores, with_timeout, with_told, Search, given, fails_now, left_of, first_without, next_server, Job, Input, Told, TimedOut, TcpFailed, Next, AskUdp, AskTcp, Go, Again, Point, point}
use Rattle.resolution.specs.Rules.{IsFree, Rule, takes, asks, follows, restarts, skips, hears, descends, gives_up, Rules, Enters, ByClass, IsDue, IsDueAgain, Leaves, sends, sends_again, refuses, spent, looked_out, nowhere, too_long, done}
use Rattle.resolution.proofs.Passing.{passes_first, passes_keep, passes_name, passes_next, left_first, none_left, first_free}
use Rattle.runs.specs.Steps.{IsAsk}
use Rattle.laws.specs.Calls.{AcceptsReply, IsLost, GoesOut, with_given, IsGivenOf, NextIsAsked, TruncatedIsRepeated, AskedDidNotFail}
use Rattle.laws.proofs.Skipped.{rules_front, next_at}

module _ (home : Home) (now : ℕ) where
  -- Where no rule applies, none was taken.
  pub no_rule : (n : ℕ) (p b : Point) → ((q : Point) → Rule home now p q → ⊥) → Rules home now n p b → b ≡ p
  no_rule zero p b none e = e
  no_rule (suc n) p b none (mid, more, rule) = absurd (none b (subst (λ (q : Point). Rule home now q b) (no_rule n p mid none more) rule))

  module _ (p : Point) (s : Search) (rest : List Search) (searches : (p.job).searches ≡ s ∷ rest) where
    -- ---- an address of the plan is due

    module _ (d : Addr) (task : p.task ≡ Go) (due : upcoming (s.frame).plan ≡ Some d) where
      -- It failed lately, or no rule applies.
      due_stops : fails_now now (p.stores).failures s d ≡ false → (q : Point) → Rule home now p q → ⊥
      due_stops free q (takes l t f u j) = cc
      due_stops free q (asks c t m u j) = cc
      due_stops free q (follows l r t is few u j e) = cc
      due_stops free q (restarts l x front back t is whole fresh dead u j e) = cc
      due_stops free q (skips n x v others failures t e passes well u j st) =
          let (server, next, fails) = passes_first now n x (p.stores).failures v failures passes in
          let same : x ≡ s = cc in
          let first : Some server ≡ Some d = sym next ∙ (ap (λ (y : Search). upcoming (y.frame).plan) same ∙ due) in
          let one : server ≡ d = cc in
          let both : true ≡ false = sym fails ∙ ((λ i. fails_now now (p.stores).failures (same i) (one i)) ∙ free) in
          cc
      due_stops free q (hears before around others n l marks t turn f h u j) = let a = turn.searches in let b = turn.asked_all in cc
      due_stops free q (descends x others n c t turn m u j) = let a = turn.searches in let b = turn.asked_all in cc
      due_stops free q (gives_up x around others t up u j e) = let a = up.searches in let b = up.asked_all in cc

      due_leaves : (next : Next) (new : Job) (after : Stores) → Leaves home now p next new after → GoesOut now p.job (AskUdp d s.name s.kind) next
      due_leaves next new after (sends server x others is may n j e) = let a = is.searches in let b = is.next in inl (may, cc)
      due_leaves next new after (sends_again server x others is may n j e) = let a = is.task in absurd (cc)
      due_leaves next new after (refuses c server x others is refused n e) = inr (c, refused, n)
      due_leaves next new after (spent x t up n e) = let a = up.searches in let b = up.asked_all in absurd (cc)
      due_leaves next new after (looked_out x others m t out n e) = let a = out.searches in let b = out.asked_all in absurd (cc)
      due_leaves next new after (nowhere t none n e) = absurd (cc)
      due_leaves next new after (too_long l r t is long n e) = absurd (cc)
      due_leaves next new after (done l t is fresh n e) = absurd (cc)

      asks_next : fails_now now (p.stores).failures s d ≡ false → (count : ℕ) (last : Point) (next : Next) (new : Job) (after : Stores) → Rules home now count p last → Leaves home now last next new after
          → GoesOut now p.job (AskUdp d s.name s.kind) next
      asks_next free count last next new after rules leaves =
          due_leaves next new after (subst (λ (q : Point). Leaves home now q next new after) (no_rule count p last (due_stops free) rules) leaves)

      -- One that failed lately is not asked.
      failed_leaves : fails_now now (p.stores).failures s d ≡ true → (next : Next) (new : Job) (after : Stores) → Leaves home now p next new after → ⊥
      failed_leaves fails next new after (sends server x others is may n j e) = not_due server x others is
        where
          not_due : (server : Addr) (x : Search) (others : List Search) → IsDue now p server x others → ⊥
          not_due server x others is =
              let a = is.searches in
              let same : x ≡ s = cc in
              let first : Some server ≡ Some d = sym is.next ∙ (ap (λ (y : Search). upcoming (y.frame).plan) same ∙ due) in
              let one : server ≡ d = cc in
              let both : true ≡ false = sym fails ∙ ((λ i. fails_now now (p.stores).failures (sym same i) (sym one i)) ∙ is.free) in
              cc
      failed_leaves fails next new after (sends_again server x others is may n j e) = let a = is.task in cc
      failed_leaves fails next new after (refuses c server x others is refused n e) = either is
        where
          either : IsDue now p server x others ⊎ IsDueAgain p server x others → ⊥
          either (inl due_now) =
              let a = due_now.searches in
              let same : x ≡ s = cc in
              let first : Some server ≡ Some d = sym due_now.next ∙ (ap (λ (y : Search). upcoming (y.frame).plan) same ∙ due) in
              let one : server ≡ d = cc in
              let both : true ≡ false = sym fails ∙ ((λ i. fails_now now (p.stores).failures (sym same i) (sym one i)) ∙ due_now.free) in
              cc
          either (inr due_again) = let a = due_again.task in cc
      failed_leaves fails next new after (spent x t up n e) = let a = up.searches in let b = up.asked_all in cc
      failed_leaves fails next new after (looked_out x others m t out n e) = let a = out.searches in let b = out.asked_all in cc
      failed_leaves fails next new after (nowhere t none n e) = cc
      failed_leaves fails next new after (too_long l r t is long n e) = cc
      failed_leaves fails next new after (done l t is fresh n e) = cc

    -- ---- a server is to be asked again over TCP

    module _ (server : Addr) (task : p.task ≡ Again server) where
      again_stops : (q : Point) → Rule home now p q → ⊥
      again_stops q (takes l t f u j) = cc
      again_stops q (asks c t m u j) = cc
      again_stops q (follows l r t is few u j e) = cc
      again_stops q (restarts l x front back t is whole fresh dead u j e) = cc
      again_stops q (skips n x v others failures t e passes well u j st) = cc
      again_stops q (hears before around others n l marks t turn f h u j) = cc
      again_stops q (descends x others n c t turn m u j) = cc
      again_stops q (gives_up x around others t up u j e) = cc

      again_leaves : (next : Next) (new : Job) (after : Stores) → Leaves home now p next new after → GoesOut now p.job (AskTcp server s.name s.kind) next
      again_leaves next new after (sends x y others is may n j e) = let a = is.task in absurd (cc)
      again_leaves next new after (sends_again x y others is may n j e) = let a = is.task in let b = is.searches in inl (may, cc)
      again_leaves next new after (refuses c x y others is refused n e) = inr (c, refused, n)
      again_leaves next new after (spent x t up n e) = absurd (cc)
      again_leaves next new after (looked_out x others m t out n e) = absurd (cc)
      again_leaves next new after (nowhere t none n e) = absurd (cc)
      again_leaves next new after (too_long l r t is long n e) = absurd (cc)
      again_leaves next new after (done l t is fresh n e) = absurd (cc)

      pub asks_again : (count : ℕ) (last : Point) (next : Next) (new : Job) (after : Stores) → Rules home now count p last → Leaves home now last next new after → GoesOut now p.job (AskTcp server s.name s.kind) next
      asks_again count last next new after rules leaves =
          again_leaves next new after (subst (λ (q : Point). Leaves home now q next new after) (no_rule count p last again_stops rules) leaves)

-- Whether an ask may go out hangs on the deadline and the number of asks alone.
pub goes_alike : (now : ℕ) (j k : Job) (ask next : Next) → j.deadline ≡ k.deadline → j.asks ≡ k.asks → GoesOut now j ask next → GoesOut now k ask next
goes_alike now j k ask next d n (inl (may, is)) = inl (record { early = subst (λ (x : ℕ). now < x) d may.early; few = subst (λ (x : ℕ). x < 40) n may.few }, is)
goes_alike now j k ask next d n (inr (c, inl (late, past), is)) = inr (c, inl (late, subst (λ (x : ℕ). x ≤ now) d past), is)
goes_alike now j k ask next d n (inr (c, inr (many, early, past), is)) = inr (c, inr (many, subst (λ (x : ℕ). now < x) d early, subst (λ (x : ℕ). 40 ≤ x) n past), is)

-- Whom a search asks next: none where its plan is at its end, and the address that comes next where that did not fail.
nobody_next : (now : ℕ) (fs : List (FailedAsk × ℕ)) (s : Search) (d : Addr) → upcoming (s.frame).plan ≡ None → next_server now fs s ≡ Some d → ⊥
nobody_next now fs s d none is = let e : None ≡ Some d = sym (ap (first_without (fails_now now fs s)) (none_left (s.frame).plan none)) ∙ is in cc

free_next : (now : ℕ) (fs : List (FailedAsk × ℕ)) (s : Search) (a d : Addr) → upcoming (s.frame).plan ≡ Some a → fails_now now fs s a ≡ false → next_server now fs s ≡ Some d → a ≡ d
free_next now fs s a d next free is =
    let e : Some a ≡ Some d = sym (ap (first_without (fails_now now fs s)) (left_first (s.frame).plan a next) ∙ first_free (fails_now now fs s) a (left_of (advanced (s.frame).plan)) free) ∙ is in
    cc

module _ (home : Home) (now : ℕ) where
  -- A search whose next address did not fail lately asks it.
  free_asks : (p : Point) (s : Search) (rest : List Search) (d : Addr) → (p.job).searches ≡ s ∷ rest → p.task ≡ Go → IsFree now s (p.stores).failures → next_server now (p.stores).failures s ≡ Some d
      → (count : ℕ) (last : Point) (next : Next) (new : Job) (after : Stores) → Rules home now count p last → Leaves home now last next new after → GoesOut now p.job (AskUdp d s.name s.kind) next
  free_asks p s rest d searches task free is count last next new after rules leaves = by (upcoming (s.frame).plan) refl
    where
      by : (o : Option Addr) → upcoming (s.frame).plan ≡ o → GoesOut now p.job (AskUdp d s.name s.kind) next
      by None e = absurd (nobody_next now (p.stores).failures s d e is)
      by (Some a) e =
          let same : a ≡ d = free_next now (p.stores).failures s a d e (free a e) is in
          subst (λ (x : Addr). GoesOut now p.job (AskUdp x s.name s.kind) next) same (asks_next home now p s rest searches a task e (free a e) count last next new after rules leaves)

  -- Where some are passed over first, the rule for that is applied, and then it is asked.
  module _ (p : Point) (s : Search) (rest : List Search) (searches : (p.job).searches ≡ s ∷ rest) (a d : Addr) (task : p.task ≡ Go) (due : upcoming (s.frame).plan ≡ Some a)
      (is : next_server now (p.stores).failures s ≡ Some d) where
    skipped_asks : (count : ℕ) (mid last : Point) (next : Next) (new : Job) (after : Stores) → Rule home now p mid → Rules home now count mid last → Leaves home now last next new after
        → GoesOut now p.job (AskUdp d s.name s.kind) next
    skipped_asks count mid last next new after (takes l t f u j) rules leaves = absurd (cc)
    skipped_asks count mid last next new after (asks c t m u j) rules leaves = absurd (cc)
    skipped_asks count mid last next new after (follows l r t x few u j e) rules leaves = absurd (cc)
    skipped_asks count mid last next new after (restarts l x front back t ends whole fresh dead u j e) rules leaves = absurd (cc)
    skipped_asks count mid last next new after (skips n x v others failures t e passes well u j st) rules leaves =
        let same : x ≡ s = cc in
        let (name, kind) = passes_name now (suc n) x (p.stores).failures v failures passes in
        let held : (mid.stores).failures ≡ failures = ap (λ (z : Stores). z.failures) st in
        let stays : next_server now (mid.stores).failures v ≡ Some d
        = ap (λ fs. next_server now fs v) held ∙ (passes_next now (suc n) x (p.stores).failures v failures passes ∙ (ap (next_server now (p.stores).failures) same ∙ is)) in
        let free : IsFree now v (mid.stores).failures = subst (IsFree now v) (sym held) well in
        let goes = free_asks mid v others d (ap (λ (i : Job). i.searches) j) u free stays count last next new after rules leaves in
        let at_s : (v.name ≡ s.name) × (v.kind ≡ s.kind) = (name ∙ ap (λ (y : Search). y.name) same, kind ∙ ap (λ (y : Search). y.kind) same) in
        goes_alike now mid.job p.job (AskUdp d s.name s.kind) next (ap (λ (i : Job). i.deadline) j) (ap (λ (i : Job). i.asks) j)
        (subst (λ (m : Name). GoesOut now mid.job (AskUdp d m s.kind) next) at_s.0 (subst (λ (w : ℕ). GoesOut now mid.job (AskUdp d v.name w) next) at_s.1 goes))
    skipped_asks count mid last next new after (hears before around others n l marks t turn f h u j) rules leaves = let x = turn.searches in let y = turn.asked_all in absurd (cc)
    skipped_asks count mid last next new after (descends x others n c t turn m u j) rules leaves = let y = turn.searches in let z = turn.asked_all in absurd (cc)
    skipped_asks count mid last next new after (gives_up x around others t up u j e) rules leaves = let y = up.searches in let z = up.asked_all in absurd (cc)

    failed_asks : fails_now now (p.stores).failures s a ≡ true → (count : ℕ) (last : Point) (next : Next) (new : Job) (after : Stores) → Rules home now count p last → Leaves home now last next new after
        → GoesOut now p.job (AskUdp d s.name s.kind) next
    failed_asks fails zero last next new after e leaves =
        absurd (failed_leaves home now p s rest searches a task due fails next new after (subst (λ (q : Point). Leaves home now q next new after) e leaves))
    failed_asks fails (suc n) last next new after rules leaves =
        let (mid, rule, more) = rules_front home now n p last rules in
        skipped_asks n mid last next new after rule more leaves

  -- A search asks whom it asks next.
  pub asks_first : (p : Point) (s : Search) (rest : List Search) (d : Addr) → (p.job).searches ≡ s ∷ rest → p.task ≡ Go
      → (count : ℕ) (last : Point) (next : Next) (new : Job) (after : Stores) → Rules home now count p last → Leaves home now last next new after
      → next_server now after.failures s ≡ Some d → GoesOut now p.job (AskUdp d s.name s.kind) next
  asks_first p s rest d searches task count last next new after rules leaves after_is = by (upcoming (s.frame).plan) refl
    where
      is : next_server now (p.stores).failures s ≡ Some d
      is = sym (next_at home now p last count next new after rules leaves s) ∙ after_is

      by : (o : Option Addr) → upcoming (s.frame).plan ≡ o → GoesOut now p.job (AskUdp d s.name s.kind) next
      by None e = absurd (nobody_next now (p.stores).failures s d e is)
      by (Some a) e = by_test (fails_now now (p.stores).failures s a)
          (λ fails. failed_asks p s rest searches a d task e is fails count last next new after rules leaves)
          (λ free. subst (λ (x : Addr). GoesOut now p.job (AskUdp x s.name s.kind) next) (free_next now (p.stores).failures s a d e free is) (asks_next home now p s rest searches a task e free count last next new after rules leaves))

-- ---- what the job shows of a search that asks

given_of_itself : (s : Search) → IsGivenOf s s
given_of_itself s = (((s.frame).plan).given, refl)

given_step : (s x : Search) → IsGivenOf s x → IsGivenOf s (given x)
given_step s x (n, e) = (((given x).frame.plan).given, ap given e ∙ λ i. with_given (((given (sym e i)).frame.plan).given) s)

module _ (home : Home) (now : ℕ) where
  -- Who asks over UDP is shown with one address more given out.
  sends_shown : (p : Point) (s : Search) (rest : List Search) → (p.job).searches ≡ s ∷ rest → p.task ≡ Go → (next : Next) (new : Job) (after : Stores) → Leaves home now p next new after
      → IsAsk next → new.searches ≡ given s ∷ rest
  sends_shown p s rest searches task next new after (sends server x others is may n j e) goes =
      let a = is.searches in
      let same : x ≡ s = cc in
      let more : others ≡ rest = cc in
      ap (λ (k : Job). k.searches) j ∙ λ i. given (same i) ∷ more i
  sends_shown p s rest searches task next new after (sends_again server x others is may n j e) goes = let a = is.task in absurd (cc)
  sends_shown p s rest searches task next new after (refuses c server x others is refused n e) goes = absurd (subst IsAsk n goes)
  sends_shown p s rest searches task next new after (spent x t up n e) goes = absurd (subst IsAsk n goes)
  sends_shown p s rest searches task next new after (looked_out x others m t out n e) goes = absurd (subst IsAsk n goes)
  sends_shown p s rest searches task next new after (nowhere t none n e) goes = absurd (subst IsAsk n goes)
  sends_shown p s rest searches task next new after (too_long l r t is long n e) goes = absurd (subst IsAsk n goes)
  sends_shown p s rest searches task next new after (done l t is fresh n e) goes = absurd (subst IsAsk n goes)

  free_shown : (p : Point) (s : Search) (rest : List Search) (d : Addr) → (p.job).searches ≡ s ∷ rest → p.task ≡ Go → IsFree now s (p.stores).failures → next_server now (p.stores).failures s ≡ Some d
      → (count : ℕ) (last : Point) (next : Next) (new : Job) (after : Stores) → Rules home now count p last → Leaves home now last next new after → IsAsk next → new.searches ≡ given s ∷ rest
  free_shown p s rest d searches task free is count last next new after rules leaves goes = by (upcoming (s.frame).plan) refl
    where
      by : (o : Option Addr) → upcoming (s.frame).plan ≡ o → new.searches ≡ given s ∷ rest
      by None e = absurd (nobody_next now (p.stores).failures s d e is)
      by (Some a) e =
          sends_shown p s rest searches task next new after
          (subst (λ (q : Point). Leaves home now q next new after) (no_rule home now count p last (due_stops home now p s rest searches a task e (free a e)) rules) leaves) goes

  abbrev IsShown : Search → List Search → Job → Type 0
  IsShown s rest new = (u : Search) × IsGivenOf s u × (new.searches ≡ u ∷ rest)

  module _ (p : Point) (s : Search) (rest : List Search) (searches : (p.job).searches ≡ s ∷ rest) (a d : Addr) (task : p.task ≡ Go) (due : upcoming (s.frame).plan ≡ Some a)
      (is : next_server now (p.stores).failures s ≡ Some d) where
    skipped_shown : (count : ℕ) (mid last : Point) (next : Next) (new : Job) (after : Stores) → Rule home now p mid → Rules home now count mid last → Leaves home now last next new after
        → IsAsk next → IsShown s rest new
    skipped_shown count mid last next new after (takes l t f u j) rules leaves goes = absurd (cc)
    skipped_shown count mid last next new after (asks c t m u j) rules leaves goes = absurd (cc)
    skipped_shown count mid last next new after (follows l r t x few u j e) rules leaves goes = absurd (cc)
    skipped_shown count mid last next new after (restarts l x front back t ends whole fresh dead u j e) rules leaves goes = absurd (cc)
    skipped_shown count mid last next new after (skips n x v others failures t e passes well u j st) rules leaves goes =
        let same : x ≡ s = cc in
        let more : others ≡ rest = cc in
        let held : (mid.stores).failures ≡ failures = ap (λ (z : Stores). z.failures) st in
        let stays : next_server now (mid.stores).failures v ≡ Some d
        = ap (λ fs. next_server now fs v) held ∙ (passes_next now (suc n) x (p.stores).failures v failures passes ∙ (ap (next_server now (p.stores).failures) same ∙ is)) in
        let free : IsFree now v (mid.stores).failures = subst (IsFree now v) (sym held) well in
        let shown = free_shown mid v others d (ap (λ (i : Job). i.searches) j) u free stays count last next new after rules leaves goes in
        let passed : IsGivenOf s v = passes_keep (IsGivenOf s) now (suc n) x (p.stores).failures v failures (given_step s) passes (subst (IsGivenOf s) (sym same) (given_of_itself s)) in
        (given v, given_step s v passed, shown ∙ λ i. given v ∷ more i)
    skipped_shown count mid last next new after (hears before around others n l marks t turn f h u j) rules leaves goes = let x = turn.searches in let y = turn.asked_all in absurd (cc)
    skipped_shown count mid last next new after (descends x others n c t turn m u j) rules leaves goes = let y = turn.searches in let z = turn.asked_all in absurd (cc)
    skipped_shown count mid last next new after (gives_up x around others t up u j e) rules leaves goes = let y = up.searches in let z = up.asked_all in absurd (cc)

    failed_shown : fails_now now (p.stores).failures s a ≡ true → (count : ℕ) (last : Point) (next : Next) (new : Job) (after : Stores) → Rules home now count p last → Leaves home now last next new after
        → IsAsk next → IsShown s rest new
    failed_shown fails zero last next new after e leaves goes =
        absurd (failed_leaves home now p s rest searches a task due fails next new after (subst (λ (q : Point). Leaves home now q next new after) e leaves))
    failed_shown fails (suc n) last next new after rules leaves goes =
        let (mid, rule, more) = rules_front home now n p last rules in
        skipped_shown n mid last next new after rule more leaves goes

  -- Where a search asks whom it asks next, it is the innermost that the job shows.
  pub first_shown : (p : Point) (s : Search) (rest : List Search) (d : Addr) → (p.job).searches ≡ s ∷ rest → p.task ≡ Go
      → (count : ℕ) (last : Point) (next : Next) (new : Job) (after : Stores) → Rules home now count p last → Leaves home now last next new after
      → next_server now after.failures s ≡ Some d → IsAsk next → IsShown s rest new
  first_shown p s rest d searches task count last next new after rules leaves after_is goes = by (upcoming (s.frame).plan) refl
    where
      is : next_server now (p.stores).failures s ≡ Some d
      is = sym (next_at home now p last count next new after rules leaves s) ∙ after_is

      by : (o : Option Addr) → upcoming (s.frame).plan ≡ o → IsShown s rest new
      by None e = absurd (nobody_next now (p.stores).failures s d e is)
      by (Some a) e = by_test (fails_now now (p.stores).failures s a)
          (λ fails. failed_shown p s rest searches a d task e is fails count last next new after rules leaves goes)
          (λ free. (
            given s,
            given_step s s (given_of_itself s),
            sends_shown p s rest searches task next new after
                (subst (λ (q : Point). Leaves home now q next new after) (no_rule home now count p last (due_stops home now p s rest searches a task e free) rules) leaves) goes,
          ))

-- Over UDP no server is asked that failed lately.
pub asked_did_not_fail : AskedDidNotFail
asked_did_not_fail home now input old stores next new after server n t call is = by call.leaves
  where
    by : Leaves home now call.last next new after → is_failed now (failed_ask n t server) after.failures ≡ false
    by (sends a s others due may sent j e) =
        let asked : AskUdp a s.name s.kind ≡ AskUdp server n t = sym sent ∙ is in
        let whom : a ≡ server = cc in
        let name : s.name ≡ n = cc in
        let kind : s.kind ≡ t = cc in
        ap (λ (x : Stores). is_failed now (failed_ask n t server) x.failures) e
        ∙ ((λ i. is_failed now (failed_ask (sym name i) (sym kind i) (sym whom i)) ((call.last).stores).failures) ∙ due.free)
    by (sends_again a s others due may sent j e) = absurd (cc)
    by (refuses c a s others due refused sent e) = absurd (cc)
    by (spent s u up sent e) = absurd (cc)
    by (looked_out s others m u out sent e) = absurd (cc)
    by (nowhere u none sent e) = absurd (cc)
    by (too_long l r u alias long sent e) = absurd (cc)
    by (done l u ends fresh sent e) = absurd (cc)

-- ---- how what comes in is taken up

-- A message for the innermost search, by its class.
pub heard : (now : ℕ) (input : Input) (old : Job) (stores : Stores) (p : Point) (s : Search) (rest : List Search) (server : Addr) (c : class.Class)
    → Enters now input old stores p → (h : AcceptsReply old input s rest server c) → ByClass now server s rest c old (with_told now s server h.message stores) p
heard now input old stores p s rest server c e h = by (subst (λ (i : Input). Enters now i old stores p) h.told e)
  where
    by : Enters now (Told h.via server h.message) old stores p → ByClass now server s rest c old (with_told now s server h.message stores) p
    by (inl (none, is)) = let a = h.searches in absurd (cc)
    by (inr (x, others, is, taken)) =
        let same : x ≡ s = let a = h.searches in cc in
        let more : others ≡ rest = let a = h.searches in cc in
        let put : ByClass now server s rest (class_of (s.frame).zone s.name s.kind h.via h.message) old (with_told now s server h.message stores) p
        = let first = subst (λ (y : Search). ByClass now server y others (class_of (y.frame).zone y.name y.kind h.via h.message) old (with_told now y server h.message stores) p) same taken in
        subst (λ (ys : List Search). ByClass now server s ys (class_of (s.frame).zone s.name s.kind h.via h.message) old (with_told now s server h.message stores) p) more first in
        subst (λ (k : class.Class). ByClass now server s rest k old (with_told now s server h.message stores) p) h.is_class put

-- An ask that came to nothing: servers are due, and the job is as it was.
pub lost_goes : (now : ℕ) (input : Input) (old : Job) (stores : Stores) (p : Point) (s : Search) (rest : List Search)
    → Enters now input old stores p → IsLost old input s rest → (after : Stores) × (p ≡ point Go old after)
lost_goes now input old stores p s rest e h = by h.lost
  where
    by : (input ≡ TimedOut h.server) ⊎ ((input ≡ TcpFailed h.server) ⊎ ((f : Failure) × AcceptsReply old input s rest h.server (class.Failed f))) → (after : Stores) × (p ≡ point Go old after)
    by (inl is) = (with_timeout stores h.server, subst (λ (i : Input). Enters now i old stores p) is e)
    by (inr (inl is)) = (with_timeout stores h.server, subst (λ (i : Input). Enters now i old stores p) is e)
    by (inr (inr (f, told))) = (with_told now s h.server told.message stores, heard now input old stores p s rest h.server (class.Failed f) e told)

pub next_is_asked : NextIsAsked
next_is_asked home now input old stores next new after s rest server call lost due =
    let (left, is) = lost_goes now input old stores call.first s rest call.enters lost in
    let job : (call.first).job ≡ old = ap (λ (q : Point). q.job) is in
    let task : (call.first).task ≡ Go = ap (λ (q : Point). q.task) is in
    subst (λ (j : Job). GoesOut now j (AskUdp server s.name s.kind) next) job
    (asks_first home now call.first s rest server (ap (λ (j : Job). j.searches) job ∙ lost.searches) task call.count call.last next new after call.rules call.leaves due)

pub truncated_is_repeated : TruncatedIsRepeated
truncated_is_repeated home now input old stores next new after s rest server call short =
    let is = heard now input old stores call.first s rest server class.Truncated call.enters short in
    let job : (call.first).job ≡ old = ap (λ (q : Point). q.job) is in
    let task : (call.first).task ≡ Again server = ap (λ (q : Point). q.task) is in
    subst (λ (j : Job). GoesOut now j (AskTcp server s.name s.kind) next) job
    (asks_again home now call.first s rest (ap (λ (j : Job). j.searches) job ∙ short.searches) server task call.count call.last next new after call.rules call.leaves)
