-- An answer is used at once, an alias stays in the chain, a referral is followed.
use Rattle.std.proofs.Common.{◌≡◌, ℕ, zero, suc, ◌≤◌, ◌⊎◌, inl, inr, false, Some, List, [], ◌∷◌, ◌++◌, Contains, refl, sym, ap, ◌∙◌, subst}
use Rattle.std.proofs.lemmas.List.Elements.{Contains-append_left, Contains-append_right}
use Rattle.lru.proofs.Splits.{Contains-head}
use Rattle.rdata.specs.Records.{Record}
use Rattle.rdata.specs.declared.addr.Addr.{Addr}
use Rattle.zone.specs.Links.{Link, Found, Alias, NoData, NxDomain}
use Rattle.causes.specs.declared.cause.Cause.{Cause}
use Rattle.classify.specs.Classes as class
use Rattle.classify.specs.Lifetimes.{received}
use Rattle.retry.specs.Penalties.{answered, AreAtMost}
use Rattle.retry.proofs.Steps.{level_low, answered_low}
use Rattle.referral.specs.Cuts.{Cut}
use Rattle.frames.specs.Frames.{Frame, opened, taken_addresses}
use Rattle.resolution.specs.Jobs.{Home, Stores, level_of, with_answer, with_told, with_frame, fails_now, next_server, Taken, received_link, is_dead, AreFresh, IsEnding, IsCutOf, Search, Job, Next, AskUdp, Done, Fail, Take, Go, Point}
use Rattle.resolution.specs.Rules.{Rule, takes, asks, follows, restarts, skips, hears, descends, gives_up, Rules, IsDue, IsDueAgain, Leaves, sends, sends_again, refuses, spent, looked_out, nowhere, too_long, done, IsReferred}
use Rattle.laws.specs.Calls.{GoesOut, ReferralIsFollowed, AnswerIsUsed, HasLink, AliasStays}
use Rattle.resolution.proofs.Falls.{found_fresh}
use Rattle.laws.proofs.FollowedLists.{fresh_both, none_dead, some_next, next_in}
use Rattle.laws.proofs.Calls.{no_rule, goes_alike, asks_first, heard}

-- ---- referrals

-- A frame that was opened for a search is asked where it has an address.
module _ (home : Home) (now : ℕ) (p last : Point) (old : Job) (s : Search) (rest : List Search) (f : Frame) (count : ℕ) (next : Next) (new : Job) (after : Stores)
    (task : p.task ≡ Go) (job : p.job ≡ record old { searches = with_frame s f ∷ rest }) (rules : Rules home now count p last) (leaves : Leaves home now last next new after) where
  pub opened_asks : (d : Addr) → next_server now after.failures (with_frame s f) ≡ Some d → GoesOut now old (AskUdp d s.name s.kind) next
  opened_asks d due =
      goes_alike now p.job old (AskUdp d s.name s.kind) next (ap (λ (j : Job). j.deadline) job) (ap (λ (j : Job). j.asks) job)
      (asks_first home now p (with_frame s f) rest d (ap (λ (j : Job). j.searches) job) task count last next new after rules leaves due)

low_after : (stores : Stores) (server a : Addr) → AreAtMost 8 stores.penalties → level_of (with_answer stores server) a ≤ 8
low_after stores server a low = level_low a (answered server stores.penalties) (answered_low server stores.penalties low)

pub referral_is_followed : ReferralIsFollowed
referral_is_followed home now input old stores next new after s rest server at ns glue ttl call told =
    by (heard now input old stores call.first s rest server (class.Referral at ns glue ttl) call.enters told)
  where
    by : IsReferred now s rest at ns glue ttl old (with_told now s server told.message stores) call.first
        → (c : Cut) × IsCutOf at ns glue c
        × ((d : Addr) → next_server now after.failures (with_frame s (opened (level_of (with_answer stores server)) (s.frame).nesting c)) ≡ Some d → Contains (taken_addresses c) d × GoesOut now old (AskUdp d s.name s.kind) next)
        × (AreAtMost 8 stores.penalties → (b : Addr) → Contains (taken_addresses c) b → fails_now now after.failures s b ≡ false
        → (d : Addr) × Contains (taken_addresses c) d × GoesOut now old (AskUdp d s.name s.kind) next)
    by is = (is.cut, is.is_cut, asked, some)
      where
        level : Addr → ℕ
        level = level_of (with_answer stores server)

        asked : (d : Addr) → next_server now after.failures (with_frame s (opened level (s.frame).nesting is.cut)) ≡ Some d → Contains (taken_addresses is.cut) d × GoesOut now old (AskUdp d s.name s.kind) next
        asked d due = (
          next_in level (fails_now now after.failures s) (taken_addresses is.cut) d due,
          opened_asks home now call.first call.last old s rest (opened level (s.frame).nesting is.cut) call.count next new after is.task is.job call.rules call.leaves d due,
        )

        some : AreAtMost 8 stores.penalties → (b : Addr) → Contains (taken_addresses is.cut) b → fails_now now after.failures s b ≡ false → (d : Addr) × Contains (taken_addresses is.cut) d × GoesOut now old (AskUdp d s.name s.kind) next
        some low b c free = let (d, due) = some_next level (fails_now now after.failures s) (taken_addresses is.cut) b c (low_after stores server b low) free in (d, (asked d due).0, (asked d due).1)

-- ---- answers

ending : (l : Link) → IsEnding l → IsEnding (received l)
ending (Found rs) h = tt
ending (Alias r) h = h
ending (NoData soa) h = tt
ending (NxDomain soa) h = tt

no_alias : (l : Link) (r : Record) → l ≡ Alias r → IsEnding l → ⊥
no_alias (Found rs) r e h = cc
no_alias (Alias x) r e h = h
no_alias (NoData soa) r e h = cc
no_alias (NxDomain soa) r e h = cc

module _ (home : Home) (now : ℕ) (p : Point) (l : Taken) (task : p.task ≡ Take l) (ends : IsEnding l.link) (fresh : AreFresh now ((p.job).chain ++ l ∷ [])) where
  end_stops : (q : Point) → Rule home now p q → ⊥
  end_stops q (takes x t f u j) = cc
  end_stops q (asks c t m u j) = cc
  end_stops q (follows x r t is few u j e) = let same : x ≡ l = cc in no_alias l.link r (ap (λ (y : Taken). y.link) (sym same) ∙ is) ends
  end_stops q (restarts x d front back t is whole alive dead u j e) =
      let same : x ≡ l = cc in
      none_dead now front back d (subst (AreFresh now) (ap (λ (y : Taken). (p.job).chain ++ y ∷ []) (sym same) ∙ whole) fresh) dead
  end_stops q (skips n x v others failures t f passes well u j e) = cc
  end_stops q (hears before around others n x marks t turn f h u j) = cc
  end_stops q (descends x others n c t turn m u j) = cc
  end_stops q (gives_up x around others t up u j e) = cc

  end_leaves : (next : Next) (new : Job) (after : Stores) → Leaves home now p next new after → next ≡ Done (p.job).chain l
  end_leaves next new after (sends x y others is may n j e) = let a = is.task in absurd (cc)
  end_leaves next new after (sends_again x y others is may n j e) = let a = is.task in absurd (cc)
  end_leaves next new after (refuses c x y others is refused n e) = due is
    where
      due : IsDue now p x y others ⊎ IsDueAgain p x y others → next ≡ Done (p.job).chain l
      due (inl d) = let a = d.task in absurd (cc)
      due (inr d) = let a = d.task in absurd (cc)
  end_leaves next new after (spent x t up n e) = absurd (cc)
  end_leaves next new after (looked_out x others m t out n e) = absurd (cc)
  end_leaves next new after (nowhere t none n e) = elim t [ inl g ↦ absurd (cc) | inr g ↦ let a = g.1 in absurd (cc) ]
  end_leaves next new after (too_long x r t is long n e) = let same : x ≡ l = cc in absurd (no_alias l.link r (ap (λ (y : Taken). y.link) (sym same) ∙ is) ends)
  end_leaves next new after (done x t is alive n e) = cc

  pub end_is_used : (count : ℕ) (last : Point) (next : Next) (new : Job) (after : Stores) → Rules home now count p last → Leaves home now last next new after → next ≡ Done (p.job).chain l
  end_is_used count last next new after rules leaves =
      end_leaves next new after (subst (λ (q : Point). Leaves home now q next new after) (no_rule home now count p last end_stops rules) leaves)

pub answer_is_used : AnswerIsUsed
answer_is_used home now input old stores next new after s server l call told ends fresh =
    let (task, job, learnt) = heard now input old stores call.first s [] server (class.Answer l) call.enters told in
    let chain : old.chain ≡ ((call.first).job).chain = ap (λ (j : Job). j.chain) (sym job) in
    end_is_used home now call.first (received_link s.name l now) task (ending l ends)
    (subst (λ (ls : List Taken). AreFresh now (ls ++ received_link s.name l now ∷ [])) chain (fresh_both now old.chain (received_link s.name l now) fresh refl))
    call.count call.last next new after call.rules call.leaves
    ∙ ap (λ (ls : List Taken). Done ls (received_link s.name l now)) (sym chain)

-- ---- aliases

module _ (home : Home) (now : ℕ) (l : Taken) (r : Record) (alias : l.link ≡ Alias r) (alive : is_dead now l ≡ false) where
  -- What has been taken lives, and the alias is taken or in the chain.
  pub record Holds (p : Point) : Type 0 where
    pub fresh : AreFresh now (p.job).chain
    pub taken : (x : Taken) → p.task ≡ Take x → is_dead now x ≡ false
    pub there : (p.task ≡ Take l) ⊎ Contains (p.job).chain l

  holds_rule : (a b : Point) → Holds a → Rule home now a b → Holds b
  holds_rule a b h (takes x t f u j) = record {
    fresh = subst (λ (k : Job). AreFresh now k.chain) (sym j) h.fresh;
    taken = λ y e. let same : x ≡ y = cc in ap (is_dead now) (sym same) ∙ found_fresh home now (a.job).name (a.job).kind a.stores x b.stores f;
    there = elim h.there [ inl e ↦ absurd (cc) | inr c ↦ inr (subst (λ (k : Job). Contains k.chain l) (sym j) c) ];
  }
  holds_rule a b h (asks c t m u j) = record {
    fresh = subst (λ (k : Job). AreFresh now k.chain) (sym j) h.fresh;
    taken = λ y e. absurd (cc);
    there = elim h.there [ inl e ↦ absurd (cc) | inr d ↦ inr (subst (λ (k : Job). Contains k.chain l) (sym j) d) ];
  }
  holds_rule a b h (follows x s t is few u j e) = record {
    fresh = subst (λ (k : Job). AreFresh now k.chain) (sym j) (fresh_both now (a.job).chain x h.fresh (h.taken x t));
    taken = λ y f. absurd (cc);
    there = inr (subst (λ (k : Job). Contains k.chain l) (sym j) (elim h.there [
      | inl f ↦ let same : x ≡ l = cc in Contains-append_right (a.job).chain (x ∷ []) l (subst (Contains (x ∷ [])) same (Contains-head x []))
      | inr c ↦ Contains-append_left (a.job).chain (x ∷ []) l c
    ]));
  }
  holds_rule a b h (restarts x d front back t is whole fresh dead u j e) =
      absurd (none_dead now front back d (subst (AreFresh now) whole (fresh_both now (a.job).chain x h.fresh (h.taken x t))) dead)
  holds_rule a b h (skips n s v others failures t f passes well u j e) = record {
    fresh = subst (λ (k : Job). AreFresh now k.chain) (sym j) h.fresh;
    taken = λ y g. absurd (cc);
    there = elim h.there [ inl g ↦ absurd (cc) | inr d ↦ inr (subst (λ (k : Job). Contains k.chain l) (sym j) d) ];
  }
  holds_rule a b h (hears before around others n x marks t turn f g u j) = record {
    fresh = subst (λ (k : Job). AreFresh now k.chain) (sym j) h.fresh;
    taken = λ y e. absurd (cc);
    there = elim h.there [ inl e ↦ absurd (cc) | inr d ↦ inr (subst (λ (k : Job). Contains k.chain l) (sym j) d) ];
  }
  holds_rule a b h (descends x others n c t turn m u j) = record {
    fresh = subst (λ (k : Job). AreFresh now k.chain) (sym j) h.fresh;
    taken = λ y e. absurd (cc);
    there = elim h.there [ inl e ↦ absurd (cc) | inr d ↦ inr (subst (λ (k : Job). Contains k.chain l) (sym j) d) ];
  }
  holds_rule a b h (gives_up x around others t up u j e) = record {
    fresh = subst (λ (k : Job). AreFresh now k.chain) (sym j) h.fresh;
    taken = λ y f. absurd (cc);
    there = elim h.there [ inl f ↦ absurd (cc) | inr d ↦ inr (subst (λ (k : Job). Contains k.chain l) (sym j) d) ];
  }

  pub holds_rules : (n : ℕ) (a b : Point) → Holds a → Rules home now n a b → Holds b
  holds_rules zero a b h e = subst Holds (sym e) h
  holds_rules (suc n) a b h (mid, more, rule) = holds_rule mid b (holds_rules n a mid h more) rule

  -- Where servers are due, the alias is in the chain.
  in_chain : (p : Point) → Holds p → (p.task ≡ Take l → ⊥) → Contains (p.job).chain l
  in_chain p h other = elim h.there [ inl e ↦ absurd (other e) | inr c ↦ c ]

  pub holds_leaves : (p : Point) (next : Next) (new : Job) (after : Stores) → Holds p → Leaves home now p next new after → HasLink next new l ⊎ ((c : Cause) × (next ≡ Fail c))
  holds_leaves p next new after h (sends x y others is may n j e) = let t = is.task in
      inl (subst (λ (k : Next). HasLink k new l) (sym n) (subst (λ (k : Job). Contains k.chain l) (sym j) (in_chain p h (λ f. cc))))
  holds_leaves p next new after h (sends_again x y others is may n j e) = let t = is.task in
      inl (subst (λ (k : Next). HasLink k new l) (sym n) (subst (λ (k : Job). Contains k.chain l) (sym j) (in_chain p h (λ f. cc))))
  holds_leaves p next new after h (refuses c x y others is refused n e) = inr (c, n)
  holds_leaves p next new after h (spent x t up n e) = inr (_, n)
  holds_leaves p next new after h (looked_out x others m t out n e) = inr (_, n)
  holds_leaves p next new after h (nowhere t none n e) = inr (_, n)
  holds_leaves p next new after h (too_long x s t is long n e) = inr (_, n)
  holds_leaves p next new after h (done x t is fresh n e) =
      inl (subst (λ (k : Next). HasLink k new l) (sym n) (in_chain p h (λ f. let same : x ≡ l = cc in no_alias l.link r alias (subst (λ (y : Taken). IsEnding y.link) same is))))

pub alias_stays : AliasStays
alias_stays home now input old stores next new after s server r call told fresh =
    let (task, job, learnt) = heard now input old stores call.first s [] server (class.Answer (Alias r)) call.enters told in
    let first : Holds home now (received_link s.name (Alias r) now) _ refl refl call.first = record {
      fresh = subst (λ (k : Job). AreFresh now k.chain) (sym job) fresh;
      taken = λ x e. let same : received_link s.name (Alias r) now ≡ x = cc in ap (is_dead now) (sym same);
      there = inl task;
    } in
    holds_leaves home now (received_link s.name (Alias r) now) _ refl refl call.last next new after
    (holds_rules home now (received_link s.name (Alias r) now) _ refl refl call.count call.first call.last first call.rules) call.leaves
