-- Where a chain is held, the rules walk along it and nowhere else.
use Rattle.std.proofs.Common.{◌≡◌, ℕ, zero, suc, ◌≤◌, ◌⊎◌, inl, inr, false, Option, Some, List, [], ◌∷◌, ◌++◌, length, sym, ap, ◌∙◌, subst, arith, length-append, append_assoc}
use Rattle.std.specs.Map.{lookup}
use Rattle.std.proofs.lemmas.List.{append-nil}
use Rattle.dname.specs.Labels.{Name}
use Rattle.rdata.specs.Records.{Record}
use Rattle.zone.specs.Links.{Link, Found, Alias, NoData, NxDomain}
use Rattle.zone.specs.Look as local
use Rattle.authority.specs.Catalogs.{looked}
use Rattle.front.specs.Chains.{alias_target}
use Rattle.referral.specs.Cuts.{Cut}
use Rattle.cache.specs.Keys.{Key, same_key}
use Rattle.cache.specs.Cached.{Hit, lent, hit_of}
use Rattle.resolution.specs.Jobs.{Home, Stores, Taken, local_link, kept_link, is_dead, AreFresh, IsEnding, Job, Next, Done, Task, Seek, Take, Go, Again, Point}
use Rattle.resolution.specs.Rules.{Says, IsRemote, asked_of, Hits, Finds, Begins, Misses, Rule, takes, asks, follows, restarts, skips, hears, descends, gives_up, Rules, Leaves, sends, sends_again, refuses, spent, looked_out, nowhere, too_long, done}
use Rattle.resolution.specs.Held.{Holds, IsHeldChain}
use Rattle.resolution.proofs.Falls.{found_fresh}
use Rattle.laws.proofs.FollowedLists.{fresh_both, none_dead}
use Rattle.laws.proofs.KeptEntries.{moved_looks, same_lent}

-- ---- what is held is one

not_remote : (home : Home) (n : Name) (t : ℕ) (link : Link) → looked home.zones n t ≡ local.Linked link → IsRemote home n t → ⊥
not_remote home n t link e (inl (c, ns, glue, says)) = let f = says.0 in cc
not_remote home n t link e (inr says) = let f = says.0 in cc

one_some : {X : Type 0} {x y : X} → Some x ≡ Some y → x ≡ y
one_some e = cc

pub one_held : (home : Home) (now t : ℕ) (es : List (Key × Hit)) (n : Name) (k l : Taken) → Holds home now t es n k → Holds home now t es n l → k ≡ l
one_held home now t es n k l (inl (x, says, is)) (inl (y, so, was)) =
    let same : x ≡ y = let a = says.0 in let b = so.0 in cc in is ∙ (ap (local_link n) same ∙ sym was)
one_held home now t es n k l (inl (x, says, is)) (inr (remote, hit)) = absurd (not_remote home n t x says.0 remote)
one_held home now t es n k l (inr (remote, hit)) (inl (y, so, was)) = absurd (not_remote home n t y so.0 remote)
one_held home now t es n k l (inr (remote, (g, found, is))) (inr (far, (h, had, was))) =
    is ∙ (ap (kept_link n) (one_some (sym found ∙ had)) ∙ sym was)

-- The entries give the same answers.
pub record SameLooks (es fs : List (Key × Hit)) : Type 0 where
  pub looks : (k : Key) → lookup (same_key k) fs ≡ lookup (same_key k) es

module _ (home : Home) (now t : ℕ) (es : List (Key × Hit)) where
  found_held : (n : Name) (old : Stores) (l : Taken) (new : Stores) → SameLooks es old.cache → Finds home now n t old l new → Holds home now t es n l
  found_held n old l new same f = by f.is
    where
      by : ((k : Link) × Says home n t (local.Linked k) × (l ≡ local_link n k) × (new ≡ old)) ⊎ ((hit : Hit) × Hits home now n t old l hit new) → Holds home now t es n l
      by (inl (k, says, is, stays)) = inl (k, says, is)
      by (inr (hit, h)) = inr (h.remote, (hit, ap hit_of (sym (same_lent (asked_of home n t) now es old.cache same.looks)) ∙ h.found, h.link))

  found_looks : (n : Name) (old : Stores) (l : Taken) (new : Stores) → SameLooks es old.cache → Finds home now n t old l new → SameLooks es new.cache
  found_looks n old l new same f = by f.is
    where
      by : ((k : Link) × Says home n t (local.Linked k) × (l ≡ local_link n k) × (new ≡ old)) ⊎ ((hit : Hit) × Hits home now n t old l hit new) → SameLooks es new.cache
      by (inl (k, says, is, stays)) = subst (λ (x : Stores). SameLooks es x.cache) (sym stays) same
      by (inr (hit, h)) = subst (λ (x : Stores). SameLooks es x.cache) (sym h.stores)
          (record { looks = λ k. moved_looks (lent (asked_of home n t) now old.cache) old.cache k ∙ same.looks k })

  held_no_miss : (n : Name) (old : Stores) (l : Taken) (c : Cut) (new : Stores) → SameLooks es old.cache → Holds home now t es n l → Misses home now n t old c new → ⊥
  held_no_miss n old l c new same (inl (link, says, is)) m = begun m.what (sym says.0 ∙ (m.says).0) m.best m.begins
    where
      begun : (what : local.Local) → local.Linked link ≡ what → (best : Option Cut) → Begins home n what best c → ⊥
      begun (local.Linked x) e best b = b
      begun (local.Cut at ns glue) e best b = cc
      begun local.NotHere e best b = cc
  held_no_miss n old l c new same (inr (remote, (h, found, is))) m =
      let some : hit_of (lent (asked_of home n t) now old.cache) ≡ Some h = ap hit_of (same_lent (asked_of home n t) now es old.cache same.looks) ∙ found in
      let none = m.miss in absurd (cc)

  module _ (chain : List Taken) (last : Taken) (few : length chain ≤ 8) where
    -- The walk is at a place of the chain: a name of it is sought, or its link is used.
    abbrev IsAt : Task → Job → Type 0
    IsAt Seek j = (rest : List Taken) × (j.chain ++ rest ≡ chain) × IsHeldChain home now t es j.name rest last
    IsAt (Take l) j =
        ((rest : List Taken) × (r : Record) × (j.chain ++ l ∷ rest ≡ chain) × (l.link ≡ Alias r) × IsHeldChain home now t es (alias_target r) rest last)
        ⊎ ((j.chain ≡ chain) × (l ≡ last) × IsEnding l.link)
    IsAt Go j = ⊥
    IsAt (Again server) j = ⊥

    abbrev IsLive : Task → Type 0
    IsLive Seek = Unit {0}
    IsLive (Take l) = is_dead now l ≡ false
    IsLive Go = Unit {0}
    IsLive (Again server) = Unit {0}

    pub record IsAlong (p : Point) : Type 0 where
      pub kind : (p.job).kind ≡ t
      pub looks : SameLooks es (p.stores).cache
      pub fresh : AreFresh now (p.job).chain
      pub live : IsLive p.task
      pub at : IsAt p.task p.job

    no_alias : (l : Link) (r : Record) → l ≡ Alias r → IsEnding l → ⊥
    no_alias (Found rs) r e h = cc
    no_alias (Alias x) r e h = h
    no_alias (NoData soa) r e h = cc
    no_alias (NxDomain soa) r e h = cc

    at_take : (j : Job) (l : Taken) (rest : List Taken) → j.chain ++ rest ≡ chain → IsHeldChain home now t es j.name rest last → Holds home now t es j.name l → IsAt (Take l) j
    at_take j l [] e (holds, ends) h =
        let same : last ≡ l = one_held home now t es j.name last l holds h in
        inr (sym (append-nil j.chain) ∙ e, sym same, subst (λ (x : Taken). IsEnding x.link) same ends)
    at_take j l (x ∷ rest) e (holds, (r, is, more)) h =
        let same : x ≡ l = one_held home now t es j.name x l holds h in
        inl (rest, r, ap (λ (y : Taken). j.chain ++ y ∷ rest) (sym same) ∙ e, ap (λ (y : Taken). y.link) (sym same) ∙ is, more)

    first_held : (n : Name) (rest : List Taken) → IsHeldChain home now t es n rest last → (l : Taken) × Holds home now t es n l
    first_held n [] h = (last, h.0)
    first_held n (x ∷ rest) h = (x, h.0)

    along_rule : (a b : Point) → IsAlong a → Rule home now a b → IsAlong b
    along_rule a b h (takes l task f u j) =
        let at : IsAt Seek a.job = subst (λ (x : Task). IsAt x a.job) task h.at in
        let found : Finds home now (a.job).name t a.stores l b.stores = subst (λ (k : ℕ). Finds home now (a.job).name k a.stores l b.stores) h.kind f in
        record {
          kind = ap (λ (x : Job). x.kind) j ∙ h.kind;
          looks = found_looks (a.job).name a.stores l b.stores h.looks found;
          fresh = subst (λ (x : Job). AreFresh now x.chain) (sym j) h.fresh;
          live = subst IsLive (sym u) (found_fresh home now (a.job).name t a.stores l b.stores found);
          at = subst (λ (x : Task). IsAt x b.job) (sym u) (subst (IsAt (Take l)) (sym j)
              (at_take a.job l at.0 at.1 at.2 (found_held (a.job).name a.stores l b.stores h.looks found)));
        }
    along_rule a b h (asks c task m u j) =
        let at : IsAt Seek a.job = subst (λ (x : Task). IsAt x a.job) task h.at in
        let first = first_held (a.job).name at.0 at.2 in
        absurd (held_no_miss (a.job).name a.stores first.0 c b.stores h.looks first.1 (subst (λ (k : ℕ). Misses home now (a.job).name k a.stores c b.stores) h.kind m))
    along_rule a b h (follows l r task is less u j e) =
        record {
          kind = ap (λ (x : Job). x.kind) j ∙ h.kind;
          looks = subst (λ (x : Stores). SameLooks es x.cache) (sym e) h.looks;
          fresh = subst (λ (x : Job). AreFresh now x.chain) (sym j) (fresh_both now (a.job).chain l h.fresh (subst IsLive task h.live));
          live = subst IsLive (sym u) tt;
          at = subst (λ (x : Task). IsAt x b.job) (sym u) (subst (IsAt Seek) (sym j) (on (subst (λ (x : Task). IsAt x a.job) task h.at)));
        }
      where
        on : IsAt (Take l) a.job → IsAt Seek (record a.job { chain = (a.job).chain ++ l ∷ []; name = alias_target r })
        on (inl (rest, s, whole, alias, more)) =
            let same : s ≡ r = cc in
            (rest, append_assoc (a.job).chain (l ∷ []) rest ∙ whole, subst (λ (x : Record). IsHeldChain home now t es (alias_target x) rest last) same more)
        on (inr (whole, end, ends)) = absurd (no_alias l.link r is ends)
    along_rule a b h (restarts l d front back task ends whole fresh dead u j e) =
        absurd (none_dead now front back d (subst (AreFresh now) whole (fresh_both now (a.job).chain l h.fresh (subst IsLive task h.live))) dead)
    along_rule a b h (skips n s u rest failures task searches passes free v j e) = absurd (subst (λ (x : Task). IsAt x a.job) task h.at)
    along_rule a b h (hears before around rest n l marks task turn f g u j) = absurd (subst (λ (x : Task). IsAt x a.job) task h.at)
    along_rule a b h (descends s rest n c task turn m u j) = absurd (subst (λ (x : Task). IsAt x a.job) task h.at)
    along_rule a b h (gives_up s around rest task up u j e) = absurd (subst (λ (x : Task). IsAt x a.job) task h.at)

    along_rules : (n : ℕ) (a b : Point) → IsAlong a → Rules home now n a b → IsAlong b
    along_rules zero a b h e = subst IsAlong (sym e) h
    along_rules (suc n) a b h (mid, more, rule) = along_rule mid b (along_rules n a mid h more) rule

    along_leaves : (p : Point) (next : Next) (new : Job) (after : Stores) → IsAlong p → Leaves home now p next new after → next ≡ Done chain last
    along_leaves p next new after h (sends x y others is may n j e) = absurd (subst (λ (x : Task). IsAt x p.job) is.task h.at)
    along_leaves p next new after h (sends_again x y others is may n j e) = absurd (subst (λ (x : Task). IsAt x p.job) is.task h.at)
    along_leaves p next new after h (refuses c x y others is refused n e) = absurd (elim is [
      | inl d ↦ subst (λ (x : Task). IsAt x p.job) d.task h.at
      | inr d ↦ subst (λ (x : Task). IsAt x p.job) d.task h.at
    ])
    along_leaves p next new after h (spent x task up n e) = absurd (subst (λ (x : Task). IsAt x p.job) task h.at)
    along_leaves p next new after h (looked_out x others m task out n e) = absurd (subst (λ (x : Task). IsAt x p.job) task h.at)
    along_leaves p next new after h (nowhere is none n e) = absurd (elim is [
      | inl d ↦ subst (λ (x : Task). IsAt x p.job) d h.at
      | inr d ↦ subst (λ (x : Task). IsAt x p.job) d.1 h.at
    ])
    along_leaves p next new after h (too_long l r task is long n e) = by (subst (λ (x : Task). IsAt x p.job) task h.at)
      where
        by : IsAt (Take l) p.job → next ≡ Done chain last
        by (inl (rest, s, whole, alias, more)) =
            let all : length ((p.job).chain ++ l ∷ rest) ≡ length chain = ap length whole in
            let parts = length-append (p.job).chain (l ∷ rest) in absurd (omega arith)
        by (inr (whole, end, ends)) = absurd (no_alias l.link r is ends)
    along_leaves p next new after h (done l task is fresh n e) = by (subst (λ (x : Task). IsAt x p.job) task h.at)
      where
        by : IsAt (Take l) p.job → next ≡ Done chain last
        by (inl (rest, s, whole, alias, more)) = absurd (no_alias l.link s alias is)
        by (inr (whole, end, ends)) = n ∙ (λ i. Done (whole i) (end i))

    pub walks_along : (count : ℕ) (a b : Point) (next : Next) (new : Job) (after : Stores) → IsAlong a → Rules home now count a b → Leaves home now b next new after → next ≡ Done chain last
    walks_along count a b next new after h rules leaves = along_leaves b next new after (along_rules count a b h rules) leaves
