-- Members of the stores' lists after each call, and what a hit says by what was once kept.
use Rattle.std.proofs.Common.{◌≡◌, ℕ, ◌⊎◌, Some, List, Contains, true, subst}
use Rattle.dname.specs.Labels.{Name}
use Rattle.referral.specs.Cuts as cuts
use Rattle.referral.specs.Cuts.{Known}
use Rattle.referral.proofs.Members as delegations
use Rattle.cache.specs.Keys.{Key, key_for}
use Rattle.cache.specs.Cached.{Hit, Question, lent, hit_of, after_look, after_keep, IsKept, EntryAnswers, is_live}
use Rattle.cache.proofs.Members as links
use Rattle.cache.proofs.Members.{given_held}

-- ---- the cache

pub looked_from : (a : Question) (now : ℕ) (es : List (Key × Hit)) (e : Key × Hit) → Contains (after_look a now es) e → Contains es e
looked_from a now es e c = (links.looked_members a now es).0 e c

pub kept_from : (cap : ℕ) (q : Name) (t : ℕ) (h : Hit) (es : List (Key × Hit)) (e : Key × Hit) → Contains (after_keep cap q t h es) e → Contains es e ⊎ IsKept q t h e
kept_from cap q t h es e c = links.kept_members cap q t h es e c

-- What holds of each entry under its name and type holds of a hit's.
abbrev pub AreKept : (Name → ℕ → Hit → Type 0) → List (Key × Hit) → Type 0
AreKept P es = (k : Key) (e : Hit) → Contains es (k, e) → (n : Name) × (u : ℕ) × (k ≡ key_for n u e.link) × P n u e

pub record Tells (P : Name → ℕ → Hit → Type 0) (a : Question) (now : ℕ) (h : Hit) : Type 0 where
  pub at : Name
  pub kind : ℕ
  pub entry : Hit
  pub kept : P at kind entry
  pub answers : EntryAnswers a (key_for at kind entry.link) entry.link h.link
  pub lives : is_live now entry ≡ true
  pub ttl : h.ttl ≡ entry.ttl
  pub since : h.since ≡ entry.since

pub hit_tells : (P : Name → ℕ → Hit → Type 0) (a : Question) (now : ℕ) (es : List (Key × Hit)) (h : Hit) → AreKept P es → hit_of (lent a now es) ≡ Some h → Tells P a now h
hit_tells P a now es h told is =
    let (k, e, there, lives, answers, ttl, since) = given_held a now es h is in
    let (n, u, key, kept) = told k e there in
    record {
      at = n;
      kind = u;
      entry = e;
      kept = kept;
      answers = subst (λ (x : Key). EntryAnswers a x e.link h.link) key answers;
      lives = lives;
      ttl = ttl;
      since = since;
    }

-- ---- the delegations

pub best_from : (q : Name) (now : ℕ) (es : List (Name × Known)) (e : Name × Known) → Contains (cuts.after_best q now es) e → Contains es e
best_from q now es e c = (delegations.looked_members q now es).0 e c

pub cut_kept_from : (cap : ℕ) (k : Known) (es : List (Name × Known)) (e : Name × Known) → Contains (cuts.after_keep cap k es) e → Contains es e ⊎ cuts.IsKept k e
cut_kept_from cap k es e c = delegations.kept_members cap k es e c
