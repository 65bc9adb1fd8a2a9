-- What the steps on servers as they lie in memory are on the cuts that they stand for.
use Rattle.std.proofs.Common.{◌≡◌, ℕ, zero, suc, take, Bool, true, false, List, [], ◌∷◌, Some, None, inl, inr, refl, ap, ◌∙◌, subst}
use Rattle.std.specs.Map.{lookup}
use Rattle.lru.specs.LruCache.{LruCache, lru_cache, IsValid, promoted}
use Rattle.lru.proofs.Splits.{Contains-cons, Contains-nil}
use Rattle.dname.specs.Labels.{same_name}
use Rattle.lru_laws.specs.Stores.{stored, put_for}
use Rattle.lru_laws.proofs.Seen as stores
use Rattle.referral.specs.Cuts.{Servers, Known, known_of, shown, AreNamed, is_live, live_at, after_keep}
use Rattle.referral.proofs.Exact.{same_name_exact}

abbrev no_servers : List (List (List ℕ) × Servers)
no_servers = []

abbrev pub seen : LruCache (List (List ℕ)) Servers → LruCache (List (List ℕ)) Known
seen e = lru_cache (shown e.entries) e.cap

pub seen_as : (e : LruCache (List (List ℕ)) Servers) (es : List (List (List ℕ) × Servers)) (n : ℕ) → e ≡ lru_cache es n → seen e ≡ lru_cache (shown es) n
seen_as e es n is = ap seen is

shown_named : (es : List (List (List ℕ) × Servers)) → AreNamed (shown es)
shown_named [] x m = absurd (Contains-nil x m)
shown_named (e ∷ es) x m = elim (Contains-cons (e.0, known_of e.0 e.1) (shown es) x m) [
  | inl is ↦ subst (λ (y : List (List ℕ) × Known). (y.1.cut).owner ≡ y.0) is refl
  | inr n ↦ shown_named es x n
]

module _ (c : LruCache (List (List ℕ)) Known) (e : LruCache (List (List ℕ)) Servers) (view : seen e ≡ c) where
  pub seen_named : AreNamed c.entries
  seen_named = subst (λ (x : LruCache (List (List ℕ)) Known). AreNamed x.entries) view (shown_named e.entries)

  pub seen_valid : IsValid same_name e → IsValid same_name c
  seen_valid h = stores.seen_valid known_of same_name same_name_exact c e view h

  -- The answer r of the test of age decides.
  pub live_found : (now : ℕ) (n : List (List ℕ)) (s : Servers) (r : Bool) → lookup (same_name n) e.entries ≡ Some s → r ≡ is_live now (known_of n s) → r ≡ true → Some (known_of n s) ≡ live_at now n c.entries
  live_found now n s r found is live = stores.live_seen known_of same_name same_name_exact c e view (is_live now) n s r found is live

  pub dead_found : (now : ℕ) (n : List (List ℕ)) (s : Servers) (r : Bool) → lookup (same_name n) e.entries ≡ Some s → r ≡ is_live now (known_of n s) → r ≡ false → None ≡ live_at now n c.entries
  dead_found now n s r found is dead = stores.dead_seen known_of same_name same_name_exact c e view (is_live now) n s r found is dead

  pub none_found : (now : ℕ) (n : List (List ℕ)) → lookup (same_name n) e.entries ≡ None → None ≡ live_at now n c.entries
  none_found now n found = stores.none_seen known_of same_name same_name_exact c e view (is_live now) n found

  pub promoted_shows : (n : List (List ℕ)) (d : LruCache (List (List ℕ)) Servers) → d ≡ lru_cache (promoted (same_name n) e.entries) e.cap → seen d ≡ lru_cache (promoted (same_name n) c.entries) c.cap
  promoted_shows n d is = stores.promoted_seen known_of same_name same_name_exact c e view n d is

  pub stored_shows : (n : List (List ℕ)) (s : Servers) (ttl : ℕ) (d : LruCache (List (List ℕ)) Servers) → d ≡ lru_cache (put_for same_name e n s ttl) e.cap → ttl ≡ s.ttl
      → seen d ≡ lru_cache (after_keep c.cap (known_of n s) c.entries) c.cap
  stored_shows n s ttl d is its = stores.stored_seen known_of same_name same_name_exact c e view n s ttl d is ∙ ap (λ m. lru_cache (stored same_name c.cap n (known_of n s) m c.entries) c.cap) its

-- ---- a new store

none_taken : (m : ℕ) → take m no_servers ≡ no_servers
none_taken zero = refl
none_taken (suc m) = refl

pub resized : (c d : LruCache (List (List ℕ)) Servers) (most m : ℕ) → c ≡ lru_cache [] most → d ≡ lru_cache (take m c.entries) m → seen d ≡ lru_cache [] m
resized c d most m empty is = ap seen (is ∙ (ap (λ x. lru_cache (take m x.entries) m) empty ∙ ap (λ es. lru_cache es m) (none_taken m)))
