-- Stores whose entries live for a time: what is found in one, and what is left of it.
use Rattle.std.specs.Prelude.{ℕ, Bool, cond, nat_eq, Option, Some, None, List}
use Rattle.std.specs.Map.{lookup, remove_entry}
use Rattle.lru.specs.LruCache.{LruCache, put_entries}
use Rattle.lru_laws.specs.Orders.{kept, used}

module _ {K V : Type 0} where
  -- A value, and the key under which it stands.
  abbrev pub under : K → Option V → Option (K × V)
  under k None = None
  under k (Some v) = Some (k, v)

  -- The first of the two that is there.
  abbrev pub or_else : Option (K × V) → Option (K × V) → Option (K × V)
  or_else None later = later
  or_else (Some found) later = Some found

module _ {V : Type 0} (lives : V → Bool) where
  abbrev pub live_from : Option V → Option V
  live_from None = None
  live_from (Some v) = cond (lives v) (Some v) None

module _ {K V : Type 0} (same : K → K → Bool) where
  -- What is kept under the key and lives.
  abbrev pub live_at : (V → Bool) → K → List (K × V) → Option V
  live_at lives k es = live_from lives (lookup (same k) es)

  -- The entry that was found goes first.
  abbrev pub moved : Option (K × V) → List (K × V) → List (K × V)
  moved None es = es
  moved (Some found) es = used same found.0 es

  -- The value goes first under its key; with TTL 0 it is not kept, and what stood under its key goes.
  abbrev pub stored : ℕ → K → V → ℕ → List (K × V) → List (K × V)
  stored cap k v ttl es = cond (nat_eq ttl 0) (remove_entry (same k) es) (kept same cap k v es)

  -- The same in the words of `lru`, where equality of keys need not be exact.
  abbrev pub put_for : LruCache K V → K → V → ℕ → List (K × V)
  put_for e k v ttl = cond (nat_eq ttl 0) (remove_entry (same k) e.entries) (put_entries same e k v)
