-- Keys beside the hash of their name, by which the entries of a cache are found.
use Rattle.std.specs.Prelude.{◌≡◌, ℕ, Bool, ◌&&◌, nat_eq, List}
use Rattle.std.specs.List.{fold}
use Rattle.dname.specs.Laws.{fed_name}
use Rattle.lru.specs.LruCache.{LruCache}
use Rattle.lru_laws.specs.Orders.{rekeyed}
use Rattle.cache.specs.Keys.{Slot, Key, same_key}
use Rattle.cache.specs.Cached.{Hit}

pub record HashedKey : Type 0 where
  pub name : List (List ℕ)
  pub slot : Slot
  pub hash : ℕ

-- The key without the hash.
abbrev pub plain : HashedKey → Key
plain k = record { name = k.name; slot = k.slot }

abbrev pub same_hashed : HashedKey → HashedKey → Bool
same_hashed a b = same_key (plain a) (plain b) && nat_eq a.hash b.hash

-- The key with the hash of its name.
abbrev pub hashed : (List (List ℕ) → ℕ) → Key → HashedKey
hashed hash_of k = record { name = k.name; slot = k.slot; hash = hash_of k.name }

abbrev pub IsHashed : (List (List ℕ) → ℕ) → HashedKey → Type 0
IsHashed hash_of k = k.hash ≡ hash_of k.name

-- The entries without hashes.
abbrev pub unhashed : {V : Type 0} → List (HashedKey × V) → List (Key × V)
unhashed es = rekeyed plain es

-- The key of each entry has the hash of its name.
abbrev pub AreHashed : {V : Type 0} → (List (List ℕ) → ℕ) → List (HashedKey × V) → Type 0
AreHashed hash_of es = es ≡ rekeyed (hashed hash_of) (unhashed es)

-- The entries as contracts see them, and what hashes their names.
pub record Entries (S : Type 0) : Type 0 where
  pub lru : LruCache Key Hit
  pub hasher : S

-- The hash of a name: what is written to a hasher of this state, and how that finishes.
abbrev pub name_hash : {H : Type 0} → (H → List ℕ → H) → (H → ℕ) → H → List (List ℕ) → ℕ
name_hash write finish start n = finish (fold write start (fed_name n))
