-- What the steps on links as they lie in memory are on the links that they stand for.
use Rattle.std.proofs.Common.{◌≡◌, ℕ, ◌<◌, Bool, true, false, List, [], ◌∷◌, map, length, get_or, Option, Some, None, sym, ap, ◌∙◌, subst, arith}
use Rattle.std.specs.Prelude.{option_map, Result, Ok, Err, OnOk, OnErr}
use Rattle.std.specs.Map.{lookup, remove_entry}
use Rattle.lru.specs.LruCache.{LruCache, lru_cache, IsValid, promoted}
use Rattle.dname.specs.Labels.{same_name}
use Rattle.dname.specs.Laws.{same_name-exact}
use Rattle.rdata.specs.Data.{Datum}
use Rattle.rdata.specs.Kept.{datum}
use Rattle.rdata.specs.Records.{Record}
use Rattle.rdata.specs.Rows.{plain_rows, first_in}
use Rattle.rdata.specs.declared.data.RData.{RData}
use Rattle.zone.specs.Links.{Found, Alias}
use Rattle.lru_laws.specs.Stores as stores
use Rattle.lru_laws.specs.Stores.{put_for}
use Rattle.lru_laws.proofs.Seen.{seen_valid, live_seen, dead_seen, none_seen, popped_seen, promoted_seen, stored_seen}
use Rattle.lru_laws.specs.Orders.{rekeyed}
use Rattle.cache.specs.Hashed.{Entries, HashedKey, plain, same_hashed, hashed, IsHashed, unhashed, AreHashed}
use Rattle.cache.specs.Keys.{Key, same_key}
use Rattle.cache.specs.Cached.{Hit, as_alias, is_live, live_at, stored}
use Rattle.cache.specs.Packed.{Packed, owned, hit_of_packed, unpacked}
use Rattle.cache.specs.Laws.{same_key_exact}
use Rattle.cache.proofs.Hashed.{bare_is, are_hashed, looked, removed_is, promoted_is, stored_is, valid_bare}

-- An alias of the key's name is known without its owner.
pub alias_is : (q : List (List ℕ)) (r : Record) (d : Datum) → same_name r.owner q ≡ true → d ≡ r.value → owned q r.ttl d ≡ r
alias_is q r d e v = λ i. record { owner = sym (same_name-exact r.owner q e) i; ttl = r.ttl; value = v i }

-- A set of the key's name is known without its owner.
pub set_without : (q o : List (List ℕ)) (t : ℕ) (ds es : List Datum) (set : List Record) → same_name o q ≡ true → plain_rows o t ds ≡ set → es ≡ ds → map (owned q t) es ≡ set
set_without q o t ds es set e is same = ap (map (owned q t)) same ∙ (ap (λ (n : List (List ℕ)). plain_rows n t ds) (sym (same_name-exact o q e)) ∙ is)

-- The first of a set.
pub first_with : {H : Type 0} (q : List (List ℕ)) (t : ℕ) (vs : List (RData H)) (v : RData H) (r : Record) (ds : List Datum) → map datum vs ≡ ds → 0 < length vs → v ≡ get_or vs 0 v → r ≡ owned q t (datum v)
    → Some r ≡ first_in (map (owned q t) ds)
first_with q t [] v r ds is some at_0 made = absurd (omega (arith, some))
first_with q t (x ∷ vs) v r ds is some at_0 made =
    ap Some (made ∙ ap (λ (y : RData _). owned q t (datum y)) at_0) ∙ ap (λ (l : List Datum). first_in (map (owned q t) l)) is

pub first_alias : (rs : List Record) (r : Record) → Some r ≡ first_in rs → Some (Alias r) ≡ as_alias (Found rs)
first_alias [] r e = absurd (cc)
first_alias (x ∷ rs) r e = ap (option_map Alias) e

abbrev at : Key → Packed → Hit
at k p = hit_of_packed k.name p

-- The entries without hashes, and each link whole.
abbrev pub bare : LruCache HashedKey Packed → LruCache Key Packed
bare e = lru_cache (unhashed e.entries) e.cap

abbrev pub shown : LruCache HashedKey Packed → LruCache Key Hit
shown e = lru_cache (unpacked (unhashed e.entries)) e.cap

-- Entries of this view, whose hasher gives these hashes.
module _ {S : Type 0} (hash_by : S → List (List ℕ) → ℕ) (x : Entries S) (s : S) (e : LruCache HashedKey Packed) (view : record { lru = shown e; hasher = s } ≡ x) (are : AreHashed (hash_by s) e.entries) where
  abbrev h : List (List ℕ) → ℕ
  h = hash_by s

  lru_is : shown e ≡ x.lru
  lru_is = ap (λ (y : Entries S). y.lru) view

  seen : (to : LruCache Key Hit) (d : LruCache HashedKey Packed) → shown d ≡ to → record { lru = shown d; hasher = s } ≡ record x { lru = to }
  seen to d is = λ i. record { lru = is i; hasher = (view i).hasher }

  pub valid_shows : IsValid same_hashed e → IsValid same_key x.lru
  valid_shows v = seen_valid at same_key same_key_exact x.lru (bare e) lru_is (valid_bare h e.entries are e.cap v)

  module _ (k : HashedKey) (hashed_is : IsHashed (hash_by x.hasher) k) where
    own : IsHashed h k
    own = hashed_is ∙ ap (λ (y : Entries S). hash_by y.hasher k.name) (sym view)

    bare_found : (o : Option Packed) → lookup (same_hashed k) e.entries ≡ o → lookup (same_key (plain k)) (unhashed e.entries) ≡ o
    bare_found o found = sym (looked h e.entries are k own) ∙ found

    -- The answer r of the test of age decides.
    pub live_found : (now : ℕ) (p : Packed) (r : Bool) → lookup (same_hashed k) e.entries ≡ Some p → r ≡ is_live now (at (plain k) p) → r ≡ true → Some (at (plain k) p) ≡ live_at now (plain k) (x.lru).entries
    live_found now p r found is live = live_seen at same_key same_key_exact x.lru (bare e) lru_is (is_live now) (plain k) p r (bare_found (Some p) found) is live

    pub dead_found : (now : ℕ) (p : Packed) (r : Bool) → lookup (same_hashed k) e.entries ≡ Some p → r ≡ is_live now (at (plain k) p) → r ≡ false → None ≡ live_at now (plain k) (x.lru).entries
    dead_found now p r found is dead = dead_seen at same_key same_key_exact x.lru (bare e) lru_is (is_live now) (plain k) p r (bare_found (Some p) found) is dead

    pub none_found : (now : ℕ) → lookup (same_hashed k) e.entries ≡ None → None ≡ live_at now (plain k) (x.lru).entries
    none_found now found = none_seen at same_key same_key_exact x.lru (bare e) lru_is (is_live now) (plain k) (bare_found None found)

    -- What the entries are after a step; and their keys have the hashes of their names.
    abbrev pub Shows : LruCache HashedKey Packed → LruCache Key Hit → Type 0
    Shows d to = (record { lru = shown d; hasher = s } ≡ record x { lru = to }) × AreHashed h d.entries

    framed : (d : LruCache HashedKey Packed) (es : List (HashedKey × Packed)) (l : List (Key × Packed)) (to : LruCache Key Hit) → d ≡ lru_cache es e.cap → es ≡ rekeyed (hashed h) l
        → ((b : LruCache Key Packed) → b ≡ lru_cache l e.cap → lru_cache (unpacked b.entries) b.cap ≡ to) → Shows d to
    framed d es l to is made step =
        let are_made : d.entries ≡ rekeyed (hashed h) l = ap (λ (y : LruCache HashedKey Packed). y.entries) is ∙ made in
        (seen to d (step (bare d) (λ i. lru_cache (bare_is h d.entries l are_made i) ((is i).cap))), are_hashed h d.entries l are_made)

    pub popped_shows : (d : LruCache HashedKey Packed) → d ≡ lru_cache (remove_entry (same_hashed k) e.entries) e.cap → Shows d (lru_cache (remove_entry (same_key (plain k)) (x.lru).entries) (x.lru).cap)
    popped_shows d is = framed d (remove_entry (same_hashed k) e.entries) (remove_entry (same_key (plain k)) (unhashed e.entries)) (lru_cache (remove_entry (same_key (plain k)) (x.lru).entries) (x.lru).cap) is
        (removed_is h e.entries are k own) (λ b at_b. popped_seen at same_key same_key_exact x.lru (bare e) lru_is (same_key (plain k)) b at_b)

    pub promoted_shows : (d : LruCache HashedKey Packed) → d ≡ lru_cache (promoted (same_hashed k) e.entries) e.cap → Shows d (lru_cache (promoted (same_key (plain k)) (x.lru).entries) (x.lru).cap)
    promoted_shows d is = framed d (promoted (same_hashed k) e.entries) (promoted (same_key (plain k)) (unhashed e.entries)) (lru_cache (promoted (same_key (plain k)) (x.lru).entries) (x.lru).cap) is
        (promoted_is h e.entries are k own) (λ b at_b. promoted_seen at same_key same_key_exact x.lru (bare e) lru_is (plain k) b at_b)

    pub stored_shows : (p : Packed) (ttl : ℕ) (d : LruCache HashedKey Packed) → d ≡ lru_cache (put_for same_hashed e k p ttl) e.cap → ttl ≡ p.ttl
        → Shows d (lru_cache (stored (x.lru).cap (plain k) (at (plain k) p) (x.lru).entries) (x.lru).cap)
    stored_shows p ttl d is its = framed d (put_for same_hashed e k p ttl) (put_for same_key (bare e) (plain k) p ttl) (lru_cache (stored (x.lru).cap (plain k) (at (plain k) p) (x.lru).entries) (x.lru).cap) is
        (stored_is h e.entries are k own e.cap p ttl)
        (λ b at_b. stored_seen at same_key same_key_exact x.lru (bare e) lru_is (plain k) p ttl b at_b ∙ ap (λ n. lru_cache (stores.stored same_key (x.lru).cap (plain k) (at (plain k) p) n (x.lru).entries) (x.lru).cap) its)

    -- Whether it was stored or not.
    pub stored_hashed : {T E : Type 0} (r : Result T E) (p : Packed) (ttl : ℕ) (d : LruCache HashedKey Packed) → OnOk r (d ≡ lru_cache (put_for same_hashed e k p ttl) e.cap) → OnErr r (d ≡ e) → AreHashed h d.entries
    stored_hashed (Ok y) p ttl d ok err =
        are_hashed h d.entries (put_for same_key (bare e) (plain k) p ttl) (ap (λ (y : LruCache HashedKey Packed). y.entries) ok ∙ stored_is h e.entries are k own e.cap p ttl)
    stored_hashed (Err y) p ttl d ok err = subst (λ (y : LruCache HashedKey Packed). AreHashed h y.entries) (sym err) are
