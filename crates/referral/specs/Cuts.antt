-- Cached delegations: the servers of a zone, by its name (RFC 1034, section 5.3.3).
use Rattle.std.specs.Prelude.{◌≡◌, ◌≢◌, ℕ, ◌≤◌, Bool, true, Option, Some, None, List, [], ◌∷◌, length, Contains}
use Rattle.std.specs.Map.{lookup}
use Rattle.dname.specs.Labels.{same_name, IsAtOrUnder}
use Rattle.rdata.specs.declared.addr.Addr.{Addr}
use Rattle.rdata.specs.Ages.{is_young}
use Rattle.lru_laws.specs.Orders.{mapped, MayGo}
use Rattle.lru_laws.specs.Stores as stores

-- An address of a server, and the server's name: the root's where the name is not known, as for hints.
pub record ServerAddress : Type 0 where
  pub name : List (List ℕ)
  pub address : Addr

-- A zone's name, the names of its servers and the addresses that are known of them.
pub record Cut : Type 0 where
  pub owner : List (List ℕ)
  pub names : List (List (List ℕ))
  pub addresses : List ServerAddress

-- A cached cut: its TTL in seconds, and the moment at which it was cached, in milliseconds.
pub record Known : Type 0 where
  pub cut : Cut
  pub ttl : ℕ
  pub since : ℕ

-- A cut as it is stored: its owner is the key.
pub record Servers : Type 0 where
  pub names : List (List (List ℕ))
  pub addresses : List ServerAddress
  pub ttl : ℕ
  pub since : ℕ

abbrev pub known_of : List (List ℕ) → Servers → Known
known_of n s = record { cut = record { owner = n; names = s.names; addresses = s.addresses }; ttl = s.ttl; since = s.since }

abbrev pub shown : List (List (List ℕ) × Servers) → List (List (List ℕ) × Known)
shown es = mapped known_of es

-- Each entry stands under the owner of its cut.
abbrev pub AreNamed : List (List (List ℕ) × Known) → Type 0
AreNamed es = (e : List (List ℕ) × Known) → Contains es e → (e.1.cut).owner ≡ e.0

abbrev pub as_kept : Cut → ℕ → ℕ → Known
as_kept c ttl now = record { cut = c; ttl = ttl; since = now }

-- Whether a cut is younger than its TTL. One that was cached in what is now the future has age 0.
abbrev pub is_live : ℕ → Known → Bool
is_live now k = is_young now k.ttl k.since

abbrev pub live_from : ℕ → Option Known → Option Known
live_from now o = stores.live_from (is_live now) o

-- The cut of this very name, if it lives.
abbrev pub live_at : ℕ → List (List ℕ) → List (List (List ℕ) × Known) → Option Known
live_at now n es = stores.live_at same_name (is_live now) n es

abbrev pub under : List (List ℕ) → Option Known → Option (List (List ℕ) × Known)
under n o = stores.under n o

abbrev pub or_else : Option (List (List ℕ) × Known) → Option (List (List ℕ) × Known) → Option (List (List ℕ) × Known)
or_else first later = stores.or_else first later

-- The first of the name and the names above it that has a live cut, and that cut.
abbrev pub nearest : List (List ℕ) → ℕ → List (List (List ℕ) × Known) → Option (List (List ℕ) × Known)
nearest [] now es = None
nearest (l ∷ ls) now es = or_else (under (l ∷ ls) (live_at now (l ∷ ls) es)) (nearest ls now es)

abbrev pub cut_of : Option (List (List ℕ) × Known) → Option Cut
cut_of None = None
cut_of (Some found) = Some (found.1).cut

abbrev pub moved : Option (List (List ℕ) × Known) → List (List (List ℕ) × Known) → List (List (List ℕ) × Known)
moved found es = stores.moved same_name found es

-- The entries after a look-up: the cut that is found is the first.
abbrev pub after_best : List (List ℕ) → ℕ → List (List (List ℕ) × Known) → List (List (List ℕ) × Known)
after_best q now es = moved (nearest q now es) es

-- The entries after a cut: it is the first, under its name. With TTL 0 it is not cached, and the entry of its name
-- goes.
abbrev pub after_keep : ℕ → Known → List (List (List ℕ) × Known) → List (List (List ℕ) × Known)
after_keep cap k es = stores.stored same_name cap (k.cut).owner k k.ttl es

-- ---- the same in other words

-- The cut of this name lives.
abbrev pub Lives : ℕ → List (List (List ℕ) × Known) → List (List ℕ) → Known → Type 0
Lives now es n k = (lookup (same_name n) es ≡ Some k) × (is_live now k ≡ true)

-- The deepest live cut that the name is at or under.
pub record IsDeepest (q : List (List ℕ)) (now : ℕ) (es : List (List (List ℕ) × Known)) (n : List (List ℕ)) (k : Known) : Type 0 where
  pub there : Contains es (n, k)
  pub lives : Lives now es n k
  pub over : IsAtOrUnder q n
  pub deepest : (m : List (List ℕ)) (j : Known) → Lives now es m j → IsAtOrUnder q m → length m ≤ length n

-- The deepest live cut is found, and nothing where no live cut is over the name.
abbrev pub IsBest : List (List ℕ) → ℕ → List (List (List ℕ) × Known) → Option Cut → Type 0
IsBest q now es None = (m : List (List ℕ)) (j : Known) → m ≢ [] → Lives now es m j → IsAtOrUnder q m → ⊥
IsBest q now es (Some c) = (n : List (List ℕ)) × (k : Known) × IsDeepest q now es n k × (k.cut ≡ c)

-- The entry that is new after `keep`.
abbrev pub IsKept : Known → List (List ℕ) × Known → Type 0
IsKept k e = (e ≡ ((k.cut).owner, k)) × (k.ttl ≢ 0)

-- What may be gone after `keep`: the entry of the name, and the entry past the capacity where the name is new.
abbrev pub IsGone : ℕ → Known → List (List (List ℕ) × Known) → List (List ℕ) × Known → Type 0
IsGone cap k es e = MayGo same_name cap (k.cut).owner es e
