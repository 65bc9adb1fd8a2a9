-- The laws of age that the functions of this crate state.
use Rattle.std.specs.Prelude.{◌≡◌, ◌≢◌, ℕ, ◌≤◌, true}
use Rattle.zone.specs.Same.{SameLink}
use Rattle.cache.specs.Cached.{Hit, is_live, retimed, left_of, aged}

-- Age changes TTLs alone.
abbrev pub AgedIsSame : Type 0
AgedIsSame = (now : ℕ) (h : Hit) → SameLink (aged now h) h.link

-- A link that lives has a second left at least, and no more than when it was cached.
abbrev pub LiveIsLeft : Type 0
LiveIsLeft = (now : ℕ) (h : Hit) → is_live now h ≡ true → left_of now h ≢ 0

abbrev pub LeftIsLess : Type 0
LeftIsLess = (now : ℕ) (h : Hit) → left_of now h ≤ h.ttl

-- A link has all of its TTL at the moment at which it was cached.
abbrev pub NewIsWhole : Type 0
NewIsWhole = (h : Hit) → aged h.since h ≡ retimed h.ttl h.link
