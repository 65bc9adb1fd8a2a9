-- Servers that failed to answer a question, and for how long they are not asked it again (RFC 2308, section 7.1).
-- Moments are milliseconds.
use Rattle.std.specs.Prelude.{◌≡◌, ℕ, ◌-◌, ◌<◌, Bool, true, ◌&&◌, cond, nat_eq, is_some, List, Contains}
use Rattle.std.specs.Cmp.Lexicographic.{pointwise}
use Rattle.dname.specs.Labels.{same_name}
use Rattle.rdata.specs.declared.addr.Addr.{Addr}
use Rattle.rdata.specs.Ages.{is_young}
use Rattle.lru_laws.specs.Orders.{kept, used}
use Rattle.lru_laws.specs.Stores as stores

-- A question, and the server that failed to answer it.
pub record FailedAsk : Type 0 where
  pub name : List (List ℕ)
  pub kind : ℕ
  pub server : Addr

abbrev pub failed_ask : List (List ℕ) → ℕ → Addr → FailedAsk
failed_ask q t server = record { name = q; kind = t; server = server }

abbrev pub same_failed : FailedAsk → FailedAsk → Bool
same_failed a b = nat_eq a.kind b.kind && (pointwise nat_eq (a.server).0 (b.server).0 && same_name a.name b.name)

-- The failure is less than 30 seconds old. One from what is now the future has age 0.
abbrev pub is_recent : ℕ → ℕ → Bool
is_recent now since = is_young now 30 since

-- Whether such a failure is cached and lives.
abbrev pub is_failed : ℕ → FailedAsk → List (FailedAsk × ℕ) → Bool
is_failed now k es = is_some (stores.live_at same_failed (is_recent now) k es)

-- The entries after a failure: it is the first, with the moment at which it came.
abbrev pub after_failed : ℕ → FailedAsk → ℕ → List (FailedAsk × ℕ) → List (FailedAsk × ℕ)
after_failed cap k now es = kept same_failed cap k now es

-- The entries after a look-up of a failure: where it lives it is the first.
abbrev pub after_is_failed : ℕ → FailedAsk → List (FailedAsk × ℕ) → List (FailedAsk × ℕ)
after_is_failed now k es = cond (is_failed now k es) (used same_failed k es) es

-- ---- the laws that the functions of this crate state

-- A failure that lives was put in less than 30 seconds ago.
abbrev pub FailedWasKept : Type 0
FailedWasKept = (now : ℕ) (k : FailedAsk) (es : List (FailedAsk × ℕ)) → is_failed now k es ≡ true → (since : ℕ) × Contains es (k, since) × (now - since < 30000)

-- A failure that is put in lives for 30 seconds, while lack of room does not remove it.
abbrev pub KeptIsFailed : Type 0
KeptIsFailed = (cap now later : ℕ) (k : FailedAsk) (es : List (FailedAsk × ℕ)) → later - now < 30000 → is_failed later k (after_failed cap k now es) ≡ true

-- A look-up of a failure changes no other's time.
abbrev pub AskingChangesNone : Type 0
AskingChangesNone = (now later : ℕ) (k j : FailedAsk) (es : List (FailedAsk × ℕ)) → is_failed later j (after_is_failed now k es) ≡ is_failed later j es
