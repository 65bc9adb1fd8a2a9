-- Replies within their TTL: which links a reply may be made of, and until when (RFC 1034, section 3.6; RFC 1035,
-- section 3.2.1; RFC 2308, section 5).
use Rattle.std.specs.Prelude.{◌≡◌, ℕ, ◌-◌, ◌*◌, ◌/◌, ◌<◌, ◌≤◌, ◌⊎◌, Bool, true, false, List, [], ◌∷◌, length}
use Rattle.limits.specs.Limits.{max_aliases}
use Rattle.dname.specs.Labels.{Name, root}
use Rattle.rdata.specs.Records.{Record}
use Rattle.message_grammar.specs.Messages.{Message}
use Rattle.zone.specs.Zones.{cname_type}
use Rattle.zone.specs.Links.{Link, Alias}
use Rattle.zone.specs.Look as local
use Rattle.classify.specs.Classes as class
use Rattle.classify.specs.Classes.{class_of}
use Rattle.classify.specs.Lifetimes.{received, lifetime_of}
use Rattle.cache.specs.Keys.{key_for}
use Rattle.cache.specs.Cached as cache
use Rattle.cache.specs.Cached.{retimed}
use Rattle.front.specs.Chains.{alias_target, IsEndOf}
use Rattle.front.specs.declared.queries.End.{End}
use Rattle.resolution.specs.Jobs.{Home}
use Rattle.resolution.specs.Rules.{Says, IsRemote, asked_of}
use Rattle.runs.specs.States.{OpenQuery, Turn, Plain, Ask, via_of}
use Rattle.runs.specs.Runs.{Earlier, clock_of, Accepts}

-- In this step a message is accepted for the query with this number, with this link as its answer for the name and
-- type, as it would be read from a server of the root.
pub record AcceptsAnswer (port by : ℕ) (n : Name) (u : ℕ) (said : Link) (since : ℕ) (turn : Turn) (past : List Turn) : Type 0 where
  pub ask : Ask
  pub message : Message
  pub accepts : Accepts port by ask message turn past
  pub name : ask.name ≡ n
  pub kind : ask.kind ≡ u
  pub is : class_of root n u (via_of ask.path) message ≡ class.Answer said
  pub moment : since ≡ clock_of (turn ∷ past)

-- How a link that was accepted for the name m and the type u serves a question. It may be the question's own link. It
-- may be of the same name: an NXDOMAIN for any type, an alias for any type, a CNAME that was asked for as an alias. Or
-- it is the NXDOMAIN of a name above, up to the cut that the local zones name (RFC 8020, section 2).
abbrev pub Fits : Home → Name → ℕ → Name → ℕ → Link → Link → Type 0
Fits home n t m u l given = ((m ≡ n) × (u ≡ t) × (given ≡ l)) ⊎ cache.EntryAnswers (asked_of home n t) (key_for m u l) l given

-- The link was accepted for that very name, or is the NXDOMAIN of one above, goes out with its TTL less its age, and is
-- younger than that; or it was accepted for the very query that is served.
pub record IsInTime (port : ℕ) (home : Home) (turn : Turn) (past : List Turn) (n : Name) (t : ℕ) (out : Link) : Type 0 where
  pub by : ℕ
  pub at : Name
  pub kind : ℕ
  pub said : Link
  pub since : ℕ
  pub learnt : Earlier (AcceptsAnswer port by at kind said since) (turn ∷ past)
  pub given : Link
  pub fits : Fits home n t at kind (received said) given
  pub is : out ≡ retimed (lifetime_of (received said) - (clock_of (turn ∷ past) - since) / 1000) given
  pub in_time : (clock_of (turn ∷ past) - since < 1000 * lifetime_of (received said)) ⊎ (turn.served ≡ OpenQuery by)

-- The local zones come first: where they have a link for the name, that one goes out.
abbrev pub IsTimelyLink : ℕ → Home → Turn → List Turn → Name → ℕ → Link → Type 0
IsTimelyLink port home turn past n t out = Says home n t (local.Linked out) ⊎ (IsRemote home n t × IsInTime port home turn past n t out)

-- Each alias stands at the target of the one before, and behind the last one an end.
abbrev pub IsTimelyChain : ℕ → Home → Turn → List Turn → ℕ → Name → List Record → End Plain → Type 0
IsTimelyChain port home turn past t from [] end = (l : Link) × IsTimelyLink port home turn past from t l × IsEndOf l end
IsTimelyChain port home turn past t from (r ∷ rs) end = IsTimelyLink port home turn past from t (Alias r) × IsTimelyChain port home turn past t (alias_target r) rs end

-- An answer: at most eight aliases, none where CNAME is asked for, and an end; AA exactly where the local zones have
-- the first link.
pub record IsTimely (port : ℕ) (home : Home) (turn : Turn) (past : List Turn) (n : Name) (t : ℕ) (aa : Bool) (aliases : List Record) (end : End Plain) : Type 0 where
  pub few : length aliases ≤ max_aliases
  pub plain : t ≡ cname_type → aliases ≡ []
  pub authority : ((aa ≡ true) × ((l : Link) × Says home n t (local.Linked l))) ⊎ ((aa ≡ false) × IsRemote home n t)
  pub chain : IsTimelyChain port home turn past t n aliases end
