-- Local answers: the chain of aliases through local zones, and its end (RFC 1034, sections 3.6.2 and 4.3.2). `look` is
-- the result of the local zones for a name, and the type that is asked for.
use Rattle.std.specs.Prelude.{◌≡◌, ℕ, ◌≤◌, ◌⊎◌, true, List, [], ◌∷◌, length}
use Rattle.limits.specs.Limits.{max_aliases}
use Rattle.rdata.specs.Data.{Datum, Cname}
use Rattle.rdata.specs.Records.{Record}
use Rattle.zone.specs.Links as said
use Rattle.zone.specs.Look as looked
use Rattle.zone.specs.Look.{Local}
use Rattle.causes.specs.declared.cause.Cause.TheVariants.{ChainTooLong}
use Rattle.front.specs.declared.queries.End.{End}
use Rattle.front.specs.declared.queries.End.TheVariants.{Found, NoData, NxDomain, Outside}
use Rattle.front.specs.declared.queries.Outcome.{Outcome}
use Rattle.front.specs.declared.queries.Outcome.TheVariants.{Answer, Referral, Refused, Fail}

-- The name that an alias leads to.
abbrev pub target_in : List (List ℕ) → Datum → List (List ℕ)
target_in owner (Cname name) = name
target_in owner _ = owner

abbrev pub alias_target : Record → List (List ℕ)
alias_target r = target_in r.owner r.value

-- These aliases lead from a name to another.
abbrev pub AliasesLead : (List (List ℕ) → Local) → List (List ℕ) → List Record → List (List ℕ) → Type 0
AliasesLead look from [] to = to ≡ from
AliasesLead look from (r ∷ rs) to = (look from ≡ looked.Linked (said.Alias r)) × AliasesLead look (alias_target r) rs to

-- The end of a chain: any link but an alias. At a cut, and where no local zone is over the name, nothing is known here.
abbrev pub IsEndOf : {A : Type 0} → said.Link → End A → Type 0
IsEndOf (said.Found set) end = end ≡ Found set
IsEndOf (said.Alias r) end = ⊥
IsEndOf (said.NoData soa) end = end ≡ NoData (soa ∷ [])
IsEndOf (said.NxDomain soa) end = end ≡ NxDomain (soa ∷ [])

abbrev pub IsEndAt : {A : Type 0} → Local → End A → Type 0
IsEndAt (looked.Linked link) end = IsEndOf link end
IsEndAt (looked.Cut c ns glue) end = end ≡ Outside
IsEndAt looked.NotHere end = end ≡ Outside

-- A chain: at most eight aliases, and the end behind them.
pub record IsChain {A : Type 0} (look : List (List ℕ) → Local) (from : List (List ℕ)) (aliases : List Record) (end : End A) : Type 0 where
  pub to : List (List ℕ)
  pub leads : AliasesLead look from aliases to
  pub few : length aliases ≤ max_aliases
  pub ends : IsEndAt (look to) end

-- A chain of nine aliases.
pub record IsLong (look : List (List ℕ) → Local) (from : List (List ℕ)) : Type 0 where
  pub aliases : List Record
  pub to : List (List ℕ)
  pub leads : AliasesLead look from aliases to
  pub nine : length aliases ≡ 9

-- The answer for a name that has a local link.
abbrev pub FollowsOn : {A : Type 0} → (List (List ℕ) → Local) → List (List ℕ) → Outcome A → Type 0
FollowsOn {A} look name o =
    ((aliases : List Record) × (end : End A) × IsChain look name aliases end × (o ≡ Answer true aliases end))
    ⊎ (IsLong look name × (o ≡ Fail ChainTooLong))

-- The answer, by the result for the name in the question.
abbrev pub AnswersFrom : {A : Type 0} → (List (List ℕ) → Local) → List (List ℕ) → Local → Outcome A → Type 0
AnswersFrom look name looked.NotHere o = o ≡ Refused
AnswersFrom look name (looked.Cut c ns glue) o = o ≡ Referral ns glue
AnswersFrom look name (looked.Linked link) o = FollowsOn look name o

abbrev pub AnswersLocally : {A : Type 0} → (List (List ℕ) → Local) → List (List ℕ) → Outcome A → Type 0
AnswersLocally look name o = AnswersFrom look name (look name) o
