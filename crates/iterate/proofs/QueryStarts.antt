-- A query that comes, by what was found for its name first.
use Rattle.std.proofs.Common.{◌≡◌, ℕ, zero, suc, Result, Ok, Err, Option, Some, None, List, [], ◌∷◌, ◌++◌, refl, sym, subst}
use Rattle.std.specs.Prelude.{MatchOption}
use Rattle.resolution.specs.Jobs.{Home, Stores, Taken, AreFresh, IsEnding, Job, Start, Next, Done, Seek, Take, Point, point}
use Rattle.resolution.specs.Rules.{Finds, Rule, takes, Rules, Leaves, done, Advances}
use Rattle.resolution.specs.Stops.{LooksInPart, IsPart, Stops, in_rule}
use Rattle.resolution.proofs.Falls.{stays_fresh}
use Rattle.lookup.specs.Ends.{IfGiven, IsFoundEnd}
use Rattle.lookup.specs.Found.{IsFound}
use Rattle.lookup.specs.declared.lookup.Found.{Found}
use Rattle.lookup.proofs.Uses.{found_part}
use Rattle.iterate.specs.Beginnings.{AnswersWith}
use Rattle.iterate.proofs.Parts.{seek_part}

-- A rule, and further ones after it.
rules_after : (home : Home) (now n : ℕ) (a b c : Point) → Rule home now a b → Rules home now n b c → Rules home now (suc n) a c
rules_after home now zero a b c rule is = (a, refl, subst (Rule home now a) (sym is) rule)
rules_after home now (suc n) a b c rule (mid, rules, last) = (mid, rules_after home now n a b mid rule rules, last)

module _ (home : Home) (now : ℕ) (j : Job) (old : Stores) where
  pub begins_known : (l : Taken) (new : Stores) → j.chain ≡ [] → Finds home now j.name j.kind old l new → IsEnding l.link → Advances home now Start j old (Done j.chain l) j new
  begins_known l new none finds ending = record { first = point Seek j old; count = 1; last = point (Take l) j new; enters = refl; rules = (point Seek j old, refl, used); leaves = leaves }
    where
      used : Rule home now (point Seek j old) (point (Take l) j new)
      used = takes l refl finds refl refl

      fresh : AreFresh now (j.chain ++ l ∷ [])
      fresh = subst (λ (chain : List Taken). AreFresh now (chain ++ l ∷ [])) (sym none) (stays_fresh home now (point Seek j old) (point (Take l) j new) used, tt)

      leaves : Leaves home now (point (Take l) j new) (Done j.chain l) j new
      leaves = done l refl ending fresh refl refl

  pub begins_work : (mid last : Point) (count : ℕ) (next : Next) (job : Job) (new : Stores) → Rule home now (point Seek j old) mid → Rules home now count mid last → Leaves home now last next job new
      → Advances home now Start j old next job new
  begins_work mid last count next job new rule rules leaves =
      record { first = point Seek j old; count = suc count; last = last; enters = refl; rules = rules_after home now count (point Seek j old) mid last rule rules; leaves = leaves }

-- Where memory ran out in the first rule, or in a later one.
pub stops_first : (home : Home) (now : ℕ) (j : Job) (old new : Stores) → LooksInPart home now j.name j.kind old new → Stops home now Start j old new
stops_first home now j old new part = in_rule (point Seek j old) (point Seek j old) 0 refl refl (seek_part home now j old new part)

pub stops_found : {A : Type 0} (home : Home) (now : ℕ) (j : Job) (old : Stores) (f : Found A) (new : Stores) → IsFound home now j.name j.kind old f new → Stops home now Start j old new
stops_found home now j old f new found = stops_first home now j old new (found_part home now j.name j.kind old f new found)

pub stops_later : (home : Home) (now : ℕ) (j : Job) (old : Stores) (mid last : Point) (count : ℕ) (new : Stores) → Rule home now (point Seek j old) mid → Rules home now count mid last → IsPart home now last new
    → Stops home now Start j old new
stops_later home now j old mid last count new rule rules part = in_rule (point Seek j old) last (suc count) refl (rules_after home now count (point Seek j old) mid last rule rules) part

-- What was found for a query was found for its job.
pub found_of : {A : Type 0} (home : Home) (now : ℕ) (query j : Job) (before mid : Stores) (f : Found A) → j ≡ query → IsFound home now query.name query.kind before f mid → IsFound home now j.name j.kind before f mid
found_of home now query j before mid f is = subst (λ (x : Job). IsFound home now x.name x.kind before f mid) (sym is)

-- The end that was found for a query is its answer, where it has no chain yet.
module _ (home : Home) (now : ℕ) (j : Job) (old new : Stores) (none : j.chain ≡ []) where
  answers : (l : Taken) → IsFoundEnd home now j.name j.kind old l new → AnswersWith home now j old l new
  answers l found = record {
    over = j;
    advances = subst (λ (chain : List Taken). Advances home now Start j old (Done chain l) j new) none (begins_known home now j old l new none found.finds found.ends);
    held = found.held;
    ends = found.ends;
  }

  pub answers_with : {E : Type 0} (o : Option (Result Taken E)) → MatchOption o (new ≡ old) (IfGiven (λ l. IsFoundEnd home now j.name j.kind old l new))
      → MatchOption o (new ≡ old) (IfGiven (λ l. AnswersWith home now j old l new))
  answers_with None same = same
  answers_with (Some (Ok l)) found = answers l found
  answers_with (Some (Err e)) found = (found.0, answers found.0 found.1)
