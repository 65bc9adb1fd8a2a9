-- A resolver that has done nothing yet is sound.
use Rattle.std.proofs.Common.{◌≡◌, ◌≤◌, Result, Ok, Err, List, [], length, sym, subst, arith}
use Rattle.std.specs.Prelude.{Contains, MatchResult}
use Rattle.std.specs.Result.{IsErrAnd}
use Rattle.authority.specs.Catalogs.{has_twins}
use Rattle.authority.specs.CatalogFaults.{CatalogRefuses}
use Rattle.authority.specs.declared.catalog.CatalogError.{CatalogError}
use Rattle.authority.specs.declared.catalog.CatalogError.TheVariants.{Twins, Memory}
use Rattle.zone.specs.Zones.{Zone}
use Rattle.zone.proofs.LawLists.{none_in}
use Rattle.runs.specs.States.{Open, State}
use Rattle.runs.specs.Steps.{most_open}
use Rattle.engine.specs.Beginnings.{IsAllowed, CoreRefuses, core_fault}
use Rattle.engine.specs.ResolverStates.{IsSound}
use Rattle.engine.specs.declared.settings.Settings.{Settings}
use Rattle.engine.specs.declared.settings.CoreError.{CoreError}

pub first_is_sound : (s : State) → 1 ≤ (s.site).sockets → s.clock ≡ 0 → s.queries ≡ [] → IsSound s
first_is_sound s some early none = record {
  sockets = omega (arith, some);
  clock = omega (arith, early);
  few = subst (λ (qs : List Open). length qs ≤ most_open) (sym none) (omega arith);
  opened = λ q m. absurd (none_in q (subst (λ (qs : List Open). Contains qs q) none m));
  asked = λ q m number path. absurd (none_in q (subst (λ (qs : List Open). Contains qs q) none m));
  sought = λ q m. absurd (none_in q (subst (λ (qs : List Open). Contains qs q) none m));
}

-- A refusal of a catalog is one of the resolver's, once its settings are allowed.
pub catalog_refused : {X : Type 0} (P : X → Type 0) (r : Result X CoreError) (x : CatalogError) (s : Settings) (zones : List Zone) → IsErrAnd r (λ e. e ≡ core_fault x) → CatalogRefuses x (has_twins zones)
    → IsAllowed s → MatchResult r P (λ e. CoreRefuses e s zones)
catalog_refused P (Ok y) x s zones h k allowed = absurd h
catalog_refused P (Err e) x s zones h k allowed = subst (λ (f : CoreError). CoreRefuses f s zones) (sym h) (by x k)
  where
    by : (x : CatalogError) → CatalogRefuses x (has_twins zones) → CoreRefuses (core_fault x) s zones
    by Twins k = (allowed, k)
    by Memory k = allowed
