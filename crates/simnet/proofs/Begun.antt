-- A network before its first event.
use Rattle.std.proofs.Common.{◌≡◌, refl, sym, ap, subst, List}
use Rattle.std.specs.Prelude.{Contains}
use Rattle.rdata.specs.declared.addr.Addr.{Addr}
use Rattle.zone.specs.Zones.{Zone}
use Rattle.zone.proofs.LawLists.{map_in}
use Rattle.world_truth.specs.Worlds.{World}
use Rattle.world_truth.specs.Frames.{AreHeld}
use Rattle.worlds.specs.Kept.{bytes_of, addresses}
use Rattle.runs.specs.States.{State, IsNew}
use Rattle.laws.specs.Headline.{IsHomeIn}
use Rattle.engine.specs.declared.settings.Settings.{Settings}
use Rattle.engine.specs.Beginnings.{IsMade}
use Rattle.simnet.specs.Beginnings.{IsResolverOf}

module _ (W : World) (local : List Zone) (hints : List Addr) (settings : Settings) (s : State) (made : IsMade local hints settings s) where
  is_new : IsNew s.site s
  is_new = record {
    site = refl;
    clock = ap (λ (x : State). x.clock) made.is;
    cache = ap (λ (x : State). (x.stores).cache) made.is;
    delegations = ap (λ (x : State). (x.stores).delegations) made.is;
    penalties = ap (λ (x : State). (x.stores).penalties) made.is;
    failures = ap (λ (x : State). (x.stores).failures) made.is;
    queries = ap (λ (x : State). x.queries) made.is;
    opened = ap (λ (x : State). x.opened) made.is;
    tcp_asks = ap (λ (x : State). x.tcp_asks) made.is;
    seeded = (settings.seed, ap (λ (x : State). x.generator) made.is);
  }

  is_home : AreHeld W local → addresses hints ≡ W.hints → IsHomeIn W (s.site).home
  is_home held same = subst (IsHomeIn W) (sym (ap (λ (x : State). (x.site).home) made.is)) (record {
    held = held;
    hints = λ a m. subst (λ l. Contains l (bytes_of a)) same (map_in bytes_of hints a m);
  })

  pub resolver_is : AreHeld W local → addresses hints ≡ W.hints → IsResolverOf W settings s
  resolver_is held same = record { local = local; hints = hints; made = made; hinted = same; home = is_home held same }

pub is_fresh : (W : World) (settings : Settings) (s : State) → IsResolverOf W settings s → IsNew s.site s
is_fresh W settings s r = is_new W r.local r.hints settings s r.made
