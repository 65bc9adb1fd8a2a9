-- The state of a resolver at work, and its invariant.
use Rattle.std.specs.Prelude.{◌≡◌, ℕ, ◌<◌, ◌≤◌, length, Contains}
use Rattle.runs.specs.States.{ByTcp, Open, State, latest}
use Rattle.runs.specs.Steps.{most_open}
use Rattle.laws.specs.Searches.{AreSought}
use Rattle.engine.specs.declared.state.ResolverState.{ResolverState}

abbrev pub state_of : {A : Type 0} → ResolverState A → State
state_of w = record {
  site = record { home = w.home; port = w.port; sockets = w.sockets };
  clock = w.clock;
  stores = w.stores;
  queries = w.queries;
  opened = w.opened;
  tcp_asks = w.tcp_asks;
  generator = w.generator;
}

-- There is a socket, the clock is a moment that counts, not too many queries are open, each was opened, and so was each
-- ask over TCP; each query asks for what its innermost search seeks.
pub record IsSound (s : State) : Type 0 where
  pub sockets : 0 < (s.site).sockets
  pub clock : s.clock ≤ latest
  pub few : length s.queries ≤ most_open
  pub opened : (q : Open) → Contains s.queries q → q.number < s.opened
  pub asked : (q : Open) → Contains s.queries q → (number : ℕ) → (q.ask).path ≡ ByTcp number → number < s.tcp_asks
  pub sought : AreSought s.queries
