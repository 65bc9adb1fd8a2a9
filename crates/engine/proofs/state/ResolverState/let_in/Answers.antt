use Rattle.iterate.specs.Views.{next_view}
use Rattle.engine.specs.ResolverStates.{state_of}
use Rattle.engine.specs.Replies.{alone}
use Rattle.engine.proofs.Started.{next_is_fresh, raise}
use Rattle.engine.proofs.state.ResolverState.let_in.Goals as goal

pub follow-requires : goal.follow-requires
follow-requires g c = record { sound = c.requires.sound; fresh = next_is_fresh (state_of c.args.self.now) c.requires.sound }

pub returns-clause-ok : goal.returns-clause-ok
returns-clause-ok g c =
    raise (state_of c.args.self.now) c.args.client_query c.args.self.now.opened c.args.job c.args.self.now.stores (alone c.in_ok-action.action) (state_of c.follow.new.self) (next_view c.args.next) c.requires.asks c.in_ok-action.ensures.ok
