use Rattle.std.proofs.Common.{◌≡◌, ℕ, max, [], ap, ◌∙◌}
use Rattle.std.specs.Prelude.{min}
use Rattle.events.specs.Plain.{plain}
use Rattle.runs.specs.States.{State, Client, latest}
use Rattle.engine.specs.ResolverStates.{state_of}
use Rattle.engine.proofs.AtOnce.{some_at}
use Rattle.engine.proofs.Stepped.{heard_is_sound}
use Rattle.engine.proofs.state.ResolverState.answer_at.Goals as goal

pub answer_now-said-requires : goal.answer_now-said-requires
answer_now-said-requires g c =
    let s : State = state_of c.args.self.now in
    let mid : State = state_of c.advance_clock.new.self in
    let heard : mid ≡ record s { clock = max s.clock (min c.args.moment latest) } = c.advance_clock.ensures ∙ ap (λ (n : ℕ). record s { clock = max s.clock n }) c.min.ensures in
    record { sound = heard_is_sound s mid (Client c.args.moment c.args.client c.args.way []) heard c.requires.sound }

pub returns-else-is_none : goal.returns-else-is_none
returns-else-is_none g c =
    let s : State = state_of c.args.self.now in
    let mid : State = state_of c.advance_clock.new.self in
    let heard : mid ≡ record s { clock = max s.clock (min c.args.moment latest) } = c.advance_clock.ensures ∙ ap (λ (n : ℕ). record s { clock = max s.clock n }) c.min.ensures in
    some_at s mid c.args.moment c.args.client c.args.way (plain c.args.query.now) heard c.answer_now-said.result (state_of c.answer_now-said.new.self) c.if-is_none.ensures c.answer_now-said.ensures
