use Rattle.std.proofs.Common.{◌↔◌, Bool, IsTrue, sym, subst, rules}
use Rattle.rdata.specs.Types.{type_number}
use Rattle.classify.specs.Views.{reading_view}
use Rattle.events.specs.Paths.{path_view}
use Rattle.runs.specs.States.{Ask}
use Rattle.engine.specs.Moves.{Answers}
use Rattle.engine.proofs.Heard.{answers_by}
use Rattle.engine.proofs.accept.answers.Goals as goal

pub returns-then-number : goal.returns-then-number
returns-then-number g c =
    let x : Ask = record { path = path_view c.ask.inside.path; server = c.ask.inside.server; id = c.ask.inside.id; name = c.ask.inside.name; kind = type_number c.ask.inside.kind } in
    subst (λ (b : Bool). IsTrue b ↔ Answers c.args.ask.now (reading_view c.args.reading.now)) (sym c.eq.ensures)
    (answers_by x c.args.ask.now (reading_view c.args.reading.now) c.ask.view_is (search rules) (search rules))
