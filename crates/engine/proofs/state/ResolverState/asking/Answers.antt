use Rattle.std.proofs.Common.{ap, subst}
use Rattle.std.specs.Prelude.{MatchOption, Contains}
use Rattle.rdata.specs.Types.{type_number}
use Rattle.events.specs.Paths.{path_view}
use Rattle.runs.specs.States.{Ask, Open}
use Rattle.engine.specs.Moves.{IsLike}
use Rattle.engine.specs.Finds.{Finds}
use Rattle.engine.proofs.Found.{like_udp, like_tcp}
use Rattle.engine.proofs.state.ResolverState.asking.Goals as goal

pub returns-in-Udp : goal.returns-in-Udp
returns-in-Udp g c =
    let qs = c.args.self.now.queries in
    subst (λ (a : Ask). MatchOption c.find.result ((q : Open) → Contains qs q → IsLike a q → ⊥) (λ k. Finds (IsLike a) qs k)) c.ask.view_is
    (like_udp qs (record { path = path_view c.ask.inside.path; server = c.ask.inside.server; id = c.ask.inside.id; name = c.ask.inside.name; kind = type_number c.ask.inside.kind }) c.in-Udp.socket c.find.result c.apart_law.ensures (ap path_view c.in-Udp.is) c.find.ensures)

pub returns-in-Tcp : goal.returns-in-Tcp
returns-in-Tcp g c =
    let qs = c.args.self.now.queries in
    subst (λ (a : Ask). MatchOption c.find_tcp.result ((q : Open) → Contains qs q → IsLike a q → ⊥) (λ k. Finds (IsLike a) qs k)) c.ask.view_is
    (like_tcp qs (record { path = path_view c.ask.inside.path; server = c.ask.inside.server; id = c.ask.inside.id; name = c.ask.inside.name; kind = type_number c.ask.inside.kind }) c.in-Tcp.number c.find_tcp.result c.apart_law.ensures (ap path_view c.in-Tcp.is) c.find_tcp.ensures)
