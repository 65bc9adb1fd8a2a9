use Rattle.std.proofs.Common.{◌≡◌, ◌∙◌, sym, ap, subst, not, Result, Ok, Err, IsErrAnd, MatchResult}
use Rattle.text_lines.specs.declared.fault.LineKind.{LineKind}
use Rattle.world_text.specs.Seen.{said_seen, IsLeftBehind}
use Rattle.world_text.proofs.Reading.{outside_read, outside_stops, closed_read, inside_read, stays_behind}
use Rattle.world_text.proofs.reader.Reader.take_line.Goals as goal

refused : {T : Type 0} (r : Result T LineKind) (e : LineKind) (P : T → Type 0) (Q : LineKind → Type 0) → IsErrAnd r (λ k. k ≡ e) → Q e → MatchResult r P Q
refused (Ok x) e P Q is h = absurd is
refused (Err k) e P Q is h = subst Q (sym is) h

pub returns-in_err-statement-clause-says : goal.returns-in_err-statement-clause-says
returns-in_err-statement-clause-says g c =
    refused c.from_residual.result c.in_err-statement.field-0.0 _ _ c.from_residual.ensures.1
    (outside_stops c.args.number (said_seen c.args.self.now.world) c.args.self.now.opening c.args.left.now c.args.line.now c.args.behind.now c.in_err-statement.field-0.0
    (c.is_none.ensures ∙ ap not c.if-is_none.true) c.requires.line c.in_err-statement.ensures)

pub state-requires-clause-outside : goal.state-requires-clause-outside
state-requires-clause-outside g c = c.is_none.ensures ∙ ap not c.if-is_none.true

pub returns-then-is_none-clause-says : goal.returns-then-is_none-clause-says
returns-then-is_none-clause-says g c =
    outside_read c.args.number (said_seen c.args.self.now.world) c.args.self.now.opening c.args.left.now c.args.line.now c.args.behind.now _ _
    (c.is_none.ensures ∙ ap not c.if-is_none.true) c.requires.line c.in_ok-statement.ensures c.in_ok-state.ensures.says

pub returns-then-eq-clause-says : goal.returns-then-eq-clause-says
returns-then-eq-clause-says g c =
    closed_read c.args.number (said_seen c.args.self.now.world) (said_seen c.close.new.self.world) c.args.self.now.opening c.close.new.self.opening c.args.left.now c.args.line.now c.args.behind.now
    (c.is_none.ensures ∙ ap not c.if-is_none.false) (sym c.eq.ensures ∙ c.if-eq.true) c.requires.line c.in_ok-close.ensures.opening c.in_ok-close.ensures.says

pub returns-then-eq-clause-left : goal.returns-then-eq-clause-left
returns-then-eq-clause-left g c = subst (IsLeftBehind c.args.behind.now) (sym c.in_ok-close.ensures.opening) tt

pub returns-clause-says : goal.returns-clause-says
returns-clause-says g c =
    inside_read c.args.number (said_seen c.args.self.now.world) c.args.self.now.opening c.args.left.now c.args.line.now c.args.behind.now
    (c.is_none.ensures ∙ ap not c.if-is_none.false) (sym c.eq.ensures ∙ c.if-eq.false) c.requires.line c.requires.left

pub returns-clause-left : goal.returns-clause-left
returns-clause-left g c = stays_behind c.args.left.now c.args.line.now c.args.behind.now c.args.self.now.opening c.requires.line c.requires.left
