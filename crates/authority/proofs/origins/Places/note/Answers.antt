use Rattle.std.proofs.Common.{◌≡◌, ◌∙◌, ap, ℕ, Some, List, length}
use Rattle.dname.specs.Labels.{wire}
use Rattle.dname.specs.Keys.{at_bytes}
use Rattle.dname.proofs.Keyed.{at_names}
use Rattle.authority.proofs.Places.{fresh_is, marked_more}
use Rattle.authority.proofs.origins.Places.note.Goals as goal

pub returns-clause-fresh : goal.returns-clause-fresh
returns-clause-fresh g c =
    let key : c.in_ok-key.key.items ≡ wire c.args.zone.now.origin = c.in_ok-key.ensures.items ∙ (c.wire.ensures ∙ ap wire c.origin-name.ensures) in
    fresh_is _ _ c.is_none.result c.is_none.ensures (c.in_ok-noted.ensures.old ∙ ap (at_bytes c.args.self.now.by_origin) key)

pub returns-clause-noted : goal.returns-clause-noted
returns-clause-noted g c = λ q.
    let key : c.in_ok-key.key.items ≡ wire c.args.zone.now.origin = c.in_ok-key.ensures.items ∙ (c.wire.ensures ∙ ap wire c.origin-name.ensures) in
    at_names c.args.self.now.by_origin c.insert.new.self c.in_ok-key.key.items (Some c.args.place) c.in_ok-noted.ensures.updates c.args.zone.now.origin q key

pub returns-clause-sized : goal.returns-clause-sized
returns-clause-sized g c =
    marked_more c.args.self.now.by_origin c.insert.new.self c.args.self.now.sizes c.args.zone.now.origin c.size.result c.args.place c.requires (c.size.ensures.is ∙ ap (λ (n : List (List ℕ)). length (wire n)) c.origin-name.ensures) c.size.ensures.short
    (returns-clause-noted g c)
