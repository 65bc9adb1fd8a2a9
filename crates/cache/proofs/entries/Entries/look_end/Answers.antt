use Rattle.std.proofs.Common.{sym, ap, ◌∙◌}
use Rattle.rdata.specs.Types.{type_number}
use Rattle.cache.specs.Hashed.{plain}
use Rattle.cache.proofs.Ends.{uses_one, uses_none}
use Rattle.cache.proofs.entries.Entries.look_end.Goals as goal
use Rattle.cache.proofs.entries.Entries.look_end.Goals.{then-is_some, else-is_some}

pub returns-clause-ok : goal.returns-clause-ok
returns-clause-ok g c =
    let t = type_number c.args.kind in
    let q = (c.args.key.now).name in
    let before = (c.args.self.now).lru in
    let after = (c.if-is_some.self).lru in
    let hit = c.in_ok-hit.hit in
    elim c.if-is_some.branch [
      | then-is_some w ↦ uses_one q t c.args.now before after hit (plain c.find_end.new.key) c.in_ok-hit.ensures.value (sym c.is_some.ensures ∙ w.if-is_some.true) (ap (λ x. x.lru) (w.self-is ∙ w.promote.ensures))
      | else-is_some w ↦ uses_none q t c.args.now before after hit (sym c.is_some.ensures ∙ w.if-is_some.false) (ap (λ x. x.lru) w.self-is)
    ]
