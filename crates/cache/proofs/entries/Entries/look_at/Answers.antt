use Rattle.std.proofs.Common.{◌≡◌, sym, ap, ◌∙◌}
use Rattle.rdata.specs.Types.{type_number}
use Rattle.cache.specs.Hashed.{plain}
use Rattle.cache.specs.Cached.{under, asked_to, lent}
use Rattle.cache.proofs.Steps.{hit_is_held, moved_some, moved_none, moved_members}
use Rattle.cache.proofs.Given.{miss_is_missed}
use Rattle.cache.proofs.entries.Entries.look_at.Goals as goal
use Rattle.cache.proofs.entries.Entries.look_at.Goals.{then-is_some, else-is_some}

pub returns-clause-held : goal.returns-clause-held
returns-clause-held g c =
    let found : under (plain c.find.new.key) c.in_ok-hit.hit ≡ lent (asked_to c.args.top.now c.args.key.now.name (type_number c.args.kind)) c.args.now ((c.args.self.now).lru).entries =
    c.in_ok-hit.ensures.value in
    hit_is_held (asked_to c.args.top.now c.args.key.now.name (type_number c.args.kind)) c.args.now ((c.args.self.now).lru).entries (plain c.find.new.key) c.in_ok-hit.hit found

pub returns-clause-missed : goal.returns-clause-missed
returns-clause-missed g c =
    let found : under (plain c.find.new.key) c.in_ok-hit.hit ≡ lent (asked_to c.args.top.now c.args.key.now.name (type_number c.args.kind)) c.args.now ((c.args.self.now).lru).entries =
    c.in_ok-hit.ensures.value in
    miss_is_missed (asked_to c.args.top.now c.args.key.now.name (type_number c.args.kind)) c.args.now ((c.args.self.now).lru).entries (plain c.find.new.key) c.in_ok-hit.hit found

pub returns-clause-ok : goal.returns-clause-ok
returns-clause-ok g c =
    let found : under (plain c.find.new.key) c.in_ok-hit.hit ≡ lent (asked_to c.args.top.now c.args.key.now.name (type_number c.args.kind)) c.args.now ((c.args.self.now).lru).entries =
    c.in_ok-hit.ensures.value in
    let before = (c.args.self.now).lru in
    let after = (c.if-is_some.self).lru in
    let at = lent (asked_to c.args.top.now c.args.key.now.name (type_number c.args.kind)) c.args.now ((c.args.self.now).lru).entries in
    elim c.if-is_some.branch [
      | then-is_some w ↦ moved_some before after (plain c.find.new.key) c.in_ok-hit.hit at found (sym c.is_some.ensures ∙ w.if-is_some.true)
          (ap (λ x. x.lru) (w.self-is ∙ w.promote.ensures))
      | else-is_some w ↦ moved_none before after (plain c.find.new.key) c.in_ok-hit.hit at found (sym c.is_some.ensures ∙ w.if-is_some.false) (ap (λ x. x.lru) w.self-is)
    ]

pub returns-clause-members : goal.returns-clause-members
returns-clause-members g c =
    moved_members (c.args.self.now).lru (c.if-is_some.self).lru (lent (asked_to c.args.top.now c.args.key.now.name (type_number c.args.kind)) c.args.now ((c.args.self.now).lru).entries) (returns-clause-ok g c)
