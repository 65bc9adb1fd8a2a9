use Rattle.std.proofs.Common.{◌≡◌, true, length, nat_le, sym, ◌∙◌, rules}
use Rattle.std.proofs.lemmas.Fn.{filter_same}
use Rattle.std.specs.List.{filter}
use Rattle.admission.proofs.Lists.{when_true}
use Rattle.server.specs.Arrivals.{may_be_open}
use Rattle.server.proofs.tally.make_room.Goals as goal

pub returns-then-len-ge-MAX_OPEN_QUERIES-clause-items : goal.returns-then-len-ge-MAX_OPEN_QUERIES-clause-items
returns-then-len-ge-MAX_OPEN_QUERIES-clause-items c =
    let left : c.retain.new.self.items ≡ filter (may_be_open c.args.now) c.args.open.now.items = filter_same _ _ _ (λ x b f' k. search rules) _ _ c.retain.ensures.filtered in
    let full : nat_le 1_024 (length c.args.open.now.items) ≡ true = search rules in
    left ∙ sym (when_true (filter (may_be_open c.args.now) c.args.open.now.items) c.args.open.now.items full)
