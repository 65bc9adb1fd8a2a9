use Rattle.std.proofs.Common.{◌∙◌, ℕ, List, Some, cond, sym, ap, rules}
use Rattle.dname.specs.Keys.{at_bytes, at_name}
use Rattle.dname.specs.Labels.{same_name}
use Rattle.dname.specs.Laws.{same_name-exact}
use Rattle.dname.proofs.Keyed.{at_names}
use Rattle.zone.specs.Tree.{or_empty, seen, spot}
use Rattle.zone.proofs.Trees.{put_one}
use Rattle.zone.proofs.nodes.put_node.Goals as goal

pub returns-in-Some : goal.returns-in-Some
returns-in-Some g c = λ q.
    let n = c.args.name.now in
    let m = c.args.nodes.now in
    let node = c.put_place.new.node in
    let after = at_names m (c.get_mut.follows.lender node) c.wire.result.now (Some node) ((c.get_mut.follows.holds node).3 (search rules)) n q c.wire.ensures in
    put_one (same_name n q) n c.args.owner.now c.args.place (seen c.in-Some.node.now) node (at_name m q) _
    (λ same. ap (λ (x : List (List ℕ)). or_empty (spot (at_name m x))) (sym (same_name-exact n q same))
    ∙ (ap (λ (bs : List ℕ). or_empty (spot (at_bytes m bs))) (sym c.wire.ensures) ∙ ap (λ o. or_empty (spot o)) (sym c.in-Some.ensures.value)))
    after c.in_ok-put_place.ensures

pub returns : goal.returns
returns g c = λ q.
    let n = c.args.name.now in
    let m = c.args.nodes.now in
    let node = c.put_place-2.new.node in
    let after = at_names c.get_mut.follows.lender-at-none c.insert.new.self c.in_ok-key.key.items (Some node) c.in_ok-insert.ensures.updates n q (c.in_ok-key.ensures.items ∙ c.wire-2.ensures)
    ∙ ap (λ o. cond (same_name n q) (Some node) (at_name o q)) c.get_mut.follows.holds-at-none in
    put_one (same_name n q) n c.args.owner.now c.args.place (record { own = c.new.result.items; wild = c.new-2.result.items }) node (at_name m q) _
    (λ same. ap (λ (x : List (List ℕ)). or_empty (spot (at_name m x))) (sym (same_name-exact n q same))
    ∙ (ap (λ (bs : List ℕ). or_empty (spot (at_bytes m bs))) (sym c.wire.ensures) ∙ (ap (λ o. or_empty (spot o)) (sym c.in_default.ensures.value)
    ∙ sym (λ j. record { own = c.new.ensures.items j; wild = c.new-2.ensures.items j }))))
    after c.in_ok-put_place-2.ensures
