use Rattle.std.proofs.Common.{List, [], ◌∷◌, ◌++◌, ◌∙◌, arith, ap, sym, append_assoc, length, map, Vec, Global}
use Rattle.std.proofs.lemmas.List.{length_push}
use Rattle.script.specs.Orders.{order_seen}
use Rattle.script.specs.declared.order.Order.{Order}
use Rattle.storm.specs.declared.query.StormQuery.{StormQuery}
use Rattle.storm.proofs.Listing.{script_more, script_among}
use Rattle.storm.proofs.lists.lists_of.Goals as goal

pub loop-script-preserved : goal.loop-script-preserved
loop-script-preserved c =
    let longer = c.in_ok-push.ensures.items in
    let same = c.loop-script.invariant.0 in
    let lists = length_push c.loop-script.lists.items c.in-Some-2.list in
    let scripts = length_push c.loop-script.yielded c.in-Some.script in
    let all = ap (λ (l : List (Vec (StormQuery Global) Global)). length l) longer in (
      omega (arith, same, lists, scripts, all),
      script_more (λ (s : Vec (Order Global) Global). map order_seen s.items) (λ (l : Vec (StormQuery Global) Global). l.items) c.loop-script.yielded c.in-Some.script c.loop-script.lists.items _ _ _ _ _
          c.loop-script.invariant.1 (rw c.in-Some-2.is at c.in_ok-list.ensures.asks) longer,
      c.loop-script.invariant.2 ∙ (ap (λ (xs : List (Vec (Order Global) Global)). c.loop-script.yielded ++ xs) (c.in-Some.ensures {u = tt}).steps.0 ∙ sym (append_assoc c.loop-script.yielded (c.in-Some.script ∷ []) c.next.new.self.rest.items)),
    )

pub returns-in_default-clause-none : goal.returns-in_default-clause-none
returns-in_default-clause-none c =
    script_among (λ (s : Vec (Order Global) Global). map order_seen s.items) c.args.scripts.items c.loop-script.yielded c.next.new.self.rest.items c.in-Some.script
    (sym c.into_iter-script-iterator.ensures.into_iter_gives.0 ∙ (c.loop-script.invariant.2 ∙ ap (λ (xs : List (Vec (Order Global) Global)). c.loop-script.yielded ++ xs) (c.in-Some.ensures {u = tt}).steps.0))
    (rw c.in_default.is at (c.in_ok-list.ensures {u = tt}).none)
