use Rattle.std.proofs.Common.{rules, refl, ap, sym, ◌∙◌, ◌++◌, ◌∷◌, [], List, Global, append_assoc}
use Rattle.script.specs.Orders.{order_seen}
use Rattle.script.specs.declared.order.Order.{Order}
use Rattle.storm.proofs.Listing.{at_more, ask_more, other_among}
use Rattle.storm.proofs.lists.list_of.Goals as goal

pub loop-order-init : goal.loop-order-init
loop-order-init c = (record { moment = search rules; asks = (search rules, search rules) }, refl)

pub loop-order-preserved-in-At : goal.loop-order-preserved-in-At
loop-order-preserved-in-At c = (at_more order_seen c.loop-order.yielded c.in-Some.order _ _ _ _ _ c.loop-order.invariant.0 (ap order_seen c.in-At.is), c.loop-order.invariant.1 ∙ (ap (λ (xs : List (Order Global)). c.loop-order.yielded ++ xs) (c.in-Some.ensures {u = tt}).steps.0 ∙ sym (append_assoc c.loop-order.yielded (c.in-Some.order ∷ []) c.next.new.self.rest.items)))

pub loop-order-preserved : goal.loop-order-preserved
loop-order-preserved c =
    (ask_more order_seen c.loop-order.yielded c.in-Some.order _ _ _ _ _ _ _ _ _ _ _ c.loop-order.invariant.0 (ap order_seen c.in-Ask.is) c.in_ok-asking-in-Ask.ensures (search rules), c.loop-order.invariant.1 ∙ (ap (λ (xs : List (Order Global)). c.loop-order.yielded ++ xs) (c.in-Some.ensures {u = tt}).steps.0 ∙ sym (append_assoc c.loop-order.yielded (c.in-Some.order ∷ []) c.next.new.self.rest.items)))

pub returns-in_default : goal.returns-in_default
returns-in_default c = record {
  asks = tt;
  none = other_among c.args.script.items c.loop-order.yielded c.next.new.self.rest.items c.in-Some.order
      (sym c.into_iter-order-iterator.ensures.into_iter_gives.0 ∙ (c.loop-order.invariant.1 ∙ ap (λ (xs : List (Order Global)). c.loop-order.yielded ++ xs) (c.in-Some.ensures {u = tt}).steps.0)) c.in_default.not-At c.in_default.not-Ask;
}
