use Rattle.std.proofs.Common.{◌∙◌, sym, ap, List, length, arith}
use Rattle.std.proofs.Math.ListN.{set}
use Rattle.world_truth.specs.Worlds.{Host}
use Rattle.worlds.specs.Kept.{addresses}
use Rattle.world_text.specs.Places.{joined}
use Rattle.world_text.specs.Readings.{Said}
use Rattle.world_text.proofs.Places.{placed, place_within, joins_at, joins_end}
use Rattle.world_text.proofs.world_text.WorldText.add.Goals as goal

pub index_mut-requires : goal.index_mut-requires
index_mut-requires g c =
    let at = placed c.args.host c.host.inside.address.0 c.deref.result.now c.args.self.now.hosts.items c.place_of.result _
    c.place_of.ensures c.deref.ensures.value (ap (λ (h : Host). h.address) c.host.view_is) c.in-Some.is in
    omega (arith, place_within c.args.host c.args.self.now.hosts.items c.in-Some.place at, ap length c.deref.ensures.value, c.deref.ensures.len)

pub returns-in_ok-join-in-Some : goal.returns-in_ok-join-in-Some
returns-in_ok-join-in-Some g c =
    let hosts : List Host → Said = λ l. record { blocks = c.args.self.now.blocks.items; hosts = l; hints = addresses c.args.self.now.hints.items } in
    let at = placed c.args.host c.host.inside.address.0 c.deref.result.now c.args.self.now.hosts.items c.place_of.result _
    c.place_of.ensures c.deref.ensures.value (ap (λ (h : Host). h.address) c.host.view_is) c.in-Some.is in
    ap hosts (ap (set c.args.self.now.hosts.items c.in-Some.place) (c.in_ok-join-in-Some.ensures ∙ ap (λ (h : Host). joined h c.args.host) c.index_mut.ensures.value)
    ∙ sym (joins_at c.args.host c.args.self.now.hosts.items c.in-Some.place c.index_mut.result.now at))

pub returns-in_ok-push-in-None : goal.returns-in_ok-push-in-None
returns-in_ok-push-in-None g c =
    let hosts : List Host → Said = λ l. record { blocks = c.args.self.now.blocks.items; hosts = l; hints = addresses c.args.self.now.hints.items } in
    let at = placed c.args.host c.host.inside.address.0 c.deref.result.now c.args.self.now.hosts.items c.place_of.result _
    c.place_of.ensures c.deref.ensures.value (ap (λ (h : Host). h.address) c.host.view_is) c.in-None.is in
    ap hosts (c.in_ok-push-in-None.ensures.items ∙ sym (joins_end c.args.host c.args.self.now.hosts.items at))
