use Rattle.std.proofs.Common.{sym, ◌∙◌, ap, List}
use Rattle.dname.specs.Labels.{Name}
use Rattle.zone.specs.Zones.{Zone}
use Rattle.worlds.specs.Kept.{world_with}
use Rattle.worlds.specs.Rules.{has_origin, has_loose_cuts, has_undelegated, has_lame_cuts, has_idle_host}
use Rattle.worlds.proofs.Refused.{no_root, loose, undelegated, idle, lame, bad_hint, no_start, well_formed}
use Rattle.worlds.proofs.world.check_rules.Goals as goal

pub returns-then-not-has_origin : goal.returns-then-not-has_origin
returns-then-not-has_origin g c =
    no_root (world_with c.args.catalog.now c.args.hosts.now c.args.hints.now c.args.locals.now)
    (record { all = c.zones-zones.ensures.sound; apart = c.zones-zones.ensures.apart })
    (ap (λ (n : Name). has_origin n c.args.catalog.now) (sym c.requires) ∙ (ap (λ (zs : List Zone). has_origin c.args.top.now zs) (sym c.zones-zones.ensures.value) ∙ (sym c.has_origin.ensures ∙ c.if-not-has_origin.true)))

pub returns-then-has_loose_cuts : goal.returns-then-has_loose_cuts
returns-then-has_loose_cuts g c =
    loose (world_with c.args.catalog.now c.args.hosts.now c.args.hints.now c.args.locals.now)
    (record { parts = record { all = c.zones-zones.ensures.sound; apart = c.zones-zones.ensures.apart }; rooted = ap (λ (n : Name). has_origin n c.args.catalog.now) (sym c.requires) ∙ (ap (λ (zs : List Zone). has_origin c.args.top.now zs) (sym c.zones-zones.ensures.value) ∙ (sym c.has_origin.ensures ∙ c.if-not-has_origin.false)) })
    (ap (λ (zs : List Zone). has_loose_cuts zs zs) (sym c.zones-zones.ensures.value) ∙ (sym c.has_loose_cuts.ensures ∙ c.if-has_loose_cuts.true))

pub returns-then-has_undelegated : goal.returns-then-has_undelegated
returns-then-has_undelegated g c =
    undelegated (world_with c.args.catalog.now c.args.hosts.now c.args.hints.now c.args.locals.now)
    (record { before = record { parts = record { all = c.zones-zones.ensures.sound; apart = c.zones-zones.ensures.apart }; rooted = ap (λ (n : Name). has_origin n c.args.catalog.now) (sym c.requires) ∙ (ap (λ (zs : List Zone). has_origin c.args.top.now zs) (sym c.zones-zones.ensures.value) ∙ (sym c.has_origin.ensures ∙ c.if-not-has_origin.false)) }; cuts = ap (λ (zs : List Zone). has_loose_cuts zs zs) (sym c.zones-zones.ensures.value) ∙ (sym c.has_loose_cuts.ensures ∙ c.if-has_loose_cuts.false) })
    (ap (λ (zs : List Zone). has_undelegated zs c.args.locals.now zs) (sym c.zones-zones.ensures.value) ∙ (sym c.has_undelegated.ensures ∙ c.if-has_undelegated.true))

pub returns-then-has_idle_host : goal.returns-then-has_idle_host
returns-then-has_idle_host g c =
    idle (world_with c.args.catalog.now c.args.hosts.now c.args.hints.now c.args.locals.now)
    (record { before = record { before = record { parts = record { all = c.zones-zones.ensures.sound; apart = c.zones-zones.ensures.apart }; rooted = ap (λ (n : Name). has_origin n c.args.catalog.now) (sym c.requires) ∙ (ap (λ (zs : List Zone). has_origin c.args.top.now zs) (sym c.zones-zones.ensures.value) ∙ (sym c.has_origin.ensures ∙ c.if-not-has_origin.false)) }; cuts = ap (λ (zs : List Zone). has_loose_cuts zs zs) (sym c.zones-zones.ensures.value) ∙ (sym c.has_loose_cuts.ensures ∙ c.if-has_loose_cuts.false) }; placed = ap (λ (zs : List Zone). has_undelegated zs c.args.locals.now zs) (sym c.zones-zones.ensures.value) ∙ (sym c.has_undelegated.ensures ∙ c.if-has_undelegated.false) })
    (ap (λ (zs : List Zone). has_idle_host zs c.args.hosts.now) (sym c.zones-zones.ensures.value) ∙ (sym c.has_idle_host.ensures ∙ c.if-has_idle_host.true))

pub returns-then-branch : goal.returns-then-branch
returns-then-branch g c =
    lame (world_with c.args.catalog.now c.args.hosts.now c.args.hints.now c.args.locals.now)
    (record { before = record { before = record { before = record { parts = record { all = c.zones-zones.ensures.sound; apart = c.zones-zones.ensures.apart }; rooted = ap (λ (n : Name). has_origin n c.args.catalog.now) (sym c.requires) ∙ (ap (λ (zs : List Zone). has_origin c.args.top.now zs) (sym c.zones-zones.ensures.value) ∙ (sym c.has_origin.ensures ∙ c.if-not-has_origin.false)) }; cuts = ap (λ (zs : List Zone). has_loose_cuts zs zs) (sym c.zones-zones.ensures.value) ∙ (sym c.has_loose_cuts.ensures ∙ c.if-has_loose_cuts.false) }; placed = ap (λ (zs : List Zone). has_undelegated zs c.args.locals.now zs) (sym c.zones-zones.ensures.value) ∙ (sym c.has_undelegated.ensures ∙ c.if-has_undelegated.false) }; housed = ap (λ (zs : List Zone). has_idle_host zs c.args.hosts.now) (sym c.zones-zones.ensures.value) ∙ (sym c.has_idle_host.ensures ∙ c.if-has_idle_host.false) })
    (ap (λ (zs : List Zone). has_lame_cuts c.args.catalog.now c.args.hosts.now zs) (sym c.zones-zones.ensures.value) ∙ (sym c.in_ok-has_lame_cuts.ensures ∙ c.if-branch.true))

pub returns-then-has_bad_hint : goal.returns-then-has_bad_hint
returns-then-has_bad_hint g c =
    bad_hint (world_with c.args.catalog.now c.args.hosts.now c.args.hints.now c.args.locals.now)
    (record { before = record { before = record { before = record { before = record { parts = record { all = c.zones-zones.ensures.sound; apart = c.zones-zones.ensures.apart }; rooted = ap (λ (n : Name). has_origin n c.args.catalog.now) (sym c.requires) ∙ (ap (λ (zs : List Zone). has_origin c.args.top.now zs) (sym c.zones-zones.ensures.value) ∙ (sym c.has_origin.ensures ∙ c.if-not-has_origin.false)) }; cuts = ap (λ (zs : List Zone). has_loose_cuts zs zs) (sym c.zones-zones.ensures.value) ∙ (sym c.has_loose_cuts.ensures ∙ c.if-has_loose_cuts.false) }; placed = ap (λ (zs : List Zone). has_undelegated zs c.args.locals.now zs) (sym c.zones-zones.ensures.value) ∙ (sym c.has_undelegated.ensures ∙ c.if-has_undelegated.false) }; housed = ap (λ (zs : List Zone). has_idle_host zs c.args.hosts.now) (sym c.zones-zones.ensures.value) ∙ (sym c.has_idle_host.ensures ∙ c.if-has_idle_host.false) }; served = ap (λ (zs : List Zone). has_lame_cuts c.args.catalog.now c.args.hosts.now zs) (sym c.zones-zones.ensures.value) ∙ (sym c.in_ok-has_lame_cuts.ensures ∙ c.if-branch.false) })
    (sym c.has_bad_hint.ensures ∙ c.if-has_bad_hint.true)

pub returns-then-lacks_start : goal.returns-then-lacks_start
returns-then-lacks_start g c =
    no_start (world_with c.args.catalog.now c.args.hosts.now c.args.hints.now c.args.locals.now)
    (record { before = record { before = record { before = record { before = record { before = record { parts = record { all = c.zones-zones.ensures.sound; apart = c.zones-zones.ensures.apart }; rooted = ap (λ (n : Name). has_origin n c.args.catalog.now) (sym c.requires) ∙ (ap (λ (zs : List Zone). has_origin c.args.top.now zs) (sym c.zones-zones.ensures.value) ∙ (sym c.has_origin.ensures ∙ c.if-not-has_origin.false)) }; cuts = ap (λ (zs : List Zone). has_loose_cuts zs zs) (sym c.zones-zones.ensures.value) ∙ (sym c.has_loose_cuts.ensures ∙ c.if-has_loose_cuts.false) }; placed = ap (λ (zs : List Zone). has_undelegated zs c.args.locals.now zs) (sym c.zones-zones.ensures.value) ∙ (sym c.has_undelegated.ensures ∙ c.if-has_undelegated.false) }; housed = ap (λ (zs : List Zone). has_idle_host zs c.args.hosts.now) (sym c.zones-zones.ensures.value) ∙ (sym c.has_idle_host.ensures ∙ c.if-has_idle_host.false) }; served = ap (λ (zs : List Zone). has_lame_cuts c.args.catalog.now c.args.hosts.now zs) (sym c.zones-zones.ensures.value) ∙ (sym c.in_ok-has_lame_cuts.ensures ∙ c.if-branch.false) }; hinted = sym c.has_bad_hint.ensures ∙ c.if-has_bad_hint.false })
    (sym c.lacks_start.ensures ∙ c.if-lacks_start.true)

pub returns : goal.returns
returns g c =
    well_formed (world_with c.args.catalog.now c.args.hosts.now c.args.hints.now c.args.locals.now)
    (record { before = record { before = record { before = record { before = record { before = record { parts = record { all = c.zones-zones.ensures.sound; apart = c.zones-zones.ensures.apart }; rooted = ap (λ (n : Name). has_origin n c.args.catalog.now) (sym c.requires) ∙ (ap (λ (zs : List Zone). has_origin c.args.top.now zs) (sym c.zones-zones.ensures.value) ∙ (sym c.has_origin.ensures ∙ c.if-not-has_origin.false)) }; cuts = ap (λ (zs : List Zone). has_loose_cuts zs zs) (sym c.zones-zones.ensures.value) ∙ (sym c.has_loose_cuts.ensures ∙ c.if-has_loose_cuts.false) }; placed = ap (λ (zs : List Zone). has_undelegated zs c.args.locals.now zs) (sym c.zones-zones.ensures.value) ∙ (sym c.has_undelegated.ensures ∙ c.if-has_undelegated.false) }; housed = ap (λ (zs : List Zone). has_idle_host zs c.args.hosts.now) (sym c.zones-zones.ensures.value) ∙ (sym c.has_idle_host.ensures ∙ c.if-has_idle_host.false) }; served = ap (λ (zs : List Zone). has_lame_cuts c.args.catalog.now c.args.hosts.now zs) (sym c.zones-zones.ensures.value) ∙ (sym c.in_ok-has_lame_cuts.ensures ∙ c.if-branch.false) }; hinted = sym c.has_bad_hint.ensures ∙ c.if-has_bad_hint.false })
    (sym c.lacks_start.ensures ∙ c.if-lacks_start.false)
