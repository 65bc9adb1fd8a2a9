use Rattle.std.proofs.Common.{◌≡◌, false, sym, ◌∙◌, ap, subst}
use Rattle.std.specs.List.{list_any}
use Rattle.worlds.specs.Rules.{is_lame}
use Rattle.worlds.proofs.Members.{any_none, any_more}
use Rattle.worlds.proofs.servers.has_lame_cut.Goals as goal

pub loop-record-preserved : goal.loop-record-preserved
loop-record-preserved g c =
    any_more (is_lame c.args.catalog.now c.args.hosts.now (c.args.zone.now).origin) _ c.loop-record.record-index c.record-item.result c.loop-record-test.true c.record-item.is c.loop-record.invariant
    (subst (λ o. is_lame c.args.catalog.now c.args.hosts.now o c.record-item.result ≡ false) c.origin.ensures (sym c.in_ok-is_lame.ensures ∙ c.if-branch.false))

pub returns : goal.returns
returns g c =
    any_none (is_lame c.args.catalog.now c.args.hosts.now (c.args.zone.now).origin) c.records-record-items.result.now c.loop-record.record-index c.loop-record-test.false c.loop-record.invariant
    ∙ ap (list_any (is_lame c.args.catalog.now c.args.hosts.now (c.args.zone.now).origin)) c.records-record-items.ensures
