use Rattle.std.proofs.Common.{◌≡◌, refl, option_map}
use Rattle.std.proofs.lemmas.Result.{IfOk-weaker}
use Rattle.dname.specs.Labels.{Name}
use Rattle.rdata.specs.Types.{type_number}
use Rattle.zone.specs.Look.{Local}
use Rattle.authority.specs.Catalogs.{among, looked}
use Rattle.worlds.specs.Hosting.{says}
use Rattle.worlds.proofs.Origins.{said_is, replied}
use Rattle.worlds.proofs.hosting.reply_to.Goals as goal

pub returns : goal.returns
returns g c =
    let look : Name → Local = λ n. looked (among c.as_slice.result.now c.catalog.result.now) n (type_number c.args.query.now.kind) in
    let same : look ≡ says c.args.world.now c.args.address.0 (type_number c.args.query.now.kind) =
    said_is c.args.world.now c.args.address.0 c.catalog.result.now c.hosts.result.now c.in_ok-served.served.items c.as_slice.result.now (type_number c.args.query.now.kind) c.catalog.ensures
    c.hosts.ensures c.as_slice.ensures.value c.in_ok-served.ensures in
    IfOk-weaker c.reply_among-given.result _ _
    (λ r k. replied c.args.world.now c.args.address.0 c.args.query.now look (look c.args.query.now.name) k.0 (option_map (λ v. v.items) r) same refl k.1 k.2)
    c.reply_among-given.ensures
