use Rattle.std.proofs.Common.{◌≡◌, Some, None, sym, ◌∙◌, ap, subst, refl}
use Rattle.std.proofs.lemmas.Result.{IfOk-weaker}
use Rattle.dname.specs.Labels.{Name}
use Rattle.rdata.specs.Types.{type_number}
use Rattle.zone.specs.Look.{Local, Linked}
use Rattle.zone.specs.Views.{link_view}
use Rattle.authority.specs.Answers.{local_view}
use Rattle.authority.specs.Catalogs.{among, looked}
use Rattle.worlds.specs.Hosting.{IsReplyBy, referral_to}
use Rattle.worlds.proofs.hosting.reply_among.Goals as goal

pub returns-in-NotHere : goal.returns-in-NotHere
returns-in-NotHere g c =
    let look : Name → Local = λ n. looked (among c.args.origins.now c.args.catalog.now) n (type_number c.args.query.now.kind) in
    (None, subst (λ l. IsReplyBy look c.args.query.now l None) (sym (ap local_view c.in-NotHere.is) ∙ c.in_ok-look_among.ensures.value) refl, refl)

pub returns-in-Cut : goal.returns-in-Cut
returns-in-Cut g c =
    let look : Name → Local = λ n. looked (among c.args.origins.now c.args.catalog.now) n (type_number c.args.query.now.kind) in
    let draft = Some (referral_to c.args.query.now c.in-Cut.ns c.in-Cut.glue) in
    IfOk-weaker c.refer.result _ _
    (λ r k. (draft, subst (λ l. IsReplyBy look c.args.query.now l draft) (sym (ap local_view c.in-Cut.is) ∙ c.in_ok-look_among.ensures.value) refl, k))
    c.refer.ensures

pub returns : goal.returns
returns g c =
    let look : Name → Local = λ n. looked (among c.args.origins.now c.args.catalog.now) n (type_number c.args.query.now.kind) in
    let is : Linked (link_view c.in-Link.first) ≡ look c.args.query.now.name = sym (ap local_view c.in-Link.is) ∙ c.in_ok-look_among.ensures.value in
    IfOk-weaker c.say.result _ _
    (λ r k. (k.0, subst (λ l. IsReplyBy look c.args.query.now l k.0) is k.1, k.2))
    (c.say.ensures (sym is))
