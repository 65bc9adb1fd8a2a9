use Rattle.std.proofs.Common.{length, ◌∙◌, ap, map, List}
use Rattle.std.proofs.lemmas.List.{length-map}
use Rattle.rdata.specs.Caps.{capped}
use Rattle.rdata.specs.Records.{Record}
use Rattle.rdata.proofs.Places.{written_over}
use Rattle.rdata.proofs.records.Records.cap_ttl.Goals as goal

pub returns : goal.returns
returns g c =
    let new = c.cap_all.ensures ∙ ap (λ (l : List Record). map (capped c.args.most) l) c.deref_mut.ensures.value in
    written_over c.self.inside.items.items c.cap_all.new.records c.self.inside.items.len (ap length new ∙ length-map c.self.inside.items.items (capped c.args.most)) c.self.inside.items.ok.0
    ∙ (new ∙ ap (λ (l : List Record). map (capped c.args.most) l) c.self.view_is)
