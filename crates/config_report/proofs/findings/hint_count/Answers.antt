-- The file's hints are bytes of addresses, as many as there are addresses.
use Rattle.std.proofs.Common.{◌∙◌, List, length, ap, sym}
use Rattle.std.proofs.lemmas.List.{length-map}
use Rattle.rdata.specs.declared.addr.Addr.{Addr}
use Rattle.config.specs.Configs.{Config}
use Rattle.config_report.proofs.findings.hint_count.Goals as goal

pub returns : goal.returns
returns g c =
    ap (λ (l : List Addr). length l) c.as_slice.ensures.value ∙ (sym (length-map c.config.inside.hints.items (λ (a : Addr). a.0)) ∙ ap (λ (s : Config). length s.hints) c.config.view_is)
