-- No record of the type, or all of it with the first one's TTL.
use Rattle.std.proofs.Common.{◌∙◌, sym, ap}
use Rattle.rdata.specs.Records.{Record}
use Rattle.rdata.specs.Types.{type_number}
use Rattle.zone.specs.Look.{is_type}
use Rattle.authority.proofs.SetRows.{no_set, named_set, has_data, rows_some, first_is, values_are, timed_held}
use Rattle.authority.proofs.held.set_of.Goals as goal

pub returns-in-None-clause-value : goal.returns-in-None-clause-value
returns-in-None-clause-value g c = no_set (is_type (type_number c.args.kind)) c.args.owner.now c.args.held.now (sym c.in-None.ensures)

pub returns-in_ok-values-in-Some-clause-value : goal.returns-in_ok-values-in-Some-clause-value
returns-in_ok-values-in-Some-clause-value g c =
    let t = type_number c.args.kind in
    let rs = c.args.held.now in
    let first = first_is (is_type t) rs c.in-Some.first c.get.result.now c.in-Some.ensures c.get.ensures in
    let same = timed_held t rs c.get.result.now c.requires first in
    named_set (is_type t) c.args.owner.now rs c.get.result.now c.in_ok-clone-in-Some.field-0 c.behind-held.inside.ttl c.in_ok-values-in-Some.field-0
    c.in_ok-clone-in-Some.ensures.cases (ap (λ (r : Record). r.ttl) c.behind-held.view_is) same
    (values_are t rs c.in-Some.first c.get.result.now c.in_ok-values-in-Some.field-0 c.in-Some.ensures c.get.ensures c.in_ok-values-in-Some.ensures)

pub returns-in_ok-values-in-Some-clause-some : goal.returns-in_ok-values-in-Some-clause-some
returns-in_ok-values-in-Some-clause-some g c =
    let t = type_number c.args.kind in
    let rs = c.args.held.now in
    let first = first_is (is_type t) rs c.in-Some.first c.get.result.now c.in-Some.ensures c.get.ensures in
    let same = timed_held t rs c.get.result.now c.requires first in
    rows_some c.in_ok-clone-in-Some.field-0 c.behind-held.inside.ttl c.in_ok-values-in-Some.field-0 (has_data (is_type t) c.args.owner.now rs c.get.result.now c.in_ok-values-in-Some.field-0 same first
    (values_are t rs c.in-Some.first c.get.result.now c.in_ok-values-in-Some.field-0 c.in-Some.ensures c.get.ensures c.in_ok-values-in-Some.ensures))
