-- Equality of records, their TTLs too, and of lists of them, with its laws.
use Rattle.std.specs.Prelude.{Bool, ◌&&◌, nat_eq, List}
use Rattle.std.specs.Cmp.{IsPartialEquivalence, IsEquivalence, on_equiv, and_equiv, nat_eq_equiv, partial_equiv_from_equiv}
use Rattle.std.specs.Cmp.Lexicographic.{pointwise, lists_equiv}
use Rattle.dname.specs.Labels.{same_name}
use Rattle.dname.specs.Laws.{same_name_equiv}
use Rattle.rdata.specs.Data.{same_data}
use Rattle.rdata.specs.Order.{same_data_equiv}
use Rattle.rdata.specs.Records.{Record}

-- The same owner, TTL and data.
abbrev pub same_record : Record → Record → Bool
same_record r s = nat_eq r.ttl s.ttl && same_name r.owner s.owner && same_data r.value s.value

abbrev pub same_records : List Record → List Record → Bool
same_records rs ss = pointwise same_record rs ss

pub same_record_equiv : IsEquivalence same_record
same_record_equiv =
    and_equiv (and_equiv (on_equiv (λ (r : Record). r.ttl) nat_eq_equiv) (on_equiv (λ (r : Record). r.owner) same_name_equiv))
    (on_equiv (λ (r : Record). r.value) same_data_equiv)

pub same_record_per : IsPartialEquivalence same_record
same_record_per = partial_equiv_from_equiv same_record_equiv

pub same_records_equiv : IsEquivalence same_records
same_records_equiv = lists_equiv same_record_equiv

pub same_records_per : IsPartialEquivalence same_records
same_records_per = partial_equiv_from_equiv same_records_equiv
