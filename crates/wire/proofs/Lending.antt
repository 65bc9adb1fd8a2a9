-- Records lent from the bytes of a message that was read.
use Rattle.std.proofs.Common.{◌≡◌, ℕ, ◌+◌, ◌-◌, ◌≤◌, Bool, true, false, List, length, Option, Some, None, Result, Ok, Err, IsOk, refl, sym, ◌∙◌, subst, arith}
use Rattle.std.specs.Prelude.{nat_lt, if◌then◌else◌}
use Rattle.std.proofs.lemmas.Bool.Decides.{nat_tests}
use Rattle.rdata.specs.Data.{Datum, type_of}
use Rattle.rdata.specs.Records.{Record, greatest_ttl}
use Rattle.rdata.specs.Types.{type_number}
use Rattle.rdata.specs.declared.rtype.RType.{RType}
use Rattle.message_grammar.specs.Messages.{served_type, ttl_of}
use Rattle.wire.specs.declared.error.WireError.{WireError}
use Rattle.wire.specs.declared.error.WireError.TheVariants.{Short}
use Rattle.wire.specs.Chains.{AreChainEnds}
use Rattle.wire.specs.Numbers.{two_at, four_at}
use Rattle.wire.specs.Parts.{message_faults, name_at}
use Rattle.wire.specs.Values.{value_at}
use Rattle.wire.specs.Results.{and_then, end_of}
use Rattle.wire.specs.Entries.{kept_value, entry_kept, entry_sized, entry_behind, entry_at}
use Rattle.wire.specs.Views.{value_in, lent_record, IsLent}
use Rattle.wire.proofs.Bytes.{AreSmall, was_read}
use Rattle.wire.proofs.DataRead.{IsValue, value_stands}
use Rattle.wire.proofs.Skipping.{owner_at, named_there, behind, sized, whole}
use Rattle.wire.proofs.Walks.{Spelt}

-- ---- a record's parts

abbrev Entry : Type 0
Entry = Result (Option Record × ℕ) WireError

pub no_owner : (bytes : List ℕ) (at : ℕ) (e : WireError) → IsOk (entry_at bytes at) → Err e ≡ end_of (name_at bytes message_faults (length bytes) at) → ⊥
unfolding entry_at
no_owner bytes at e there h = by (name_at bytes message_faults (length bytes) at) h there
  where
    by : (r : Spelt) → Err e ≡ end_of r → IsOk (and_then r (entry_behind bytes)) → ⊥
    by (Ok (name, end)) k ok = cc
    by (Err d) k ok = let no : false ≡ true = ok in cc

module _ (bytes : List ℕ) (at past : ℕ) (there : IsOk (entry_at bytes at)) (ends : Ok past ≡ end_of (name_at bytes message_faults (length bytes) at)) where
  abbrev owner : List (List ℕ)
  owner = owner_at bytes at

  abbrev size : ℕ
  size = two_at bytes (past + 8)

  choose : (b : Bool) (x : Entry) → IsOk (if b then Err Short else x) → b ≡ false
  choose true x h = let no : false ≡ true = h in absurd (cc)
  choose false x h = refl

  ten : 10 ≤ length bytes - past
  ten =
      let h = choose (nat_lt (length bytes) (past + 10)) (entry_sized bytes owner past) (subst IsOk (behind bytes at past ends) there) in
      grind (arith, nat_tests)

  abbrev kept : Option RType → Entry
  kept o = entry_kept o bytes owner (four_at bytes (past + 4)) (past + 10) (past + 10 + size)

  pub fits : past + 10 + two_at bytes (past + 8) ≤ length bytes
  fits =
      let h = choose (nat_lt (length bytes) (past + 10 + size)) (kept (served_type (two_at bytes past) (two_at bytes (past + 2)))) (subst IsOk (sized bytes at past ends ten) there) in
      grind (arith, nat_tests)

  as_kept : (o : Option RType) → o ≡ served_type (two_at bytes past) (two_at bytes (past + 2)) → entry_at bytes at ≡ kept o
  as_kept o is = let inside = fits in whole bytes at past o ends ten (omega arith) is

  pub lent_none : (n : ℕ) → n ≡ two_at bytes (past + 8) → None ≡ served_type (two_at bytes past) (two_at bytes (past + 2)) → entry_at bytes at ≡ Ok (None, past + 10 + n)
  lent_none n e none = as_kept None none ∙ (λ i. Ok (None, past + 10 + sym e i))

  valued : (kind : RType) (end : ℕ) (r : Result Datum WireError) → IsOk (and_then r (kept_value owner (four_at bytes (past + 4)) end))
      → IsOk r × (and_then r (kept_value owner (four_at bytes (past + 4)) end) ≡ Ok (Some (record { owner = owner; ttl = ttl_of (four_at bytes (past + 4)); value = value_in r }), end))
  valued kind end (Ok v) h = (refl, refl)
  valued kind end (Err e) h = let no : false ≡ true = h in absurd (cc)

  found : (kind : RType) → Some kind ≡ served_type (two_at bytes past) (two_at bytes (past + 2))
      → IsOk (value_at kind bytes (past + 10) (past + 10 + size))
      × (and_then (value_at kind bytes (past + 10) (past + 10 + size)) (kept_value owner (four_at bytes (past + 4)) (past + 10 + size))
      ≡ Ok (Some (record { owner = owner; ttl = ttl_of (four_at bytes (past + 4)); value = value_in (value_at kind bytes (past + 10) (past + 10 + size)) }), past + 10 + size))
  found kind some = valued kind (past + 10 + size) (value_at kind bytes (past + 10) (past + 10 + size)) (subst IsOk (as_kept (Some kind) some) there)

  pub lent_some : (kind : RType) (n ttl : ℕ) → n ≡ two_at bytes (past + 8) → ttl ≡ ttl_of (four_at bytes (past + 4)) → Some kind ≡ served_type (two_at bytes past) (two_at bytes (past + 2))
      → entry_at bytes at ≡ Ok (Some (lent_record bytes at kind ttl (past + 10) (past + 10 + n)), past + 10 + n)
  lent_some kind n ttl e t some =
      as_kept (Some kind) some ∙ ((found kind some).1 ∙ (λ i. Ok (Some (lent_record bytes at kind (sym t i) (past + 10) (past + 10 + sym e i)), past + 10 + sym e i)))

  kind_by : (kind : RType) (end : ℕ) (r : Result Datum WireError) → value_at kind bytes (past + 10) end ≡ r → AreSmall bytes → end ≤ length bytes → IsOk r
      → type_of (value_in r) ≡ type_number kind
  kind_by kind end (Ok v) h small within ok = (was_read (IsValue bytes kind (past + 10) end) (value_at kind bytes (past + 10) end) v (value_stands kind bytes (past + 10) end small within) h).2
  kind_by kind end (Err e) h small within ok = let no : false ≡ true = ok in absurd (cc)

  named : IsOk (name_at bytes message_faults (length bytes) at)
  named = subst IsOk (sym (named_there (name_at bytes message_faults (length bytes) at) past ends)) refl

  pub is_lent : (known : List ℕ) (kind : RType) (n ttl : ℕ) → AreChainEnds bytes known → AreSmall bytes → n ≡ two_at bytes (past + 8) → ttl ≤ greatest_ttl
      → Some kind ≡ served_type (two_at bytes past) (two_at bytes (past + 2)) → IsLent bytes known at kind ttl (past + 10) (past + 10 + n)
  is_lent known kind n ttl are small e short some =
      let end : past + 10 + two_at bytes (past + 8) ≡ past + 10 + n = omega arith in
      let inside = fits in
      subst (λ (k : ℕ). IsLent bytes known at kind ttl (past + 10) k) end (record {
        known = are;
        named = named;
        valued = (found kind some).0;
        kind_is = kind_by kind (past + 10 + size) (value_at kind bytes (past + 10) (past + 10 + size)) refl small inside (found kind some).0;
        starts = omega arith;
        fits = inside;
        short = short;
      })
