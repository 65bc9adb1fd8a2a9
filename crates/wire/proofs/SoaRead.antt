-- An SOA, read: two names, and then five numbers.
use Rattle.std.proofs.Common.{◌≡◌, ℕ, ◌+◌, ◌-◌, ◌<◌, ◌≤◌, true, false, List, Ok, Err, ◌∙◌, ap, arith}
use Rattle.std.specs.Prelude.{nat_lt, if◌then◌else◌}
use Rattle.std.proofs.lemmas.Bool.Decides.{nat_tests}
use Rattle.rdata.specs.Data.{Soa}
use Rattle.rdata.specs.declared.rtype.RType.TheVariants as served
use Rattle.wire.specs.declared.error.WireError.{WireError}
use Rattle.wire.specs.declared.error.WireError.TheVariants.{BadRdataLength}
use Rattle.wire.specs.Numbers.{four_at}
use Rattle.wire.specs.Results.{Fails, and_then}
use Rattle.wire.specs.Values.{name_within, soa_behind, soa_numbers, form_at}
use Rattle.wire.proofs.Walks.{fails_with, then_fails}

pub primary_fails : (bytes : List ℕ) (at end : ℕ) (e : WireError) → Fails e (name_within bytes at end) → Fails e (form_at served.Soa bytes at end)
primary_fails bytes at end e h = then_fails (name_within bytes at end) (soa_behind bytes end) e h

pub mailbox_fails : (bytes : List ℕ) (at mid end : ℕ) (primary : List (List ℕ)) (e : WireError) → name_within bytes at end ≡ Ok (primary, mid) → Fails e (name_within bytes mid end)
    → Fails e (form_at served.Soa bytes at end)
mailbox_fails bytes at mid end primary e first h =
    fails_with e (name_within bytes mid end) (form_at served.Soa bytes at end)
    (λ k. ap (λ x. and_then x (soa_behind bytes end)) first ∙ ap (λ x. and_then x (soa_numbers bytes end primary)) k) h

named : (bytes : List ℕ) (at mid last end : ℕ) (primary mailbox : List (List ℕ)) → name_within bytes at end ≡ Ok (primary, mid) → name_within bytes mid end ≡ Ok (mailbox, last)
    → form_at served.Soa bytes at end ≡ soa_numbers bytes end primary (mailbox, last)
named bytes at mid last end primary mailbox first second =
    ap (λ x. and_then x (soa_behind bytes end)) first ∙ ap (λ x. and_then x (soa_numbers bytes end primary)) second

pub numbers_short : (bytes : List ℕ) (at mid last end : ℕ) (primary mailbox : List (List ℕ)) → name_within bytes at end ≡ Ok (primary, mid)
    → name_within bytes mid end ≡ Ok (mailbox, last) → end - last < 20 → form_at served.Soa bytes at end ≡ Err BadRdataLength
numbers_short bytes at mid last end primary mailbox first second short =
    let b : nat_lt end (last + 20) ≡ true = grind (arith, nat_tests) in
    named bytes at mid last end primary mailbox first second
    ∙ ap (λ c. if c then Err BadRdataLength else Ok (
      Soa (record {
        primary = primary;
        mailbox = mailbox;
        serial = four_at bytes last;
        refresh = four_at bytes (last + 4);
        retry = four_at bytes (last + 8);
        expire = four_at bytes (last + 12);
        minimum = four_at bytes (last + 16);
      }),
      last + 20,
    )) b

pub numbers_read : (bytes : List ℕ) (at mid last end : ℕ) (primary mailbox : List (List ℕ)) → name_within bytes at end ≡ Ok (primary, mid)
    → name_within bytes mid end ≡ Ok (mailbox, last) → 20 ≤ end - last → form_at served.Soa bytes at end ≡ Ok (
      Soa (record {
        primary = primary;
        mailbox = mailbox;
        serial = four_at bytes last;
        refresh = four_at bytes (last + 4);
        retry = four_at bytes (last + 8);
        expire = four_at bytes (last + 12);
        minimum = four_at bytes (last + 16);
      }),
      last + 20,
    )
numbers_read bytes at mid last end primary mailbox first second fits =
    let b : nat_lt end (last + 20) ≡ false = grind (arith, nat_tests) in
    named bytes at mid last end primary mailbox first second
    ∙ ap (λ c. if c then Err BadRdataLength else Ok (
      Soa (record {
        primary = primary;
        mailbox = mailbox;
        serial = four_at bytes last;
        refresh = four_at bytes (last + 4);
        retry = four_at bytes (last + 8);
        expire = four_at bytes (last + 12);
        minimum = four_at bytes (last + 16);
      }),
      last + 20,
    )) b
