-- What an entry says: by cases, and by the function that reads it.
use Rattle.std.proofs.Common.{◌≡◌, ℕ, Bool, true, false, cond, Option, Some, None, Result, Ok, Err, List, [], ◌∷◌, refl, sym, ap, subst, ◌∙◌, codes}
use Rattle.rdata.specs.Records.{Record, greatest_ttl}
use Rattle.master_lexer.specs.Lexemes.{Word, plain, quoted, broken}
use Rattle.master_lexer.specs.Entries.{Lead, margin, blank, shifted}
use Rattle.master_lexer.specs.Parts.{AreWhole}
use Rattle.masterfile.specs.declared.faults.FileKind.{FileKind}
use Rattle.masterfile.specs.declared.faults.FileKind.TheVariants.{UnknownDirective}
use Rattle.masterfile.specs.Faults.{◌>>=◌}
use Rattle.masterfile.specs.Numbers.{number_of}
use Rattle.masterfile.specs.Fields.{same_word, name_of, take_name, take_number, take_end, take_data}
use Rattle.masterfile.specs.Entries.{Context, take_head, first_some, or_no_ttl, ttl_in, or_no_owner, record_of, begins_directive, directive_in, no_record, record_of_named, entry_in}
use Rattle.masterfile.specs.MasterText.{IsOwner, IsRecordEntry, Says, says_nothing, sets_origin, sets_ttl, states_record}
use Rattle.masterfile.proofs.WordLemmas.{origin_directive, ttl_directive, ttl_no_origin}
use Rattle.masterfile.proofs.HeadLaw.{head_is, head_read, head_first, head_whole}
use Rattle.masterfile.proofs.Inverse.{steps, pair_is, field, ended, data_is, data_read, data_whole}

abbrev Found : Type 0
Found = Option Record × Context

some_ttl : (o : Option ℕ) (n : ℕ) → or_no_ttl o ≡ Ok n → o ≡ Some n
some_ttl None n e = cc
some_ttl (Some m) n e = let p : m ≡ n = cc in ap Some p

some_owner : (o : Option (List (List ℕ))) (n : List (List ℕ)) → or_no_owner o ≡ Ok n → o ≡ Some n
some_owner None n e = cc
some_owner (Some m) n e = let p : m ≡ n = cc in ap Some p

record_entry : (c : Context) (lead : Lead) (all : List Word) (owner : List (List ℕ)) (ws : List Word) (y : Found) → IsOwner c lead all owner ws → record_of c owner ws ≡ Ok y → Says c lead all y.0 y.1
record_entry c lead all owner ws y o e =
    let a = steps (take_head None false ws) _ y e in
    let b = steps (ttl_in c a.0.ttl) _ y a.2 in
    let d = steps (take_data c.origin a.0.kind a.0.rest) _ y b.2 in
    let stated : Record = record { owner = owner; ttl = b.0; value = d.0.0 } in
    let after : Context = record c { owner = Some owner; stated = first_some a.0.ttl c.stated } in
    let all_taken : Found = (Some stated, after) in
    let f = ended all_taken y d.0.1 d.2 in
    states_record c lead all y.0 y.1 stated (sym (ap (λ (x : Found). x.0) f.1)) (record {
      behind = ws;
      stated = a.0.ttl;
      kind = a.0.kind;
      rest = a.0.rest;
      owner = o;
      head = head_is ws a.0 a.1;
      time = some_ttl (first_some a.0.ttl (first_some c.standing c.stated)) b.0 b.1;
      value = data_is c.origin a.0.kind a.0.rest d.0.0 d.0.1 d.1 f.0;
      after = sym (ap (λ (x : Found). x.1) f.1);
    })

none_is : (c : Context) (y : Found) → no_record c ≡ Ok y → (y.0 ≡ None) × (y.1 ≡ c)
none_is c y e = let p = pair_is None y.0 c y.1 e in (sym p.0, sym p.1)

directive_by : (c : Context) (d : List ℕ) (ws : List Word) (next : Context) (y : Found) (a b : Bool) → begins_directive d ≡ true → same_word d (codes "$ORIGIN") ≡ a → same_word d (codes "$TTL") ≡ b
    → cond a (take_name c.origin ws >>= λ (n : List (List ℕ) × List Word). take_end (record c { origin = n.0 }) n.1)
    (cond b (take_number greatest_ttl ws >>= λ (n : ℕ × List Word). take_end (record c { standing = Some n.0 }) n.1) (Err UnknownDirective)) ≡ Ok next
    → y.0 ≡ None → y.1 ≡ next → Says c margin (plain d ∷ ws) y.0 y.1
directive_by c d ws next y true b k o t e r n =
    let s = steps (take_name c.origin ws) (λ (m : List (List ℕ) × List Word). take_end (record c { origin = m.0 }) m.1) next e in
    let after : Context = record c { origin = s.0.0 } in
    let f = ended after next s.0.1 s.2 in
    let g = field (name_of c.origin) ws s.0.0 s.0.1 s.1 in
    sets_origin c margin (plain d ∷ ws) y.0 y.1 d g.0 s.0.0 refl (ap (λ (x : List Word). plain d ∷ x) (g.1 ∙ ap (λ (x : List Word). plain g.0 ∷ x) f.0)) o g.2 r (n ∙ sym f.1)
directive_by c d ws next y false true k o t e r n =
    let s = steps (take_number greatest_ttl ws) (λ (m : ℕ × List Word). take_end (record c { standing = Some m.0 }) m.1) next e in
    let after : Context = record c { standing = Some s.0.0 } in
    let f = ended after next s.0.1 s.2 in
    let g = field (number_of greatest_ttl) ws s.0.0 s.0.1 s.1 in
    sets_ttl c margin (plain d ∷ ws) y.0 y.1 d g.0 s.0.0 refl (ap (λ (x : List Word). plain d ∷ x) (g.1 ∙ ap (λ (x : List Word). plain g.0 ∷ x) f.0)) t g.2 r (n ∙ sym f.1)
directive_by c d ws next y false false k o t e r n = cc

named_entry : (c : Context) (lead : Lead) (all : List Word) (w : List ℕ) (ws : List Word) (y : Found)
    → ((owner : List (List ℕ)) → name_of c.origin w ≡ Ok owner → IsOwner c lead all owner ws) → record_of_named c w ws ≡ Ok y → Says c lead all y.0 y.1
named_entry c lead all w ws y o e =
    let s = steps (name_of c.origin w) (λ (owner : List (List ℕ)). record_of c owner ws) y e in
    record_entry c lead all s.0 ws y (o s.0 s.1) s.2

margin_by : (c : Context) (w : List ℕ) (ws : List Word) (y : Found) (b : Bool) → begins_directive w ≡ b → cond b (directive_in c w ws >>= no_record) (record_of_named c w ws) ≡ Ok y
    → Says c margin (plain w ∷ ws) y.0 y.1
margin_by c w ws y true k e =
    let s = steps (directive_in c w ws) no_record y e in
    let n = none_is s.0 y s.2 in
    directive_by c w ws s.0 y (same_word w (codes "$ORIGIN")) (same_word w (codes "$TTL")) k refl refl s.1 n.0 n.1
margin_by c w ws y false k e = named_entry c margin (plain w ∷ ws) w ws y (λ owner n. (w, refl, k, n)) e

pub entry_is : (c : Context) (lead : Lead) (ws : List Word) (y : Found) → entry_in c lead ws ≡ Ok y → Says c lead ws y.0 y.1
entry_is c lead [] y e = let n = none_is c y e in says_nothing c lead [] y.0 y.1 refl n.0 n.1
entry_is c lead (quoted w ∷ ws) y e = cc
entry_is c lead (broken ∷ ws) y e = cc
entry_is c blank (plain w ∷ ws) y e =
    let s = steps (or_no_owner c.owner) (λ (owner : List (List ℕ)). record_of c owner (plain w ∷ ws)) y e in
    record_entry c blank (plain w ∷ ws) s.0 (plain w ∷ ws) y (some_owner c.owner s.0 s.1, refl) s.2
entry_is c shifted (plain w ∷ ws) y e = named_entry c shifted (plain w ∷ ws) w ws y (λ owner n. (w, refl, n)) e
entry_is c margin (plain w ∷ ws) y e = margin_by c w ws y (begins_directive w) refl e

-- the other way round
record_read : (c : Context) (lead : Lead) (ws : List Word) (r : Record) (next : Context) (h : IsRecordEntry c lead ws r next) → record_of c r.owner h.behind ≡ Ok (Some r, next)
record_read c lead ws r next h =
    rw (head_read h.behind h.stated h.kind h.rest h.head, h.time, data_read c.origin h.kind h.rest r.value h.value, h.after) refl

entry_read : (c : Context) (lead : Lead) (ws : List Word) (owner : List (List ℕ)) (behind : List Word) (w : List ℕ) (more : List Word) (y : Result Found FileKind) → IsOwner c lead ws owner behind
    → behind ≡ plain w ∷ more → record_of c owner behind ≡ y → entry_in c lead ws ≡ y
entry_read c blank ws owner behind w more y o h e =
    rw (sym o.1 ∙ h) (rw o.0 (subst (λ (b : List Word). record_of c owner b ≡ y) h e))
entry_read c shifted ws owner behind w more y o h e = rw (o.1, o.2) e
entry_read c margin ws owner behind w more y o h e = rw (o.1, o.2, o.3) e

pub says_read : (c : Context) (lead : Lead) (ws : List Word) (r : Option Record) (next : Context) → Says c lead ws r next → entry_in c lead ws ≡ Ok (r, next)
says_read _ _ _ _ _ (says_nothing c lead ws r next e n k) = rw (e, n, k) refl
says_read _ _ _ _ _ (sets_origin c lead ws r next d w n l e o m k j) = rw (l, e, origin_directive d o, o, m, k, j) refl
says_read _ _ _ _ _ (sets_ttl c lead ws r next d w n l e t m k j) = rw (l, e, ttl_directive d t, ttl_no_origin d t, t, m, k, j) refl
says_read _ _ _ _ _ (states_record c lead ws r next s e h) =
    let f = head_first h.behind h.stated h.kind h.rest h.head in
    rw e (entry_read c lead ws s.owner h.behind f.0 f.1 (Ok (Some s, next)) h.owner f.2 (record_read c lead ws s next h))

owner_whole : (c : Context) (lead : Lead) (ws : List Word) (owner : List (List ℕ)) (behind : List Word) → IsOwner c lead ws owner behind → AreWhole behind → AreWhole ws
owner_whole c blank ws owner behind o h = subst AreWhole o.1 h
owner_whole c shifted ws owner behind o h = rw o.1 h
owner_whole c margin ws owner behind o h = rw o.1 h

pub says_whole : (c : Context) (lead : Lead) (ws : List Word) (r : Option Record) (next : Context) → Says c lead ws r next → AreWhole ws
says_whole _ _ _ _ _ (says_nothing c lead ws r next e n k) = rw e tt
says_whole _ _ _ _ _ (sets_origin c lead ws r next d w n l e o m k j) = rw e tt
says_whole _ _ _ _ _ (sets_ttl c lead ws r next d w n l e t m k j) = rw e tt
says_whole _ _ _ _ _ (states_record c lead ws r next s e h) =
    owner_whole c lead ws s.owner h.behind h.owner (head_whole h.behind h.stated h.kind h.rest h.head (data_whole c.origin h.kind h.rest s.value h.value))
