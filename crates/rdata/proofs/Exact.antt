-- The tests for equal data, records and sets find equal ones, and no others.
use Rattle.std.proofs.Common.{◌≡◌, ℕ, ◌<◌, ◌≤◌, Bool, true, false, ◌&&◌, nat_eq, List, [], ◌∷◌, length, map, get_or, refl, sym, ◌∙◌, ap, subst, eqb-true, eq-eqb, arith}
use Rattle.std.specs.Cmp.Lexicographic.{pointwise, pointwise_decides, bytes_decides}
use Rattle.std.specs.Bool.{Decides}
use Rattle.std.specs.Cmp.Derive.Mapped.{pointwise-map}
use Rattle.std.proofs.lemmas.Bool.Decides.{same_from_decides}
use Rattle.std.proofs.lemmas.Bool.{and_parts, and_from}
use Rattle.dname.specs.Labels.{same_name}
use Rattle.dname.specs.Laws.{same_name-exact, same_name-equal, same_name-refl}
use Rattle.rdata.specs.Data.{Authority, Service, Datum, Ipv4, Ns, Cname, Soa, Ptr, Mx, Txt, Ipv6, Srv, same_authority, same_service, same_data}
use Rattle.rdata.specs.Equality.{same_record, same_records}
use Rattle.rdata.specs.Kept.{datum}
use Rattle.rdata.specs.Order.{same_kept}
use Rattle.rdata.specs.Records.{Record}
use Rattle.rdata.specs.Rows.{plain_rows}
use Rattle.rdata.specs.declared.data.RData.{RData}

same_strings : (a b : List (List ℕ)) → Decides (pointwise (pointwise nat_eq) a b) (a ≡ b)
same_strings = pointwise_decides {E = pointwise nat_eq} bytes_decides

both : (x y : Bool) → (x && y) ≡ true → (x ≡ true) × (y ≡ true)
both = and_parts

same_authority-exact : (a b : Authority) → same_authority a b ≡ true → a ≡ b
same_authority-exact a b h =
    let p = both _ (nat_eq a.minimum b.minimum) h in
    let o = both _ (nat_eq a.expire b.expire) p.0 in
    let n = both _ (nat_eq a.retry b.retry) o.0 in
    let m = both _ (nat_eq a.refresh b.refresh) n.0 in
    let l = both _ (nat_eq a.serial b.serial) m.0 in
    let k = both (same_name a.primary b.primary) (same_name a.mailbox b.mailbox) l.0 in
    let e1 = same_name-exact a.primary b.primary k.0 in
    let e2 = same_name-exact a.mailbox b.mailbox k.1 in
    let e3 = eqb-true a.serial b.serial l.1 in
    let e4 = eqb-true a.refresh b.refresh m.1 in
    let e5 = eqb-true a.retry b.retry n.1 in
    let e6 = eqb-true a.expire b.expire o.1 in
    let e7 = eqb-true a.minimum b.minimum p.1 in
    λ i. record { primary = e1 i; mailbox = e2 i; serial = e3 i; refresh = e4 i; retry = e5 i; expire = e6 i; minimum = e7 i }

same_service-exact : (a b : Service) → same_service a b ≡ true → a ≡ b
same_service-exact a b h =
    let m = both _ (same_name a.target b.target) h in
    let l = both _ (nat_eq a.port b.port) m.0 in
    let k = both (nat_eq a.priority b.priority) (nat_eq a.weight b.weight) l.0 in
    let e1 = eqb-true a.priority b.priority k.0 in
    let e2 = eqb-true a.weight b.weight k.1 in
    let e3 = eqb-true a.port b.port l.1 in
    let e4 = same_name-exact a.target b.target m.1 in
    λ i. record { priority = e1 i; weight = e2 i; port = e3 i; target = e4 i }

pub same_data-exact : (d e : Datum) → same_data d e ≡ true → d ≡ e
same_data-exact (Ipv4 a) (Ipv4 b) h = ap Ipv4 ((bytes_decides a b).0 h)
same_data-exact (Ns m) (Ns n) h = ap Ns (same_name-exact m n h)
same_data-exact (Cname m) (Cname n) h = ap Cname (same_name-exact m n h)
same_data-exact (Soa a) (Soa b) h = ap Soa (same_authority-exact a b h)
same_data-exact (Ptr m) (Ptr n) h = ap Ptr (same_name-exact m n h)
same_data-exact (Mx p m) (Mx q n) h = let k = both (nat_eq p q) (same_name m n) h in let e = eqb-true p q k.0 in let f = same_name-exact m n k.1 in λ i. Mx (e i) (f i)
same_data-exact (Txt a) (Txt b) h = ap Txt ((same_strings a b).0 h)
same_data-exact (Ipv6 a) (Ipv6 b) h = ap Ipv6 ((bytes_decides a b).0 h)
same_data-exact (Srv a) (Srv b) h = ap Srv (same_service-exact a b h)
same_data-exact _ _ h = absurd (cc)

same_authority-refl : (a : Authority) → same_authority a a ≡ true
same_authority-refl a =
    and_from _ _ (and_from _ _ (and_from _ _ (and_from _ _ (and_from _ _ (and_from _ _
    (same_name-refl a.primary) (same_name-refl a.mailbox)) (eq-eqb a.serial a.serial refl)) (eq-eqb a.refresh a.refresh refl))
    (eq-eqb a.retry a.retry refl)) (eq-eqb a.expire a.expire refl)) (eq-eqb a.minimum a.minimum refl)

same_service-refl : (a : Service) → same_service a a ≡ true
same_service-refl a =
    and_from _ _ (and_from _ _ (and_from _ _ (eq-eqb a.priority a.priority refl) (eq-eqb a.weight a.weight refl)) (eq-eqb a.port a.port refl)) (same_name-refl a.target)

pub same_data-refl : (d : Datum) → same_data d d ≡ true
same_data-refl (Ipv4 a) = (bytes_decides a a).1 refl
same_data-refl (Ns n) = same_name-refl n
same_data-refl (Cname n) = same_name-refl n
same_data-refl (Soa a) = same_authority-refl a
same_data-refl (Ptr n) = same_name-refl n
same_data-refl (Mx p n) = and_from _ _ (eq-eqb p p refl) (same_name-refl n)
same_data-refl (Txt a) = (same_strings a a).1 refl
same_data-refl (Ipv6 a) = (bytes_decides a a).1 refl
same_data-refl (Srv a) = same_service-refl a

pub same_record-exact : (r s : Record) → same_record r s ≡ true → r ≡ s
same_record-exact r s h =
    let p = both _ (same_data r.value s.value) h in
    let q = both (nat_eq r.ttl s.ttl) (same_name r.owner s.owner) p.0 in
    let o = same_name-exact r.owner s.owner q.1 in
    let t = eqb-true r.ttl s.ttl q.0 in
    let v = same_data-exact r.value s.value p.1 in
    λ i. record { owner = o i; ttl = t i; value = v i }

same_record-refl : (r : Record) → same_record r r ≡ true
same_record-refl r = and_from _ _ (and_from _ _ (eq-eqb r.ttl r.ttl refl) (same_name-refl r.owner)) (same_data-refl r.value)

pub same_record-equal : (r s : Record) → r ≡ s → same_record r s ≡ true
same_record-equal r s e = subst (λ (x : Record). same_record r x ≡ true) e (same_record-refl r)

pub same_records-decides : (rs ss : List Record) → Decides (same_records rs ss) (rs ≡ ss)
same_records-decides = pointwise_decides {E = same_record} (λ r s. (same_record-exact r s, same_record-equal r s))

pub same_records-exact : (rs ss : List Record) → same_records rs ss ≡ true → rs ≡ ss
same_records-exact rs ss = (same_records-decides rs ss).0

pub same_records-equal : (rs ss : List Record) → rs ≡ ss → same_records rs ss ≡ true
same_records-equal rs ss = (same_records-decides rs ss).1

-- The tests for equal names, records and lists of records find equal ones, and no others.
pub ruleset exact = (same_name-exact, same_name-equal, same_record-exact, same_record-equal, same_records-exact, same_records-equal)

pub same_data-equal : (d e : Datum) → d ≡ e → same_data d e ≡ true
same_data-equal d e h = subst (λ (x : Datum). same_data d x ≡ true) h (same_data-refl d)

-- The test for equal data finds equal ones, and no others.
pub ruleset exact_data = (same_data-exact, same_data-equal)

pub same_lists : (ds es : List Datum) → Decides (pointwise same_data ds es) (ds ≡ es)
same_lists = pointwise_decides {E = same_data} (λ d e. (same_data-exact d e, same_data-equal d e))

-- Slices of data are equal where the same data stand in them.
pub same_slices : {H : Type 0} (xs ys : List (RData H)) (r : Bool) → r ≡ pointwise same_kept xs ys → Decides r (map datum xs ≡ map datum ys)
same_slices xs ys r e =
    let told : r ≡ pointwise same_data (map datum xs) (map datum ys) = e ∙ sym (pointwise-map datum same_data xs ys) in
    let decides = same_lists (map datum xs) (map datum ys) in
    (λ t. decides.0 (sym told ∙ t), λ h. told ∙ decides.1 h)

-- Sets are equal where their owners, TTLs and data are.
data_of : List Record → List Datum
data_of [] = []
data_of (r ∷ rs) = r.value ∷ data_of rs

data_of-rows : (o : List (List ℕ)) (t : ℕ) (ds : List Datum) → data_of (plain_rows o t ds) ≡ ds
unfolding data_of
data_of-rows o t [] = refl
data_of-rows o t (d ∷ ds) = λ i. d ∷ data_of-rows o t ds i

ttl_of : List Record → ℕ
ttl_of [] = 0
ttl_of (r ∷ rs) = r.ttl

owner_of : List Record → List (List ℕ)
owner_of [] = []
owner_of (r ∷ rs) = r.owner

same_firsts : (o p : List (List ℕ)) (t u : ℕ) (ds : List Datum) → 0 < length ds → plain_rows o t ds ≡ plain_rows p u ds → (t ≡ u) × (o ≡ p)
unfolding ttl_of owner_of
same_firsts o p t u [] some e = absurd (omega arith)
same_firsts o p t u (d ∷ ds) some e = (ap ttl_of e, ap owner_of e)

same_rows : (o p : List (List ℕ)) (t u : ℕ) (ds es : List Datum) → 0 < length ds → plain_rows o t ds ≡ plain_rows p u es → (t ≡ u) × (o ≡ p) × (ds ≡ es)
same_rows o p t u ds es some e =
    let values : ds ≡ es = sym (data_of-rows o t ds) ∙ (ap data_of e ∙ data_of-rows p u es) in
    let firsts = same_firsts o p t u ds some (e ∙ ap (plain_rows p u) (sym values)) in
    (firsts.0, firsts.1, values)

pub same_sets : (o p : List (List ℕ)) (t u : ℕ) (ds es : List Datum) (r : Bool) → 0 < length ds → Decides r (ds ≡ es) → (nat_eq t u && same_name o p && r) ≡ same_records (plain_rows o t ds) (plain_rows p u es)
same_sets o p t u ds es r some decides =
    let found : (nat_eq t u && same_name o p && r) ≡ true → plain_rows o t ds ≡ plain_rows p u es = λ h.
    let k = both _ r h in
    let l = both (nat_eq t u) (same_name o p) k.0 in
    let times = eqb-true t u l.0 in
    let owners = same_name-exact o p l.1 in
    let values = decides.0 k.1 in
    λ i. plain_rows (owners i) (times i) (values i) in
    let finds : plain_rows o t ds ≡ plain_rows p u es → (nat_eq t u && same_name o p && r) ≡ true = λ e.
    let parts = same_rows o p t u ds es some e in
    and_from _ _ (and_from _ _ (eq-eqb t u parts.0) (same_name-equal o p parts.1)) (decides.1 parts.2) in
    same_from_decides (nat_eq t u && same_name o p && r) (same_records (plain_rows o t ds) (plain_rows p u es)) (found, finds) (same_records-decides (plain_rows o t ds) (plain_rows p u es))

-- What two tests say that are made in turn, the second where the first holds.
pub in_turn : (b c : Bool) → (b ≡ true → ⊥) → b ≡ (b && c)
in_turn true c never = absurd (never refl)
in_turn false c never = refl

-- A list of one item.
pub only_item : {X : Type 0} (xs : List X) (x : X) → 1 ≤ length xs → length xs < 2 → x ≡ get_or xs 0 x → xs ≡ x ∷ []
only_item [] x some few e = absurd (omega arith)
only_item (y ∷ []) x some few e = λ i. sym e i ∷ []
only_item (y ∷ z ∷ ws) x some few e = absurd (omega arith)
