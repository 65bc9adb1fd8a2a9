-- An order of data: by type number, then by the data. No RFC has it: it finds repeats in long lists.
use Rattle.std.specs.Prelude.{◌≡◌, ℕ, Bool, true, false, ◌&&◌, nat_eq, List, [], ◌∷◌}
use Rattle.std.proofs.Common.{refl, sym, ◌∙◌, ap, subst}
use Rattle.std.specs.declared.cmp.Ordering.{Ordering}
use Rattle.std.specs.declared.cmp.Ordering.TheVariants.{Less, Equal, Greater}
use Rattle.std.specs.Ordering.{nat_cmp, ordering_then, eq_by_cmp, as_partial_cmp}
use Rattle.std.specs.Cmp.{IsPartialEquivalence, IsEquivalence, IsTotalOrder, IsPartialOrder, on_total, on_equiv, partial_equiv_from_equiv, unsigned_ties, partial_order_from_agreeing_total}
use Rattle.std.specs.Cmp.Lexicographic.{pointwise, pointwise_decides, bytes_decides, slice_cmp, nat_list_cmp_total, nat_list_eq_equiv, lists_total, lists_ties, lists_equiv}
use Rattle.std.specs.Bool.{Decides}
use Rattle.dname.specs.Labels.{wire, same_name}
use Rattle.dname.specs.Laws.{same_name-exact, same_name-equal}
use Rattle.rdata.specs.Data.{Authority, Service, Datum, Ipv4, Ns, Cname, Soa, Ptr, Mx, Txt, Ipv6, Srv, type_of, same_data}
use Rattle.rdata.specs.Kept.{datum}
use Rattle.rdata.specs.declared.data.RData.{RData}

abbrev pub bytes_cmp : List ℕ → List ℕ → Ordering
bytes_cmp a b = slice_cmp nat_cmp a b

-- The numbers of an SOA record, in order.
abbrev pub numbers_of : Authority → List ℕ
numbers_of a = a.serial ∷ a.refresh ∷ a.retry ∷ a.expire ∷ a.minimum ∷ []

abbrev pub authority_cmp : Authority → Authority → Ordering
authority_cmp a b =
    ordering_then (ordering_then (bytes_cmp (wire a.primary) (wire b.primary)) (bytes_cmp (wire a.mailbox) (wire b.mailbox))) (bytes_cmp (numbers_of a) (numbers_of b))

-- The numbers of an SRV record, in order.
abbrev pub service_numbers : Service → List ℕ
service_numbers s = s.priority ∷ s.weight ∷ s.port ∷ []

abbrev pub service_cmp : Service → Service → Ordering
service_cmp a b = ordering_then (bytes_cmp (service_numbers a) (service_numbers b)) (bytes_cmp (wire a.target) (wire b.target))

-- The order of data of one type.
abbrev pub alike_cmp : Datum → Datum → Ordering
alike_cmp (Ipv4 a) (Ipv4 b) = bytes_cmp a b
alike_cmp (Ns m) (Ns n) = bytes_cmp (wire m) (wire n)
alike_cmp (Cname m) (Cname n) = bytes_cmp (wire m) (wire n)
alike_cmp (Soa a) (Soa b) = authority_cmp a b
alike_cmp (Ptr m) (Ptr n) = bytes_cmp (wire m) (wire n)
alike_cmp (Mx p m) (Mx q n) = ordering_then (nat_cmp p q) (bytes_cmp (wire m) (wire n))
alike_cmp (Txt a) (Txt b) = bytes_cmp (wire a) (wire b)
alike_cmp (Ipv6 a) (Ipv6 b) = bytes_cmp a b
alike_cmp (Srv a) (Srv b) = service_cmp a b
alike_cmp _ _ = Equal

abbrev pub data_cmp : Datum → Datum → Ordering
data_cmp d e = ordering_then (nat_cmp (type_of d) (type_of e)) (alike_cmp d e)

-- ---- its laws: it is the order of lists of these parts

abbrev parts : Datum → List (List ℕ)
parts (Ipv4 a) = (1 ∷ []) ∷ a ∷ []
parts (Ns n) = (2 ∷ []) ∷ wire n ∷ []
parts (Cname n) = (5 ∷ []) ∷ wire n ∷ []
parts (Soa s) = (6 ∷ []) ∷ wire s.primary ∷ wire s.mailbox ∷ numbers_of s ∷ []
parts (Ptr n) = (12 ∷ []) ∷ wire n ∷ []
parts (Mx p n) = (15 ∷ p ∷ []) ∷ wire n ∷ []
parts (Txt ts) = (16 ∷ []) ∷ wire ts ∷ []
parts (Ipv6 a) = (28 ∷ []) ∷ a ∷ []
parts (Srv s) = (33 ∷ []) ∷ service_numbers s ∷ wire s.target ∷ []

abbrev parts_cmp : Datum → Datum → Ordering
parts_cmp d e = slice_cmp bytes_cmp (parts d) (parts e)

alone : (o : Ordering) → o ≡ ordering_then o Equal
alone Less = refl
alone Equal = refl
alone Greater = refl

in_turn : (o p q : Ordering) → ordering_then (ordering_then o p) q ≡ ordering_then o (ordering_then p (ordering_then q Equal))
in_turn Less p q = refl
in_turn Equal Less q = refl
in_turn Equal Equal q = alone q
in_turn Equal Greater q = refl
in_turn Greater p q = refl

two : (o p : Ordering) → ordering_then o p ≡ ordering_then (ordering_then o Equal) (ordering_then p Equal)
two Less p = refl
two Equal p = alone p
two Greater p = refl

by_parts : (d e : Datum) → data_cmp d e ≡ parts_cmp d e
by_parts (Ipv4 a) (Ipv4 b) = alone (bytes_cmp a b)
by_parts (Ns m) (Ns n) = alone (bytes_cmp (wire m) (wire n))
by_parts (Cname m) (Cname n) = alone (bytes_cmp (wire m) (wire n))
by_parts (Soa a) (Soa b) = in_turn (bytes_cmp (wire a.primary) (wire b.primary)) (bytes_cmp (wire a.mailbox) (wire b.mailbox)) (bytes_cmp (numbers_of a) (numbers_of b))
by_parts (Ptr m) (Ptr n) = alone (bytes_cmp (wire m) (wire n))
by_parts (Mx p m) (Mx q n) = two (nat_cmp p q) (bytes_cmp (wire m) (wire n))
by_parts (Txt a) (Txt b) = alone (bytes_cmp (wire a) (wire b))
by_parts (Ipv6 a) (Ipv6 b) = alone (bytes_cmp a b)
by_parts (Srv a) (Srv b) = ap (ordering_then (bytes_cmp (service_numbers a) (service_numbers b))) (alone (bytes_cmp (wire a.target) (wire b.target)))
by_parts _ _ = refl

pub data_cmp_total : IsTotalOrder data_cmp
data_cmp_total = subst (λ (r : Datum → Datum → Ordering). IsTotalOrder r) (λ i. λ d. λ e. sym (by_parts d e) i) (on_total parts (lists_total nat_list_cmp_total))

lone : (b : Bool) → b ≡ (b && true)
lone true = refl
lone false = refl

pair : (b c : Bool) → (b && c) ≡ ((b && true) && (c && true))
pair true c = lone c
pair false c = refl

seven : (p m s r t e n : Bool) → (p && m && s && r && t && e && n) ≡ (p && (m && ((s && (r && (t && (e && (n && true))))) && true)))
seven false m s r t e n = refl
seven true false s r t e n = refl
seven true true false r t e n = refl
seven true true true false t e n = refl
seven true true true true false e n = refl
seven true true true true true false n = refl
seven true true true true true true true = refl
seven true true true true true true false = refl

four : (p w o n : Bool) → (p && w && o && n) ≡ ((p && (w && (o && true))) && (n && true))
four false w o n = refl
four true false o n = refl
four true true false n = refl
four true true true false = refl
four true true true true = refl

-- Strings are the same where their wire forms are.
alike : (b c : Bool) → (b ≡ true → c ≡ true) → (c ≡ true → b ≡ true) → b ≡ c
alike true c f g = sym (f refl)
alike false true f g = g refl
alike false false f g = refl

same_strings : (a b : List (List ℕ)) → Decides (pointwise (pointwise nat_eq) a b) (a ≡ b)
same_strings = pointwise_decides {E = pointwise nat_eq} bytes_decides

pub same_wires : (a b : List (List ℕ)) → same_name a b ≡ pointwise (pointwise nat_eq) a b
same_wires a b = alike (same_name a b) (pointwise (pointwise nat_eq) a b) (λ h. (same_strings a b).1 (same_name-exact a b h)) (λ h. same_name-equal a b ((same_strings a b).0 h))

same_parts : (d e : Datum) → same_data d e ≡ pointwise (pointwise nat_eq) (parts d) (parts e)
same_parts (Ipv4 a) (Ipv4 b) = lone (pointwise nat_eq a b)
same_parts (Ns m) (Ns n) = lone (same_name m n)
same_parts (Cname m) (Cname n) = lone (same_name m n)
same_parts (Soa a) (Soa b) =
    seven (same_name a.primary b.primary) (same_name a.mailbox b.mailbox) (nat_eq a.serial b.serial) (nat_eq a.refresh b.refresh) (nat_eq a.retry b.retry) (nat_eq a.expire b.expire)
    (nat_eq a.minimum b.minimum)
same_parts (Ptr m) (Ptr n) = lone (same_name m n)
same_parts (Mx p m) (Mx q n) = pair (nat_eq p q) (same_name m n)
same_parts (Txt a) (Txt b) = sym (same_wires a b) ∙ lone (same_name a b)
same_parts (Ipv6 a) (Ipv6 b) = lone (pointwise nat_eq a b)
same_parts (Srv a) (Srv b) = four (nat_eq a.priority b.priority) (nat_eq a.weight b.weight) (nat_eq a.port b.port) (same_name a.target b.target)
same_parts _ _ = refl

-- Two data of which none comes before the other are the same.
pub data_cmp_ties : (d e : Datum) → same_data d e ≡ eq_by_cmp data_cmp d e
data_cmp_ties d e =
    same_parts d e ∙ (lists_ties bytes_cmp (lists_ties nat_cmp unsigned_ties) (parts d) (parts e) ∙ ap (λ (o : Ordering). eq_by_cmp (λ (x y : Datum). o) d e) (sym (by_parts d e)))

pub same_data_equiv : IsEquivalence same_data
same_data_equiv = subst (λ (r : Datum → Datum → Bool). IsEquivalence r) (λ i. λ d. λ e. sym (same_parts d e) i) (on_equiv parts (lists_equiv nat_list_eq_equiv))

-- ---- the same for the code's data

abbrev pub same_kept : {H : Type 0} → RData H → RData H → Bool
same_kept x y = same_data (datum x) (datum y)

abbrev pub kept_cmp : {H : Type 0} → RData H → RData H → Ordering
kept_cmp x y = data_cmp (datum x) (datum y)

pub same_kept_equiv : {H : Type 0} → IsEquivalence (same_kept {H = H})
same_kept_equiv {H} = on_equiv (datum {H = H}) same_data_equiv

pub same_kept_per : {H : Type 0} → IsPartialEquivalence (same_kept {H = H})
same_kept_per {H} = partial_equiv_from_equiv (same_kept_equiv {H = H})

pub kept_cmp_total : {H : Type 0} → IsTotalOrder (kept_cmp {H = H})
kept_cmp_total {H} = on_total (datum {H = H}) data_cmp_total

pub kept_cmp_ties : {H : Type 0} → (x y : RData H) → same_kept x y ≡ eq_by_cmp kept_cmp x y
kept_cmp_ties x y = data_cmp_ties (datum x) (datum y)

pub kept_cmp_partial : {H : Type 0} → IsPartialOrder (same_kept {H = H}) (as_partial_cmp (kept_cmp {H = H}))
kept_cmp_partial {H} = partial_order_from_agreeing_total (kept_cmp {H = H}) kept_cmp_total (λ _ _. refl) kept_cmp_ties
