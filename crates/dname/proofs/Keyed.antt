-- A change at one name of a map whose keys are names in wire form.
use Rattle.std.proofs.Common.{◌≡◌, ℕ, Bool, true, false, cond, Option, List, sym, ◌∙◌, ap, ⊎_elim}
use Rattle.std.specs.Prelude.{nat_eq, Vec}
use Rattle.std.specs.Cmp.Lexicographic.{pointwise, bytes_decides, nat_list_eq_equiv}
use Rattle.std.specs.HashMap as hash
use Rattle.std.specs.HashMap.{HashMap}
use Rattle.std.specs.Map.{lookup, IsKeyTest, AreApart, KeepsOthers}
use Rattle.std.proofs.lemmas.Bool.{cases_Bool, cond-true, cond-false}
use Rattle.dname.specs.Labels.{wire, same_name}
use Rattle.dname.specs.Keys.{at_bytes, at_name}

abbrev same_items : {Y : Type 0} → Vec ℕ Y → Vec ℕ Y → Bool
same_items x y = pointwise nat_eq x.items y.items

apart : (bs cs ks : List ℕ) → pointwise nat_eq bs cs ≡ false → pointwise nat_eq bs ks ≡ true → pointwise nat_eq cs ks ≡ false
apart bs cs ks n y = nat_list_eq_equiv.symm cs ks ∙ sym (nat_list_eq_equiv.congr bs ks cs y) ∙ n

others : {K X : Type 0} (eq : K → K → Bool) (test other : K → Bool) (old new : List (K × X)) → KeepsOthers eq test old new → IsKeyTest eq other → AreApart test other → lookup other new ≡ lookup other old
unfolding KeepsOthers
others eq test other old new h = h other

module _ {X S Y : Type 0} (m n : HashMap (Vec ℕ Y) X S) (bs : List ℕ) (w : Option X) (h : hash.UpdatesBy same_items (λ (k : Vec ℕ Y). pointwise nat_eq bs k.items) m n w) where
  here : (cs : List ℕ) → pointwise nat_eq bs cs ≡ true → at_bytes n cs ≡ w
  here cs y = ap (at_bytes n) (sym ((bytes_decides bs cs).0 y)) ∙ h.1

  elsewhere : (cs : List ℕ) → pointwise nat_eq bs cs ≡ false → at_bytes n cs ≡ at_bytes m cs
  elsewhere cs e = others same_items (λ (k : Vec ℕ Y). pointwise nat_eq bs k.items) (λ (k : Vec ℕ Y). pointwise nat_eq cs k.items) m.entries n.entries h.3
      (λ x y. nat_list_eq_equiv.congr cs x.items y.items) (λ k. apart bs cs k.items e)

  updated : (cs : List ℕ) → at_bytes n cs ≡ cond (pointwise nat_eq bs cs) w (at_bytes m cs)
  updated cs = ⊎_elim
      (λ y. here cs y ∙ sym (cond-true (pointwise nat_eq bs cs) w (at_bytes m cs) y))
      (λ e. elsewhere cs e ∙ sym (cond-false (pointwise nat_eq bs cs) w (at_bytes m cs) e))
      (cases_Bool (pointwise nat_eq bs cs))

  -- The map has the new value at that name, and at each other what it had.
  pub at_names : (name q : List (List ℕ)) → bs ≡ wire name → at_name n q ≡ cond (same_name name q) w (at_name m q)
  at_names name q e = updated (wire q) ∙ ap (λ (l : List ℕ). cond (pointwise nat_eq l (wire q)) w (at_name m q)) e
