-- The class by the records of the name and the type.
use Rattle.std.proofs.Common.{◌≡◌, ◌<◌, true, false, cond, nat_eq, Some, List, [], ◌∷◌, length, sym, ◌∙◌, ap, arith}
use Rattle.dname.specs.Labels.{Name}
use Rattle.rdata.specs.Records.{Record}
use Rattle.rdata.specs.Rows.{first_in}
use Rattle.message_grammar.specs.Messages.{Message}
use Rattle.zone.specs.Links.{Found, Alias}
use Rattle.classify.specs.Classes.{Class, Failed, answer_by, by_alias, by_set, by_cut, refer_by, leads_down, servers_of}
use Rattle.classify.specs.declared.class.Failure.TheVariants.{BadCode, Foreign}

module _ (f q : Name) (m : Message) where
  pub denied_there : (set : List Record) → 0 < length set → nat_eq m.header.rcode 3 ≡ true → Failed BadCode ≡ by_set f q m set
  denied_there [] h e = absurd (omega (arith, h))
  denied_there (r ∷ rs) h e = ap (λ b. cond b (Failed BadCode) (answer_by m (Found (r ∷ rs)))) (sym e)

  pub found_there : (c : Class) (set : List Record) → 0 < length set → nat_eq m.header.rcode 3 ≡ false → c ≡ answer_by m (Found set) → c ≡ by_set f q m set
  found_there c [] h e is = absurd (omega (arith, h))
  found_there c (r ∷ rs) h e is = is ∙ ap (λ b. cond b (Failed BadCode) (answer_by m (Found (r ∷ rs)))) (sym e)

  pub alias_there : (set : List Record) (r : Record) → Some r ≡ first_in set → answer_by m (Alias r) ≡ by_alias f q m set
  alias_there [] r e = absurd (cc)
  alias_there (x ∷ rs) r e = let same : r ≡ x = cc in ap (λ (s : Record). answer_by m (Alias s)) same

  pub cut_there : (c : Name) (servers : List Record) → leads_down f q c ≡ true → servers ≡ servers_of c m → refer_by f c servers m ≡ by_cut f q m c
  cut_there c servers l s = ap (λ (rs : List Record). refer_by f c rs m) s ∙ ap (λ b. cond b (refer_by f c (servers_of c m) m) (Failed Foreign)) (sym l)
