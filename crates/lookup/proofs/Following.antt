-- What is at hand: the link of a name, and the aliases that lead on from it.
use Rattle.std.proofs.Common.{◌≡◌, ◌≢◌, ℕ, suc, ◌-◌, ◌≤◌, Bool, true, false, inl, inr, Option, Some, None, List, [], ◌∷◌, length, refl, sym, ap, subst, ◌∙◌, arith}
use Rattle.std.specs.Prelude.{◌↔◌, IsTrue, is_some, option_map}
use Rattle.dname.specs.Labels.{Name}
use Rattle.rdata.specs.Records.{Record}
use Rattle.zone.specs.Links.{Link, Alias}
use Rattle.zone.specs.Look.{Local, Linked, Cut, NotHere}
use Rattle.front.specs.Chains.{alias_target}
use Rattle.cache.specs.Keys.{Key}
use Rattle.cache.specs.Cached.{Hit, lent, hit_of}
use Rattle.resolution.specs.Jobs.{Home, Taken, kept_link, IsEnding}
use Rattle.resolution.specs.Rules.{Says, IsRemote, asked_by, asked_of}
use Rattle.resolution.specs.Held.{Holds, IsHeldChain}
use Rattle.lookup.specs.Held.{IsAtHand, given_by, EndsIn, LeadsTo}

one_some : {X : Type 0} {x y : X} → Some x ≡ Some y → x ≡ y
one_some e = cc

apart : {P : Type 0} → false ≡ true → P
apart e = cc

none_some : {X P : Type 0} {x : X} → None ≡ Some x → P
none_some e = cc

one_alias : {s r : Record} → Alias s ≡ Alias r → s ≡ r
one_alias e = cc

no_end : (link : Link) (r : Record) → link ≡ Alias r → IsEnding link → ⊥
no_end link r e ends = subst IsEnding e ends

some_left : (k left : ℕ) → suc k ≤ left → left ≢ 0
some_left k left few none = omega arith

one_less : (k left : ℕ) → suc k ≤ left → k ≤ left - 1
one_less k left few = omega arith

none_used : (left : ℕ) → 0 ≤ left
none_used left = omega arith

one_more : (k left : ℕ) → left ≢ 0 → k ≤ left - 1 → suc k ≤ left
one_more k left some few = omega arith

-- ---- the link of a name

module _ (home : Home) (now t : ℕ) (es : List (Key × Hit)) (n : Name) where
  abbrev Given : Local → Option Taken
  Given what = given_by what now n t es

  abbrev Hit_by : Local → Option Hit
  Hit_by what = hit_of (lent (asked_by what n t) now es)

  kept_is : IsRemote home n t → (o : Option Hit) → hit_of (lent (asked_of home n t) now es) ≡ o → (l : Taken) → option_map (kept_link n) o ≡ Some l → Holds home now t es n l
  kept_is remote None is l e = none_some e
  kept_is remote (Some h) is l e = inr (remote, (h, is, sym (one_some e)))

  given_is : (said : Local) → Says home n t said → (l : Taken) → Given said ≡ Some l → Holds home now t es n l
  given_is (Linked k) says l e = inl (k, says, sym (one_some e))
  given_is (Cut at ns glue) says l e = kept_is (inl (at, ns, glue, says)) (Hit_by (Cut at ns glue)) (ap Hit_by says.0) l e
  given_is NotHere says l e = kept_is (inr says) (Hit_by NotHere) (ap Hit_by says.0) l e

  held_is : (said : Local) → Says home n t said → (l : Taken) → Holds home now t es n l → Given said ≡ Some l
  held_is said says l (inl (k, so, is)) = ap Given (sym says.0 ∙ so.0) ∙ ap Some (sym is)
  held_is said says l (inr (inl (at, ns, glue, so), (h, found, is))) =
      ap Given (sym says.0 ∙ so.0) ∙ ap (option_map (kept_link n)) (ap Hit_by (sym so.0) ∙ found) ∙ ap Some (sym is)
  held_is said says l (inr (inr so, (h, found, is))) =
      ap Given (sym says.0 ∙ so.0) ∙ ap (option_map (kept_link n)) (ap Hit_by (sym so.0) ∙ found) ∙ ap Some (sym is)

pub peeked : (home : Home) (now t : ℕ) (es : List (Key × Hit)) (n : Name) (said : Local) (o : Option Taken) → Says home n t said → o ≡ given_by said now n t es → (l : Taken) → (o ≡ Some l) ↔ Holds home now t es n l
peeked home now t es n said o says is l = (
  λ e. given_is home now t es n said says l (sym is ∙ e),
  λ h. is ∙ held_is home now t es n said says l h,
)

-- ---- the links behind it

-- The name to which the links have led so far, whose link is known: from there the answer is at hand with so many
-- aliases if and only if it is so from the first name on.
pub record Following (home : Home) (now t : ℕ) (es : List (Key × Hit)) (first : Name) (most : ℕ) (link : Option Taken) (left : ℕ) : Type 0 where
  pub name : Name
  pub held : (l : Taken) → (link ≡ Some l) ↔ Holds home now t es name l
  pub same : IsAtHand home now t es first most ↔ IsAtHand home now t es name left

module _ (home : Home) (now t : ℕ) (es : List (Key × Hit)) (first : Name) (most : ℕ) (link : Option Taken) (left : ℕ) (f : Following home now t es first most link left) where
  -- Where there is no link, nothing is at hand.
  first_of : (aliases : List Taken) (last : Taken) → IsHeldChain home now t es f.name aliases last → (l : Taken) × (link ≡ Some l)
  first_of [] last held = (last, (f.held last).1 held.0)
  first_of (l ∷ ls) last held = (l, (f.held l).1 held.0)

  lacks : link ≡ None → IsAtHand home now t es first most → ⊥
  lacks none h =
      let there = f.same.0 h in
      let (l, is) = first_of there.aliases there.last there.held in
      none_some (sym none ∙ is)

  -- An end is the whole answer.
  ends : EndsIn link → (l : Taken) → link ≡ Some l → IsAtHand home now t es first most
  ends ending l is = f.same.1 (record {
    aliases = [];
    last = l;
    few = none_used left;
    held = ((f.held l).0 is, ending l is);
  })

  -- An alias leads on, where one is left.
  leads : (n : Name) → LeadsTo link n → (aliases : List Taken) (last : Taken) → length aliases ≤ left → IsHeldChain home now t es f.name aliases last → (left ≢ 0) × IsAtHand home now t es n (left - 1)
  leads n to [] last few held =
      let same : last ≡ to.link = one_some (sym ((f.held last).1 held.0) ∙ to.is) in
      absurd (no_end last.link to.alias (ap (λ (x : Taken). x.link) same ∙ to.is_alias) held.1)
  leads n to (m ∷ ms) last few (there, (s, leading, behind)) =
      let same : m ≡ to.link = one_some (sym ((f.held m).1 there) ∙ to.is) in
      let one : s ≡ to.alias = one_alias (sym leading ∙ (ap (λ (x : Taken). x.link) same ∙ to.is_alias)) in (
        some_left (length ms) left few,
        record {
          aliases = ms;
          last = last;
          few = one_less (length ms) left few;
          held = subst (λ (x : Name). IsHeldChain home now t es x ms last) (ap alias_target one ∙ sym to.target) behind;
        },
      )

  stops : (n : Name) → LeadsTo link n → left ≡ 0 → IsAtHand home now t es first most → ⊥
  stops n to none h =
      let there = f.same.0 h in
      (leads n to there.aliases there.last there.few there.held).0 none

  pub stopped : (n : Name) → LeadsTo link n → left ≡ 0 → IsTrue false ↔ IsAtHand home now t es first most
  stopped n to none = (λ e. apart e, λ h. absurd (stops n to none h))

  pub follows : (n : Name) (next : Option Taken) → LeadsTo link n → left ≢ 0 → ((l : Taken) → (next ≡ Some l) ↔ Holds home now t es n l) → Following home now t es first most next (left - 1)
  follows n next to some held = record {
    name = n;
    held = held;
    same = (
      λ h. let there = f.same.0 h in (leads n to there.aliases there.last there.few there.held).1,
      λ h. f.same.1 (record {
        aliases = to.link ∷ h.aliases;
        last = h.last;
        few = one_more (length h.aliases) left some h.few;
        held = ((f.held to.link).0 to.is, (to.alias, to.is_alias, subst (λ (x : Name). IsHeldChain home now t es x h.aliases h.last) to.target h.held));
      }),
    );
  }

-- Where no alias leads on, the answer is at hand if there is a link.
pub decided : (home : Home) (now t : ℕ) (es : List (Key × Hit)) (first : Name) (most : ℕ) (link : Option Taken) (left : ℕ) → Following home now t es first most link left → EndsIn link → (b : Bool) → b ≡ is_some link → IsTrue b ↔ IsAtHand home now t es first most
decided home now t es first most None left f ending b is = (λ e. apart (sym is ∙ e), λ h. absurd (lacks home now t es first most None left f refl h))
decided home now t es first most (Some l) left f ending b is = (λ e. ends home now t es first most (Some l) left f ending l refl, λ h. is)

pub begins : (home : Home) (now t : ℕ) (es : List (Key × Hit)) (n : Name) (most : ℕ) (link : Option Taken) → ((l : Taken) → (link ≡ Some l) ↔ Holds home now t es n l) → Following home now t es n most link most
begins home now t es n most link held = record {
  name = n;
  held = held;
  same = (λ h. h, λ h. h);
}
