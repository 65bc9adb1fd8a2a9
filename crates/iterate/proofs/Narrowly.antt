-- A class that was narrowed is used as the class at the zone is.
use Rattle.std.proofs.Common.{◌≡◌, ℕ, inl, inr, List, sym, ◌∙◌, ap, subst}
use Rattle.dname.specs.Labels.{Name}
use Rattle.rdata.specs.Records.{Record}
use Rattle.zone.specs.Links.{Link}
use Rattle.message_grammar.specs.Messages.{Message}
use Rattle.wire.specs.declared.via.Via.{Via}
use Rattle.classify.specs.Classes.{Class, Answer, Referral, Truncated, Failed, class_of}
use Rattle.classify.specs.Narrowed.{class_at_root, narrowed, SameUse, ZoneNarrows}
use Rattle.classify.specs.Read.{Reading}
use Rattle.classify.specs.declared.class.Failure.{Failure}
use Rattle.resolution.specs.Jobs.{Search}
use Rattle.iterate.specs.Inputs.{IsReadingFor}

pub is_answer : (a b : Class) (l : Link) → SameUse a b → b ≡ Answer l → a ≡ Answer l
is_answer a b l (inl same) is = same ∙ is
is_answer a b l (inr (x, y, e, f)) is = let both : Failed y ≡ Answer l = sym f ∙ is in absurd (cc)

pub is_referral : (a b : Class) (c : Name) (servers addresses : List Record) (ttl : ℕ) → SameUse a b → b ≡ Referral c servers addresses ttl → a ≡ Referral c servers addresses ttl
is_referral a b c servers addresses ttl (inl same) is = same ∙ is
is_referral a b c servers addresses ttl (inr (x, y, e, f)) is = let both : Failed y ≡ Referral c servers addresses ttl = sym f ∙ is in absurd (cc)

pub is_truncated : (a b : Class) → SameUse a b → b ≡ Truncated → a ≡ Truncated
is_truncated a b (inl same) is = same ∙ is
is_truncated a b (inr (x, y, e, f)) is = let both : Failed y ≡ Truncated = sym f ∙ is in absurd (cc)

pub is_failed : (a b : Class) (e : Failure) → SameUse a b → b ≡ Failed e → (x : Failure) × (a ≡ Failed x)
is_failed a b e (inl same) is = (e, same ∙ is)
is_failed a b e (inr (x, y, f, g)) is = (x, f)

-- The class at the search's zone of a message that has the reading.
pub same_use : (zone : Name) (s : Search) (via : Via) (m : Message) (r : Reading) (c : Class) → zone ≡ (s.frame).zone → ZoneNarrows zone → IsReadingFor s via m r → c ≡ narrowed zone r.class
    → SameUse (class_of (s.frame).zone s.name s.kind via m) c
same_use zone s via m r c at law for is =
    let root = for.reads.class in
    let narrow : narrowed zone (class_at_root r.name r.kind via m) ≡ c = ap (narrowed zone) (sym root) ∙ sym is in
    let here : SameUse (class_of zone r.name r.kind via m) c = subst (λ (k : Class). SameUse (class_of zone r.name r.kind via m) k) narrow (law r.name r.kind via m for.reads.rooted) in
    subst (λ (k : Class). SameUse k c) (λ i. class_of (at i) (for.name i) (for.kind i) via m) here
