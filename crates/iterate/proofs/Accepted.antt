-- The stores where memory ran out while an accepted message was used.
use Rattle.std.proofs.Common.{◌≡◌, ℕ, inl, inr, ◌⊎◌, Result, Ok, Err, OnErr, ◌∙◌, subst}
use Rattle.rdata.specs.declared.addr.Addr.{Addr}
use Rattle.zone.specs.Links.{Link}
use Rattle.message_grammar.specs.Messages.{Message}
use Rattle.wire.specs.declared.via.Via.{Via}
use Rattle.classify.specs.Classes as class
use Rattle.classify.specs.Classes.{class_of}
use Rattle.resolution.specs.Jobs.{Stores, with_told, Search}
use Rattle.resolution.specs.Rules.{KeepsAnswer}
use Rattle.resolution.specs.Stops.{IsToldInPart}

-- The link is cached, or it is not.
pub kept_part : (now : ℕ) (before mid new : Stores) (via : Via) (server : Addr) (m : Message) (s : Search) (l : Link) → mid ≡ with_told now s server m before
    → class_of (s.frame).zone s.name s.kind via m ≡ class.Answer l → (new ≡ mid) ⊎ KeepsAnswer now s l mid new → IsToldInPart now s via server m before new
kept_part now before mid new via server m s l mid_is is (inl same) = inl (same ∙ mid_is)
kept_part now before mid new via server m s l mid_is is (inr keeps) = inr (l, is, subst (λ (x : Stores). KeepsAnswer now s l x new) mid_is keeps)

pub on_err : {T E P : Type 0} (r : Result T E) → P → OnErr r P
on_err (Ok x) p = tt
on_err (Err e) p = p
