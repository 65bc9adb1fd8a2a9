-- Right replies, name by name.
use Rattle.std.specs.Prelude.{◌≡◌, ℕ, ◌≤◌, ◌⊎◌, Bool, true, false, ◌&&◌, not, nat_eq, List, [], ◌∷◌, ◌++◌, length}
use Rattle.std.specs.List.{list_any}
use Rattle.dname.specs.Labels.{Name, same_name}
use Rattle.rdata.specs.Records.{Record}
use Rattle.rdata.specs.Sets.{is_repeat}
use Rattle.zone.specs.Links.{Link}
use Rattle.world_truth.specs.Worlds.{World}
use Rattle.world_truth.specs.Truths.{IsTrueLink, IsEnd, ChainLeads}
use Rattle.message_grammar.specs.Messages.{Question, Message, internet}
use Rattle.world_truth.specs.Replies.{Ends, IsReplyTo, IsBare, IsWhole}

-- A whole reply from a name on: at most so many aliases more, and an end.
pub record IsRest (W : World) (t : ℕ) (q : Name) (left : ℕ) (answer : List Record) (rcode : ℕ) (authority : List Record) : Type 0 where
  pub chain : List Record
  pub rest : List Record
  pub last : Link
  pub to : Name
  pub leads : ChainLeads W t q chain to
  pub few : length chain ≤ left
  pub link : IsTrueLink W to t last
  pub stops : IsEnd last
  pub is : answer ≡ chain ++ rest
  pub ends : Ends last rest rcode authority

-- The record stands among these, whatever its TTL; the same records, whatever their order and repeats; each once.
abbrev pub has : List Record → Record → Bool
has rs r = list_any (λ (s : Record). is_repeat r s) rs

abbrev pub lacks_some : List Record → List Record → Bool
lacks_some rs ss = list_any (λ (r : Record). not (has rs r)) ss

abbrev pub once : List Record → Bool
once [] = true
once (r ∷ rs) = not (has rs r) && once rs

abbrev pub is_set : List Record → List Record → Bool
is_set rs set = not (lacks_some set rs) && not (lacks_some rs set) && once rs

-- Nothing but that record.
abbrev pub is_only : Record → List Record → Bool
is_only soa [] = false
is_only soa (s ∷ []) = is_repeat s soa
is_only soa (s ∷ u ∷ ss) = false

abbrev pub is_none : List Record → Bool
is_none [] = true
is_none (r ∷ rs) = false

-- A reply to that question, in class IN, and one without records.
abbrev pub is_asked : Name → ℕ → List Question → Bool
is_asked q t [] = false
is_asked q t (x ∷ []) = same_name x.name q && nat_eq x.qtype t && nat_eq x.qclass internet
is_asked q t (x ∷ y ∷ qs) = false

abbrev pub is_reply_to : Name → ℕ → Message → Bool
is_reply_to q t m = m.header.qr && is_asked q t m.questions

abbrev pub is_empty : Message → Bool
is_empty m = is_none m.answer && is_none m.authority && is_none m.additional

-- The message is the right reply.
abbrev pub IsRightMessage : World → Name → ℕ → Message → Type 0
IsRightMessage W q t m = IsReplyTo q t m × (IsBare m ⊎ IsWhole W q t m)
