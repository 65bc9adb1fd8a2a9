-- Replies to recursive queries, counted and judged.
use Rattle.std.specs.Prelude.{◌≡◌, ◌⊎◌, ℕ, ◌+◌, Option, Some, None, List}
use Rattle.rdata.specs.Types.{type_number}
use Rattle.message_grammar.specs.Messages.{Message, IsMessage}
use Rattle.front.specs.declared.queries.Query.{Query}
use Rattle.world_truth.specs.Worlds.{World}
use Rattle.world_truth.specs.Replies.{IsRight}
use Rattle.runs.specs.States.{Plain}
use Rattle.score.specs.declared.count.Count.{Count}

-- SERVFAIL: a message with RCODE 2 (RFC 1035, section 4.1.1).
abbrev pub IsFailure : List ℕ → Type 0
IsFailure bytes = (m : Message) × IsMessage bytes m × (m.header.rcode ≡ 2)

abbrev pub one_right : Count → Count
one_right c = record { replies = c.replies + 1; right = c.right + 1 }

abbrev pub one_wrong : Count → Count
one_wrong c = record { replies = c.replies + 1; right = c.right }

abbrev pub IsRightFor : World → Query Plain → List ℕ → Type 0
IsRightFor W q bytes = IsRight W q.name (type_number q.kind) bytes

-- A reply to that query is right or wrong; a SERVFAIL is not counted.
abbrev pub IsCounted : World → Query Plain → List ℕ → Count → Count → Type 0
IsCounted W q bytes old new =
    (IsFailure bytes × (new ≡ old))
    ⊎ ((IsFailure bytes → ⊥) × ((IsRightFor W q bytes × (new ≡ one_right old)) ⊎ ((IsRightFor W q bytes → ⊥) × (new ≡ one_wrong old))))

-- A reply to a client without a recursive query is not counted.
abbrev pub IsCountedFor : World → Option (Query Plain) → List ℕ → Count → Count → Type 0
IsCountedFor W None bytes old new = new ≡ old
IsCountedFor W (Some q) bytes old new = IsCounted W q bytes old new
