-- A failure for want of servers is one of those whose cause stands in the run.
use Rattle.std.proofs.Common.{ℕ, inl, inr, List, [], ◌∷◌, subst}
use Rattle.front.specs.declared.queries.Outcome.{Outcome}
use Rattle.resolution.specs.Jobs.{Home}
use Rattle.runs.specs.States.{Turn, Plain, ClientQuery}
use Rattle.runs.specs.Runs.{Always}
use Rattle.laws.specs.Replies.{RepliesAre}
use Rattle.laws.specs.Failures.{IsSpentFor, EveryFailureIsSpent}
use Rattle.laws.specs.Caused.{IsExplained}
use Rattle.laws.proofs.Runs.{run_explained}

spent_so : (port : ℕ) (home : Home) (who : ClientQuery) (o : Outcome Plain) (turn : Turn) (past : List Turn) → IsExplained port home who o turn past → IsSpentFor port home who o turn past
spent_so port home who o turn past h e = subst (λ (x : Outcome Plain). IsExplained port home who x turn past) e h

spent_reply : (port : ℕ) (home : Home) (turn : Turn) (past : List Turn) → RepliesAre home (IsExplained port home) turn past → RepliesAre home (IsSpentFor port home) turn past
spent_reply port home turn past h client way bytes c there = elim (h client way bytes c there) [
  | inl refused ↦ inl refused
  | inr a ↦ inr (record {
    who = a.who;
    served = a.served;
    result = a.result;
    reply = a.reply;
    is = elim a.is [ inl local ↦ inl local | inr good ↦ inr (good.0, spent_so port home a.who a.result turn past good.1) ];
  })
]

all_spent : (port : ℕ) (home : Home) (run : List Turn) → Always (RepliesAre home (IsExplained port home)) run → Always (RepliesAre home (IsSpentFor port home)) run
all_spent port home [] h = tt
all_spent port home (turn ∷ past) h = (spent_reply port home turn past h.0, all_spent port home past h.1)

pub every_failure : EveryFailureIsSpent
every_failure site run s legal = all_spent site.port site.home run (run_explained site run s legal).1
