-- That a server failed to answer is kept by the call that hears it.
use Rattle.std.proofs.Common.{◌≡◌, ℕ, Bool, cond, List, [], ◌∷◌, ap, ◌∙◌}
use Rattle.rdata.specs.declared.addr.Addr.{Addr}
use Rattle.cache.specs.Failures.{is_failed, after_failed}
use Rattle.cache.proofs.Failed.{kept_is_failed}
use Rattle.classify.specs.Classes as class
use Rattle.resolution.specs.Jobs.{Stores, Search, ask_of, Job, Point}
use Rattle.resolution.specs.Rules.{ByClass}
use Rattle.laws.specs.Calls.{FailureIsKept}
use Rattle.laws.proofs.Calls.{heard}
use Rattle.laws.proofs.Skipped.{fails_at}

-- What is made of a message changes no failure.
pub class_failures : (now : ℕ) (server : Addr) (s : Search) (rest : List Search) (c : class.Class) (j : Job) (stores : Stores) (p : Point) → ByClass now server s rest c j stores p
    → (p.stores).failures ≡ stores.failures
class_failures now server s [] (class.Answer l) j stores p (task, job, learnt) = ap (λ (x : Stores). x.failures) learnt.stores
class_failures now server s (around ∷ rest) (class.Answer l) j stores p (after, marks, task, learnt, hears, job) = ap (λ (x : Stores). x.failures) learnt.stores
class_failures now server s rest (class.Referral at ns glue ttl) j stores p refers = ap (λ (x : Stores). x.failures) refers.stored
class_failures now server s rest class.Truncated j stores p same = ap (λ (x : Point). (x.stores).failures) same
class_failures now server s rest (class.Failed f) j stores p same = ap (λ (x : Point). (x.stores).failures) same

pub failure_is_kept : FailureIsKept
failure_is_kept home now input old stores next new after s rest server c later call h fails young =
    fails_at home now call.first call.last call.count next new after call.rules call.leaves later (ask_of s server)
    ∙ (ap (is_failed later (ask_of s server)) (class_failures now server s rest c old _ call.first (heard now input old stores call.first s rest server c call.enters h))
    ∙ (ap (λ (b : Bool). is_failed later (ask_of s server) (cond b (after_failed stores.failures_cap (ask_of s server) now stores.failures) stores.failures)) fails
    ∙ kept_is_failed stores.failures_cap now later (ask_of s server) stores.failures young))
