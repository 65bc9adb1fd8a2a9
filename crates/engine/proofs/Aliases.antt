-- The aliases of a chain, one by one.
use Rattle.std.proofs.Common.{◌≡◌, ℕ, Bool, Some, None, List, [], ◌∷◌, ◌++◌, refl, sym, ◌∙◌, ap, append_assoc, append-nil, length, arith}
use Rattle.std.specs.Prelude.{slice_get}
use Rattle.rdata.specs.Records.{Record}
use Rattle.resolution.specs.Jobs.{Source, Local, Cached, Accepted, Taken, sent}
use Rattle.lookup.specs.Views.{is_at_hand}
use Rattle.runs.specs.Messages.{is_from_here, is_local_first, alias_in, aliases_of}

pub one_alias : (now : ℕ) (front now_front : List Record) (items rest : List Taken) (t : Taken) (r : Record) (all : List Record) → now_front ≡ front ++ r ∷ [] → items ≡ t ∷ rest → alias_in (sent now t) ≡ r ∷ []
    → front ++ aliases_of now items ≡ all → now_front ++ aliases_of now rest ≡ all
one_alias now front now_front items rest t r all pushed are is so_far =
    let tail = aliases_of now rest in
    let head : alias_in (sent now t) ++ tail ≡ r ∷ tail = ap (λ (rs : List Record). rs ++ tail) is in
    let step : front ++ aliases_of now (t ∷ rest) ≡ all = ap (λ (ts : List Taken). front ++ aliases_of now ts) (sym are) ∙ so_far in
    ap (λ (rs : List Record). rs ++ tail) pushed ∙ append_assoc front (r ∷ []) tail ∙ ap (λ (rs : List Record). front ++ rs) (sym head) ∙ step

pub last_alias : (now : ℕ) (front : List Record) (items : List Taken) (all : List Record) → length items ≡ 0 → front ++ aliases_of now items ≡ all → front ≡ all
last_alias now front [] all none so_far = sym (append-nil front) ∙ so_far
last_alias now front (t ∷ ts) all none so_far = absurd (omega arith)

at_hand : (s : Source) → is_at_hand s ≡ is_from_here s
at_hand Local = refl
at_hand (Cached ttl since) = refl
at_hand (Accepted ttl since) = refl

pub local_some : (links : List Taken) (last first : Taken) (b : Bool) → Some first ≡ slice_get links 0 → b ≡ is_at_hand first.source → b ≡ is_local_first links last
local_some [] last first b there h = absurd (cc)
local_some (l ∷ ls) last first b there h =
    let same : first ≡ l = cc in
    h ∙ (at_hand first.source ∙ ap (λ (t : Taken). is_from_here t.source) same)

pub local_none : (links : List Taken) (last : Taken) (b : Bool) → None ≡ slice_get links 0 → b ≡ is_at_hand last.source → b ≡ is_local_first links last
local_none [] last b there h = h ∙ at_hand last.source
local_none (l ∷ ls) last b there h = absurd (cc)
