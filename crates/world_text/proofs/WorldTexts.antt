-- The origins of local blocks, taken one by one.
use Rattle.std.proofs.Common.{◌≡◌, refl, ℕ, ◌+◌, ◌<◌, Bool, true, false, cond, List, [], ◌∷◌, ◌++◌, length, take, get_or, sym, ◌∙◌, ap}
use Rattle.std.proofs.lemmas.List.{take_more}
use Rattle.dname.specs.Labels.{Name}
use Rattle.world_text.specs.WorldTexts.{Block, locals_of}

taken : (bs : List Block) (i : ℕ) (b : Block) → i < length bs → b ≡ get_or bs i b → take i bs ++ b ∷ [] ≡ take (i + 1) bs
taken bs i b lt e = ap (λ (x : Block). take i bs ++ x ∷ []) e ∙ sym (take_more bs i b lt)

local_head : (t : Bool) (x y : Name) (ns : List Name) → cond t (x ∷ (ns ++ y ∷ [])) (ns ++ y ∷ []) ≡ cond t (x ∷ ns) ns ++ y ∷ []
local_head true x y ns = refl
local_head false x y ns = refl

local_more : (bs : List Block) (b : Block) → b.is_local ≡ true → locals_of (bs ++ b ∷ []) ≡ locals_of bs ++ b.origin ∷ []
local_more [] b h = ap (λ (t : Bool). cond t (b.origin ∷ []) []) h
local_more (a ∷ bs) b h =
    ap (λ (ns : List Name). cond a.is_local (a.origin ∷ ns) ns) (local_more bs b h) ∙ local_head a.is_local a.origin b.origin (locals_of bs)

remote_more : (bs : List Block) (b : Block) → b.is_local ≡ false → locals_of (bs ++ b ∷ []) ≡ locals_of bs
remote_more [] b h = ap (λ (t : Bool). cond t (b.origin ∷ []) []) h
remote_more (a ∷ bs) b h = ap (λ (ns : List Name). cond a.is_local (a.origin ∷ ns) ns) (remote_more bs b h)

-- A local block more, and another.
pub local_step : (bs : List Block) (old new : List Name) (i : ℕ) (b : Block) → i < length bs → b ≡ get_or bs i b → b.is_local ≡ true
    → old ≡ locals_of (take i bs) → new ≡ old ++ b.origin ∷ [] → new ≡ locals_of (take (i + 1) bs)
local_step bs old new i b lt e h eo en =
    en ∙ (ap (λ (ns : List Name). ns ++ b.origin ∷ []) eo ∙ (sym (local_more (take i bs) b h) ∙ ap locals_of (taken bs i b lt e)))

pub remote_step : (bs : List Block) (old new : List Name) (i : ℕ) (b : Block) → i < length bs → b ≡ get_or bs i b → b.is_local ≡ false
    → old ≡ locals_of (take i bs) → new ≡ old → new ≡ locals_of (take (i + 1) bs)
remote_step bs old new i b lt e h eo en =
    en ∙ (eo ∙ (sym (remote_more (take i bs) b h) ∙ ap locals_of (taken bs i b lt e)))
