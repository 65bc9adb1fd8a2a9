-- Servers one by one.
use Rattle.std.proofs.Common.{◌≡◌, refl, ap, sym, ◌∙◌, ℕ, zero, suc, ◌+◌, ◌<◌, ◌≤◌, Bool, true, false, not, cond, nat_lt, Option, Some, None, List, [], ◌∷◌, ◌++◌, length, get_or, arith}
use Rattle.std.proofs.Math.ListN.{set}
use Rattle.std.proofs.lemmas.Bool.Decides.{nat_tests}
use Rattle.std.proofs.lemmas.List.Quantifiers.{position-Some}
use Rattle.std.specs.List.{position, position_or_len}
use Rattle.world_truth.specs.Worlds.{Address, Host}
use Rattle.world_text.specs.Places.{has_address, joined, with_host}

joins : (h : Host) (hs : List Host) (i : ℕ) (d : Host) → i < length hs → has_address h.address (get_or hs i d) ≡ true → ((k : ℕ) → k < i → has_address h.address (get_or hs k d) ≡ false)
    → with_host h hs ≡ set hs i (joined (get_or hs i d) h)
joins h [] i d lt is others = absurd (omega arith)
joins h (g ∷ gs) zero d lt is others = ap (λ (t : Bool). cond t (joined g h ∷ gs) (g ∷ with_host h gs)) is
joins h (g ∷ gs) (suc i) d lt is others =
    ap (λ (t : Bool). cond t (joined g h ∷ gs) (g ∷ with_host h gs)) (others 0 (omega arith))
    ∙ ap (λ (l : List Host). g ∷ l) (joins h gs i d (omega arith) is (λ k below. others (suc k) (omega arith)))

pub placed : (h : Host) (a : Address) (found items : List Host) (r o : Option ℕ) → r ≡ position (has_address a) found → found ≡ items → a ≡ h.address → r ≡ o
    → position (has_address h.address) items ≡ o
placed h a found items r o at same address is =
    sym (at ∙ (ap (position (has_address a)) same ∙ ap (λ (x : Address). position (has_address x) items) address)) ∙ is

pub place_within : (h : Host) (hs : List Host) (i : ℕ) → position (has_address h.address) hs ≡ Some i → i < length hs
place_within h hs i e = (position-Some (has_address h.address) hs i h e).0

-- A server that has a line already.
pub joins_at : (h : Host) (hs : List Host) (i : ℕ) (d : Host) → position (has_address h.address) hs ≡ Some i → with_host h hs ≡ set hs i (joined (get_or hs i d) h)
joins_at h hs i d e =
    let p = position-Some (has_address h.address) hs i d e in
    joins h hs i d p.0 p.1 p.2

not_less : (a b : ℕ) → false ≡ nat_lt a b → b ≤ a
not_less a b e = grind (arith, nat_tests)

past_by : (a b : ℕ) (t : Bool) → t ≡ nat_lt a b → cond t (Some a) None ≡ None → b ≤ a
past_by a b true t e = absurd (cc)
past_by a b false t e = not_less a b t

past : (a b : ℕ) → cond (nat_lt a b) (Some a) None ≡ None → b ≤ a
past a b e = past_by a b (nat_lt a b) refl e

comes_last : (g h : Host) (gs : List Host) (t : Bool) (k : ℕ) → length (g ∷ gs) ≤ cond (not t) (1 + k) 0 → (length gs ≤ k → with_host h gs ≡ gs ++ h ∷ [])
    → cond t (joined g h ∷ gs) (g ∷ with_host h gs) ≡ g ∷ (gs ++ h ∷ [])
comes_last g h gs true k le rest = absurd (omega arith)
comes_last g h gs false k le rest = ap (λ (l : List Host). g ∷ l) (rest (omega arith))

comes_behind : (h : Host) (hs : List Host) → length hs ≤ position_or_len (has_address h.address) hs → with_host h hs ≡ hs ++ h ∷ []
comes_behind h [] le = refl
comes_behind h (g ∷ gs) le = comes_last g h gs (has_address h.address g) (position_or_len (has_address h.address) gs) le (comes_behind h gs)

-- And one that has none.
pub joins_end : (h : Host) (hs : List Host) → position (has_address h.address) hs ≡ None → with_host h hs ≡ hs ++ h ∷ []
joins_end h hs e = comes_behind h hs (past (position_or_len (has_address h.address) hs) (length hs) e)
