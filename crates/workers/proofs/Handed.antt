-- What many jobs handed back.
use Rattle.std.proofs.Common.{◌≡◌, ℕ, ◌<◌, Result, Ok, IfOk, List, map, length, get_or, sym, ap, ◌∙◌, subst, arith}
use Rattle.std.proofs.lemmas.List.{get_or-map, length-map}

-- where no job failed, what is true of each job and what came of it is true of what was handed back
pub handed : {J X F : Type 0} (P : J → X → Type 0) (jobs : List J) (done : List (Result X F)) (kept : List X) → map Ok kept ≡ done → length done ≡ length jobs
    → ((i : ℕ) (t : J) (r : Result X F) → i < length jobs → IfOk (get_or done i r) (P (get_or jobs i t)))
    → (i : ℕ) (t : J) (k : X) → i < length jobs → P (get_or jobs i t) (get_or kept i k)
handed {J} {X} {F} P jobs done kept is many each i t k small =
    let long : length (map {B = Result X F} Ok kept) ≡ length kept = length-map kept Ok in
    let inside : i < length kept = omega (arith, long, many, small, ap length is) in
    let path : get_or done i (Ok k) ≡ Ok (get_or kept i k) = ap (λ l. get_or l i (Ok k)) (sym is) ∙ get_or-map Ok kept i k (Ok k) inside in
    subst (λ r. IfOk r (P (get_or jobs i t))) path (each i t (Ok k) small)
