-- Lists that are read from the front on.
use Rattle.std.proofs.Common.{◌≡◌, ℕ, Option, Some, None, Result, Ok, Err, List, [], ◌∷◌, ◌++◌, refl, ap, append_assoc}
use Rattle.masterfile.specs.Faults.{onto}
use Rattle.masterfile.specs.Strings.{byte_onto}

abbrev pub with_bytes : List ℕ → Option (List ℕ) → Option (List ℕ)
with_bytes front None = None
with_bytes front (Some bs) = Some (front ++ bs)

pub bytes_front : (front : List ℕ) (b : ℕ) (r : Option (List ℕ)) → with_bytes (front ++ b ∷ []) r ≡ with_bytes front (byte_onto b r)
bytes_front front b None = refl
bytes_front front b (Some bs) = ap Some (append_assoc front (b ∷ []) bs)

abbrev pub with_front : {X E : Type 0} → List X → Result (List X) E → Result (List X) E
with_front front (Ok xs) = Ok (front ++ xs)
with_front front (Err e) = Err e

pub onto_front : {X E : Type 0} (front : List X) (x : X) (r : Result (List X) E) → with_front (front ++ x ∷ []) r ≡ with_front front (onto x r)
onto_front front x (Ok xs) = ap Ok (append_assoc front (x ∷ []) xs)
onto_front front x (Err e) = refl
