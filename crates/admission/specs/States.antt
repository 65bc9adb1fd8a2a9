-- The queries in admission, and how many there are of a key, of an address and of a domain.
use Rattle.std.specs.Prelude.{◌≡◌, ℕ, ◌+◌, ◌-◌, ◌/◌, ◌<◌, ◌≤◌, Bool, cond, ◌&&◌, ◌||◌, nat_eq, nat_lt, nat_le, List, length}
use Rattle.std.specs.List.{count_by}
use Rattle.admission.specs.declared.limits.Limits.{Limits}
use Rattle.admission.specs.declared.queries.Admitted.{Admitted}
use Rattle.admission.specs.declared.queries.Held.{Held}

-- What contracts see of an admission: the queries that were admitted, those that are called in, and those that wait,
-- each in the order in which they came there. What was admitted or is called in is inside.
pub record State (T : Type 0) : Type 0 where
  pub limits : Limits
  pub admitted : List Admitted
  pub ready : List (Held T)
  pub waiting : List (Held T)

-- A client's address: what is left of it without the port, its low sixteen bits.
abbrev pub address_in : ℕ → ℕ
address_in client = client / 65536

abbrev pub admitted_with : ℕ → Admitted → Bool
admitted_with k q = nat_eq q.key k

abbrev pub admitted_from : ℕ → Admitted → Bool
admitted_from a q = nat_eq (address_in q.client) a

abbrev pub admitted_in : ℕ → Admitted → Bool
admitted_in s q = nat_eq q.domain s

module _ {T : Type 0} where
  -- A state of these four.
  abbrev pub state : Limits → List Admitted → List (Held T) → List (Held T) → State T
  state l a r w = record { limits = l; admitted = a; ready = r; waiting = w }

  abbrev pub held_with : ℕ → Held T → Bool
  held_with k q = nat_eq q.key k

  abbrev pub held_from : ℕ → Held T → Bool
  held_from a q = nat_eq (address_in q.client) a

  abbrev pub held_in : ℕ → Held T → Bool
  held_in s q = nat_eq q.domain s

  -- How many queries are inside.
  abbrev pub inside : State T → ℕ
  inside d = length d.admitted + length d.ready

  -- How many with this key are inside.
  abbrev pub of_key : ℕ → State T → ℕ
  of_key k d = count_by (admitted_with k) d.admitted + count_by (held_with k) d.ready

  -- How many with this key wait.
  abbrev pub waiting_of : ℕ → State T → ℕ
  waiting_of k d = count_by (held_with k) d.waiting

  -- How many from this address are inside or wait.
  abbrev pub of_address : ℕ → State T → ℕ
  of_address a d = count_by (admitted_from a) d.admitted + count_by (held_from a) d.ready + count_by (held_from a) d.waiting

  -- How many in this domain are inside.
  abbrev pub of_domain : ℕ → State T → ℕ
  of_domain s d = count_by (admitted_in s) d.admitted + count_by (held_in s) d.ready

  -- Whether an address of so many queries has its share: as many as places are free. The others are left about as many.
  -- Where one address may have as many as there are places, none has its share.
  abbrev pub has_share : ℕ → State T → Bool
  has_share n d = nat_lt d.limits.each d.limits.places && nat_le (d.limits.places - inside d) n

  -- Whether an address of so many queries has enough while others may come: it has some and only the reserve is left, or
  -- it has its share.
  abbrev pub has_enough : ℕ → State T → Bool
  has_enough n d = (nat_lt 0 n && nat_le (d.limits.places - d.limits.reserve) (inside d)) || has_share n d

  -- Whether an address of so many queries has as many as one address may have, or all places are taken.
  abbrev pub is_full : ℕ → State T → Bool
  is_full n d = nat_le d.limits.each n || nat_le d.limits.places (inside d)

  -- How many places are left for a query in a domain of which a name was answered, or none was: the last ones are for
  -- the former alone.
  abbrev pub left_for : Bool → State T → ℕ
  left_for answered d = d.limits.places - cond answered 0 d.limits.answered - inside d

  -- Whether a domain of so many queries has its share: three times as many as places are left for it.
  abbrev pub domain_has_share : ℕ → Bool → State T → Bool
  domain_has_share n answered d = nat_le (left_for answered d) (n / 3)

  -- Whether a query is left out that is from an address of so many, in this domain: the address has enough, or the
  -- domain has its share.
  abbrev pub leaves_out : ℕ → ℕ → Bool → State T → Bool
  leaves_out n s answered d = has_enough n d || domain_has_share (of_domain s d) answered d

  -- Whether no query from this address in this domain, of which a name was answered or not, is admitted now, nor held.
  abbrev pub is_shut : ℕ → ℕ → Bool → State T → Bool
  is_shut a s answered d = is_full (of_address a d) d || leaves_out (of_address a d) s answered d

  -- What holds of an admission at all times: of equal queries, of one address' and of all there are as many as may be,
  -- and no query waits in vain: as many equal ones are inside as may be.
  pub record IsKept (d : State T) : Type 0 where
    pub equal : (k : ℕ) → of_key k d ≤ d.limits.equal
    pub each : (a : ℕ) → of_address a d ≤ d.limits.each
    pub places : inside d ≤ d.limits.places
    pub few : length d.waiting ≤ d.limits.waiting
    pub not_in_vain : (k : ℕ) → 0 < waiting_of k d → of_key k d ≡ d.limits.equal
