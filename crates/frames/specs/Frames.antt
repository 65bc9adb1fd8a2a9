-- The servers of a zone that a query asks for one name (RFC 1034, section 5.3.3, steps 2 and 3; RFC 1035, section 7.2).
-- Here stands where they come from, in which order they are asked, and which of their names are looked up when all
-- known addresses were asked.
use Rattle.std.specs.Prelude.{◌≡◌, ℕ, ◌+◌, ◌≤◌, ◌⊎◌, Contains, Bool, ◌&&◌, ◌||◌, false, not, cond, min, nat_le, Option, Some, None, List, [], ◌∷◌, ◌++◌, map, filter, take, drop, length, slice_get}
use Rattle.std.specs.List.{list_any}
use Rattle.std.specs.Map.{lookup}
use Rattle.std.specs.BTreeMap.{is_at, insert_entry}
use Rattle.limits.specs.Limits.{max_nesting, max_servers}
use Rattle.dname.specs.Labels.{Name, same_name, is_under, IsAtOrUnder}
use Rattle.dname.specs.Order.{name_cmp}
use Rattle.rdata.specs.declared.addr.Addr.{Addr}
use Rattle.retry.specs.Penalties.{same_addr}
use Rattle.retry.specs.Plans.{Plan, planned}
use Rattle.referral.specs.Cuts.{Cut, ServerAddress}

-- The most names, and the most addresses, that are used of a cut; the deepest look-up of a server's name.
abbrev pub most_taken : ℕ
most_taken = max_servers

abbrev pub deepest : ℕ
deepest = max_nesting

-- `nesting`: 0 for the name that a client asked for, one more for each look-up of a server's address.
-- `names`: the servers whose addresses are not known, and `tried`: how many of them had their turn.
-- `addresses`: all that became known, each once. `plan`: the order of asking.
pub record Frame : Type 0 where
  pub nesting : ℕ
  pub zone : Name
  pub names : List Name
  pub tried : ℕ
  pub addresses : List Addr
  pub plan : Plan

abbrev pub has_address : List Addr → Addr → Bool
has_address xs a = list_any (same_addr a) xs

-- Each address once, where it stands first.
abbrev pub each_once : List Addr → List Addr
each_once [] = []
each_once (a ∷ xs) = a ∷ filter (λ (b : Addr). not (same_addr a b)) (each_once xs)

-- The part of a cut that is used: the first addresses and the first names. Those of the names that none of these
-- addresses belongs to are looked up later.
abbrev pub taken_addresses : Cut → List Addr
taken_addresses c = take most_taken (each_once (map (λ (s : ServerAddress). s.address) c.addresses))

abbrev pub is_known : Cut → Name → Bool
is_known c n = list_any (λ (s : ServerAddress). same_name s.name n && has_address (taken_addresses c) s.address) c.addresses

abbrev pub unknown_names : Cut → List Name
unknown_names c = filter (λ (n : Name). not (is_known c n)) (take most_taken c.names)

-- The frame of a cut, by the penalties of addresses.
abbrev pub opened : (Addr → ℕ) → ℕ → Cut → Frame
opened level nesting c = record {
  nesting = nesting;
  zone = c.owner;
  names = unknown_names c;
  tried = 0;
  addresses = taken_addresses c;
  plan = planned level (taken_addresses c);
}

-- Names whose look-up failed in this query, in the order of names, each once with the least nesting of a look-up that
-- did.
abbrev pub Failed : Type 0
Failed = List (Name × ℕ)

abbrev pub least_failed : Failed → Name → Option ℕ
least_failed fs n = lookup (is_at (name_cmp n)) fs

-- The failed names with one more look-up that failed, at this nesting.
abbrev pub least_of : ℕ → Option ℕ → ℕ
least_of nesting None = nesting
least_of nesting (Some least) = min nesting least

abbrev pub marked : Failed → Name → ℕ → Failed
marked fs n nesting = insert_entry name_cmp fs n (least_of nesting (least_failed fs n))

-- Whether the least nesting is this one or a lesser one.
abbrev pub is_within : ℕ → Option ℕ → Bool
is_within nesting None = false
is_within nesting (Some least) = nat_le least nesting

abbrev pub has_failed : Failed → Name → ℕ → Bool
has_failed fs n nesting = is_within nesting (least_failed fs n)

-- A name is not looked up: it is beneath the zone whose servers are sought, too deep, or failed at the nesting that its
-- look-up would have, or at a lesser one.
abbrev pub is_skipped : Failed → Frame → Name → Bool
is_skipped fs f n = is_under n f.zone || nat_le deepest f.nesting || has_failed fs n (f.nesting + 1)

-- Why a name is passed over, in words (RFC 1034, section 5.3.3, step 2).
abbrev pub HasFailed : Failed → Name → ℕ → Type 0
HasFailed fs n nesting = (least : ℕ) × Contains fs (n, least) × (least ≤ nesting)

abbrev pub IsPassedOver : Failed → Frame → Name → Type 0
IsPassedOver fs f n = IsAtOrUnder n f.zone ⊎ ((deepest ≤ f.nesting) ⊎ HasFailed fs n (f.nesting + 1))

-- The place of the first name, from a place on, that is not skipped.
abbrev pub place_from : (Name → Bool) → ℕ → List Name → ℕ
place_from skips at [] = at
place_from skips at (n ∷ ns) = cond (skips n) (place_from skips (at + 1) ns) at

abbrev pub next_place : Failed → Frame → ℕ
next_place fs f = place_from (is_skipped fs f) f.tried (drop f.tried f.names)

-- The name that is next; each has its turn once.
abbrev pub next_name : Failed → Frame → Option Name
next_name fs f = slice_get f.names (next_place fs f)

abbrev pub after_name : Failed → Frame → Frame
after_name fs f = record f { tried = min (next_place fs f + 1) (length f.names) }

-- The frame with addresses that were found for a name: those not known yet make a new plan.
abbrev pub fresh_addresses : Frame → List Addr → List Addr
fresh_addresses f found = filter (λ (a : Addr). not (has_address f.addresses a)) (each_once found)

abbrev pub with_fresh : (Addr → ℕ) → Frame → List Addr → Frame
with_fresh level f fresh = record f { addresses = f.addresses ++ fresh; plan = planned level fresh }

abbrev pub after_add : (Addr → ℕ) → Frame → List Addr → Frame
after_add level f [] = f
after_add level f (a ∷ xs) = with_fresh level f (a ∷ xs)
