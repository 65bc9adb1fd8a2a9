-- The world of the run, and what its two servers may say: the small world, with its root also on a server of
-- its own, which is the hint.
use Rattle.std.proofs.Common.{◌≡◌, ◌≤◌, ◌⊎◌, ℕ, inl, inr, List, [], ◌∷◌, length, refl, sym, ◌∙◌, ap, subst, arith}
use Rattle.std.specs.Prelude.{Contains, slice_index}
use Rattle.dname.specs.Labels.{Name, root, IsAtOrUnder}
use Rattle.rdata.specs.Records.{Record}
use Rattle.zone.specs.Zones.{Zone, IsCut}
use Rattle.zone.specs.Links.{Found, IsLink}
use Rattle.zone.specs.Ruled.{IsZone, IsNamed}
use Rattle.zone.specs.Same.{SameLink}
use Rattle.zone.specs.Referrals.{IsReferral}
use Rattle.zone.proofs.LawLists.{none_in, first_in, later_in, in_cases}
use Rattle.zone.proofs.LawReferral.{local_law}
use Rattle.zone.proofs.LawZones.{soa_at_origin}
use Rattle.world_truth.specs.Worlds.{Address, Host, World, Serves, IsOrigin, IsParent, IsWorld}
use Rattle.world_truth.specs.Serving.{AnswersFrom, Tells, MayServe}
use Rattle.world_truth.specs.Sample.{lower_name, host_name, server_address, soa_data, entry, root_zone, lower_zone, sample_host, sample}
use Rattle.world_truth.proofs.Samples.{sample_stands}
use Rattle.witness.proofs.Talk.{servers, glue, found, referral_message, answer_message, cut_message}

abbrev pub root_address : Address
root_address = 10 ∷ 0 ∷ 0 ∷ 2 ∷ []

abbrev pub root_host : Host
root_host = record { address = root_address; origins = root ∷ [] }

abbrev pub world : World
world = record sample { hosts = sample_host ∷ root_host ∷ []; hints = root_address ∷ [] }

-- ---- it is well formed

pub served_too : (a : Address) (o : Name) → Serves sample a o → Serves world a o
served_too a o (h, m, e, stands) = elim (in_cases sample_host h [] m) [
  | inl same ↦ (h, subst (Contains world.hosts) same (first_in sample_host (root_host ∷ [])), e, stands)
  | inr n ↦ absurd (none_in h n)
]

pub serves_root : Serves world root_address root
serves_root = (root_host, later_in sample_host root_host (root_host ∷ []) (first_in root_host []), refl, first_in root [])

-- Each server is the small world's, or the root's own.
abbrev pub IsEither : Address → Name → Type 0
IsEither a o = Serves sample a o ⊎ ((root_address ≡ a) × (root ≡ o))

by_host : (a : Address) (o : Name) → Serves world a o → IsEither a o
by_host a o (h, m, e, stands) = elim (in_cases sample_host h (root_host ∷ []) m) as (λ x. IsEither a o) [
  | inl same ↦ inl (h, subst (Contains sample.hosts) same (first_in sample_host []), e, stands)
  | inr more ↦ elim (in_cases root_host h [] more) as (λ x. IsEither a o) [
    | inl same ↦ inr (ap (λ (x : Host). x.address) same ∙ e, only_root (subst (λ (x : Host). Contains x.origins o) (sym same) stands))
    | inr n ↦ absurd (none_in h n)
  ]
]
  where
    only_root : Contains (root ∷ []) o → root ≡ o
    only_root k = elim (in_cases root o [] k) [ inl same ↦ same | inr n ↦ absurd (none_in o n) ]

pub world_stands : IsWorld world
world_stands = record {
  zones = sample_stands.world.zones;
  names = sample_stands.world.names;
  parted = sample_stands.world.parted;
  rooted = sample_stands.world.rooted;
  cuts = sample_stands.world.cuts;
  delegated = λ z m. elim (sample_stands.world.delegated z m) [
    | inl at_root ↦ inl at_root
    | inr other ↦ inr (elim other as (λ x. Contains world.locals z.origin ⊎ ((p : Zone) × IsParent world z.origin p × IsCut p z.origin)) [
      | inl own ↦ inl own
      | inr above ↦ inr (above.0, record { stands = above.1.stands; over = above.1.over; longest = above.1.longest }, above.2)
    ])
  ];
  servers = λ c n a named address. served_too a c (sample_stands.world.servers c n a named address);
  hosts = λ a o serves. elim (by_host a o serves) as (λ x. IsOrigin world o) [
    | inl old ↦ sample_stands.world.hosts a o old
    | inr own ↦ subst (IsOrigin world) own.1 sample_stands.world.rooted
  ];
  hints = λ a m. elim (in_cases root_address a [] m) [
    | inl e ↦ subst (λ (b : Address). Serves world b root) e serves_root
    | inr n ↦ absurd (none_in a n)
  ];
  start = inr (root_address, first_in root_address []);
}

-- ---- its zones at work

abbrev pub Each : {X : Type 0} → (X → Type 0) → List X → Type 0
Each P [] = Unit {0}
Each P (x ∷ xs) = P x × Each P xs

pub each_of : {X : Type 0} (P : X → Type 0) (xs : List X) → Each P xs → (x : X) → Contains xs x → P x
each_of P [] all x m = absurd (none_in x m)
each_of P (y ∷ ys) all x m = elim (in_cases y x ys m) [
  | inl e ↦ subst P e all.0
  | inr n ↦ each_of P ys all.1 x n
]

pub root_there : Contains world.zones root_zone
root_there = first_in root_zone (lower_zone ∷ [])

pub lower_there : Contains world.zones lower_zone
lower_there = later_in root_zone lower_zone (lower_zone ∷ []) (first_in lower_zone [])

abbrev IsNamedRecord : Record → Type 0
IsNamedRecord r = r.owner ≡ [] → ⊥

pub root_named : IsNamed root_zone
root_named r m = each_of IsNamedRecord root_zone.records (λ e. cc, (λ e. cc, (λ e. cc, (λ e. cc, tt)))) r m

pub lower_named : IsNamed lower_zone
lower_named r m = each_of IsNamedRecord lower_zone.records (λ e. cc, (λ e. cc, (λ e. cc, (λ e. cc, tt)))) r m

pub root_rules : IsZone root_zone
root_rules = sample_stands.world.zones root_zone root_there

pub lower_rules : IsZone lower_zone
lower_rules = sample_stands.world.zones lower_zone lower_there

refers : IsReferral root_zone host_name lower_name servers glue
refers = local_law root_zone host_name 1 (entry root soa_data) root_named (soa_at_origin root_zone root_rules) root_rules.ttls refl ((120 ∷ []) ∷ (108 ∷ []) ∷ [], refl)

finds : IsLink lower_zone host_name 1 (Found found)
finds = local_law lower_zone host_name 1 (entry lower_name soa_data) lower_named (soa_at_origin lower_zone lower_rules) lower_rules.ttls refl ((120 ∷ []) ∷ [], refl)

-- ---- what its servers may say

apart : root ≡ lower_name → ⊥
apart e = omega (arith, ap length e)

other_server : server_address ≡ root_address → ⊥
other_server e = let n = ap (λ (a : Address). slice_index a 3) e in omega (arith, n)

pub not_lower : Serves world root_address lower_name → ⊥
not_lower serves = elim (by_host root_address lower_name serves) as (λ x. ⊥) [
  | inl old ↦ other_server (only old)
  | inr own ↦ apart own.1
]
  where
    only : Serves sample root_address lower_name → server_address ≡ root_address
    only (h, m, e, stands) = elim (in_cases sample_host h [] m) as (λ x. server_address ≡ root_address) [
      | inl same ↦ ap (λ (x : Host). x.address) same ∙ e
      | inr n ↦ absurd (none_in h n)
    ]

abbrev IsShorter : Address → Zone → Zone → Type 0
IsShorter a z y = Serves world a y.origin → IsAtOrUnder host_name y.origin → length y.origin ≤ length z.origin

pub by_root : AnswersFrom world root_address host_name root_zone
by_root = record {
  stands = root_there;
  served = serves_root;
  over = ((120 ∷ []) ∷ (108 ∷ []) ∷ [], refl);
  longest = each_of (IsShorter root_address root_zone) world.zones (λ s u. omega arith, (λ s u. absurd (not_lower s), tt));
}

by_lower : AnswersFrom world server_address host_name lower_zone
by_lower = record {
  stands = lower_there;
  served = served_too server_address lower_name (sample_host, first_in sample_host [], refl, later_in root lower_name (lower_name ∷ []) (first_in lower_name []));
  over = ((120 ∷ []) ∷ [], refl);
  longest = each_of (IsShorter server_address lower_zone) world.zones (λ s u. omega arith, (λ s u. omega arith, tt));
}

pub may_refer : (id : ℕ) → MayServe world root_address host_name 1 (referral_message id)
may_refer id = inl (
  root_zone,
  by_root,
  inl (
    lower_name,
    refers.over,
    record {
      aa = refl;
      rcode = refl;
      answer = refl;
      only = λ r m. (r, refers.named r m, (refl, refl));
      whole = λ s at. (s, refers.all_named s at, (refl, refl));
      addresses = λ r m. let g = refers.glue r m in (g.1, g.2, (root_zone, root_there, serves_root, (r, g.0, (refl, refl))));
    },
  ),
)

same_found : SameLink (Found found) (Found found)
same_found = record { kinds = refl; records = (λ r m. (r, m, (refl, refl)), λ r m. (r, m, (refl, refl))) }

found_owner : (r : Record) → Contains found r → r.owner ≡ host_name
found_owner r m = each_of (λ (x : Record). x.owner ≡ host_name) found (refl, tt) r m

tells_answer : (id : ℕ) → Tells world server_address host_name 1 (answer_message id)
tells_answer id = (lower_zone, by_lower, inr (Found found, (refl, refl, (λ r m e. m, λ r m. (m, found_owner r m)), (Found found, finds, same_found))))

pub may_answer : (id : ℕ) → MayServe world server_address host_name 1 (answer_message id)
may_answer id = inl (tells_answer id)

pub may_cut : (id : ℕ) → MayServe world server_address host_name 1 (cut_message id)
may_cut id =
    inr (answer_message id, tells_answer id, record { header = refl; answer = λ r m. absurd (none_in r m); authority = λ r m. absurd (none_in r m); additional = λ r m. absurd (none_in r m) })
