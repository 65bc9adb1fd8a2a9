-- An NXDOMAIN denies the names beneath: no zone that is not held lies there.
use Rattle.std.proofs.Common.{◌≡◌, ◌≤◌, ◌<◌, ℕ, zero, suc, ◌⊎◌, inl, inr, List, length, refl, sym, ap, subst, arith}
use Rattle.std.specs.Prelude.{Contains}
use Rattle.dname.specs.Labels.{Name, IsAtOrUnder}
use Rattle.rdata.specs.Records.{Record}
use Rattle.zone.specs.Zones.{Zone, At, IsCut, IsUncut, IsBeneath, Exists, IsEncloser, ns_type}
use Rattle.zone.specs.Links.{NxDomain, IsSource, IsLink}
use Rattle.zone.specs.Look.{Local, Linked, Cut, NotHere}
use Rattle.zone.proofs.LawLists.{over_one, at_itself, under_under, under_length, same_over}
use Rattle.zone.proofs.LawNames.{nothing_under}
use Rattle.authority.specs.Catalogs.{IsInCharge, IsLooked}
use Rattle.world_truth.specs.Worlds.{World, IsParent, IsWorld}
use Rattle.world_truth.specs.Truths.{IsTrueLink}
use Rattle.world_truth.specs.Frames.{IsHeld, AreHeld, IsUnshadowed}
use Rattle.world_truth.specs.Beneath.{MayDeny}
use Rattle.world_truth.proofs.Charges.{one_charge, charge_uncut}
use Rattle.world_truth.proofs.Grown.{cut_clear, nowhere_clear}
use Rattle.world_truth.proofs.Nearest.{origin_long, decided, above_longer, beneath_length}
use Rattle.world_truth.proofs.Referred.{deeper}
use Rattle.world_truth.proofs.Sames.{same_one, nx_domain_shown}

-- Of two names over one name the longer is at or under the other.
under_shorter : (q a b : Name) → IsAtOrUnder q a → IsAtOrUnder q b → length b ≤ length a → IsAtOrUnder a b
under_shorter q a b h k le = elim (over_one q a b h k) [
  | inl u ↦ u
  | inr u ↦ (let longer = under_length b a u in subst (IsAtOrUnder a) (same_over q a b h k (omega (arith, le, longer))) (at_itself a))
]

module _ (W : World) (w : IsWorld W) (p : Name) (t : ℕ) (soa : Record) (z : Zone) (charge : IsInCharge W.zones p z) (link : IsLink z p t (NxDomain soa)) where
  -- The zone right above an origin beneath the name is not over the name: what it cuts off would make it exist.
  parent_not_over : (o : Name) (x : Zone) → IsParent W o x → IsCut x o → IsBeneath o p → IsAtOrUnder p x.origin → ⊥
  parent_not_over o x parent cut low over = nothing_under z p o t soa link low.0 (there (subst (λ (y : Zone). IsCut y o) same cut))
    where
      higher : (v : Name) → IsAtOrUnder p v → IsBeneath o v
      higher v up = let short = under_length p v up in let longer = beneath_length o p low in above_longer o o v (at_itself o) (under_under o p v low.0 up) (omega (arith, short, longer))

      same : x ≡ z
      same = one_charge W p x z w (record { stands = parent.stands; over = over; longest = λ v stands up. parent.longest v stands (higher v.origin up) }) charge

      -- No other cut of the zone is over that origin.
      no_cut_over : (c : Name) → IsCut z c → IsBeneath o c → ⊥
      no_cut_over c is above =
          let (y, stands, e) = w.cuts z c charge.stands is in
          let longest : length y.origin ≤ length x.origin = parent.longest y stands (subst (IsBeneath o) (sym e) above) in
          let short : length x.origin ≤ length p = under_length p x.origin over in
          link.uncut c is (under_shorter o p c low.0 above.0 (omega (arith, longest, short, ap length e)))

      there : IsCut z o → Exists z o
      there (apart, (r, at)) = let a : At z o ns_type r = at in
          (r, a.stands, subst (λ (n : Name). IsAtOrUnder n o) (sym a.owner) (at_itself o), λ c is above. no_cut_over c is (subst (λ (n : Name). IsBeneath n c) a.owner above))

  -- From zone to zone right above, up to one that is held.
  held_above : (fuel : ℕ) (y : Zone) → Contains W.zones y → IsBeneath y.origin p → length y.origin ≤ fuel → (x : Zone) × IsHeld W x × IsAtOrUnder y.origin x.origin × IsBeneath x.origin p
  held_above zero y stands low le = absurd (let longer = beneath_length y.origin p low in omega (arith, le, longer))
  held_above (suc fuel) y stands low le = elim (w.delegated y stands) as (λ e. (x : Zone) × IsHeld W x × IsAtOrUnder y.origin x.origin × IsBeneath x.origin p) [
    | inl top ↦ absurd (let long = origin_long W z w charge.stands in let short = under_length p z.origin charge.over in let longer = beneath_length y.origin p low in omega (arith, ap length top, long, short, longer))
    | inr (inl local) ↦ (y, (stands, local), at_itself y.origin, low)
    | inr (inr (x, parent, cut)) ↦ up (λ v in_world below. held_above fuel v in_world below) x parent cut (decided (length x.origin) (length p))
  ]
    where
      up : ((v : Zone) → Contains W.zones v → IsBeneath v.origin p → length v.origin ≤ fuel → (x : Zone) × IsHeld W x × IsAtOrUnder v.origin x.origin × IsBeneath x.origin p)
          → (x : Zone) → IsParent W y.origin x → IsCut x y.origin → (length x.origin ≤ length p) ⊎ (length p < length x.origin)
          → (v : Zone) × IsHeld W v × IsAtOrUnder y.origin v.origin × IsBeneath v.origin p
      up again x parent cut (inl short) = absurd (parent_not_over y.origin x parent cut low (under_shorter y.origin p x.origin low.0 parent.over.0 short))
      up again x parent cut (inr long) =
          let shorter = beneath_length y.origin x.origin parent.over in
          let (v, held, over, below) = again x parent.stands (above_longer y.origin x.origin p parent.over.0 low.0 long) (omega (arith, shorter, le)) in
          (v, held, under_under y.origin x.origin v.origin parent.over.0 over, below)

  -- Where no held zone lies between the name and one beneath it, the same zone is in charge of that one.
  charge_beneath : (q : Name) → IsAtOrUnder q p → IsUnshadowed W p q → IsInCharge W.zones q z
  charge_beneath q under clear = record {
    stands = charge.stands;
    over = under_under q p z.origin under charge.over;
    longest = λ y stands over. elim (decided (length y.origin) (length p)) [
      | inl short ↦ charge.longest y stands (under_shorter q p y.origin under over short)
      | inr long ↦ absurd (
          let (x, held, above, below) = held_above (length y.origin) y stands (above_longer q y.origin p over under long) (omega arith) in
          let short = clear x held (under_under q y.origin x.origin over above) in
          let longer = beneath_length x.origin p below in
          omega (arith, short, longer))
    ];
  }

  -- Nothing exists beneath the name, and so its source is the source of all names there.
  error_link : (q : Name) (u : ℕ) → IsAtOrUnder q p → IsUncut z q → IsLink z q u (NxDomain soa)
  error_link q u under uncut =
      let (s, source, (empty, none, denial)) = link.says in
      record {
        inside = under_under q p z.origin under link.inside;
        uncut = uncut;
        says = (s, from s source, (empty, nothing_under z p q t soa link under, denial));
      }
    where
      encloser : (e : Name) → IsEncloser z p e → IsEncloser z q e
      encloser e h = record {
        exists = h.exists;
        over = under_under q p e under h.over;
        longest = λ d there over. elim (over_one q d p over under) [
          | inl low ↦ absurd (nothing_under z p d t soa link low there)
          | inr high ↦ h.longest d there high
        ];
      }

      from : (s : Name) → IsSource z p s → IsSource z q s
      from s (inl (there, is)) = absurd (nothing_under z p p t soa link (at_itself p) there)
      from s (inr (none, (e, h, is))) = inr (nothing_under z p q t soa link under, (e, encloser e h, is))

pub origins_beneath : (W : World) (p : Name) (t : ℕ) (soa : Record) (y : Zone) → IsWorld W → IsTrueLink W p t (NxDomain soa) → Contains W.zones y → IsBeneath y.origin p
    → (z : Zone) × IsHeld W z × IsAtOrUnder y.origin z.origin × IsBeneath z.origin p
origins_beneath W p t soa y w (z, charge, shows) stands low =
    let (x, link, e) = nx_domain_shown z p t soa shows in held_above W w p t x z charge link (length y.origin) y stands low (omega arith)

-- Where an NXDOMAIN may count, no held zone lies between.
denies_clear : (W : World) (zs : List Zone) (p q : Name) (u : ℕ) (said : Local) → IsWorld W → AreHeld W zs → IsLooked zs q u said → MayDeny said p → IsUnshadowed W p q
denies_clear W zs p q u (Linked l) w held looked may = absurd may
denies_clear W zs p q u (Cut c ns glue) w held looked may = deeper W c p q (cut_clear W zs q u c ns glue w held looked) (under_length p c may)
denies_clear W zs p q u NotHere w held looked may = nowhere_clear W zs q u p held looked

pub error_beneath : (W : World) (zs : List Zone) (p q : Name) (t u : ℕ) (soa : Record) (said : Local) → IsWorld W → AreHeld W zs → IsLooked zs q u said → MayDeny said p → IsAtOrUnder q p
    → IsTrueLink W p t (NxDomain soa) → IsTrueLink W q u (NxDomain soa)
error_beneath W zs p q t u soa said w held looked may under (z, charge, shows) =
    let (x, link, e) = nx_domain_shown z p t soa shows in
    let here = charge_beneath W w p t x z charge link q under (denies_clear W zs p q u said w held looked may) in
    (z, here, (NxDomain x, error_link W w p t x z charge link q u under (charge_uncut W q z w here), record { kinds = refl; records = same_one soa x e }))
