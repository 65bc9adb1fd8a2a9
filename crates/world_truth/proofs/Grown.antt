-- Each way in which a frame starts or grows keeps what is so of it.
use Rattle.std.proofs.Common.{◌≡◌, ℕ, inl, inr, List, [], ◌∷◌, refl, sym, ◌∙◌, ap, subst}
use Rattle.std.specs.Prelude.{Contains}
use Rattle.dname.specs.Labels.{Name, root, IsName, AreLabels, IsAtOrUnder}
use Rattle.rdata.specs.Data.{Ns, Ipv4}
use Rattle.rdata.specs.Records.{Record}
use Rattle.zone.specs.Zones.{Zone, IsCutOver, IsBeneath, a_type}
use Rattle.zone.specs.Links.{Link, Found, IsLink}
use Rattle.zone.specs.Look.{Linked, Cut, NotHere}
use Rattle.zone.specs.Referrals.{IsReferral}
use Rattle.zone.proofs.LawLists.{none_in, under_length}
use Rattle.message_grammar.specs.Messages.{Message}
use Rattle.authority.specs.Catalogs.{IsInCharge, IsLooked}
use Rattle.world_truth.specs.Worlds.{Address, World, Serves, IsServerName, IsWorld}
use Rattle.world_truth.specs.Truths.{IsTrueLink}
use Rattle.world_truth.specs.Serving.{MayServe}
use Rattle.world_truth.specs.Reading.{IsReferralTo}
use Rattle.world_truth.specs.Frames.{IsHeld, AreHeld, IsUnshadowed, MayAsk, IsDelegation, Frame, IsFrame, IsGrown, frame_at, AreTargets, AreAddresses, AreTaken}
use Rattle.world_truth.proofs.Sames.{link_itself, found_shown}
use Rattle.world_truth.proofs.Charges.{cut_inside}
use Rattle.world_truth.proofs.Nearest.{in_charge}
use Rattle.world_truth.proofs.Referred.{deeper, honest_referral}

-- What the zones at hand give, by kind.
pub looked_link : (zs : List Zone) (q : Name) (t : ℕ) (l : Link) → IsLooked zs q t (Linked l) → (z : Zone) × IsInCharge zs q z × IsLink z q t l
looked_link zs q t l (inl h) = h
looked_link zs q t l (inr (none, e)) = cc

looked_cut : (zs : List Zone) (q : Name) (t : ℕ) (c : Name) (ns glue : List Record) → IsLooked zs q t (Cut c ns glue) → (z : Zone) × IsInCharge zs q z × IsReferral z q c ns glue
looked_cut zs q t c ns glue (inl h) = h
looked_cut zs q t c ns glue (inr (none, e)) = cc

looked_nowhere : (zs : List Zone) (q : Name) (t : ℕ) → IsLooked zs q t NotHere → (z : Zone) → Contains zs z → IsAtOrUnder q z.origin → ⊥
looked_nowhere zs q t (inl (z, charge, h)) y m over = h charge.over
looked_nowhere zs q t (inr (none, e)) y m over = none y m over

-- Nothing that is held is over q and longer than the zone in charge among those held.
nearest_clear : (W : World) (zs : List Zone) (q : Name) (z : Zone) → AreHeld W zs → IsInCharge zs q z → IsUnshadowed W z.origin q
nearest_clear W zs q z held charge y h over = charge.longest y ((held y).1 h) over

pub local_is_true : (W : World) (zs : List Zone) (q : Name) (t : ℕ) (l : Link) → IsWorld W → AreHeld W zs → IsLooked zs q t (Linked l) → IsTrueLink W q t l
local_is_true W zs q t l w held looked =
    let (z, charge, link) = looked_link zs q t l looked in
    let here : IsHeld W z = (held z).0 charge.stands in
    (z, in_charge W q z w here.0 charge.over link.uncut (nearest_clear W zs q z held charge), (l, link, link_itself l))

-- A cut of the zone in charge among those held is unshadowed, and so is all beneath it.
pub cut_clear : (W : World) (zs : List Zone) (q : Name) (t : ℕ) (c : Name) (ns glue : List Record) → IsWorld W → AreHeld W zs → IsLooked zs q t (Cut c ns glue) → IsUnshadowed W c q
cut_clear W zs q t c ns glue w held looked =
    let (z, charge, referral) = looked_cut zs q t c ns glue looked in
    let over : IsCutOver z q c = referral.over in
    let here : IsHeld W z = (held z).0 charge.stands in
    deeper W z.origin c q (nearest_clear W zs q z held charge) (under_length c z.origin (cut_inside z c (w.zones z here.0) over.cut))

pub nowhere_clear : (W : World) (zs : List Zone) (q : Name) (t : ℕ) (n : Name) → AreHeld W zs → IsLooked zs q t NotHere → IsUnshadowed W n q
nowhere_clear W zs q t n held looked z h over = absurd (looked_nowhere zs q t looked z ((held z).1 h) over)

-- Every name is under the root.
pub under_root : (n : Name) → AreLabels n → IsAtOrUnder n root
under_root [] h = absurd h
under_root (l ∷ []) h = ([], ap (λ (x : List ℕ). x ∷ []) h)
under_root (l ∷ m ∷ ls) h = let (front, e) = under_root (m ∷ ls) h.1 in (l ∷ front, ap (λ (x : List (List ℕ)). l ∷ x) e)

pub hints_start : (W : World) (zs : List Zone) (q : Name) (t : ℕ) (addresses : List Address) → IsWorld W → AreHeld W zs → IsName q → IsLooked zs q t NotHere
    → ((a : Address) → Contains addresses a → Contains W.hints a) → IsFrame W q (frame_at root [] addresses)
hints_start W zs q t addresses w held name looked all = record {
  over = under_root q name.labels;
  unshadowed = nowhere_clear W zs q t root held looked;
  servers = λ n m. absurd (none_in n m);
  serve = λ a m. w.hints a (all a m);
}

-- A name and an address of a local cut.
cut_server : (W : World) (z : Zone) (q c n : Name) (ns glue : List Record) → Contains W.zones z → IsReferral z q c ns glue → (r : Record) → Contains ns r → r.value ≡ Ns n → IsServerName W c n
cut_server W z q c n ns glue mz referral r m e = let over : IsCutOver z q c = referral.over in (z, r, mz, over.cut, referral.named r m, e)

cut_address : (W : World) (z : Zone) (q c : Name) (a : Address) (ns glue : List Record) → IsWorld W → Contains W.zones z → IsReferral z q c ns glue → (r : Record) → Contains glue r → r.value ≡ Ipv4 a → Serves W a c
cut_address W z q c a ns glue w mz referral r m e =
    let (stands, kind, (s, at, target)) = referral.glue r m in
    let over : IsCutOver z q c = referral.over in
    w.servers c r.owner a (z, s, mz, over.cut, at, target) (inl (z, r, mz, stands, refl, e))

pub cut_starts : (W : World) (zs : List Zone) (q : Name) (t : ℕ) (c : Name) (ns glue : List Record) (names : List Name) (addresses : List Address) → IsWorld W → AreHeld W zs
    → IsLooked zs q t (Cut c ns glue)
    → AreTargets names ns → AreAddresses addresses glue → IsFrame W q (frame_at c names addresses)
cut_starts W zs q t c ns glue names addresses w held looked all_names all_addresses =
    let (z, charge, referral) = looked_cut zs q t c ns glue looked in
    let over : IsCutOver z q c = referral.over in
    let here : IsHeld W z = (held z).0 charge.stands in
    record {
      over = over.over;
      unshadowed = cut_clear W zs q t c ns glue w held looked;
      servers = λ n m. let (r, stands, e) = all_names n m in cut_server W z q c n ns glue here.0 referral r stands e;
      serve = λ a m. let (r, stands, e) = all_addresses a m in cut_address W z q c a ns glue w here.0 referral r stands e;
    }

-- A kept delegation may start a frame where nothing local is over the name, or a cut of what is local is
-- strictly above it.
kept_frame : (W : World) (q c : Name) (names : List Name) (addresses : List Address) → IsDelegation W c names addresses → IsAtOrUnder q c → IsUnshadowed W c q → IsFrame W q (frame_at c names addresses)
kept_frame W q c names addresses kept over clear = record { over = over; unshadowed = clear; servers = kept.servers; serve = kept.serve }

pub kept_starts : (W : World) (zs : List Zone) (q : Name) (t : ℕ) (c : Name) (names : List Name) (addresses : List Address) → AreHeld W zs → IsDelegation W c names addresses → IsAtOrUnder q c
    → IsLooked zs q t NotHere → IsFrame W q (frame_at c names addresses)
kept_starts W zs q t c names addresses held kept over looked = kept_frame W q c names addresses kept over (nowhere_clear W zs q t c held looked)

pub kept_below_starts : (W : World) (zs : List Zone) (q : Name) (t : ℕ) (d c : Name) (ns glue : List Record) (names : List Name) (addresses : List Address) → IsWorld W → AreHeld W zs
    → IsDelegation W c names addresses → IsAtOrUnder q c → IsLooked zs q t (Cut d ns glue) → IsBeneath c d → IsFrame W q (frame_at c names addresses)
kept_below_starts W zs q t d c ns glue names addresses w held kept over looked below =
    kept_frame W q c names addresses kept over (deeper W d c q (cut_clear W zs q t d ns glue w held looked) (under_length c d below.0))

-- An honest referral may be kept, and is the next frame.
pub referral_kept : (W : World) (a : Address) (f q : Name) (t : ℕ) (m : Message) (c : Name) (names : List Name) (addresses : List Address) → IsWorld W → MayAsk W a f q → MayServe W a q t m
    → IsReferralTo f q t m c → AreTaken f m c names addresses → IsDelegation W c names addresses
referral_kept W a f q t m c names addresses w may serve h taken =
    let good = honest_referral W a f q t m c w may serve h in
    record { servers = λ n k. good.names n (taken.names_from n k); serve = λ b k. good.addresses b (taken.addresses_from b k) }

pub referral_starts : (W : World) (a : Address) (f q : Name) (t : ℕ) (m : Message) (c : Name) (names : List Name) (addresses : List Address) → IsWorld W → MayAsk W a f q → MayServe W a q t m
    → IsReferralTo f q t m c → AreTaken f m c names addresses
    → IsFrame W q (frame_at c names addresses)
referral_starts W a f q t m c names addresses w may serve h taken =
    kept_frame W q c names addresses (referral_kept W a f q t m c names addresses w may serve h taken) h.over
    (deeper W f c q may.unshadowed (under_length c f h.beneath.0))

-- An address of one of the frame's servers that was looked up is added.
pub address_adds : (W : World) (q : Name) (f g : Frame) (n : Name) (set : List Record) (r : Record) (a : Address) → IsWorld W → IsFrame W q f → Contains f.names n
    → IsTrueLink W n a_type (Found set) → Contains set r → r.value ≡ Ipv4 a → IsGrown f a g → IsFrame W q g
address_adds W q f g n set r a w frame member true_set stands value grown =
    let (z, charge, shows) = true_set in
    let (xs, link, e) = found_shown z n a_type set shows in
    let (x, mx, same) = e.0 r stands in
    let serves : Serves W a f.zone = w.servers f.zone n a (frame.servers n member) (inr (z, xs, x, charge, link, mx, sym same.1 ∙ value)) in
    let back : f.zone ≡ g.zone = sym grown.zone in
    record {
      over = subst (IsAtOrUnder q) back frame.over;
      unshadowed = subst (λ (c : Name). IsUnshadowed W c q) back frame.unshadowed;
      servers = λ p m. subst (λ (c : Name). IsServerName W c p) back (frame.servers p (subst (λ (ns : List Name). Contains ns p) grown.names m));
      serve = λ b m. subst (Serves W b) back (elim (grown.addresses b m) [
        | inl old ↦ frame.serve b old
        | inr new ↦ subst (λ (v : Address). Serves W v f.zone) (sym new) serves
      ]);
    }

-- Each address of a frame may be asked.
pub frame_asks : (W : World) (q : Name) (f : Frame) (a : Address) → IsFrame W q f → Contains f.addresses a → MayAsk W a f.zone q
frame_asks W q f a frame m = record { serves = frame.serve a m; over = frame.over; unshadowed = frame.unshadowed }
