-- Servers that may be asked: cuts that are kept, and the frames that begin and grow from them.
use Rattle.std.proofs.Common.{◌≡◌, ℕ, Option, Some, None, List, [], ◌∷◌, map, inl, inr, ◌⊎◌, refl, sym, ◌∙◌, ap, subst}
use Rattle.std.specs.Prelude.{Contains}
use Rattle.dname.specs.Labels.{Name, IsName, IsAtOrUnder}
use Rattle.rdata.specs.Data.{Datum, Ipv4, Ns, Cname, Soa, Ptr, Mx, Txt, Ipv6, Srv}
use Rattle.rdata.specs.Records.{Record}
use Rattle.rdata.specs.declared.addr.Addr.{Addr}
use Rattle.zone.specs.Zones.{a_type}
use Rattle.zone.specs.Links.{Found}
use Rattle.zone.specs.Look as local
use Rattle.zone.proofs.LawLists.{none_in, first_in, in_cases, map_of, map_in}
use Rattle.authority.specs.Catalogs.{IsLooked}
use Rattle.message_grammar.specs.Messages.{Message}
use Rattle.wire.specs.declared.via.Via.{Via}
use Rattle.classify.specs.Classes.{Referral, class_of}
use Rattle.classify.specs.Laws.{AreServers, AreAddresses}
use Rattle.classify.proofs.Readings.{referral_read}
use Rattle.referral.specs.Cuts.{Cut, Known, IsBest, IsKept, after_best, after_keep}
use Rattle.referral.proofs.Members.{looked_members, kept_members}
use Rattle.std.specs.List.{flat_map}
use Rattle.lru.proofs.CallerLemmas.{Contains-take}
use Rattle.frames.specs.Frames.{Frame, most_taken, opened, after_add, fresh_addresses}
use Rattle.frames.specs.Trimmed.{trimmed}
use Rattle.frames.proofs.Steps.{taken_from, unknown_from, added_only}
use Rattle.frames.proofs.Trims.{trimmed_names, trimmed_addresses}
use Rattle.world_truth.specs.Worlds.{Address, World, IsWorld, Serves}
use Rattle.world_truth.specs.Serving.{MayServe}
use Rattle.world_truth.specs.Reading.{IsReferralTo, NamesServer, GivesAddress}
use Rattle.world_truth.specs.Frames.{MayAsk, IsDelegation, IsFrame, frame_at, AreTargets, AreTaken}
use Rattle.world_truth.specs.Frames as truth
use Rattle.world_truth.proofs.Grown.{hints_start, cut_starts, kept_starts, kept_below_starts, referral_kept, referral_starts, address_adds, frame_asks}
use Rattle.rdata.specs.Targets.{ns_target}
use Rattle.resolution.specs.Jobs.{Home, Stores, ipv4_of, row_of, IsCutOf, hinted, root_cut, bytes_of, AreAddressesOf, cut_from}
use Rattle.resolution.specs.Rules.{Begins, Misses}
use Rattle.laws.specs.Headline.{IsHomeIn}
use Rattle.laws.specs.Truthful.{IsTrueOnce, address_bytes, cut_bytes, IsTrueCut, AreTrueCuts, frame_of, IsTrueFrame}
use Rattle.laws.proofs.RightLists.{flat_from, only_one}

abbrev pub BeginsTrue : World → Name → Cut → Type 0
BeginsTrue W q c = IsFrame W q (frame_at c.owner c.names (cut_bytes c))

-- ---- what is taken of a cut

pub opened_true : (W : World) (q : Name) (level : Addr → ℕ) (nesting : ℕ) (c : Cut) → BeginsTrue W q c → IsTrueFrame W q (opened level nesting c)
opened_true W q level nesting c h = record {
  over = h.over;
  unshadowed = h.unshadowed;
  servers = λ n m. h.servers n (unknown_from c n m).0;
  serve = λ a m.
      let (x, mx, is) = map_of bytes_of _ a m in
      let (s, ms, address) = taken_from c x mx in
      h.serve a (subst (Contains (cut_bytes c)) (ap bytes_of address ∙ is) (map_in address_bytes c.addresses s ms));
}

named : (d : Datum) (n : Name) → Contains (ns_target d) n → d ≡ Ns n
named (Ipv4 a) n m = absurd (none_in n m)
named (Ns p) n m = ap Ns (only_one p n m)
named (Cname p) n m = absurd (none_in n m)
named (Soa s) n m = absurd (none_in n m)
named (Ptr p) n m = absurd (none_in n m)
named (Mx p x) n m = absurd (none_in n m)
named (Txt ts) n m = absurd (none_in n m)
named (Ipv6 a) n m = absurd (none_in n m)
named (Srv v) n m = absurd (none_in n m)

addressed : (d : Datum) (a : Address) → Contains (ipv4_of d) a → d ≡ Ipv4 a
addressed (Ipv4 b) a m = ap Ipv4 (only_one b a m)
addressed (Ns p) a m = absurd (none_in a m)
addressed (Cname p) a m = absurd (none_in a m)
addressed (Soa s) a m = absurd (none_in a m)
addressed (Ptr p) a m = absurd (none_in a m)
addressed (Mx p x) a m = absurd (none_in a m)
addressed (Txt ts) a m = absurd (none_in a m)
addressed (Ipv6 b) a m = absurd (none_in a m)
addressed (Srv v) a m = absurd (none_in a m)

module _ (at : Name) (ns glue : List Record) (c : Cut) (is : IsCutOf at ns glue c) where
  cut_names : AreTargets c.names ns
  cut_names n m =
      let (r, mr, there) = flat_from (λ (r : Record). ns_target r.value) ns n (subst (λ (xs : List Name). Contains xs n) is.names m) in
      (r, mr, named r.value n there)

  cut_addresses : truth.AreAddresses (cut_bytes c) glue
  cut_addresses a m =
      let (s, ms, is_s) = map_of address_bytes c.addresses a m in
      let row = subst (λ (xs : List (Name × List ℕ)). Contains xs (row_of s)) is.addresses (map_in row_of c.addresses s ms) in
      let (r, mr, there) = flat_from (λ (r : Record). map (λ (bytes : List ℕ). (r.owner, bytes)) (ipv4_of r.value)) glue (row_of s) row in
      let (bytes, mb, pair) = map_of (λ (bytes : List ℕ). (r.owner, bytes)) (ipv4_of r.value) (row_of s) there in
      let same : bytes ≡ a = ap (λ (x : Name × List ℕ). x.1) pair ∙ is_s in
      (r, mr, addressed r.value a (subst (Contains (ipv4_of r.value)) same mb))

-- ---- where a frame begins

module _ (W : World) (w : IsWorld W) (home : Home) (ours : IsHomeIn W home) (q : Name) (t now : ℕ) (name : IsName q) where
  cut_begins : (at : Name) (ns glue : List Record) (c : Cut) → IsLooked home.zones q t (local.Cut at ns glue) → IsCutOf at ns glue c → BeginsTrue W q c
  cut_begins at ns glue c looked is =
      subst (λ (n : Name). IsFrame W q (frame_at n c.names (cut_bytes c))) (sym is.owner)
      (cut_starts W home.zones q t at ns glue c.names (cut_bytes c) w ours.held looked (cut_names at ns glue c is) (cut_addresses at ns glue c is))

  root_begins : (c : Cut) → IsLooked home.zones q t local.NotHere → c ≡ root_cut home → BeginsTrue W q c
  root_begins c looked is = subst (BeginsTrue W q) (sym is) (hints_start W home.zones q t (cut_bytes (root_cut home)) w ours.held name looked hints)
    where
      hints : (a : Address) → Contains (cut_bytes (root_cut home)) a → Contains W.hints a
      hints a m =
          let (s, ms, is_s) = map_of address_bytes (map hinted home.hints) a m in
          let (x, mx, is_x) = map_of hinted home.hints s ms in
          subst (Contains W.hints) (ap address_bytes is_x ∙ is_s) (ours.hints x mx)

  module _ (es : List (Name × Known)) (all : AreTrueCuts W es) where
    best_over : (k : Cut) → IsBest q now es (Some k) → IsAtOrUnder q k.owner × IsTrueCut W k
    best_over k (n, known, deepest, is) =
        let (owner, cut) = all n known deepest.there in
        subst (λ (c : Cut). IsAtOrUnder q c.owner × IsTrueCut W c) is (subst (IsAtOrUnder q) (sym owner) deepest.over, cut)

    begins_true : (what : local.Local) (best : Option Cut) (c : Cut) → IsLooked home.zones q t what → IsBest q now es best → Begins home q what best c → BeginsTrue W q c
    begins_true (local.Linked l) best c looked is h = absurd h
    begins_true (local.Cut at ns glue) None c looked is h = cut_begins at ns glue c looked h
    begins_true (local.Cut at ns glue) (Some k) c looked is (inl (below, same)) =
        let (over, cut) = best_over k is in
        subst (BeginsTrue W q) (sym same) (kept_below_starts W home.zones q t at k.owner ns glue k.names (cut_bytes k) w ours.held cut over looked below)
    begins_true (local.Cut at ns glue) (Some k) c looked is (inr (shallow, h)) = cut_begins at ns glue c looked h
    begins_true local.NotHere None c looked is h = root_begins c looked h
    begins_true local.NotHere (Some k) c looked is h =
        let (over, cut) = best_over k is in
        subst (BeginsTrue W q) (sym h) (kept_starts W home.zones q t k.owner k.names (cut_bytes k) ours.held cut over looked)

pub misses_true : (W : World) (home : Home) (now : ℕ) (n : Name) (t : ℕ) (old : Stores) (c : Cut) (new : Stores) → IsWorld W → IsHomeIn W home → AreTrueCuts W old.delegations
    → Misses home now n t old c new → BeginsTrue W n c
misses_true W home now n t old c new w ours all h = begins_true W w home ours n t now h.name old.delegations all h.what h.best c h.says.1 h.is_best h.begins

-- ---- referrals

module _ (W : World) (w : IsWorld W) (z n : Name) (t : ℕ) (via : Via) (m : Message) (at : Name) (ns glue : List Record) (ttl : ℕ) (a : Address) (may : MayAsk W a z n) (serve : MayServe W a n t m)
    (class : class_of z n t via m ≡ Referral at ns glue ttl) (c : Cut) (is : IsCutOf at ns glue c) where
  is_read : IsReferralTo z n t m at × AreServers m at ns × AreAddresses z m at ns glue
  is_read = referral_read z n t m via at ns glue ttl class

  one_ns : (p q : Name) → Ns p ≡ Ns q → p ≡ q
  one_ns p q e = cc

  one_address : (x y : Address) → Ipv4 x ≡ Ipv4 y → x ≡ y
  one_address x y e = cc

  taken : AreTaken z m at c.names (cut_bytes c)
  taken = record {
    names_from = λ p member.
        let (r, mr, value) = cut_names at ns glue c is p member in
        let (x, is_x, names) = (is_read.1).named r mr in
        subst (NamesServer m at) (one_ns x p (sym is_x ∙ value)) names;
    addresses_from = λ b member.
        let (r, mr, value) = cut_addresses at ns glue c is b member in
        let (x, is_x, gives) = (is_read.2).given r mr in
        subst (GivesAddress z m at) (one_address x b (sym is_x ∙ value)) gives;
  }

  pub referral_cut : IsTrueCut W c
  referral_cut = subst (λ (o : Name). IsDelegation W o c.names (cut_bytes c)) (sym is.owner) (referral_kept W a z n t m at c.names (cut_bytes c) w may serve is_read.0 taken)

  pub referral_begins : BeginsTrue W n c
  referral_begins = subst (λ (o : Name). IsFrame W n (frame_at o c.names (cut_bytes c))) (sym is.owner) (referral_starts W a z n t m at c.names (cut_bytes c) w may serve is_read.0 taken)

trimmed_true : (W : World) (c : Cut) → IsTrueCut W c → IsTrueCut W (trimmed c)
trimmed_true W c h = record {
  servers = λ n m. h.servers n (trimmed_names c n m);
  serve = λ a m.
      let (s, ms, is) = map_of address_bytes (trimmed c).addresses a m in
      h.serve a (subst (Contains (cut_bytes c)) is (map_in address_bytes c.addresses s (trimmed_addresses c s ms)));
}

pub new_cut : (W : World) (ttl now : ℕ) (c : Cut) (n : Name) (k : Known) → IsTrueCut W c → IsKept (cut_from c ttl now) (n, k) → ((k.cut).owner ≡ n) × IsTrueCut W k.cut
new_cut W ttl now c n k true_cut (is, some) = subst (λ (x : Name × Known). (((x.1).cut).owner ≡ x.0) × IsTrueCut W (x.1).cut) (sym is) (refl, trimmed_true W c true_cut)

pub cut_kept_true : (W : World) (cap ttl now : ℕ) (c : Cut) (es : List (Name × Known)) → AreTrueCuts W es → IsTrueCut W c → AreTrueCuts W (after_keep cap (cut_from c ttl now) es)
cut_kept_true W cap ttl now c es all true_cut n k m = elim (kept_members cap (cut_from c ttl now) es (n, k) m) as (λ x. ((k.cut).owner ≡ n) × IsTrueCut W k.cut) [
  | inl old ↦ all n k old
  | inr new ↦ new_cut W ttl now c n k true_cut new
]

pub cuts_used_true : (W : World) (q : Name) (now : ℕ) (es : List (Name × Known)) → AreTrueCuts W es → AreTrueCuts W (after_best q now es)
cuts_used_true W q now es all n k m = all n k ((looked_members q now es).0 (n, k) m)

-- ---- addresses that were looked up

module _ (W : World) (w : IsWorld W) (q n : Name) (f : Frame) (frame : IsTrueFrame W q f) (member : Contains f.names n) (set : List Record) (good : IsTrueOnce W n a_type (Found set)) (found : List Addr)
    (are : AreAddressesOf set found) where
  found_serves : (a : Addr) → Contains found a → Serves W (bytes_of a) f.zone
  found_serves a m =
      let taken = subst (λ (xs : List Address). Contains xs (bytes_of a)) are (map_in bytes_of found a m) in
      let there = Contains-take most_taken (flat_map (λ (r : Record). ipv4_of r.value) set) (bytes_of a) taken in
      let (r, mr, is) = flat_from (λ (r : Record). ipv4_of r.value) set (bytes_of a) there in
      let more : IsFrame W q (frame_at f.zone f.names (bytes_of a ∷ map bytes_of f.addresses)) =
      address_adds W q (frame_of f) (frame_at f.zone f.names (bytes_of a ∷ map bytes_of f.addresses)) n set r (bytes_of a) w frame member good.is mr (addressed r.value (bytes_of a) is)
      (record { zone = refl; names = refl; addresses = λ b mb. either b (in_cases (bytes_of a) b (map bytes_of f.addresses) mb) }) in
      more.serve (bytes_of a) (first_in (bytes_of a) (map bytes_of f.addresses))
    where
      either : (b : Address) → (bytes_of a ≡ b) ⊎ Contains (map bytes_of f.addresses) b → Contains (map bytes_of f.addresses) b ⊎ (b ≡ bytes_of a)
      either b (inl same) = inr (sym same)
      either b (inr old) = inl old

  pub added_true : (level : Addr → ℕ) → IsTrueFrame W q (after_add level f (fresh_addresses f found))
  added_true level = by (fresh_addresses f found) refl
    where
      serves : (b : Address) → Contains (map bytes_of (after_add level f (fresh_addresses f found)).addresses) b → Serves W b f.zone
      serves b m =
          let (x, mx, is) = map_of bytes_of _ b m in
          subst (λ (v : Address). Serves W v f.zone) is (elim (added_only level f found x mx) as (λ h. Serves W (bytes_of x) f.zone) [
            | inl old ↦ frame.serve (bytes_of x) (map_in bytes_of f.addresses x old)
            | inr new ↦ found_serves x new
          ])

      by : (fresh : List Addr) → fresh_addresses f found ≡ fresh → IsTrueFrame W q (after_add level f fresh)
      by [] e = frame
      by (a ∷ xs) e = record {
        over = frame.over;
        unshadowed = frame.unshadowed;
        servers = frame.servers;
        serve = λ b m. serves b (subst (λ (ys : List Addr). Contains (map bytes_of (after_add level f ys).addresses) b) (sym e) m);
      }

pub asks_true : (W : World) (q : Name) (f : Frame) (a : Addr) → IsTrueFrame W q f → Contains f.addresses a → MayAsk W (bytes_of a) f.zone q
asks_true W q f a h m = frame_asks W q (frame_of f) (bytes_of a) h (map_in bytes_of f.addresses a m)
