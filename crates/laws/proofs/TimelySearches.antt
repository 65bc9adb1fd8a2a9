-- What stands of a query's searches at a run, and how the rules keep it.
use Rattle.std.proofs.Common.{◌≡◌, ℕ, zero, suc, ◌+◌, ◌-◌, ◌≤◌, ◌<◌, ◌⊎◌, inl, inr, Bool, true, cond, Option, Some, None, is_some, List, [], ◌∷◌, ◌++◌, take, drop, slice_get, Contains, refl, sym, ap, ◌∙◌, subst, arith, add-one}
use Rattle.std.proofs.lemmas.Bool.{cases_lt}
use Rattle.std.proofs.lemmas.List.{take-append-drop}
use Rattle.std.proofs.lemmas.List.Elements.{Contains-append_cases, Contains-append_left}
use Rattle.lru.proofs.Splits.{Contains-nil}
use Rattle.dname.specs.Labels.{Name, IsAtOrUnder}
use Rattle.rdata.specs.Records.{Record}
use Rattle.rdata.specs.declared.addr.Addr.{Addr}
use Rattle.zone.specs.Zones.{a_type}
use Rattle.retry.specs.Plans.{Plan, upcoming, advanced}
use Rattle.cache.specs.Failures.{FailedAsk}
use Rattle.referral.specs.Cuts.{Cut}
use Rattle.frames.specs.Frames.{Frame, Failed, taken_addresses, unknown_names, opened, IsPassedOver, next_place, next_name, after_add}
use Rattle.frames.specs.Members.{AreAmong}
use Rattle.frames.proofs.Passed.{passed, spent}
use Rattle.frames.proofs.Places.{name_turn}
use Rattle.frames.proofs.Plans.{in_plan}
use Rattle.resolution.specs.Jobs.{Home, AreAddressesOf, Search, search_at, with_frame, given, fails_now}
use Rattle.resolution.specs.Rules.{turned, PassesOver}
use Rattle.resolution.proofs.Passing.{passes_name, passes_fails_now}
use Rattle.runs.specs.States.{Turn}
use Rattle.runs.specs.Runs.{Earlier}
use Rattle.laws.specs.Spent.{EndsBadly, HasFailed, IsFound, HasNoAddress, MayStart, IsOver, IsOfNoUse, AreUsedUp, IsBeyond, IsSpent}
use Rattle.laws.proofs.TimelyLists.{some_is, Followed, none_followed, more_followed, all_twice, taken_more}

-- Fewer look-ups within one another need no more.
module _ (port : ℕ) (home : Home) (run : List Turn) where
  pub use_with : (z : Name) (Has More : Addr → Type 0) (Beneath Below : Name → Type 0) (x : Name) → ((a : Addr) → Has a → More a) → (Beneath x → Below x)
      → IsOfNoUse port home run z Has Beneath x → IsOfNoUse port home run z More Below x
  use_with z Has More Beneath Below x f g (inl u) = inl u
  use_with z Has More Beneath Below x f g (inr (inl (set, found, is, are, all))) = inr (inl (set, found, is, are, λ a c. f a (all a c)))
  use_with z Has More Beneath Below x f g (inr (inr (inl none))) = inr (inr (inl none))
  use_with z Has More Beneath Below x f g (inr (inr (inr b))) = inr (inr (inr (g b)))

  module _ (Fails More : Name → Name → ℕ → Addr → Type 0) (f : (z n : Name) (t : ℕ) (a : Addr) → Fails z n t a → More z n t a) where
    pub used_with : (n : Name) (t : ℕ) (Beneath Below : Name → Type 0) (c : Cut) → ((x : Name) → Beneath x → Below x)
        → AreUsedUp port home run Fails n t Beneath c → AreUsedUp port home run More n t Below c
    used_with n t Beneath Below c g u = record {
      start = u.start;
      over = u.over;
      addresses = λ a h. f c.owner n t a (u.addresses a h);
      names = λ x h. use_with c.owner (Fails c.owner n t) (More c.owner n t) Beneath Below x (λ a w. f c.owner n t a w) (g x) (u.names x h);
    }

    pub beyond_with : (d e : ℕ) (x : Name) → d ≤ e → IsBeyond port home run Fails e x → IsBeyond port home run More d x
    beyond_with zero e x le b = tt
    beyond_with (suc d) zero x le b = absurd (omega arith)
    beyond_with (suc d) (suc e) x le (c, u) = (c, used_with x a_type (IsBeyond port home run Fails e) (IsBeyond port home run More d) c (λ y b. beyond_with d e y (omega arith) b) u)

    pub spent_with : (n : Name) (t d : ℕ) → IsSpent port home run Fails n t d → IsSpent port home run More n t d
    spent_with n t d (c, u) = (c, used_with n t (IsBeyond port home run Fails (3 - d)) (IsBeyond port home run More (3 - d)) c (λ y b. beyond_with (3 - d) (3 - d) y (at_least (3 - d)) b) u)
      where
        at_least : (m : ℕ) → m ≤ m
        at_least m = omega arith

  pub beyond_to : (Fails : Name → Name → ℕ → Addr → Type 0) (d e : ℕ) (x : Name) → d ≤ e → IsBeyond port home run Fails e x → IsBeyond port home run Fails d x
  beyond_to Fails d e x le b = beyond_with Fails Fails (λ z n t a w. w) d e x le b

-- What may be known of a server, where a query has passed one over and where it has not.
abbrev pub Passed : Bool → (Name → ℕ → Addr → Type 0) → Name → ℕ → Addr → Type 0
Passed b K n t a = (b ≡ true) × K n t a

-- Something is known of some server.
abbrev pub SomeKnown : (Name → ℕ → Addr → Type 0) → Type 0
SomeKnown K = (n : Name) × (t : ℕ) × (a : Addr) × K n t a

module _ (port : ℕ) (home : Home) (k : ℕ) (run : List Turn) (Known : Name → ℕ → Addr → Type 0) where
  -- Why a server of a zone is of no use once, and for good: it was asked for nothing, once and twice, or it is known to
  -- fail.
  abbrev pub FailsOnce : Name → Name → ℕ → Addr → Type 0
  FailsOnce z n t a = Earlier (EndsBadly port home k z n t a) run ⊎ Known n t a

  abbrev pub FailsTwice : Name → Name → ℕ → Addr → Type 0
  FailsTwice z n t a = HasFailed port home run k z n t a ⊎ Known n t a

  -- A search whose frame was opened at the cut.
  pub record Stands (s : Search) (c : Cut) : Type 0 where
    pub start : MayStart port home run c
    pub over : IsOver c s.name
    pub zone : (s.frame).zone ≡ c.owner
    pub names : (s.frame).names ≡ unknown_names c
    pub addresses : AreAmong (taken_addresses c) (s.frame).addresses

  -- The first names are of no use.
  abbrev pub AreSettled : Search → Cut → ℕ → Type 0
  AreSettled s c n = (x : Name) → Contains (take n (s.frame).names) x → IsOfNoUse port home run c.owner (Contains (s.frame).addresses) (IsBeyond port home run FailsTwice (3 - (s.frame).nesting)) x

  -- So many asks of the plan ended for nothing; what is in no plan now was asked twice.
  pub record AreAsked (s : Search) (c : Cut) (ended : ℕ) : Type 0 where
    pub followed : Followed (λ a. FailsOnce c.owner s.name s.kind a) (λ a. FailsTwice c.owner s.name s.kind a) ((s.frame).plan).order ended
    pub others : (a : Addr) → Contains (s.frame).addresses a → Contains ((s.frame).plan).order a ⊎ FailsTwice c.owner s.name s.kind a

  -- No ask is open.
  pub record IsIdle (s : Search) : Type 0 where
    pub cut : Cut
    pub stands : Stands s cut
    pub settled : AreSettled s cut (s.frame).tried
    pub asked : AreAsked s cut ((s.frame).plan).given

  -- This server was asked.
  pub record IsAsk (s : Search) (a : Addr) : Type 0 where
    pub cut : Cut
    pub ended : ℕ
    pub stands : Stands s cut
    pub settled : AreSettled s cut (s.frame).tried
    pub given : ((s.frame).plan).given ≡ suc ended
    pub at : slice_get (((s.frame).plan).order ++ ((s.frame).plan).order) ended ≡ Some a
    pub asked : AreAsked s cut ended

  -- An address of this name is looked up.
  pub record IsWaiting (s : Search) (x : Name) : Type 0 where
    pub cut : Cut
    pub place : ℕ
    pub stands : Stands s cut
    pub tried : (s.frame).tried ≡ suc place
    pub at : slice_get (s.frame).names place ≡ Some x
    pub settled : AreSettled s cut place
    pub asked_all : upcoming (s.frame).plan ≡ None
    pub asked : AreAsked s cut ((s.frame).plan).given

  -- The searches around one for this name and type at this nesting, of a query for `name` and `kind`.
  abbrev pub AreAround : Name → ℕ → Name → ℕ → ℕ → List Search → Type 0
  AreAround name kind n t d [] = (n ≡ name) × (t ≡ kind) × (d ≡ 0)
  AreAround name kind n t d (o ∷ os) = (t ≡ a_type) × (d ≡ suc (o.frame).nesting) × IsWaiting o n × AreAround name kind o.name o.kind (o.frame).nesting os

  abbrev pub IsMarked : Name → ℕ → Type 0
  IsMarked n d = HasNoAddress port home run n ⊎ IsBeyond port home run FailsTwice (4 - d) n

  abbrev pub AreMarked : Failed → Type 0
  AreMarked fs = (n : Name) (d : ℕ) → Contains fs (n, d) → IsMarked n d

  -- ---- a search that begins

  pub idle_at : (level : Addr → ℕ) (low : (a : Addr) → level a ≤ 8) (nesting : ℕ) (c : Cut) (n : Name) (t : ℕ) → MayStart port home run c → IsOver c n → IsIdle (search_at n t (opened level nesting c))
  idle_at level low nesting c n t start over = record {
    cut = c;
    stands = record { start = start; over = over; zone = refl; names = refl; addresses = λ a h. h };
    settled = λ x h. absurd (Contains-nil x h);
    asked = record { followed = none_followed _ _ _; others = λ a h. inl (in_plan level (taken_addresses c) a h (low a)) };
  }

  -- ---- servers that are passed over

  pub one_given : (p : Plan) (a : Addr) → upcoming p ≡ Some a → (advanced p).given ≡ suc p.given
  one_given p a e = ap (λ (o : Option Addr). cond (is_some o) (p.given + 1) p.given) e ∙ add-one p.given

  passed_one : (s : Search) (server : Addr) → IsIdle s → upcoming (s.frame).plan ≡ Some server → Known s.name s.kind server → IsIdle (given s)
  passed_one s server h next known = record {
    cut = h.cut;
    stands = record { start = h.stands.start; over = h.stands.over; zone = h.stands.zone; names = h.stands.names; addresses = h.stands.addresses };
    settled = h.settled;
    asked = subst (AreAsked (given s) h.cut) (sym (one_given (s.frame).plan server next)) (record {
      followed = more_followed (λ a. FailsOnce h.cut.owner s.name s.kind a) (λ a. FailsTwice h.cut.owner s.name s.kind a) (λ a. FailsOnce h.cut.owner s.name s.kind a) (λ a. FailsTwice h.cut.owner s.name s.kind a)
          ((s.frame).plan).order ((s.frame).plan).given server next (λ a e. e) (λ a e. e) (inr known) (λ e. inr known) h.asked.followed;
      others = h.asked.others;
    });
  }

  pub passes_idle : (now n : ℕ) (s : Search) (fs : List (FailedAsk × ℕ)) (t : Search) (gs : List (FailedAsk × ℕ)) → PassesOver now n s fs t gs
      → ((a : Addr) → fails_now now fs s a ≡ true → Known s.name s.kind a) → IsIdle s → IsIdle t
  passes_idle now zero s fs t gs (same, is) known h = subst IsIdle (sym same) h
  passes_idle now (suc n) s fs t gs (mid, held, server, before, next, fails, one, is) known h =
      let (name, kind) = passes_name now n s fs mid held before in
      let at_first = known server (sym (passes_fails_now now n s fs mid held server before) ∙ fails) in
      let at_mid : Known mid.name mid.kind server = subst (λ (m : Name). Known m mid.kind server) (sym name) (subst (λ (u : ℕ). Known s.name u server) (sym kind) at_first) in
      subst IsIdle (sym one) (passed_one mid server (passes_idle now n s fs mid held before known h) next at_mid)

  -- ---- all of a search's known servers were asked

  module _ (s : Search) (c : Cut) (asked_all : upcoming (s.frame).plan ≡ None) (asked : AreAsked s c ((s.frame).plan).given) where
    pub all_failed : (a : Addr) → Contains (s.frame).addresses a → FailsTwice c.owner s.name s.kind a
    all_failed a h = elim (asked.others a h) [
      | inl o ↦ all_twice _ _ ((s.frame).plan).order ((s.frame).plan).given asked_all asked.followed a o
      | inr f ↦ f
    ]

  -- What is passed over is of no use.
  passed_use : (fs : Failed) (s : Search) (z : Name) (x : Name) → AreMarked fs → (s.frame).zone ≡ z → IsPassedOver fs s.frame x
      → IsOfNoUse port home run z (Contains (s.frame).addresses) (IsBeyond port home run FailsTwice (3 - (s.frame).nesting)) x
  passed_use fs s z x marks zone (inl under) = inl (subst (IsAtOrUnder x) zone under)
  passed_use fs s z x marks zone (inr (inl deep)) = let none : 0 ≡ 3 - (s.frame).nesting = omega arith in inr (inr (inr (subst (λ (d : ℕ). IsBeyond port home run FailsTwice d x) none tt)))
  passed_use fs s z x marks zone (inr (inr (least, there, le))) =
      let less : 3 - (s.frame).nesting ≤ 4 - least = omega arith in
      elim (marks x least there) [
        | inl none ↦ inr (inr (inl none))
        | inr b ↦ inr (inr (inr (beyond_to port home run FailsTwice (3 - (s.frame).nesting) (4 - least) x less b)))
      ]

  all_passed : (fs : Failed) (f : Frame) → next_name fs f ≡ None → (x : Name) → Contains f.names x → Contains (take f.tried f.names) x ⊎ IsPassedOver fs f x
  all_passed fs f none x c = elim (Contains-append_cases (take f.tried f.names) (drop f.tried f.names) x (subst (λ (l : List Name). Contains l x) (sym (take-append-drop f.tried f.names)) c)) [
    | inl d ↦ inl d
    | inr d ↦ inr (spent fs f x none d)
  ]

  -- ---- a server's name has its turn

  pub waits : (fs : Failed) (s : Search) (n : Name) → AreMarked fs → IsIdle s → upcoming (s.frame).plan ≡ None → next_name fs s.frame ≡ Some n → IsWaiting (turned fs s) n
  waits fs s n marks idle asked_all next =
      let turn = name_turn fs s.frame n next in
      record {
        cut = idle.cut;
        place = next_place fs s.frame;
        stands = record { start = idle.stands.start; over = idle.stands.over; zone = idle.stands.zone; names = idle.stands.names; addresses = idle.stands.addresses };
        tried = turn.1 ∙ add-one (next_place fs s.frame);
        at = next;
        settled = λ x h. elim (passed fs s.frame x h) [ inl d ↦ idle.settled x d | inr e ↦ passed_use fs s idle.cut.owner x marks idle.stands.zone e ];
        asked_all = asked_all;
        asked = record { followed = idle.asked.followed; others = idle.asked.others };
      }

  -- What is known of the name now settles it.
  pub goes_on : (w : Search) (n : Name) → IsWaiting w n → ((z : Name) → IsOfNoUse port home run z (Contains (w.frame).addresses) (IsBeyond port home run FailsTwice (3 - (w.frame).nesting)) n) → IsIdle w
  goes_on w n h useless = record {
    cut = h.cut;
    stands = h.stands;
    settled = λ x c. elim (taken_more h.place (w.frame).names x (subst (λ (m : ℕ). Contains (take m (w.frame).names) x) h.tried c)) [
      | inl d ↦ h.settled x d
      | inr e ↦ subst (IsOfNoUse port home run h.cut.owner (Contains (w.frame).addresses) (IsBeyond port home run FailsTwice (3 - (w.frame).nesting))) (same e) (useless h.cut.owner)
    ];
    asked = h.asked;
  }
    where
      same : {x : Name} → slice_get (w.frame).names h.place ≡ Some x → n ≡ x
      same e = some_is (sym h.at ∙ e)

  -- Its addresses are added.
  module _ (level : Addr → ℕ) (low : (a : Addr) → level a ≤ 8) (w : Search) (n : Name) (h : IsWaiting w n) where
    added_asked : (fresh : List Addr) → AreAsked (with_frame w (after_add level w.frame fresh)) h.cut ((after_add level w.frame fresh).plan).given
    added_asked [] = record { followed = h.asked.followed; others = h.asked.others }
    added_asked (b ∷ more) = record {
      followed = none_followed _ _ _;
      others = λ a c. elim (Contains-append_cases (w.frame).addresses (b ∷ more) a c) [
        | inl d ↦ inr (all_failed w h.cut h.asked_all h.asked a d)
        | inr d ↦ inl (in_plan level (b ∷ more) a d (low a))
      ];
    }

    same_names : (fresh : List Addr) → (after_add level w.frame fresh).names ≡ (w.frame).names
    same_names [] = refl
    same_names (b ∷ more) = refl

    same_zone : (fresh : List Addr) → (after_add level w.frame fresh).zone ≡ (w.frame).zone
    same_zone [] = refl
    same_zone (b ∷ more) = refl

    same_nesting : (fresh : List Addr) → (after_add level w.frame fresh).nesting ≡ (w.frame).nesting
    same_nesting [] = refl
    same_nesting (b ∷ more) = refl

    same_tried : (fresh : List Addr) → (after_add level w.frame fresh).tried ≡ (w.frame).tried
    same_tried [] = refl
    same_tried (b ∷ more) = refl

    pub kept_on : (fresh : List Addr) (a : Addr) → Contains (w.frame).addresses a → Contains (after_add level w.frame fresh).addresses a
    kept_on [] a c = c
    kept_on (b ∷ more) a c = Contains-append_left (w.frame).addresses (b ∷ more) a c

    pub adds : (set : List Record) (found fresh : List Addr) → ((a : Addr) → Contains found a → Contains (after_add level w.frame fresh).addresses a)
        → IsFound port home run n set → AreAddressesOf set found → IsIdle (with_frame w (after_add level w.frame fresh))
    adds set found fresh there is are = record {
      cut = h.cut;
      stands = record {
        start = h.stands.start;
        over = h.stands.over;
        zone = same_zone fresh ∙ h.stands.zone;
        names = same_names fresh ∙ h.stands.names;
        addresses = λ a c. kept_on fresh a (h.stands.addresses a c);
      };
      settled = λ x c. settle x (taken_more h.place (w.frame).names x (subst (λ (l : List Name). Contains (take (suc h.place) l) x) (same_names fresh)
          (subst (λ (m : ℕ). Contains (take m (after_add level w.frame fresh).names) x) (same_tried fresh ∙ h.tried) c)));
      asked = added_asked fresh;
    }
      where
        settle : (x : Name) → Contains (take h.place (w.frame).names) x ⊎ (slice_get (w.frame).names h.place ≡ Some x)
            → IsOfNoUse port home run h.cut.owner (Contains (after_add level w.frame fresh).addresses) (IsBeyond port home run FailsTwice (3 - (after_add level w.frame fresh).nesting)) x
        settle x (inl d) = use_with port home run h.cut.owner (Contains (w.frame).addresses) (Contains (after_add level w.frame fresh).addresses)
            (IsBeyond port home run FailsTwice (3 - (w.frame).nesting)) (IsBeyond port home run FailsTwice (3 - (after_add level w.frame fresh).nesting)) x (kept_on fresh)
            (subst (λ (d : ℕ). IsBeyond port home run FailsTwice (3 - d) x) (sym (same_nesting fresh))) (h.settled x d)
        settle x (inr e) = inr (inl (set, found, subst (λ (y : Name). IsFound port home run y set) (some_is (sym h.at ∙ e)) is, are, there))

    -- Its nesting, name and kind stay.
    pub nesting_stays : (fresh : List Addr) → (after_add level w.frame fresh).nesting ≡ (w.frame).nesting
    nesting_stays fresh = same_nesting fresh

  -- ---- a search with no server left

  pub used_up : (fs : Failed) (s : Search) → AreMarked fs → IsIdle s → upcoming (s.frame).plan ≡ None → next_name fs s.frame ≡ None
      → (c : Cut) × AreUsedUp port home run FailsTwice s.name s.kind (IsBeyond port home run FailsTwice (3 - (s.frame).nesting)) c
  used_up fs s marks idle asked_all none_left = (
    idle.cut,
    record {
      start = idle.stands.start;
      over = idle.stands.over;
      addresses = λ a h. failed a (idle.stands.addresses a h);
      names = λ x h. use_with port home run idle.cut.owner (Contains (s.frame).addresses) (FailsTwice idle.cut.owner s.name s.kind)
          (IsBeyond port home run FailsTwice (3 - (s.frame).nesting)) (IsBeyond port home run FailsTwice (3 - (s.frame).nesting)) x failed (λ b. b)
          (elim (all_passed fs s.frame none_left x (subst (λ (l : List Name). Contains l x) (sym idle.stands.names) h)) [
            | inl d ↦ idle.settled x d
            | inr e ↦ passed_use fs s idle.cut.owner x marks idle.stands.zone e
          ]);
    },
  )
    where
      failed : (a : Addr) → Contains (s.frame).addresses a → FailsTwice idle.cut.owner s.name s.kind a
      failed = all_failed s idle.cut asked_all idle.asked

  -- It is marked at its nesting.
  pub marked_up : (s : Search) → s.kind ≡ a_type → (c : Cut) × AreUsedUp port home run FailsTwice s.name s.kind (IsBeyond port home run FailsTwice (3 - (s.frame).nesting)) c
      → IsBeyond port home run FailsTwice (4 - (s.frame).nesting) s.name
  marked_up s kind (c, u) = by (cases_lt (s.frame).nesting 4)
    where
      by : ((s.frame).nesting < 4) ⊎ (4 ≤ (s.frame).nesting) → IsBeyond port home run FailsTwice (4 - (s.frame).nesting) s.name
      by (inl lt) =
          let next : suc (3 - (s.frame).nesting) ≡ 4 - (s.frame).nesting = omega arith in
          subst (λ (d : ℕ). IsBeyond port home run FailsTwice d s.name) next (c, subst (λ (t : ℕ). AreUsedUp port home run FailsTwice s.name t (IsBeyond port home run FailsTwice (3 - (s.frame).nesting)) c) kind u)
      by (inr le) = let none : 0 ≡ 4 - (s.frame).nesting = omega arith in subst (λ (d : ℕ). IsBeyond port home run FailsTwice d s.name) none tt
