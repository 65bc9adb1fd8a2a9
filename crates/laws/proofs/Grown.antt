-- What stood in a run stands in one that is longer by a step, and where more is known.
use Rattle.std.proofs.Common.{◌≡◌, ℕ, zero, suc, ◌-◌, ◌⊎◌, inl, inr, List, [], ◌∷◌, Contains, sym, subst}
use Rattle.dname.specs.Labels.{Name}
use Rattle.rdata.specs.Records.{Record}
use Rattle.rdata.specs.declared.addr.Addr.{Addr}
use Rattle.zone.specs.Zones.{a_type}
use Rattle.zone.specs.Links.{NxDomain}
use Rattle.referral.specs.Cuts.{Cut}
use Rattle.frames.specs.Frames.{Failed}
use Rattle.resolution.specs.Jobs.{Home, Search}
use Rattle.runs.specs.States.{Turn}
use Rattle.runs.specs.Runs.{Earlier}
use Rattle.laws.specs.Spent.{EndsBadly, LearnsLink, IsFound, HasNoAddress, MayStart, IsOfNoUse, AreUsedUp, IsBeyond}
use Rattle.laws.proofs.TimelyLists.{wider_followed}
use Rattle.laws.proofs.TimelySearches.{FailsOnce, FailsTwice, Stands, AreSettled, AreAsked, IsIdle, IsAsk, IsWaiting, AreAround, IsMarked, AreMarked}

-- The same run, or one with a step more.
abbrev pub Grows : List Turn → List Turn → Type 0
Grows old new = (new ≡ old) ⊎ ((turn : Turn) × (new ≡ turn ∷ old))

pub earlier_on : (P : Turn → List Turn → Type 0) (old new : List Turn) → Grows old new → Earlier P old → Earlier P new
earlier_on P old new (inl e) h = subst (Earlier P) (sym e) h
earlier_on P old new (inr (turn, e)) h = subst (Earlier P) (sym e) (inr h)

module _ (port : ℕ) (home : Home) (old new : List Turn) (grows : Grows old new) where
  start_on : (c : Cut) → MayStart port home old c → MayStart port home new c
  start_on c h = by grows
    where
      by : Grows old new → MayStart port home new c
      by (inl e) = subst (λ (run : List Turn). MayStart port home run c) (sym e) h
      by (inr (turn, e)) = subst (λ (run : List Turn). MayStart port home run c) (sym e) (inl h)

  found_on : (n : Name) (set : List Record) → IsFound port home old n set → IsFound port home new n set
  found_on n set (inl s) = inl s
  found_on n set (inr e) = inr (earlier_on _ old new grows e)

  pub none_on : (n : Name) → HasNoAddress port home old n → HasNoAddress port home new n
  none_on n (inl s) = inl s
  none_on n (inr (inl (t, l, e, tells))) = inr (inl (t, l, earlier_on (LearnsLink port n t l) old new grows e, tells))
  none_on n (inr (inr (p, t, soa, there, e))) = inr (inr (p, t, soa, there, earlier_on (LearnsLink port p t (NxDomain soa)) old new grows e))

  pub use_on : (z : Name) (Has More : Addr → Type 0) (Beneath Below : Name → Type 0) (x : Name) → ((a : Addr) → Has a → More a) → (Beneath x → Below x)
      → IsOfNoUse port home old z Has Beneath x → IsOfNoUse port home new z More Below x
  use_on z Has More Beneath Below x f g (inl u) = inl u
  use_on z Has More Beneath Below x f g (inr (inl (set, found, is, are, all))) = inr (inl (set, found, found_on x set is, are, λ a c. f a (all a c)))
  use_on z Has More Beneath Below x f g (inr (inr (inl none))) = inr (inr (inl (none_on x none)))
  use_on z Has More Beneath Below x f g (inr (inr (inr b))) = inr (inr (inr (g b)))

  module _ (k : ℕ) (Known More : Name → ℕ → Addr → Type 0) (f : (n : Name) (t : ℕ) (a : Addr) → Known n t a → More n t a) where
    once_on : (z n : Name) (t : ℕ) (a : Addr) → FailsOnce port home k old Known z n t a → FailsOnce port home k new More z n t a
    once_on z n t a (inl e) = inl (earlier_on (EndsBadly port home k z n t a) old new grows e)
    once_on z n t a (inr e) = inr (f n t a e)

    pub twice_on : (z n : Name) (t : ℕ) (a : Addr) → FailsTwice port home k old Known z n t a → FailsTwice port home k new More z n t a
    twice_on z n t a (inl e) = inl (earlier_on (λ turn past. EndsBadly port home k z n t a turn past × Earlier (EndsBadly port home k z n t a) past) old new grows e)
    twice_on z n t a (inr e) = inr (f n t a e)

    used_on : (n : Name) (t : ℕ) (Beneath Below : Name → Type 0) (c : Cut) → ((x : Name) → Beneath x → Below x)
        → AreUsedUp port home old (FailsTwice port home k old Known) n t Beneath c → AreUsedUp port home new (FailsTwice port home k new More) n t Below c
    used_on n t Beneath Below c g u = record {
      start = start_on c u.start;
      over = u.over;
      addresses = λ a h. twice_on c.owner n t a (u.addresses a h);
      names = λ x h. use_on c.owner (FailsTwice port home k old Known c.owner n t) (FailsTwice port home k new More c.owner n t) Beneath Below x (λ a w. twice_on c.owner n t a w) (g x) (u.names x h);
    }

    beyond_on : (d : ℕ) (x : Name) → IsBeyond port home old (FailsTwice port home k old Known) d x → IsBeyond port home new (FailsTwice port home k new More) d x
    beyond_on zero x b = tt
    beyond_on (suc d) x (c, u) =
        (c, used_on x a_type (IsBeyond port home old (FailsTwice port home k old Known) d) (IsBeyond port home new (FailsTwice port home k new More) d) c (λ y b. beyond_on d y b) u)

    pub stands_on : (s : Search) (c : Cut) → Stands port home k old Known s c → Stands port home k new More s c
    stands_on s c h = record { start = start_on c h.start; over = h.over; zone = h.zone; names = h.names; addresses = h.addresses }

    pub settled_on : (s : Search) (c : Cut) (n : ℕ) → AreSettled port home k old Known s c n → AreSettled port home k new More s c n
    settled_on s c n h x m = use_on c.owner (Contains (s.frame).addresses) (Contains (s.frame).addresses)
        (IsBeyond port home old (FailsTwice port home k old Known) (3 - (s.frame).nesting)) (IsBeyond port home new (FailsTwice port home k new More) (3 - (s.frame).nesting)) x
        (λ a w. w) (beyond_on (3 - (s.frame).nesting) x) (h x m)

    pub asked_on : (s : Search) (c : Cut) (n : ℕ) → AreAsked port home k old Known s c n → AreAsked port home k new More s c n
    asked_on s c n h = record {
      followed = wider_followed (λ a. FailsOnce port home k old Known c.owner s.name s.kind a) (λ a. FailsTwice port home k old Known c.owner s.name s.kind a)
          (λ a. FailsOnce port home k new More c.owner s.name s.kind a) (λ a. FailsTwice port home k new More c.owner s.name s.kind a) ((s.frame).plan).order n
          (λ a e. once_on c.owner s.name s.kind a e) (λ a e. twice_on c.owner s.name s.kind a e) h.followed;
      others = λ a m. elim (h.others a m) [ inl o ↦ inl o | inr e ↦ inr (twice_on c.owner s.name s.kind a e) ];
    }

    pub idle_on : (s : Search) → IsIdle port home k old Known s → IsIdle port home k new More s
    idle_on s h = record {
      cut = h.cut;
      stands = stands_on s h.cut h.stands;
      settled = settled_on s h.cut (s.frame).tried h.settled;
      asked = asked_on s h.cut ((s.frame).plan).given h.asked;
    }

    pub asking_on : (s : Search) (a : Addr) → IsAsk port home k old Known s a → IsAsk port home k new More s a
    asking_on s a h = record {
      cut = h.cut;
      ended = h.ended;
      stands = stands_on s h.cut h.stands;
      settled = settled_on s h.cut (s.frame).tried h.settled;
      given = h.given;
      at = h.at;
      asked = asked_on s h.cut h.ended h.asked;
    }

    pub waiting_on : (s : Search) (x : Name) → IsWaiting port home k old Known s x → IsWaiting port home k new More s x
    waiting_on s x h = record {
      cut = h.cut;
      place = h.place;
      stands = stands_on s h.cut h.stands;
      tried = h.tried;
      at = h.at;
      settled = settled_on s h.cut h.place h.settled;
      asked_all = h.asked_all;
      asked = asked_on s h.cut ((s.frame).plan).given h.asked;
    }

    pub around_on : (name : Name) (kind : ℕ) (n : Name) (t d : ℕ) (os : List Search) → AreAround port home k old Known name kind n t d os → AreAround port home k new More name kind n t d os
    around_on name kind n t d [] h = h
    around_on name kind n t d (o ∷ os) (a, b, w, more) = (a, b, waiting_on o n w, around_on name kind o.name o.kind (o.frame).nesting os more)

    pub marked_on : (n : Name) (d : ℕ) → IsMarked port home k old Known n d → IsMarked port home k new More n d
    marked_on n d (inl none) = inl (none_on n none)
    marked_on n d (inr b) = inr (beyond_on (4 - d) n b)

    pub marks_on : (fs : Failed) → AreMarked port home k old Known fs → AreMarked port home k new More fs
    marks_on fs h n d c = marked_on n d (h n d c)
