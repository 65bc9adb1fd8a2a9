-- Two right replies to one question are the same.
use Rattle.std.proofs.Common.{◌≡◌, ◌≤◌, ℕ, true, false, inl, inr, List, [], ◌∷◌, ◌++◌, length, length-append, sym, ◌∙◌, ap, subst, arith}
use Rattle.std.specs.Prelude.{Contains}
use Rattle.dname.specs.Labels.{Name}
use Rattle.rdata.specs.Records.{Record}
use Rattle.zone.specs.Links.{Link, Found, Alias, NoData, NxDomain}
use Rattle.zone.specs.Same.{Same, Has, SameSet, SameLink}
use Rattle.zone.proofs.LawLists.{none_in, first_in, later_in, in_cases}
use Rattle.message_grammar.specs.Messages.{Message, IsMessage}
use Rattle.message_grammar.proofs.Single.{message_one}
use Rattle.world_truth.specs.Worlds.{World, IsWorld}
use Rattle.world_truth.specs.Replies.{IsWhole, IsRight, Once, Ends, IsSameReply}
use Rattle.world_truth.specs.Laws.{IsSameTruth}
use Rattle.world_truth.proofs.Sames.{same_back, same_on}
use Rattle.world_truth.proofs.OneTruth.{one_truth}

-- A member parts a list.
abbrev Split : List Record → Record → Type 0
Split xs x = (front : List Record) × (back : List Record) × (xs ≡ front ++ x ∷ back)

split_later : (y x : Record) (ys : List Record) → Split ys x → Split (y ∷ ys) x
split_later y x ys (front, back, e) = (y ∷ front, back, ap (λ (zs : List Record). y ∷ zs) e)

split_at : (xs : List Record) (x : Record) → Contains xs x → Split xs x
split_at [] x m = absurd (none_in x m)
split_at (y ∷ ys) x m = elim (in_cases y x ys m) [
  | inl e ↦ ([], ys, ap (λ (w : Record). w ∷ ys) e)
  | inr n ↦ split_later y x ys (split_at ys x n)
]

-- What is in such a list and is not that member stands beside it.
beside : (front back : List Record) (x y : Record) → Contains (front ++ x ∷ back) y → (Same y x → ⊥) → Contains (front ++ back) y
beside [] back x y m n = elim (in_cases x y back m) [
  | inl e ↦ absurd (n (sym (ap (λ (w : Record). w.owner) e), sym (ap (λ (w : Record). w.value) e)))
  | inr k ↦ k
]
beside (z ∷ front) back x y m n = elim (in_cases z y (front ++ x ∷ back) m) [
  | inl e ↦ subst (Contains (z ∷ (front ++ back))) e (first_in z (front ++ back))
  | inr k ↦ later_in z y (front ++ back) (beside front back x y k n)
]

-- Records that stand once and are all among others are no more than those.
no_more : (rs ss : List Record) → Once rs → ((r : Record) → Contains rs r → Has ss r) → length rs ≤ length ss
no_more [] ss once all = omega arith
no_more (r ∷ rs) ss once all =
    let (s, m, e) = all r (first_in r rs) in
    let (front, back, whole) = split_at ss s m in
    let rest = no_more rs (front ++ back) once.1 (λ x n.
    let (y, k, f) = all x (later_in r x rs n) in
    let apart : Same y s → ⊥ = λ g. once.0 (x, n, same_on r s x e (same_back x s (same_on x y s f g))) in
    (y, beside front back s y (subst (λ (ws : List Record). Contains ws y) whole k) apart, f)) in
    omega (arith, ap length whole, length-append front (s ∷ back), length-append front back, rest)

same_count : (rs ss : List Record) → Once rs → Once ss → SameSet rs ss → length rs ≡ length ss
same_count rs ss a b e =
    let x = no_more rs ss a e.0 in
    let y = no_more ss rs b e.1 in
    omega (arith, x, y)

-- Two ends of one link.
record SameEnd (rs ss : List Record) (c d : ℕ) (us vs : List Record) : Type 0 where
  rcode : c ≡ d
  set : SameSet rs ss
  count : length rs ≡ length ss
  authority : SameSet us vs

none_same : SameSet [] []
none_same = (λ r m. absurd (none_in r m), λ r m. absurd (none_in r m))

moved : (rs ss xs ys : List Record) → rs ≡ xs → ss ≡ ys → SameSet xs ys → SameSet rs ss
moved rs ss xs ys e f h = subst (λ (zs : List Record). SameSet zs ss) (sym e) (subst (λ (zs : List Record). SameSet xs zs) (sym f) h)

one_end : (k l : Link) (rs ss : List Record) (c d : ℕ) (xs ys : List Record) → SameLink k l → Ends k rs c xs → Ends l ss d ys → SameEnd rs ss c d xs ys
one_end (Found a) (Found b) rs ss c d xs ys e h m = record {
  rcode = h.2 ∙ sym m.2;
  set = moved rs ss a b h.0 m.0 e.records;
  count = ap length h.0 ∙ (same_count a b h.1 m.1 e.records ∙ sym (ap length m.0));
  authority = moved xs ys [] [] h.3 m.3 none_same;
}
one_end (Found a) (Alias b) rs ss c d xs ys e h m = absurd m
one_end (Found a) (NoData b) rs ss c d xs ys e h m = absurd (omega (arith, e.kinds))
one_end (Found a) (NxDomain b) rs ss c d xs ys e h m = absurd (omega (arith, e.kinds))
one_end (Alias a) l rs ss c d xs ys e h m = absurd h
one_end (NoData a) (Found b) rs ss c d xs ys e h m = absurd (omega (arith, e.kinds))
one_end (NoData a) (Alias b) rs ss c d xs ys e h m = absurd m
one_end (NoData a) (NoData b) rs ss c d xs ys e h m = record {
  rcode = h.1 ∙ sym m.1;
  set = moved rs ss [] [] h.0 m.0 none_same;
  count = ap length h.0 ∙ sym (ap length m.0);
  authority = moved xs ys (a ∷ []) (b ∷ []) h.2 m.2 e.records;
}
one_end (NoData a) (NxDomain b) rs ss c d xs ys e h m = absurd (omega (arith, e.kinds))
one_end (NxDomain a) (Found b) rs ss c d xs ys e h m = absurd (omega (arith, e.kinds))
one_end (NxDomain a) (Alias b) rs ss c d xs ys e h m = absurd m
one_end (NxDomain a) (NoData b) rs ss c d xs ys e h m = absurd (omega (arith, e.kinds))
one_end (NxDomain a) (NxDomain b) rs ss c d xs ys e h m = record {
  rcode = h.1 ∙ sym m.1;
  set = moved rs ss [] [] h.0 m.0 none_same;
  count = ap length h.0 ∙ sym (ap length m.0);
  authority = moved xs ys (a ∷ []) (b ∷ []) h.2 m.2 e.records;
}

pub one_whole : (W : World) (q : Name) (t : ℕ) (m n : Message) → IsWorld W → (a : IsWhole W q t m) (b : IsWhole W q t n) → IsSameReply W q t m n a b
one_whole W q t m n w a b =
    let truth : IsSameTruth a.chain a.last b.chain b.last = one_truth W q t a.chain b.chain a.last b.last w a.truth b.truth in
    let end = one_end a.last b.last a.rest b.rest m.header.rcode n.header.rcode m.authority n.authority truth.last a.ends b.ends in
    record { rcode = end.rcode; aliases = truth.chain; set = end.set; count = end.count; authority = end.authority }

-- The message of right bytes is whole where it is not truncated.
uncut : (W : World) (q : Name) (t : ℕ) (bytes : List ℕ) (m : Message) → IsRight W q t bytes → IsMessage bytes m → m.header.tc ≡ false → IsWhole W q t m
uncut W q t bytes m (x, at, asked, inl bare) is tc =
    let e : x ≡ m = message_one bytes x m at is in
    absurd (let k : true ≡ false = sym bare.tc ∙ (ap (λ (y : Message). y.header.tc) e ∙ tc) in cc)
uncut W q t bytes m (x, at, asked, inr whole) is tc = subst (IsWhole W q t) (message_one bytes x m at is) whole

pub one_reply : (W : World) (q : Name) (t : ℕ) (a b : List ℕ) (m n : Message) → IsWorld W → IsRight W q t a → IsRight W q t b → IsMessage a m → IsMessage b n
    → m.header.tc ≡ false → n.header.tc ≡ false → (x : IsWhole W q t m) × (y : IsWhole W q t n) × IsSameReply W q t m n x y
one_reply W q t a b m n w h k is js tm tn =
    let x = uncut W q t a m h is tm in
    let y = uncut W q t b n k js tn in
    (x, y, one_whole W q t m n w x y)
