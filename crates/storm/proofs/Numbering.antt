-- The asks of a run have the numbers from 1 on.
use Rattle.std.proofs.Common.{◌≡◌, ℕ, zero, suc, ◌+◌, inl, inr, Option, Some, None, List, [], ◌∷◌, ◌++◌, length, reverse, refl, sym, ap, ◌∙◌, arith, length-append}
use Rattle.std.proofs.lemmas.List.{flat_map_more, reverse-append, reverse-reverse}
use Rattle.book.specs.Histories.{LeadsMachine}
use Rattle.runs.specs.States as resolver
use Rattle.network.specs.Networks.{Sent, Network, NetworkEvent, NetworkAction, NetworkStep, sends_among, sends_in, numbered, shown}
use Rattle.simnet.specs.Beginnings.{Begins}
use Rattle.simnet.specs.Promises.{Moves}
use Rattle.simnet.specs.Views.{sim_event_view}
use Rattle.storm.specs.Runs.{Entry, IsRunOf, AreNumbered, out_of, asks_in, asks_of, numbers, asks_shown}
use Rattle.storm.specs.declared.query.StormQuery.{StormQuery}
use Rattle.storm.proofs.Running.{stepped}

-- ---- numbers in a row

joined : (from a b : ℕ) → numbers from a ++ numbers (from + a) b ≡ numbers from (a + b)
joined from zero b =
    let first : from + 0 ≡ from = omega arith in
    let all : b ≡ 0 + b = omega arith in
    ap (λ (k : ℕ). numbers k b) first ∙ ap (λ (n : ℕ). numbers from n) all
joined from (suc a) b =
    let next : from + suc a ≡ from + 1 + a = omega arith in
    let all : suc (a + b) ≡ suc a + b = omega arith in
    ap (λ (l : List ℕ). from ∷ l) (ap (λ (k : ℕ). numbers (from + 1) a ++ numbers k b) next ∙ joined (from + 1) a b) ∙ ap (λ (n : ℕ). numbers from n) all

so_many : (from n : ℕ) → length (numbers from n) ≡ n
so_many from zero = refl
so_many from (suc n) = ap (λ (k : ℕ). suc k) (so_many (from + 1) n)

-- ---- one step

shows : (n : ℕ) (out : List resolver.Action) → asks_in (numbered n out) ≡ numbers (n + 1) (length (sends_among out))
shows n [] = refl
shows n (resolver.Reply client way bytes cause ∷ out) = shows n out
shows n (resolver.Send sock to bytes ∷ out) = ap (λ (l : List ℕ). (n + 1) ∷ l) (shows (n + 1) out)
shows n (resolver.TcpAsk number to bytes ∷ out) = ap (λ (l : List ℕ). (n + 1) ∷ l) (shows (n + 1) out)
shows n (resolver.MoreDue ∷ out) = shows n out

-- What goes out has the next numbers.
abbrev Grows : List Sent → Option (List NetworkAction) → List Sent → Type 0
Grows old out new = (k : ℕ) × (asks_of out ≡ numbers (length old + 1) k) × (length new ≡ length old + k)

passed : (old new : List Sent) (actions : Option (List resolver.Action)) (out : Option (List NetworkAction)) → new ≡ old ++ sends_in actions
    → out ≡ shown (length old) actions → Grows old out new
passed old new None out is shows_none =
    let more : length (old ++ []) ≡ length old + 0 = length-append old [] in
    (0, ap (λ (o : Option (List NetworkAction)). asks_of o) shows_none, ap (λ (l : List Sent). length l) is ∙ more)
passed old new (Some actions) out is shows_some =
    (length (sends_among actions), ap (λ (o : Option (List NetworkAction)). asks_of o) shows_some ∙ shows (length old) actions, ap (λ (l : List Sent). length l) is ∙ length-append old (sends_among actions))

grown : (old : Network) (event : NetworkEvent) (out : Option (List NetworkAction)) (new : Network) → NetworkStep old event out new → Grows old.sends out new.sends
grown old event out new (inl (none, is, same)) = (0, ap (λ (o : Option (List NetworkAction)). asks_of o) is, (let e : length new.sends ≡ length old.sends = ap (λ (s : Network). length s.sends) same in omega (arith, e)))
grown old event out new (inr (inl (is, same))) = (0, ap (λ (o : Option (List NetworkAction)). asks_of o) is, (let e : length new.sends ≡ length old.sends = ap (λ (s : Network). length s.sends) same in omega (arith, e)))
grown old event out new (inr (inr p)) = passed old.sends new.sends p.actions out p.sends p.out_is

-- ---- a run

all_numbered : {A : Type 0} (n : ℕ) (start : Network) (es : List (Entry A)) (t : Network) → start.sends ≡ [] → LeadsMachine Moves n start es t
    → asks_shown (reverse es) ≡ numbers 1 (length t.sends)
all_numbered n start [] t empty h =
    let none : 0 ≡ length t.sends = sym (ap (λ (l : List Sent). length l) (ap (λ (s : Network). s.sends) (sym h) ∙ empty)) in
    ap (λ (k : ℕ). numbers 1 k) none
all_numbered {A} n start (e ∷ es) t empty (s, older, moved, small, number) =
    let (k, out, long) = grown s (sim_event_view e.event) (out_of e.out) t (stepped s (sim_event_view e.event) e.out t moved) in
    let before : asks_shown (reverse es) ≡ numbers 1 (length s.sends) = all_numbered n start es s empty older in
    let next : length s.sends + 1 ≡ 1 + length s.sends = omega arith in
    ap (λ (l : List (Entry A)). asks_shown l) (reverse-append (e ∷ []) es) ∙ sym (flat_map_more (λ (x : Entry A). asks_of (out_of x.out)) [] (reverse es) e)
    ∙ ap (λ (l : List ℕ). l ++ asks_of (out_of e.out)) before ∙ ap (λ (l : List ℕ). numbers 1 (length s.sends) ++ l) (out ∙ ap (λ (m : ℕ). numbers m k) next)
    ∙ joined 1 (length s.sends) k ∙ ap (λ (m : ℕ). numbers 1 m) (sym long)

pub are_numbered : {A : Type 0} (start : Network) (queries : List (List (StormQuery A))) (h : List (Entry A)) (lists : List (List (Entry A)))
    → Begins start → IsRunOf start queries h lists → AreNumbered h
are_numbered {A} start queries h lists b r =
    let empty : (r.start).sends ≡ [] = ap (λ (s : Network). s.sends) r.begun ∙ (b.fresh).sends in
    let all : asks_shown h ≡ numbers 1 (length (r.state).sends) = ap (λ (l : List (Entry A)). asks_shown l) (sym (reverse-reverse h)) ∙ all_numbered (length queries) r.start (reverse h) r.state empty r.legal in
    all ∙ ap (λ (n : ℕ). numbers 1 n) (sym (ap (λ (l : List ℕ). length l) all ∙ so_many 1 (length (r.state).sends)))
