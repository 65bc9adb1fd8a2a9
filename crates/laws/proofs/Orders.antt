-- What holds after each run of the open queries and of what went out for them.
use Rattle.std.proofs.Common.{◌≡◌, ◌≢◌, ℕ, ◌+◌, ◌≤◌, ◌<◌, ◌⊎◌, inl, inr, Bool, true, false, cond, Option, Some, None, List, [], ◌∷◌, Contains, refl, sym, ap, ◌∙◌, subst, arith}
use Rattle.lru.proofs.Splits.{Contains-head, Contains-cons, Contains-nil}
use Rattle.lru_laws.proofs.Kept.{by_test}
use Rattle.rdata.specs.declared.addr.Addr.{Addr}
use Rattle.runs.specs.States.{Event, Action, Reply, Send, TcpAsk, MoreDue, Served, Nobody, Own, OpenQuery, Turn, ClientQuery, Ask, Open, due_moment, AreApart, Site, State, moved}
use Rattle.runs.specs.Messages.{IsSent}
use Rattle.runs.specs.Steps.{Step}
use Rattle.runs.specs.Runs.{Run, Earlier, GivesOut, IsOpenAskOf, Came, is_ask, asks_among, asks_in, is_for, asks_of}
use Rattle.runs.proofs.Clocks.{clock_of_run}
use Rattle.laws.specs.Laws.{is_reply, IsOnlyAction, GivesOne, IsOver, RepliesTo, IsLine}
use Rattle.laws.proofs.OrderlyLists.{one_number, same_number, is_for_it, is_for_other, is_for_true, no_ask_given}
use Rattle.laws.proofs.OrderlySent.{one_sent}
use Rattle.laws.proofs.Fates.{IsOneReply, IsOneAsk, IsFrom, IsAlike, IsDated, Fate, passes, ends, waits, AreBelow, ask_is, turn_fate}

-- ---- one action

alone_in : (action : Action) (out : List Action) → IsOnlyAction action out → Contains out action
alone_in action out (inl e) = subst (λ (l : List Action). Contains l action) (sym e) (Contains-head action [])
alone_in action out (inr e) = subst (λ (l : List Action). Contains l action) (sym e) (Contains-head action (MoreDue ∷ []))

only_it : (action other : Action) (out : List Action) → IsOnlyAction action out → Contains out other → (other ≡ action) ⊎ (other ≡ MoreDue)
only_it action other out (inl e) c = elim (Contains-cons action [] other (subst (λ (l : List Action). Contains l other) e c)) [ inl is ↦ inl (sym is) | inr d ↦ absurd (Contains-nil other d) ]
only_it action other out (inr e) c = elim (Contains-cons action (MoreDue ∷ []) other (subst (λ (l : List Action). Contains l other) e c)) [
  | inl is ↦ inl (sym is)
  | inr d ↦ elim (Contains-cons MoreDue [] other d) [ inl is ↦ inr (sym is) | inr x ↦ absurd (Contains-nil other x) ]
]

ask_no_reply : (action : Action) → is_ask action ≡ true → is_reply action ≡ true → ⊥
ask_no_reply (Reply client way bytes cause) e f = cc
ask_no_reply (Send sock to bytes) e f = cc
ask_no_reply (TcpAsk number to bytes) e f = cc
ask_no_reply MoreDue e f = cc

reply_no_ask : (action : Action) → is_reply action ≡ true → is_ask action ≡ false
reply_no_ask (Reply client way bytes cause) e = refl
reply_no_ask (Send sock to bytes) e = cc
reply_no_ask (TcpAsk number to bytes) e = cc
reply_no_ask MoreDue e = cc

abbrev one_if : Bool → ℕ
one_if b = cond b 1 0

plus_none : (m n : ℕ) → m ≡ n → m + 0 ≡ n
plus_none m n e = omega arith

count_alone : (action : Action) (out : List Action) (b : Bool) → is_ask action ≡ b → IsOnlyAction action out → asks_among out ≡ one_if b
count_alone action out b e (inl is) = ap asks_among is ∙ plus_none (one_if (is_ask action)) (one_if b) (ap one_if e)
count_alone action out b e (inr is) = ap asks_among is ∙ plus_none (one_if (is_ask action)) (one_if b) (ap one_if e)

pub reply_counts : (out : Option (List Action)) → (out ≡ None) ⊎ IsOneReply out → asks_in out ≡ 0
reply_counts out (inl e) = ap asks_in e
reply_counts out (inr h) = ap asks_in h.out_is ∙ count_alone h.action h.actions false (reply_no_ask h.action h.reply) h.alone

ask_counts : (port : ℕ) (a : Ask) (out : Option (List Action)) → IsOneAsk port a out → asks_in out ≡ 1
ask_counts port a out h = ap asks_in h.out_is ∙ count_alone h.action h.actions true (ask_is port a h.action h.sent) h.alone

-- Where no open query is served nothing goes out but a reply.
pub own_counts : (event : Event) (served : Served) (out : Option (List Action)) → (served ≡ Nobody) ⊎ (served ≡ Own) → ((actions : List Action) → out ≡ Some actions → GivesOne event served actions) → asks_in out ≡ 0
own_counts event served None is gives = refl
own_counts event served (Some out) is gives = by served is (gives out refl)
  where
    by : (v : Served) → (v ≡ Nobody) ⊎ (v ≡ Own) → GivesOne event v out → asks_among out ≡ 0
    by Nobody e none = ap asks_among none
    by Own e (inl (dropped, none)) = ap asks_among none
    by Own e (inr (action, reply, only)) = count_alone action out false (reply_no_ask action reply) (inl only)
    by (OpenQuery k) (inl e) h = cc
    by (OpenQuery k) (inr e) h = cc

pub ask_given : (port : ℕ) (a : Ask) (out : Option (List Action)) → (h : IsOneAsk port a out) → GivesOut out h.action
ask_given port a out h = subst (λ (o : Option (List Action)). GivesOut o h.action) (sym h.out_is) (alone_in h.action h.actions h.alone)

given_is : (port : ℕ) (a : Ask) (out : Option (List Action)) → (h : IsOneAsk port a out) → (action : Action) → GivesOut out action → (action ≡ h.action) ⊎ (action ≡ MoreDue)
given_is port a out h action g = only_it h.action action h.actions h.alone (subst (λ (o : Option (List Action)). GivesOut o action) h.out_is g)

pub none_given : (out : Option (List Action)) (action : Action) → asks_in out ≡ 0 → GivesOut out action → is_ask action ≡ true → ⊥
none_given None action e g f = g
none_given (Some out) action e g f = no_ask_given out action e g f

-- ---- counting

count_it : (k : ℕ) (t : Turn) (past : List Turn) → t.served ≡ OpenQuery k → asks_of k (t ∷ past) ≡ asks_in t.out + asks_of k past
count_it k t past e = ap (λ (b : Bool). cond b (asks_in t.out) 0 + asks_of k past) (is_for_it k t.served e)

count_other : (k : ℕ) (t : Turn) (past : List Turn) → (t.served ≡ OpenQuery k → ⊥) → asks_of k (t ∷ past) ≡ asks_of k past
count_other k t past other = let e : cond (is_for k t.served) (asks_in t.out) 0 ≡ 0 = ap (λ (b : Bool). cond b (asks_in t.out) 0) (is_for_other k t.served other) in omega arith

-- ---- what a step does, in short

pub record IsStep (port : ℕ) (t : Turn) (old new : State) : Type 0 where
  pub from_old : (q : Open) → Contains new.queries q
      → (Contains old.queries q × (t.served ≢ OpenQuery q.number)) ⊎ ((t.served ≡ OpenQuery q.number) × IsOneAsk port q.ask t.out × IsFrom (moved old t.event) q new × IsAlike (moved old t.event) q × ((moved old t.event).clock < due_moment q) × IsDated (moved old t.event) t.event q)
  pub to_new : (q : Open) → Contains old.queries q → t.served ≢ OpenQuery q.number → Contains new.queries q
  pub known : (k : ℕ) → t.served ≡ OpenQuery k → ((q : Open) × Contains old.queries q × (q.number ≡ k)) ⊎ ((k ≡ old.opened) × (new.opened ≡ old.opened + 1))
  pub ends : (k : ℕ) → t.served ≡ OpenQuery k
      → ((after : Open) × Contains new.queries after × (after.number ≡ k) × IsOneAsk port after.ask t.out) ⊎ ((asks_in t.out ≡ 0) × ((q : Open) → Contains new.queries q → q.number ≢ k))
  pub more : old.opened ≤ new.opened
  pub gives : (out : List Action) → t.out ≡ Some out → GivesOne t.event t.served out

apart_numbers : (t : Turn) (k n : ℕ) → t.served ≡ OpenQuery k → n ≢ k → t.served ≡ OpenQuery n → ⊥
apart_numbers t k n e apart f = apart (same_number (sym f ∙ e))

below_apart : (m n : ℕ) → m < n → m ≢ n
below_apart m n lt e = absurd (omega arith)

step_is : (port : ℕ) (t : Turn) (old new : State) → (old.site).port ≡ port → AreBelow old → Fate (moved old t.event) t.event t.served t.out new → IsStep port t old new
step_is port t old new here below (passes none gives others opened words) = record {
  from_old = λ q c. inl ((others.only q c).0, unserved q.number);
  to_new = λ q c apart. others.stay q c (below_apart q.number old.opened (below q c));
  known = λ k e. absurd (unserved k e);
  ends = λ k e. absurd (unserved k e);
  more = let e : new.opened ≡ old.opened = opened in omega arith;
  gives = gives;
}
  where
    unserved : (k : ℕ) → t.served ≡ OpenQuery k → ⊥
    unserved k e = elim none [ inl f ↦ cc | inr f ↦ cc ]
step_is port t old new here below (ends p there served others opened out words) = record {
  from_old = λ q c. let (d, apart) = others.only q c in inl (d, apart_numbers t p.number q.number served apart);
  to_new = λ q c apart. others.stay q c (λ is. apart (served ∙ ap OpenQuery (sym is)));
  known = λ k e. inl (p, there, same_number (sym served ∙ e));
  ends = λ k e. inr (reply_counts t.out out, λ q c is. (others.only q c).1 (is ∙ same_number (sym e ∙ served)));
  more = let e : new.opened ≡ old.opened = opened in omega arith;
  gives = λ actions e. single actions e out;
}
  where
    single : (actions : List Action) → t.out ≡ Some actions → (t.out ≡ None) ⊎ IsOneReply t.out → GivesOne t.event t.served actions
    single actions e (inl none) = absurd (cc)
    single actions e (inr h) =
        let same : h.actions ≡ actions = let f = h.out_is in cc in
        subst (λ (v : Served). GivesOne t.event v actions) (sym served) (h.action, inl h.reply, subst (IsOnlyAction h.action) same h.alone)
step_is port t old new here below (waits after served are from alike asked later words dated) = record {
  from_old = λ q c. elim (are.only q c) [
    | inl is ↦ inr (subst (λ (x : Open). (t.served ≡ OpenQuery x.number) × IsOneAsk port x.ask t.out × IsFrom (moved old t.event) x new × IsAlike (moved old t.event) x × ((moved old t.event).clock < due_moment x) × IsDated (moved old t.event) t.event x) (sym is) (served, one, from, alike, later, dated))
    | inr d ↦ inl (d.0, apart_numbers t after.number q.number served d.1)
  ];
  to_new = λ q c apart. are.stay q c (λ is. apart (served ∙ ap OpenQuery (sym is)));
  known = λ k e. let same : after.number ≡ k = same_number (sym served ∙ e) in by k same from;
  ends = λ k e. inl (after, are.is, same_number (sym served ∙ e), one);
  more = further from;
  gives = λ actions e.
      let same : asked.actions ≡ actions = let f = asked.out_is in cc in
      subst (λ (v : Served). GivesOne t.event v actions) (sym served) (asked.action, inr (ask_is _ after.ask asked.action asked.sent), subst (IsOnlyAction asked.action) same asked.alone);
}
  where
    one : IsOneAsk port after.ask t.out
    one = subst (λ (n : ℕ). IsOneAsk n after.ask t.out) here asked

    by : (k : ℕ) → after.number ≡ k → IsFrom (moved old t.event) after new → ((q : Open) × Contains old.queries q × (q.number ≡ k)) ⊎ ((k ≡ old.opened) × (new.opened ≡ old.opened + 1))
    by k same (inl (q, c, number, opened, more)) = inl (q, c, number ∙ same)
    by k same (inr (number, opened, asks)) = inr (sym same ∙ number, opened)

    further : IsFrom (moved old t.event) after new → old.opened ≤ new.opened
    further (inl (q, c, number, opened, more)) = let e : new.opened ≡ old.opened = opened in omega arith
    further (inr (number, opened, asks)) = let e : new.opened ≡ old.opened + 1 = opened in omega arith

-- ---- what holds

pub record IsOrderly (port : ℕ) (run : List Turn) (s : State) : Type 0 where
  pub below : AreBelow s
  pub waits : (q : Open) → Contains s.queries q → IsOpenAskOf port q.number q.ask run
  pub asked : (k : ℕ) (a : Ask) → IsOpenAskOf port k a run → (q : Open) × Contains s.queries q × (q.number ≡ k) × (q.ask ≡ a)
  pub counted : (q : Open) → Contains s.queries q → asks_of q.number run ≡ (q.job).asks
  pub few : (k : ℕ) → asks_of k run ≤ 40
  pub none : (k : ℕ) → s.opened ≤ k → asks_of k run ≡ 0
  pub lines : (p q : Open) (sock : ℕ) (server : Addr) (id : ℕ) → Contains s.queries p → Contains s.queries q → IsLine p sock server id → IsLine q sock server id → p ≡ q
  pub over : (k : ℕ) → Earlier (IsOver k) run → (k < s.opened) × ((q : Open) → Contains s.queries q → q.number ≢ k)
  pub answered : (k : ℕ) → Earlier (RepliesTo k) run → Earlier (IsOver k) run
  pub came : (k : ℕ) → Earlier (λ u before. (who : ClientQuery) × Came (OpenQuery k) who u before) run → k < s.opened

module _ (port : ℕ) (t : Turn) (past : List Turn) (old new : State) (apart : AreApart new.queries) (before : IsOrderly port past old) (step : IsStep port t old new) where
  number_below : (k : ℕ) → t.served ≡ OpenQuery k → k < new.opened
  number_below k e = elim (step.known k e) [
    | inl d ↦ let lt = before.below d.0 d.1 in let same = d.2 in let m = step.more in omega arith
    | inr d ↦ let a = d.0 in let b = d.1 in omega arith
  ]

  more_below : (k : ℕ) → k < old.opened → k < new.opened
  more_below k lt = let m = step.more in omega arith

  new_below : AreBelow new
  new_below q c = elim (step.from_old q c) [ inl d ↦ more_below q.number (before.below q d.0) | inr d ↦ number_below q.number d.0 ]

  new_waits : (q : Open) → Contains new.queries q → IsOpenAskOf port q.number q.ask (t ∷ past)
  new_waits q c = elim (step.from_old q c) [
    | inl d ↦ inr (d.1, before.waits q d.0)
    | inr d ↦ inl (d.0, ((d.1).action, ask_given port q.ask t.out d.1, (d.1).sent))
  ]

  new_asked : (k : ℕ) (a : Ask) → IsOpenAskOf port k a (t ∷ past) → (q : Open) × Contains new.queries q × (q.number ≡ k) × (q.ask ≡ a)
  new_asked k a (inr (other, asks)) = let (q, c, number, is) = before.asked k a asks in (q, step.to_new q c (λ e. other (e ∙ ap OpenQuery number)), number, is)
  new_asked k a (inl (served, (action, gives, sent))) = by (step.ends k served)
    where
      sent_is : is_ask action ≡ true
      sent_is = ask_is port a action sent

      by : ((after : Open) × Contains new.queries after × (after.number ≡ k) × IsOneAsk port after.ask t.out) ⊎ ((asks_in t.out ≡ 0) × ((q : Open) → Contains new.queries q → q.number ≢ k))
          → (q : Open) × Contains new.queries q × (q.number ≡ k) × (q.ask ≡ a)
      by (inr (none, closed)) = absurd (none_given t.out action none gives sent_is)
      by (inl (after, c, number, one)) = (
        after,
        c,
        number,
        elim (given_is port after.ask t.out one action gives) [
          | inl is ↦ one_sent port after.ask a one.action one.sent (subst (IsSent port a) is sent)
          | inr is ↦ absurd (let f = sym sent_is ∙ ap is_ask is in cc)
        ],
      )

  new_counted : (q : Open) → Contains new.queries q → asks_of q.number (t ∷ past) ≡ (q.job).asks
  new_counted q c = by (step.from_old q c)
    where
      by : (Contains old.queries q × (t.served ≢ OpenQuery q.number)) ⊎ ((t.served ≡ OpenQuery q.number) × IsOneAsk port q.ask t.out × IsFrom (moved old t.event) q new × IsAlike (moved old t.event) q × ((moved old t.event).clock < due_moment q) × IsDated (moved old t.event) t.event q)
          → asks_of q.number (t ∷ past) ≡ (q.job).asks
      by (inl (d, other)) = count_other q.number t past other ∙ before.counted q d
      by (inr (served, one, inl (p, d, number, opened, more), alike, later, dated)) =
          let count = count_it q.number t past served in
          let single = ask_counts port q.ask t.out one in
          let was : asks_of q.number past ≡ (p.job).asks = ap (λ (n : ℕ). asks_of n past) (sym number) ∙ before.counted p d in
          let now = more.asks in omega arith
      by (inr (served, one, inr (number, opened, asks), alike, later, dated)) =
          let count = count_it q.number t past served in
          let single = ask_counts port q.ask t.out one in
          let was : asks_of q.number past ≡ 0 = ap (λ (n : ℕ). asks_of n past) number ∙ before.none old.opened (omega arith) in omega arith

  new_few : (k : ℕ) → asks_of k (t ∷ past) ≤ 40
  new_few k = by_test (is_for k t.served) (λ e. it (is_for_true k t.served e)) (λ e. let same = count_other k t past (λ f. let g = sym e ∙ is_for_it k t.served f in cc) in let few = before.few k in omega arith)
    where
      in_time : (after : Open) → Contains new.queries after → t.served ≡ OpenQuery after.number → (after.job).asks ≤ 40
      in_time after c served = elim (step.from_old after c) [
        | inl d ↦ absurd (d.1 served)
        | inr d ↦ elim d.2 [ inl f ↦ let few = (f.4).few in let now = (f.4).asks in omega arith | inr f ↦ let now = f.2 in omega arith ]
      ]

      it : t.served ≡ OpenQuery k → asks_of k (t ∷ past) ≤ 40
      it served = elim (step.ends k served) [
        | inl d ↦
            let count : asks_of k (t ∷ past) ≡ ((d.0).job).asks = ap (λ (n : ℕ). asks_of n (t ∷ past)) (sym d.2) ∙ new_counted d.0 d.1 in
            let few = in_time d.0 d.1 (served ∙ ap OpenQuery (sym d.2)) in omega arith
        | inr d ↦ let count = count_it k t past served in let none = d.0 in let few = before.few k in omega arith
      ]

  new_none : (k : ℕ) → new.opened ≤ k → asks_of k (t ∷ past) ≡ 0
  new_none k le = by_test (is_for k t.served)
      (λ e. let lt = number_below k (is_for_true k t.served e) in absurd (omega arith))
      (λ e. count_other k t past (λ f. let g = sym e ∙ is_for_it k t.served f in cc) ∙ before.none k (let m = step.more in omega arith))

  new_lines : (p q : Open) (sock : ℕ) (server : Addr) (id : ℕ) → Contains new.queries p → Contains new.queries q → IsLine p sock server id → IsLine q sock server id → p ≡ q
  new_lines p q sock server id c d l m = elim (step.from_old p c) [
    | inl a ↦ elim (step.from_old q d) [
      | inl b ↦ before.lines p q sock server id a.0 b.0 l m
      | inr b ↦ absurd (b.3 p sock server id a.0 (λ is. a.1 (b.0 ∙ ap OpenQuery (sym is))) l m)
    ]
    | inr a ↦ elim (step.from_old q d) [
      | inl b ↦ absurd (a.3 q sock server id b.0 (λ is. b.1 (a.0 ∙ ap OpenQuery (sym is))) m l)
      | inr b ↦ one_number new.queries apart p q c d (same_number (sym a.0 ∙ b.0))
    ]
  ]

  new_over : (k : ℕ) → Earlier (IsOver k) (t ∷ past) → (k < new.opened) × ((q : Open) → Contains new.queries q → q.number ≢ k)
  new_over k (inl h) = (number_below k h.served, closed (step.ends k h.served))
    where
      closed : ((after : Open) × Contains new.queries after × (after.number ≡ k) × IsOneAsk port after.ask t.out) ⊎ ((asks_in t.out ≡ 0) × ((q : Open) → Contains new.queries q → q.number ≢ k))
          → (q : Open) → Contains new.queries q → q.number ≢ k
      closed (inl (after, c, number, one)) = absurd (h.no_ask one.action (ask_given port after.ask t.out one) (ask_is port after.ask one.action one.sent))
      closed (inr (none, shut)) = shut
  new_over k (inr e) = let (lt, shut) = before.over k e in (
    more_below k lt,
    λ q c is. elim (step.from_old q c) [
      | inl d ↦ shut q d.0 is
      | inr d ↦ elim (step.known k (d.0 ∙ ap OpenQuery is)) [ inl f ↦ shut f.0 f.1 f.2 | inr f ↦ let same = f.0 in absurd (omega arith) ]
    ],
  )

  over_here : (k : ℕ) → RepliesTo k t past → IsOver k t past
  over_here k (served, (action, gives, reply)) = elim (step.ends k served) [
    | inl d ↦ elim (given_is port (d.0).ask t.out d.3 action gives) [
      | inl is ↦ absurd (ask_no_reply action (ap is_ask is ∙ ask_is port (d.0).ask (d.3).action (d.3).sent) reply)
      | inr is ↦ absurd (let f = sym reply ∙ ap is_reply is in cc)
    ]
    | inr d ↦ record { served = served; no_ask = λ other g. none_given t.out other d.0 g }
  ]

  pub new_orderly : IsOrderly port (t ∷ past) new
  new_orderly = record {
    below = new_below;
    waits = new_waits;
    asked = new_asked;
    counted = new_counted;
    few = new_few;
    none = new_none;
    lines = new_lines;
    over = new_over;
    answered = λ k e. elim e [ inl h ↦ inl (over_here k h) | inr f ↦ inr (before.answered k f) ];
    came = λ k e. elim e [ inl h ↦ number_below k (h.1).is_served | inr f ↦ more_below k (before.came k f) ];
  }

-- ---- runs

pub one_step : (site : Site) (past : List Turn) (t : Turn) (old new : State) → Run site past old → Step old t.event t.served t.out new → AreBelow old → IsStep site.port t old new
one_step site past t old new legal step below =
    let here : (old.site).port ≡ site.port = ap (λ (x : Site). x.port) (clock_of_run site past old legal).1 in
    step_is site.port t old new here below (turn_fate (moved old t.event) t.event t.served t.out new below step.turn)

pub run_orderly : (site : Site) (run : List Turn) (s : State) → Run site run s → IsOrderly site.port run s
run_orderly site [] s new = record {
  below = λ q c. absurd (nobody q c);
  waits = λ q c. absurd (nobody q c);
  asked = λ k a e. absurd e;
  counted = λ q c. absurd (nobody q c);
  few = λ k. omega arith;
  none = λ k le. refl;
  lines = λ p q sock server id c. absurd (nobody p c);
  over = λ k e. absurd e;
  answered = λ k e. absurd e;
  came = λ k e. absurd e;
}
  where
    nobody : (q : Open) → Contains s.queries q → ⊥
    nobody q c = Contains-nil q (subst (λ (l : List Open). Contains l q) new.queries c)
run_orderly site (t ∷ past) s (old, legal, step) =
    let before = run_orderly site past old legal in
    new_orderly site.port t past old s step.apart before (one_step site past t old s legal step before.below)
