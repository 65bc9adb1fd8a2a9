-- What a server replies is what it may serve.
use Rattle.std.proofs.Common.{◌≡◌, ℕ, ◌⊎◌, ⊎_elim, inl, inr, Option, Some, None, List, [], ◌∷◌, ◌++◌, refl, sym, ◌∙◌, ap, subst, arith}
use Rattle.std.specs.Prelude.{Contains, IfSome, true, map, option_map}
use Rattle.dname.specs.Labels.{Name}
use Rattle.rdata.specs.Records.{Record}
use Rattle.rdata.specs.Types.{type_number}
use Rattle.message_grammar.specs.Messages.{Question, Message, folded_question, folded_message}
use Rattle.zone.specs.Zones.{Zone}
use Rattle.zone.specs.Links.{Link, Found, Alias, NoData, NxDomain, IsFrom, IsLink, Says}
use Rattle.zone.specs.Look.{Local, Linked, Cut, NotHere}
use Rattle.zone.specs.Referrals.{IsReferral, IsGlue}
use Rattle.zone.specs.Same.{Same}
use Rattle.zone.proofs.LawLists.{none_in, first_in, later_in, in_cases, filter_of, filter_in}
use Rattle.authority.specs.Catalogs.{IsInCharge, IsLooked, AreZones}
use Rattle.world_truth.specs.Worlds.{Address, World, Serves, IsWorld}
use Rattle.world_truth.specs.Serving.{AnswersFrom, IsServersAddress, Refers, Gives, Tells, MayServe}
use Rattle.world_truth.proofs.Sames.{has_itself, link_itself}
use Rattle.front.specs.Chains.{AliasesLead, IsEndAt, IsEndOf, alias_target}
use Rattle.front.specs.Replies.{end_rcode, found_in}
use Rattle.front.specs.Laws.{OneReading, IsEchoed, EchoIsQuestion}
use Rattle.front.specs.Queries.{IsRequest}
use Rattle.front.specs.declared.queries.Request.TheVariants as asked
use Rattle.front.specs.declared.queries.Query.{Query}
use Rattle.front.specs.declared.queries.End.{End}
use Rattle.front.specs.declared.queries.End.TheVariants as end
use Rattle.worlds.specs.Hosting.{served, says, IsFollowed, referral_to, answer_to, IsReplyBy, IsReplyFrom, IsHostReply, IsServed, IsHonestReply}
use Rattle.worlds.specs.Rules.{serves}
use Rattle.worlds.proofs.Worlds.{yes_serves, looked_is}

-- The zones that a server serves.
in_served : (W : World) (a : Address) (z : Zone) → Contains (served W a) z → Contains W.zones z × Serves W a z.origin
in_served W a z m = let k = filter_of (λ (y : Zone). serves a y.origin W.hosts) W.zones z m in (k.0, let d = yes_serves a z.origin W.hosts in d.so k.1)

served_in : (W : World) (a : Address) (z : Zone) → Contains W.zones z → Serves W a z.origin → Contains (served W a) z
served_in W a z m s = filter_in (λ (y : Zone). serves a y.origin W.hosts) W.zones z m (let d = yes_serves a z.origin W.hosts in d.test s)

served_zones : (W : World) (a : Address) → IsWorld W → AreZones (served W a)
served_zones W a w z m = let k : IsWorld W = w in let n = in_served W a z m in (k.zones z n.0, k.names z n.0)

answers_from : (W : World) (a : Address) (q : Name) (z : Zone) → IsInCharge (served W a) q z → AnswersFrom W a q z
answers_from W a q z charge =
    let k : IsInCharge (served W a) q z = charge in
    let n = in_served W a z k.stands in
    record { stands = n.0; served = n.1; over = k.over; longest = λ y m s u. k.longest y (served_in W a y m s) u }

-- What they say of a name is what the zone that the server answers from says.
abbrev Spoken : World → Address → ℕ → Name → Local → Type 0
Spoken W a t q l = IsLooked (served W a) q t l

spoken : (W : World) (a : Address) (t : ℕ) (q : Name) (l : Local) → IsWorld W → says W a t q ≡ l → Spoken W a t q l
spoken W a t q l w e = subst (λ (k : Local). Spoken W a t q k) e (looked_is (served W a) q t (served_zones W a w))

zone_linked : (W : World) (a : Address) (t : ℕ) (q : Name) (l : Link) → Spoken W a t q (Linked l) → (z : Zone) × IsInCharge (served W a) q z × IsLink z q t l
zone_linked W a t q l (inl p) = p
zone_linked W a t q l (inr p) = absurd (let e = p.1 in cc)

zone_cut : (W : World) (a : Address) (t : ℕ) (q c : Name) (ns glue : List Record) → Spoken W a t q (Cut c ns glue) → (z : Zone) × IsInCharge (served W a) q z × IsReferral z q c ns glue
zone_cut W a t q c ns glue (inl p) = p
zone_cut W a t q c ns glue (inr p) = absurd (let e = p.1 in cc)

-- Owners of what is said.
says_alias : (z : Zone) (s q : Name) (t : ℕ) (r : Record) → Says z s q t (Alias r) → r.owner ≡ q
says_alias z s q t r (none, (owner, at)) = owner

alias_owner : (W : World) (a : Address) (t : ℕ) (q : Name) (r : Record) → IsWorld W → says W a t q ≡ Linked (Alias r) → r.owner ≡ q
alias_owner W a t q r w e =
    let m = zone_linked W a t q (Alias r) (spoken W a t q (Linked (Alias r)) w e) in
    let k : IsLink m.0 q t (Alias r) = m.2 in
    says_alias m.0 k.says.0 q t r k.says.2

says_found : (z : Zone) (s q : Name) (t : ℕ) (set : List Record) → Says z s q t (Found set) → (r : Record) → Contains set r → r.owner ≡ q
says_found z s q t set (all, more, once, some) r m = let k : IsFrom z s q t r = all r m in k.0

found_owner : (W : World) (a : Address) (t : ℕ) (q : Name) (set : List Record) → IsWorld W → says W a t q ≡ Linked (Found set) → (r : Record) → Contains set r → r.owner ≡ q
found_owner W a t q set w e r n =
    let m = zone_linked W a t q (Found set) (spoken W a t q (Linked (Found set)) w e) in
    let k : IsLink m.0 q t (Found set) = m.2 in
    says_found m.0 k.says.0 q t set k.says.2 r n

-- A referral.
glue_served : (W : World) (a : Address) (z : Zone) (c : Name) (r : Record) → Contains W.zones z → Serves W a z.origin → IsGlue z c r → IsServersAddress W a z c r
glue_served W a z c r m s (stands, kind, target) = (kind, target, (z, m, s, has_itself z.records r stands))

refers : {A : Type 0} (W : World) (a : Address) (t : ℕ) (q : Query A) (c : Name) (ns glue : List Record) → IsWorld W → says W a t q.name ≡ Cut c ns glue → Tells W a q.name t (referral_to q ns glue)
refers W a t q c ns glue w e =
    let m = zone_cut W a t q.name c ns glue (spoken W a t q.name (Cut c ns glue) w e) in
    let from : AnswersFrom W a q.name m.0 = answers_from W a q.name m.0 m.1 in
    let k : IsReferral m.0 q.name c ns glue = m.2 in (
      m.0,
      from,
      inl (
        c,
        k.over,
        record {
          aa = refl;
          rcode = refl;
          answer = refl;
          only = λ r n. (r, k.named r n, (refl, refl));
          whole = λ s at. has_itself ns s (k.all_named s at);
          addresses = λ r n. glue_served W a m.0 c r from.stands from.served (k.glue r n);
        },
      ),
    )

-- A link that is no alias.
ended : {A : Type 0} (z : Zone) (t : ℕ) (q : Query A) (l : Link) (e : End A) → IsLink z q.name t l → IsEndOf l e → Gives z q.name t (answer_to q [] e) l
ended z t q (Found set) e k is = subst (λ x. Gives z q.name t (answer_to q [] x) (Found set)) (sym is) (refl, refl, (λ r m owner. m, λ r m. (m, says_found z k.says.0 q.name t set k.says.2 r m)), (Found set, k, link_itself (Found set)))
ended z t q (Alias r) e k is = absurd is
ended z t q (NoData soa) e k is = subst (λ x. Gives z q.name t (answer_to q [] x) (NoData soa)) (sym is) (refl, refl, refl, refl, (NoData soa, k, link_itself (NoData soa)))
ended z t q (NxDomain soa) e k is = subst (λ x. Gives z q.name t (answer_to q [] x) (NxDomain soa)) (sym is) (refl, refl, refl, refl, (NxDomain soa, k, link_itself (NxDomain soa)))

-- Behind an alias: what else the answer has of the asked name is that alias, since one thing is said of a name.
in_append : (xs ys : List Record) (x : Record) → Contains (xs ++ ys) x → Contains xs x ⊎ Contains ys x
in_append [] ys x m = inr m
in_append (y ∷ xs) ys x m = ⊎_elim
    (λ p. inl (subst (λ w. Contains (y ∷ xs) w) p (first_in y xs)))
    (λ n. ⊎_elim (λ k. inl (later_in y x xs k)) (λ k. inr k) (in_append xs ys x n))
    (in_cases y x (xs ++ ys) m)

in_chain : (look : Name → Local) (from to : Name) (rs : List Record) (s : Record) → AliasesLead look from rs to → Contains rs s → (n : Name) × (look n ≡ Linked (Alias s))
in_chain look from to [] s leads m = absurd (none_in s m)
in_chain look from to (r ∷ rs) s (e, leads) m = ⊎_elim (λ p. (from, e ∙ ap (λ x. Linked (Alias x)) p)) (λ n. in_chain look (alias_target r) to rs s leads n) (in_cases r s rs m)

end_found : {A : Type 0} (l : Local) (e : End A) (r : Record) → IsEndAt l e → Contains (found_in e) r → (set : List Record) × (l ≡ Linked (Found set)) × Contains set r
end_found (Linked (Found set)) e r is m = (set, refl, subst (λ x. Contains (found_in x) r) is m)
end_found (Linked (Alias s)) e r is m = absurd is
end_found (Linked (NoData soa)) e r is m = absurd (none_in r (subst (λ x. Contains (found_in x) r) is m))
end_found (Linked (NxDomain soa)) e r is m = absurd (none_in r (subst (λ x. Contains (found_in x) r) is m))
end_found (Cut c ns glue) e r is m = absurd (none_in r (subst (λ x. Contains (found_in x) r) is m))
end_found NotHere e r is m = absurd (none_in r (subst (λ x. Contains (found_in x) r) is m))

one_alias : (r s : Record) → Linked (Alias r) ≡ Linked (Alias s) → r ≡ s
one_alias r s e = cc

no_found : (r : Record) (set : List Record) → Linked (Alias r) ≡ Linked (Found set) → ⊥
no_found r set e = cc

two_rcodes : {A : Type 0} (e : End A) → (end_rcode e ≡ 0) ⊎ (end_rcode e ≡ 3)
two_rcodes (end.Found set) = inl refl
two_rcodes (end.NoData soa) = inl refl
two_rcodes (end.NxDomain soa) = inr refl
two_rcodes end.Outside = inl refl

module _ {A : Type 0} (W : World) (a : Address) (t : ℕ) (q : Query A) (w : IsWorld W) where
  alias_again : (r s : Record) (n : Name) → says W a t q.name ≡ Linked (Alias r) → says W a t n ≡ Linked (Alias s) → s.owner ≡ q.name → Same s r
  alias_again r s n first e owner =
      let k : n ≡ q.name = sym (alias_owner W a t n s w e) ∙ owner in
      let same : s ≡ r = one_alias s r (sym e ∙ (ap (says W a t) k ∙ first)) in
      (ap (λ (x : Record). x.owner) same, ap (λ (x : Record). x.value) same)

  none_found : (r s : Record) (n : Name) (set : List Record) → says W a t q.name ≡ Linked (Alias r) → says W a t n ≡ Linked (Found set) → Contains set s → s.owner ≡ q.name → Same s r
  none_found r s n set first e m owner =
      let k : n ≡ q.name = sym (found_owner W a t n set w e s m) ∙ owner in
      absurd (no_found r set (sym first ∙ (ap (says W a t) (sym k) ∙ e)))

  only_alias : (r : Record) (rs : List Record) (e : End A) → IsFollowed (says W a t) q.name (r ∷ rs) e → (s : Record) → Contains ((r ∷ rs) ++ found_in e) s → s.owner ≡ q.name → Same s r
  only_alias r rs e followed s m owner =
      let k : IsFollowed (says W a t) q.name (r ∷ rs) e = followed in
      let first : says W a t q.name ≡ Linked (Alias r) = k.leads.0 in
      ⊎_elim
      (λ n. let c = in_chain (says W a t) q.name k.to (r ∷ rs) s k.leads n in alias_again r s c.0 first c.1 owner)
      (λ n. ⊎_elim
      (λ ends. let c = end_found (says W a t k.to) e s ends n in none_found r s k.to c.0 first c.1 c.2 owner)
      (λ ends. absurd (none_in s (subst (λ x. Contains (found_in x) s) ends.2 n)))
      k.ends)
      (in_append (r ∷ rs) (found_in e) s m)

  follows : (l : Link) (aliases : List Record) (e : End A) → says W a t q.name ≡ Linked l → IsFollowed (says W a t) q.name aliases e → Tells W a q.name t (answer_to q aliases e)
  follows l [] e is followed =
      let m = zone_linked W a t q.name l (spoken W a t q.name (Linked l) w is) in
      let k : IsFollowed (says W a t) q.name [] e = followed in (
        m.0,
        answers_from W a q.name m.0 m.1,
        inr (
          l,
          ⊎_elim
              (λ ends. ended m.0 t q l e m.2 (subst (λ x. IsEndAt x e) (ap (says W a t) k.leads ∙ is) ends))
              (λ ends. absurd (let long = ends.0 in omega (arith, long)))
              k.ends,
        ),
      )
  follows l (r ∷ rs) e is followed =
      let k : IsFollowed (says W a t) q.name (r ∷ rs) e = followed in
      let m = zone_linked W a t q.name (Alias r) (spoken W a t q.name (Linked (Alias r)) w k.leads.0) in (
        m.0,
        answers_from W a q.name m.0 m.1,
        inr (
          Alias r,
          (refl, two_rcodes e, first_in r (rs ++ found_in e), only_alias r rs e followed, (Alias r, m.2, link_itself (Alias r))),
        ),
      )

  some_same : (m n : Message) → Some m ≡ Some n → m ≡ n
  some_same m n e = cc

  tells : (l : Local) (m : Message) → says W a t q.name ≡ l → IsReplyBy (says W a t) q l (Some m) → Tells W a q.name t m
  tells (Linked l) m is (aliases, e, followed, same) = subst (Tells W a q.name t) (sym (some_same m (answer_to q aliases e) same)) (follows l aliases e is followed)
  tells (Cut c ns glue) m is same = subst (Tells W a q.name t) (sym (some_same m (referral_to q ns glue) same)) (refers W a t q c ns glue w is)
  tells NotHere m is same = absurd (cc)

-- The letters of the question are free.
folded_gives : (z : Zone) (q : Name) (t : ℕ) (m : Message) (l : Link) → Gives z q t m l → Gives z q t (folded_message m) l
folded_gives z q t m (Found set) h = h
folded_gives z q t m (Alias r) h = h
folded_gives z q t m (NoData soa) h = h
folded_gives z q t m (NxDomain soa) h = h

folded_tells : (W : World) (a : Address) (q : Name) (t : ℕ) (m : Message) → Tells W a q t m → Tells W a q t (folded_message m)
folded_tells W a q t m (z, from, inl (c, over, told)) =
    let k : Refers W a z c m = told in
    (z, from, inl (c, over, record { aa = k.aa; rcode = k.rcode; answer = k.answer; only = k.only; whole = k.whole; addresses = k.addresses }))
folded_tells W a q t m (z, from, inr (l, gives)) = (z, from, inr (l, folded_gives z q t m l gives))

-- A server's reply, its question in lower case, is one that it may serve.
pub reply_is_honest : {A : Type 0} (W : World) (a : Address) (q : Query A) (m : Message) → IsWorld W
    → IsReplyBy (says W a (type_number q.kind)) q (says W a (type_number q.kind) q.name) (Some m) → MayServe W a q.name (type_number q.kind) (folded_message m)
reply_is_honest W a q m w h = inl (folded_tells W a q.name (type_number q.kind) m (tells W a (type_number q.kind) q w (says W a (type_number q.kind) q.name) m refl h))

-- It repeats the query's question.
abbrev Repeats : {A : Type 0} → Query A → Message → Type 0
Repeats q m = (m.header.qr ≡ true) × (m.questions ≡ q.echo ∷ [])

as_built : {A : Type 0} (q : Query A) (built m : Message) → Repeats q built → Some m ≡ Some built → Repeats q m
as_built q built m is e = let same : built ≡ m = cc in subst (Repeats q) same is

repeats : {A : Type 0} (look : Name → Local) (q : Query A) (l : Local) (m : Message) → IsReplyBy look q l (Some m) → Repeats q m
repeats look q (Linked l) m (aliases, e, followed, same) = as_built q (answer_to q aliases e) m (refl, refl) same
repeats look q (Cut c ns glue) m same = as_built q (referral_to q ns glue) m (refl, refl) same
repeats look q NotHere m same = absurd (cc)

-- What is sent is a reply to the question that is read, and one that the server may serve.
served_by : {A : Type 0} (W : World) (a : Address) (bytes : List ℕ) (q : Query A) (sent : List ℕ) → EchoIsQuestion A → IsWorld W → IsRequest bytes (asked.Query q)
    → IsReplyFrom W a (asked.Query q) (Some sent) → IsServed W a q.name (type_number q.kind) sent
served_by W a bytes q sent echoes w reads (None, is, none) = absurd (cc)
served_by W a bytes q sent echoes w reads (Some m, is, (few, same, message)) =
    let again = repeats (says W a (type_number q.kind)) q (says W a (type_number q.kind) q.name) m is in
    let echoed : IsEchoed bytes q = echoes bytes q reads in
    record {
      read = folded_message m;
      message = message;
      reply = record { qr = again.0; question = ap (map folded_question) again.1 ∙ ap (λ (x : Question). x ∷ []) echoed.echo };
      serves = reply_is_honest W a q m w is;
    }

-- Bytes ask one thing at most.
same_query : {A : Type 0} (p q : Query A) → asked.Query p ≡ asked.Query q → p ≡ q
same_query p q e = cc

pub sent_is_honest : {A V : Type 0} (W : World) (a : Address) (bytes : List ℕ) (items : V → List ℕ) (sent : Option V) (q : Query A) → OneReading A → EchoIsQuestion A → IsWorld W
    → IsRequest bytes (asked.Query q) → IsReplyFrom W a (asked.Query q) (option_map items sent) → IfSome sent (λ v. IsHonestReply A W a bytes (items v))
sent_is_honest W a bytes items None q one echoes w reads by = tt
sent_is_honest W a bytes items (Some v) q one echoes w reads by = λ p other.
    served_by W a bytes p (items v) echoes w other (subst (λ x. IsReplyFrom W a (asked.Query x) (Some (items v))) (same_query q p (one bytes (asked.Query q) (asked.Query p) reads other)) by)

-- Whatever the bytes are, a reply to them is a reply to some question, and may be served to it.
pub host_serves : {A : Type 0} (W : World) (a : Address) (bytes sent : List ℕ) → EchoIsQuestion A → IsWorld W → IsHostReply A W a bytes (Some sent)
    → (n : Name) × (t : ℕ) × IsServed W a n t sent
host_serves W a bytes sent echoes w (asked.Drop, reads, none) = absurd (cc)
host_serves W a bytes sent echoes w (asked.Refuse refusal start echo, reads, none) = absurd (cc)
host_serves W a bytes sent echoes w (asked.Query q, reads, by) = (q.name, type_number q.kind, served_by W a bytes q sent echoes w reads by)
