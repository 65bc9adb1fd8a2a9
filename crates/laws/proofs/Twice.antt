-- Two asks of a server that ended for nothing are two asks over UDP.
use Rattle.std.proofs.Common.{◌≡◌, ℕ, inl, inr, true, cond, List, [], ◌∷◌, refl, sym, ap, ◌∙◌, subst}
use Rattle.dname.specs.Labels.{Name}
use Rattle.rdata.specs.declared.addr.Addr.{Addr}
use Rattle.message_grammar.specs.Messages.{Message}
use Rattle.message_grammar.proofs.Single.{message_one}
use Rattle.classify.specs.Classes as class
use Rattle.classify.specs.Classes.{class_of, by_code, truncated_over}
use Rattle.classify.specs.declared.class.Failure.{Failure}
use Rattle.wire.specs.declared.via.Via.TheVariants as via
use Rattle.resolution.specs.Jobs.{Home}
use Rattle.runs.specs.States.{Turn, Event, Client, Datagram, TcpReply, TcpFailed, Tick, Path, ByUdp, ByTcp, Ask, IsFor, via_of}
use Rattle.runs.specs.Messages.{Brings}
use Rattle.runs.specs.Runs.{Earlier, IsOpenAskOf}
use Rattle.laws.specs.Spent.{Twice, IsUdpPath, Repeats, AsksBy, IsBad, EndsBadly, HasFailed, SendsTo}

module _ (port : ℕ) (home : Home) (k : ℕ) where
  -- A reply that was truncated over UDP is no bad end.
  truncated_no_failure : (z n : Name) (t : ℕ) (m : Message) (f : Failure) → m.header.tc ≡ true → class_of z n t via.Udp m ≡ class.Failed f → ⊥
  truncated_no_failure z n t m f tc e = let short : class_of z n t via.Udp m ≡ class.Truncated = ap (λ b. cond b (truncated_over via.Udp) (by_code z n t m)) tc in absurd (apart (sym short ∙ e))
    where
      apart : class.Truncated ≡ class.Failed f → ⊥
      apart e = cc

  not_both : (z : Name) (bad short : Ask) (event : Event) (m : Message) → IsUdpPath short.path → Brings port short event m → m.header.tc ≡ true → IsBad port z bad event → ⊥
  not_both z bad short (Client now client way bytes) m udp brings tc is = brings
  not_both z bad short (TcpReply now number bytes) m udp (path, is_m, answers) tc is = subst IsUdpPath path udp
  not_both z bad short (TcpFailed now number) m udp brings tc is = brings
  not_both z bad short (Tick now) m udp brings tc is = brings
  not_both z bad short (Datagram now sock from bytes) m udp (path, source, is_m, answers) tc (inl (later, e)) = cc
  not_both z bad short (Datagram now sock from bytes) m udp (path, source, is_m, answers) tc (inr (inl (later, number, tcp, inl e))) = cc
  not_both z bad short (Datagram now sock from bytes) m udp (path, source, is_m, answers) tc (inr (inl (later, number, tcp, inr (text, e, none)))) = cc
  not_both z bad short (Datagram now sock from bytes) m udp (path, source, is_m, answers) tc (inr (inr (other, f, (bad_path, bad_source, is_other, bad_answers), failed))) =
      let same : m ≡ other = message_one bytes m other is_m is_other in
      let way : via_of bad.path ≡ via.Udp = ap via_of bad_path in
      truncated_no_failure z bad.name bad.kind other f (subst (λ (x : Message). x.header.tc ≡ true) same tc) (subst (λ w. class_of z bad.name bad.kind w other ≡ class.Failed f) way failed)

  module _ (z n : Name) (t : ℕ) (a : Addr) where
    asked_by_udp : (ask : Ask) (run : List Turn) → IsUdpPath ask.path → IsFor a n t ask → IsOpenAskOf port k ask run → Earlier (SendsTo port k a n t) run
    asked_by_udp ask [] udp same h = absurd h
    asked_by_udp ask (turn ∷ past) udp same (inl (served, sent)) = inl (ask, udp, same, served, sent)
    asked_by_udp ask (turn ∷ past) udp same (inr (other, more)) = inr (asked_by_udp ask past udp same more)

    same_ask : (ask short : Ask) → IsFor a n t ask → IsFor ask.server ask.name ask.kind short → IsFor a n t short
    same_ask ask short f g = record { server = g.server ∙ f.server; name = g.name ∙ f.name; kind = g.kind ∙ f.kind }

    repeated : (ask : Ask) (run : List Turn) → IsFor a n t ask → Repeats port k ask run → Earlier (SendsTo port k a n t) run
    repeated ask [] same h = absurd h
    repeated ask (turn ∷ past) same (inl (served, sent, short)) = inr (asked_by_udp short.ask past short.udp (same_ask ask short.ask same short.same) short.asked)
    repeated ask (turn ∷ past) same (inr (other, more)) = inr (repeated ask past same more)

    origin : (ask : Ask) (path : Path) (run : List Turn) → ask.path ≡ path → IsFor a n t ask → AsksBy port k ask path run → Earlier (SendsTo port k a n t) run
    origin ask (ByUdp sock) run e same h = asked_by_udp ask run (subst IsUdpPath (sym e) tt) same h
    origin ask (ByTcp number) run e same h = repeated ask run same h

    abbrev Bad : Turn → List Turn → Type 0
    Bad turn past = EndsBadly port home k z n t a turn past

    bad_origin : (turn : Turn) (past : List Turn) → Bad turn past → Earlier (SendsTo port k a n t) past
    bad_origin turn past (ask, served, asked, same, bad, zone) = origin ask ask.path past refl same asked

    earlier_origin : (run : List Turn) → Earlier Bad run → Earlier (SendsTo port k a n t) run
    earlier_origin [] h = absurd h
    earlier_origin (turn ∷ past) (inl b) = inr (bad_origin turn past b)
    earlier_origin (turn ∷ past) (inr h) = inr (earlier_origin past h)

    second_by_udp : (ask : Ask) (run : List Turn) → IsUdpPath ask.path → IsFor a n t ask → IsOpenAskOf port k ask run → Earlier Bad run → Twice (SendsTo port k a n t) run
    second_by_udp ask [] udp same h e = absurd h
    second_by_udp ask (turn ∷ past) udp same (inl (served, sent)) (inl b) = inl ((ask, udp, same, served, sent), bad_origin turn past b)
    second_by_udp ask (turn ∷ past) udp same (inl (served, sent)) (inr e) = inl ((ask, udp, same, served, sent), earlier_origin past e)
    second_by_udp ask (turn ∷ past) udp same (inr (other, more)) (inl (bad, served, asked, for_it, ends, zone)) = absurd (other served)
    second_by_udp ask (turn ∷ past) udp same (inr (other, more)) (inr e) = inr (second_by_udp ask past udp same more e)

    second_repeated : (ask : Ask) (run : List Turn) → IsFor a n t ask → Repeats port k ask run → Earlier Bad run → Twice (SendsTo port k a n t) run
    second_repeated ask [] same h e = absurd h
    second_repeated ask (turn ∷ past) same (inl (served, sent, short)) (inl (bad, is, asked, for_it, ends, zone)) = absurd (not_both z bad short.ask turn.event short.message short.udp short.brings short.tc ends)
    second_repeated ask (turn ∷ past) same (inl (served, sent, short)) (inr e) = inr (second_by_udp short.ask past short.udp (same_ask ask short.ask same short.same) short.asked e)
    second_repeated ask (turn ∷ past) same (inr (other, more)) (inl (bad, served, asked, for_it, ends, zone)) = absurd (other served)
    second_repeated ask (turn ∷ past) same (inr (other, more)) (inr e) = inr (second_repeated ask past same more e)

    second : (ask : Ask) (path : Path) (run : List Turn) → ask.path ≡ path → IsFor a n t ask → AsksBy port k ask path run → Earlier Bad run → Twice (SendsTo port k a n t) run
    second ask (ByUdp sock) run e same h earlier = second_by_udp ask run (subst IsUdpPath (sym e) tt) same h earlier
    second ask (ByTcp number) run e same h earlier = second_repeated ask run same h earlier

    pub two_asks : (run : List Turn) → HasFailed port home run k z n t a → Twice (SendsTo port k a n t) run
    two_asks [] h = absurd h
    two_asks (turn ∷ past) (inl ((ask, served, asked, same, bad, zone), e)) = inr (second ask ask.path past refl same asked e)
    two_asks (turn ∷ past) (inr h) = inr (two_asks past h)
