-- An honest referral names servers of its cut, its addresses serve it, and each may be asked.
use Rattle.std.proofs.Common.{◌≡◌, ◌≤◌, ℕ, inl, inr, List, [], ◌∷◌, length, sym, ◌∙◌, subst, arith}
use Rattle.std.specs.Prelude.{Contains}
use Rattle.dname.specs.Labels.{Name}
use Rattle.rdata.specs.Data.{Ipv4}
use Rattle.rdata.specs.Records.{Record}
use Rattle.zone.specs.Zones.{Zone, At, IsCut, ns_type}
use Rattle.zone.specs.Links.{Link, Found, Alias, NoData, NxDomain}
use Rattle.zone.proofs.LawLists.{first_in}
use Rattle.message_grammar.specs.Messages.{Message}
use Rattle.world_truth.specs.Worlds.{Address, World, IsServerName, IsAddressOf, IsWorld}
use Rattle.world_truth.specs.Serving.{AnswersFrom, Refers, Gives, Tells, MayServe}
use Rattle.world_truth.specs.Reading.{IsReferralTo, NamesServer}
use Rattle.world_truth.specs.Frames.{IsUnshadowed, MayAsk, IsGood}
use Rattle.world_truth.proofs.Honest.{first_stands, found_in, alias_in, no_data_type, nx_domain_type, told_whole}
use Rattle.world_truth.proofs.Nearest.{beneath_length}

-- A message that gives a link is no referral.
soa_stands : (m : Message) (soa : Record) → m.authority ≡ soa ∷ [] → Contains m.authority soa
soa_stands m soa e = subst (λ (rs : List Record). Contains rs soa) (sym e) (first_in soa [])

no_referral : (f q : Name) (t : ℕ) (m : Message) (c : Name) (z : Zone) (k : Link) → IsReferralTo f q t m c → Gives z q t m k → ⊥
no_referral f q t m c z (Found set) h g = let (s, i) = found_in z q t m set g in h.answer s i
no_referral f q t m c z (Alias r) h g = h.alias r (alias_in z q t m r g)
no_referral f q t m c z (NoData r) h g = h.soa r (soa_stands m r g.3) (no_data_type z q t r g.4)
no_referral f q t m c z (NxDomain r) h g = h.soa r (soa_stands m r g.3) (nx_domain_type z q t r g.4)

-- The cut that a referral is taken for is the one that the server refers to.
taken_cut : (W : World) (a : Address) (f q : Name) (t : ℕ) (m : Message) (c d : Name) (z : Zone) → IsReferralTo f q t m c → Refers W a z d m → d ≡ c
taken_cut W a f q t m c d z h refers =
    let (r, first, owner) = h.first in
    let (s, at, same) = refers.only r (first_stands m.authority ns_type r first) in
    let stands : At z d ns_type s = at in
    sym stands.owner ∙ (sym same.0 ∙ owner)

-- A name that it gives is a server's.
named : (W : World) (a : Address) (m : Message) (c n : Name) (z : Zone) → Contains W.zones z → IsCut z c → Refers W a z c m → NamesServer m c n → IsServerName W c n
named W a m c n z mz cut refers (r, i, e) =
    let (s, at, same) = refers.only r i.0 in
    (z, s, mz, cut, at, sym same.1 ∙ e)

-- An address that it gives is a server's.
addressed : (W : World) (a : Address) (m : Message) (c : Name) (z : Zone) (n : Name) (r : Record) (b : Address) → Refers W a z c m → Contains m.additional r → r.owner ≡ n → r.value ≡ Ipv4 b
    → IsAddressOf W n b
addressed W a m c z n r b refers stands owner value =
    let (kind, target, (y, my, served, (x, mx, same))) = refers.addresses r stands in
    inl (y, x, my, mx, sym same.0 ∙ owner, sym same.1 ∙ value)

-- Beneath a zone under which a name may be asked nothing more is shadowed.
pub deeper : (W : World) (f c q : Name) → IsUnshadowed W f q → length f ≤ length c → IsUnshadowed W c q
deeper W f c q clear long z held over = let short = clear z held over in omega (arith, short, long)

pub honest_referral : (W : World) (a : Address) (f q : Name) (t : ℕ) (m : Message) (c : Name) → IsWorld W → MayAsk W a f q → MayServe W a q t m → IsReferralTo f q t m c → IsGood W f q m c
honest_referral W a f q t m c w may serve h = by_told (told_whole W a q t m serve h.tc)
  where
    good : (z : Zone) → AnswersFrom W a q z → IsCut z c → Refers W a z c m → IsGood W f q m c
    good z from cut refers = record {
      names = λ n names. named W a m c n z from.stands cut refers names;
      addresses = λ b gives. let (n, r, names, inside, stands, owner, value) = gives in
          w.servers c n b (named W a m c n z from.stands cut refers names) (addressed W a m c z n r b refers stands owner value);
      asks = λ b serves. record {
        serves = serves;
        over = h.over;
        unshadowed = deeper W f c q may.unshadowed (let longer = beneath_length c f h.beneath in omega (arith, longer));
      };
    }

    by_told : Tells W a q t m → IsGood W f q m c
    by_told (z, from, inl (d, over, refers)) =
        let e : d ≡ c = taken_cut W a f q t m c d z h refers in
        let cut : IsCut z d = over.cut in
        good z from (subst (λ (n : Name). IsCut z n) e cut) (subst (λ (n : Name). Refers W a z n m) e refers)
    by_told (z, from, inr (k, gives)) = absurd (no_referral f q t m c z k h gives)
