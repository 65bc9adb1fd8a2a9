use Rattle.std.proofs.Common.{◌≡◌, ℕ, List, ◌⊎◌, inl, inr, ◌∙◌, ap, sym, subst}
use Rattle.rdata.specs.Data.{Datum, Ns, Cname, Soa, Ptr}
use Rattle.rdata.specs.declared.data.RData.{RData}
use Rattle.rdata.specs.declared.data.RData.TheVariants as kept
use Rattle.rdata.specs.Kept.{datum}
use Rattle.message_grammar.specs.Pieces.{put_flats}
use Rattle.message_grammar.specs.Messages.{data_flats, FitsRdata, AreNamesOf}
use Rattle.wire.proofs.Writing.{on_ok}
use Rattle.wire.proofs.writer.Writer.put_data.Goals as goal

pub returns-in-Soa-clause-written : goal.returns-in-Soa-clause-written
returns-in-Soa-clause-written g c =
    on_ok c.put_soa.result c.put_soa.ensures.written (λ h. h ∙ ap (λ a. put_flats c.args.self.now (data_flats (Soa a))) c.deref.ensures ∙ ap (λ v. put_flats c.args.self.now (data_flats (datum v))) (sym c.in-Soa.is))

pub returns-in-Soa-clause-fits : goal.returns-in-Soa-clause-fits
returns-in-Soa-clause-fits g c =
    on_ok c.put_soa.result c.put_soa.ensures.fits (λ h. subst (λ v. FitsRdata (datum v) × AreNamesOf (datum v)) (sym c.in-Soa.is) (subst (λ a. FitsRdata (Soa a) × AreNamesOf (Soa a)) c.deref.ensures h))

-- Data that are one name.
one_name : {H : Type 0} (P : Datum → Type 0) (v : RData H) (n : List (List ℕ)) → (v ≡ kept.Ns n) ⊎ ((v ≡ kept.Cname n) ⊎ (v ≡ kept.Ptr n)) → P (Ns n) → P (Cname n) → P (Ptr n)
    → P (datum v)
one_name P v n (inl is) ns cname ptr = subst (λ x. P (datum x)) (sym is) ns
one_name P v n (inr (inl is)) ns cname ptr = subst (λ x. P (datum x)) (sym is) cname
one_name P v n (inr (inr is)) ns cname ptr = subst (λ x. P (datum x)) (sym is) ptr

pub returns-in-Ns-clause-written : goal.returns-in-Ns-clause-written
returns-in-Ns-clause-written g c =
    on_ok c.put_name-in-Ns.result c.put_name-in-Ns.ensures.written
    (λ h. one_name (λ d. c.put_name-in-Ns.new.self ≡ put_flats c.args.self.now (data_flats d)) c.args.value.now c.in-Ns.name c.in-Ns.is h h h)

pub returns-in-Ns-clause-fits : goal.returns-in-Ns-clause-fits
returns-in-Ns-clause-fits g c =
    let named = c.put_name-in-Ns.ensures.named in
    on_ok c.put_name-in-Ns.result c.put_name-in-Ns.ensures.written
    (λ _. one_name (λ d. FitsRdata d × AreNamesOf d) c.args.value.now c.in-Ns.name c.in-Ns.is (tt, named) (tt, named) (tt, named))
