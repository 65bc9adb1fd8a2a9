-- The file is read, and its resolver is asked, or it makes none.
use Rattle.std.proofs.Common.{◌≡◌, ℕ, List, refl, sym, subst, inl, Result, Ok, Err, IfErr, string_bytes}
use Rattle.commands.specs.Runs.{IsAllowed, shown}
use Rattle.commands.specs.Servers.{HoldsConfig, IsNoServer}
use Rattle.commands.specs.declared.fault.Fault.{Fault}
use Rattle.commands.specs.declared.fault.Fault.TheVariants.{Memory}
use Rattle.commands.proofs.trace_query.trace_in.Goals as goal

allowed : {S : Type 0} (bytes : S → List ℕ) (r : Result S Fault) (P : Type 0) (Q : Fault → Type 0) → P → Q Memory → IfErr r (λ f. f ≡ Memory) → IsAllowed (λ _. P) Q (shown bytes r)
allowed bytes (Ok s) P Q p q is = p
allowed bytes (Err f) P Q p q is = subst Q (sym is) q

pub returns-in-Ok : goal.returns-in-Ok
returns-in-Ok g c =
    let there : HoldsConfig (g.T.Texts.held c.args.texts.now c.args.path.now) = record { text = c.args.text.now; held = c.requires; at = _; describes = c.in-Ok.ensures.ok.0 } in (
      shown string_bytes c.lines_of.result,
      allowed string_bytes c.lines_of.result (HoldsConfig (g.T.Texts.held c.args.texts.now c.args.path.now)) (IsNoServer (g.T.Texts.held c.args.texts.now) c.args.path.now) there (inl tt) c.lines_of.ensures,
      c.finish.ensures,
    )

pub returns-in-Err : goal.returns-in-Err
returns-in-Err g c = (Err c.in-Err.fault, c.in-Err.ensures.err, (c.report.ensures, refl))
