use Rattle.std.proofs.Common.{◌≡◌, List, ℕ, ◌∷◌, [], ◌++◌, true, subst, ap, sym, ◌∙◌, rules}
use Rattle.std.proofs.Output.{has_written_append, has_written_of_eq}
use Rattle.dname.specs.Labels.{root, AreLabels}
use Rattle.dname.specs.Text.{label_text, labels_text}
use Rattle.dname.proofs.WrittenNames.{all_written, label_written}
use Rattle.dname.proofs.text.NameDisplay.fmt.Goals as goal

pub loop-label-preserved : goal.loop-label-preserved
loop-label-preserved g c = record {
  form = search rules;
  written = λ plain.
      let so_far = c.loop-label.invariant.written plain in
      let label = c.in-Some.label.now in
      let first = c.write_label.ensures so_far.1.plain (search rules) in
      let dot = c.write_str-in-Some.ensures.writes first.plain (search rules) in (
        so_far.0 ++ (label_text label ++ 46 ∷ []),
        has_written_append _ _ _ _ _ _ so_far.1 (has_written_append _ _ _ _ _ _ first dot),
        label_written label _ so_far.0 _ c.in-Some.ensures.nonempty (ap (λ n. so_far.0 ++ labels_text n) (sym c.in-Some.ensures.labels) ∙ so_far.2),
      );
}

pub returns-clause-writes : goal.returns-clause-writes
returns-clause-writes g c = λ plain done.
    let so_far = c.loop-label.invariant.written plain in
    let labels : AreLabels c.args.self.now = subst (λ (n : List (List ℕ)). AreLabels n) c.self.view_is c.self.invariant.wire.labels in
    let other : c.args.self.now ≡ root → ⊥ = λ e. let t : c.is_root.result ≡ true = c.is_root.ensures.1 e in cc in
    has_written_of_eq _ _ _ _ _ (all_written so_far.0 _ _ labels other (c.in_default.ensures {u = tt}) so_far.2) so_far.1
