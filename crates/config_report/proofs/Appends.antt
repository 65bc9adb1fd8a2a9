-- Texts one behind the other.
use Rattle.std.proofs.Common.{◌≡◌, ℕ, Bool, List, [], ◌++◌, ◌∙◌, ap, subst, append_assoc, Result, Ok, Err, OnOk, length}
use Rattle.std.specs.Prelude.{is_some, Option}
use Rattle.config.specs.Configs.{Config, End}
use Rattle.config_report.specs.Notes.{hints_text, listen_text, metrics_text, note, notes_text, seed_line, sockets_text}

pub two : {T E : Type 0} (r : Result T E) (old mid new a b : List ℕ) → mid ≡ old ++ a → OnOk r (new ≡ mid ++ b) → OnOk r (new ≡ old ++ (a ++ b))
two (Ok x) old mid new a b first second = second ∙ (ap (λ (t : List ℕ). t ++ b) first ∙ append_assoc old a b)
two (Err e) old mid new a b first second = tt

five : (s0 s1 s2 s3 s4 s5 a b c d e : List ℕ) → s0 ≡ [] → s1 ≡ s0 ++ a → s2 ≡ s1 ++ b → s3 ≡ s2 ++ c → s4 ≡ s3 ++ d → s5 ≡ s4 ++ e → s5 ≡ (((a ++ b) ++ c) ++ d) ++ e
five s0 s1 s2 s3 s4 s5 a b c d e h0 h1 h2 h3 h4 h5 =
    let e1 : s1 ≡ a = h1 ∙ ap (λ (t : List ℕ). t ++ a) h0 in
    let e2 : s2 ≡ a ++ b = h2 ∙ ap (λ (t : List ℕ). t ++ b) e1 in
    let e3 : s3 ≡ (a ++ b) ++ c = h3 ∙ ap (λ (t : List ℕ). t ++ c) e2 in
    let e4 : s4 ≡ ((a ++ b) ++ c) ++ d = h4 ∙ ap (λ (t : List ℕ). t ++ d) e3 in
    h5 ∙ ap (λ (t : List ℕ). t ++ e) e4

pub all_notes : (c : Config) (s0 s1 s2 s3 s4 s5 : List ℕ) (n : ℕ) (e : End) (m : Option End) (k : ℕ) (b : Bool) → n ≡ length c.hints → e ≡ c.listen → m ≡ c.metrics → k ≡ c.sockets → b ≡ is_some c.seed
    → s0 ≡ [] → s1 ≡ s0 ++ hints_text n → s2 ≡ s1 ++ listen_text e → s3 ≡ s2 ++ metrics_text m → s4 ≡ s3 ++ sockets_text k → s5 ≡ s4 ++ note b seed_line → s5 ≡ notes_text c
all_notes c s0 s1 s2 s3 s4 s5 n e m k b ns es ms ks bs h0 h1 h2 h3 h4 h5 =
    five s0 s1 s2 s3 s4 s5 (hints_text (length c.hints)) (listen_text c.listen) (metrics_text c.metrics) (sockets_text c.sockets) (note (is_some c.seed) seed_line) h0
    (h1 ∙ ap (λ (x : ℕ). s0 ++ hints_text x) ns)
    (h2 ∙ ap (λ (x : End). s1 ++ listen_text x) es)
    (h3 ∙ ap (λ (x : Option End). s2 ++ metrics_text x) ms)
    (h4 ∙ ap (λ (x : ℕ). s3 ++ sockets_text x) ks)
    (h5 ∙ ap (λ (x : Bool). s4 ++ note x seed_line) bs)
