-- Texts one behind the other.
use Rattle.std.proofs.Common.{◌≡◌, ◌∙◌, ap, sym, ℕ, ◌+◌, ◌<◌, List, ◌++◌, drop, length, get_or, arith, append_assoc}
use Rattle.std.proofs.lemmas.List.{at_drop_more}
use Rattle.counters.specs.Exposition.{bucket_line, bucket_lines, times_in, value}
use Rattle.counters.specs.declared.counter.Counter.TheVariants as counter
use Rattle.counters.specs.declared.labels.Bucket.{Bucket}

-- Two texts, each behind those before it.
pub two_behind : (t0 t1 t2 m1 m2 : List ℕ)
    → t1 ≡ t0 ++ m1 → t2 ≡ t1 ++ m2
    → t2 ≡ t0 ++ (m1 ++ m2)
two_behind t0 t1 t2 m1 m2 h1 h2 = rw (h2, h1) (simp append_assoc)

-- Three texts, each behind those before it.
pub three_behind : (t0 t1 t2 t3 m1 m2 m3 : List ℕ)
    → t1 ≡ t0 ++ m1 → t2 ≡ t1 ++ m2 → t3 ≡ t2 ++ m3
    → t3 ≡ t0 ++ (m1 ++ (m2 ++ m3))
three_behind t0 t1 t2 t3 m1 m2 m3 h1 h2 h3 = rw (h3, h2, h1) (simp append_assoc)

-- Four texts, each behind those before it.
pub four_behind : (t0 t1 t2 t3 t4 m1 m2 m3 m4 : List ℕ)
    → t1 ≡ t0 ++ m1 → t2 ≡ t1 ++ m2 → t3 ≡ t2 ++ m3 → t4 ≡ t3 ++ m4
    → t4 ≡ t0 ++ (m1 ++ (m2 ++ (m3 ++ m4)))
four_behind t0 t1 t2 t3 t4 m1 m2 m3 m4 h1 h2 h3 h4 = rw (h4, h3, h2, h1) (simp append_assoc)

-- Five texts, each behind those before it.
pub five_behind : (t0 t1 t2 t3 t4 t5 m1 m2 m3 m4 m5 : List ℕ)
    → t1 ≡ t0 ++ m1 → t2 ≡ t1 ++ m2 → t3 ≡ t2 ++ m3 → t4 ≡ t3 ++ m4 → t5 ≡ t4 ++ m5
    → t5 ≡ t0 ++ (m1 ++ (m2 ++ (m3 ++ (m4 ++ m5))))
five_behind t0 t1 t2 t3 t4 t5 m1 m2 m3 m4 m5 h1 h2 h3 h4 h5 = rw (h5, h4, h3, h2, h1) (simp append_assoc)

-- Six texts, each behind those before it.
pub six_behind : (t0 t1 t2 t3 t4 t5 t6 m1 m2 m3 m4 m5 m6 : List ℕ)
    → t1 ≡ t0 ++ m1 → t2 ≡ t1 ++ m2 → t3 ≡ t2 ++ m3 → t4 ≡ t3 ++ m4 → t5 ≡ t4 ++ m5 → t6 ≡ t5 ++ m6
    → t6 ≡ t0 ++ (m1 ++ (m2 ++ (m3 ++ (m4 ++ (m5 ++ m6)))))
six_behind t0 t1 t2 t3 t4 t5 t6 m1 m2 m3 m4 m5 m6 h1 h2 h3 h4 h5 h6 = rw (h6, h5, h4, h3, h2, h1) (simp append_assoc)

-- Three, of which the last is told of another number.
pub three_behind_with : (f : ℕ → List ℕ) (m n : ℕ) (t0 t1 t2 t3 m1 m2 : List ℕ)
    → m ≡ n → t1 ≡ t0 ++ m1 → t2 ≡ t1 ++ m2 → t3 ≡ t2 ++ f m → t3 ≡ t0 ++ (m1 ++ (m2 ++ f n))
three_behind_with f m n t0 t1 t2 t3 m1 m2 same h1 h2 h3 = rw (h3, h2, h1, same) (simp append_assoc)

-- One bucket more is printed.
pub bucket_more : (cells : List ℕ) (bs : List Bucket) (i : ℕ) (d : Bucket) (before n : ℕ) (printed longer whole : List ℕ) → i < length bs
    → n ≡ value cells (counter.Waited (get_or bs i d)) → longer ≡ printed ++ bucket_line (get_or bs i d) (before + n)
    → printed ++ bucket_lines cells before (drop i bs) ≡ whole → longer ++ bucket_lines cells (before + n) (drop (i + 1) bs) ≡ whole
bucket_more cells bs i d before n printed longer whole inside is line so_far =
    ap (λ text. text ++ bucket_lines cells (before + n) (drop (i + 1) bs)) line
    ∙ append_assoc printed (bucket_line (get_or bs i d) (before + n)) (bucket_lines cells (before + n) (drop (i + 1) bs))
    ∙ ap (λ m. printed ++ (bucket_line (get_or bs i d) (before + m) ++ bucket_lines cells (before + m) (drop (i + 1) bs))) is
    ∙ sym (at_drop_more (λ left. printed ++ bucket_lines cells before left) bs i d inside)
    ∙ so_far

-- One bucket more is added.
pub times_more : (cells : List ℕ) (bs : List Bucket) (i : ℕ) (d : Bucket) (before n all : ℕ) → i < length bs
    → n ≡ value cells (counter.Waited (get_or bs i d)) → before + times_in cells (drop i bs) ≡ all
    → before + n + times_in cells (drop (i + 1) bs) ≡ all
times_more cells bs i d before n all inside is so_far =
    omega (arith, is, so_far, at_drop_more (times_in cells) bs i d inside)
