-- A split takes as it is ruled: the longest run, and then the rest from what is left.
use Rattle.std.proofs.Common.{◌≡◌, ℕ, zero, suc, ◌+◌, ◌-◌, ◌<◌, ◌≤◌, false, leb, List, [], ◌∷◌, length, sym, subst, arith}
use Rattle.std.proofs.lemmas.Bool.{leb-true, leb-false, cond_both}
use Rattle.model.specs.Space.{Blocks, times, without, Run, runs, total, most, longest, others, split_up_to, row, blocks_of}
use Rattle.model.specs.Ownership.{one_if}
use Rattle.model.specs.Pieces.{Taken, last, more}
use Rattle.model.specs.Exact.{Rising}
use Rattle.model.proofs.Basics.{without_one}
use Rattle.model.proofs.Choosing.{some_run, parted, longest_count}
use Rattle.model.proofs.ExactRuns.{rising_weaker, runs_exact}
use Rattle.model.proofs.Rows.{no_row, whole_lowest, longest_row}

others_rising : (v s : ℕ) (rs : List Run) → Rising v s rs → Rising v s (others rs)
others_rising v s [] q = tt
others_rising v s (r ∷ rs) q = grind (arith, others_rising v (suc (r.start + r.count)) rs, rising_weaker v (suc (r.start + r.count)) s rs)

-- without the longest run, the others are left
others_left : (free : Blocks) (v : ℕ) → runs (without free (row (longest (runs free v)).start (longest (runs free v)).count)) v ≡ others (runs free v)
others_left free v =
    runs_exact.only (without free (row (longest (runs free v)).start (longest (runs free v)).count)) v (others (runs free v)) (others_rising v 0 (runs free v) (runs_exact.rising free v))
    (λ b lt. counted (runs free v) b (runs_exact.stand free v b lt))
  where
    counted : (rs : List Run) (b : ℕ) → times (blocks_of rs) b ≡ one_if (free b) → times (blocks_of (others rs)) b ≡ one_if (without free (row (longest rs).start (longest rs).count) b)
    counted [] b e = omega (arith, e, without_one (free b) 0 (omega arith))
    counted (r ∷ rs) b e =
        let l = longest (r ∷ rs) in
        let p = (parted r rs).blocks b in
        omega (arith, e, p, without_one (free b) (times (row l.start l.count) b) (omega (arith, e, p)))

pub split_taken : (v k n : ℕ) (free : Blocks) → ((b : ℕ) → v ≤ b → free b ≡ false) → length (runs free v) ≤ k → 0 < n → n ≤ total (runs free v) → Taken free n (length (split_up_to k n (runs free v))) (blocks_of (split_up_to k n (runs free v)))
split_taken v zero n free below short pos fits = absurd (omega (arith, some_run (runs free v)))
split_taken v (suc k) n free below short pos fits =
    let rs = runs free v in
    let l = longest rs in
    let rest : Blocks = without free (row l.start l.count) in
    cond_both (leb n (most rs)) _ _ (λ qs. Taken free n (length qs) (blocks_of qs))
    (λ e. last (whole_lowest free v below n pos (leb-true n (most rs) e)))
    (λ e.
    let lt = leb-false n (most rs) e in
    let parts = sizes rs short fits lt in
    let left = others_left free v in
    let later = split_up_to k (n - most rs) (others rs) in
    let ih = split_taken v k (n - most rs) rest (λ b ge. grind (arith, below b)) (rw left parts.0) (omega arith) (rw left parts.1) in
    more (no_row free v below n lt) (longest_row free v below)
    (subst (λ j. Taken rest (n - j) (length later) (blocks_of later)) (sym (longest_count rs)) (rw left at ih)))
  where
    sizes : (rs : List Run) → length rs ≤ suc k → n ≤ total rs → most rs < n → (length (others rs) ≤ k) × (n - most rs ≤ total (others rs))
    sizes [] short fits lt = absurd (omega arith)
    sizes (r ∷ rs) short fits lt = let p = parted r rs in (omega (arith, p.fewer), omega (arith, p.counts, longest_count (r ∷ rs)))
