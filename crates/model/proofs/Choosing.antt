-- What is chosen of the free runs.
use Rattle.std.proofs.Common.{◌≡◌, ℕ, zero, suc, ◌+◌, ◌-◌, ◌<◌, ◌≤◌, Bool, true, false, cond, eqb, ltb, leb, List, [], ◌∷◌, ◌++◌, length, refl, ap, ⊎_elim, arith, length-append}
use Rattle.std.proofs.lemmas.List.Sums.{sum_by-cons, sum_by-append}
use Rattle.std.proofs.lemmas.Bool.{leb-true, le-ltb, cond_both, cases_Bool}
use Rattle.std.proofs.lemmas.Bool.Decides.{nat_tests}
use Rattle.model.specs.Space.{Blocks, times, Run, run_before, runs_from, total, most, longest, others, lowest_fit, split_up_to, row, blocks_of}
use Rattle.model.specs.Ownership.{one_if}

pub times_cons : (x : ℕ) (xs : List ℕ) (b : ℕ) → times (x ∷ xs) b ≡ one_if (eqb x b) + times xs b
times_cons x xs b = sum_by-cons (λ y. cond (eqb y b) 1 0) x xs

pub times_append : (xs ys : List ℕ) (b : ℕ) → times (xs ++ ys) b ≡ times xs b + times ys b
times_append xs ys b = sum_by-append (λ y. cond (eqb y b) 1 0) xs ys

pub length_row : (b n : ℕ) → length (row b n) ≡ n
length_row b zero = refl
length_row b (suc n) = ap suc (length_row (suc b) n)

pub row_below : (s n b : ℕ) → b < s → times (row s n) b ≡ 0
row_below s zero b lt = refl
row_below s (suc n) b lt = grind (arith, nat_tests, times_cons s (row (suc s) n) b, row_below (suc s) n b)

pub row_once : (s n b : ℕ) → s ≤ b → b < s + n → times (row s n) b ≡ 1
row_once s zero b le lt = absurd (omega arith)
row_once s (suc n) b le lt = grind (arith, nat_tests, times_cons s (row (suc s) n) b, row_below (suc s) n b, row_once (suc s) n b)

pub length_blocks : (rs : List Run) → length (blocks_of rs) ≡ total rs
length_blocks [] = refl
length_blocks (r ∷ rs) = grind (arith, length-append (row r.start r.count) (blocks_of rs), length_row r.start r.count, length_blocks rs)

-- where no run is, no block is
pub some_run : (rs : List Run) → 0 < total rs → 0 < length rs
some_run [] lt = lt
some_run (r ∷ rs) lt = omega arith

-- the longest run and the others
pub longest_count : (rs : List Run) → (longest rs).count ≡ most rs
longest_count [] = refl
longest_count (r ∷ rs) = grind (arith, nat_tests, longest_count rs)

-- taking the longest out
pub record Parted (rs : List Run) (r : Run) (os : List Run) : Type 0 where
  pub counts : total rs ≡ r.count + total os
  pub blocks : (b : ℕ) → times (blocks_of rs) b ≡ times (row r.start r.count) b + times (blocks_of os) b
  pub fewer : length rs ≡ suc (length os)

pub parted : (r : Run) (rs : List Run) → Parted (r ∷ rs) (longest (r ∷ rs)) (others (r ∷ rs))
parted r [] = rw (le-ltb r.count 0 (omega arith)) (record { counts = refl; blocks = λ b. times_append (row r.start r.count) [] b; fewer = refl })
parted r (s ∷ rs) =
    let ih = parted s rs in
    let front = times_append (row r.start r.count) in
    ⊎_elim
    (λ yes. rw yes (record {
      counts = omega (arith, ih.counts);
      blocks = λ b. omega (arith, front (blocks_of (s ∷ rs)) b, ih.blocks b, front (blocks_of (others (s ∷ rs))) b);
      fewer = ap suc ih.fewer;
    }))
    (λ no. rw no (record { counts = refl; blocks = λ b. front (blocks_of (s ∷ rs)) b; fewer = refl }))
    (cases_Bool (ltb r.count (most (s ∷ rs))))

-- a fit
pub fit_count : (n : ℕ) (rs : List Run) → n ≤ most rs → (lowest_fit n rs).count ≡ n
fit_count n [] le = omega arith
fit_count n (r ∷ rs) le = grind (arith, nat_tests, fit_count n rs)

pub times_row_le : (s n k b : ℕ) → n ≤ k → times (row s n) b ≤ times (row s k) b
times_row_le s zero k b le = omega arith
times_row_le s (suc n) zero b le = absurd (omega arith)
times_row_le s (suc n) (suc k) b le = omega (arith, times_cons s (row (suc s) n) b, times_cons s (row (suc s) k) b, times_row_le (suc s) n k b (omega arith))

pub fit_blocks : (n : ℕ) (rs : List Run) (b : ℕ) → n ≤ most rs → times (row (lowest_fit n rs).start (lowest_fit n rs).count) b ≤ times (blocks_of rs) b
fit_blocks n [] b le = omega arith
fit_blocks n (r ∷ rs) b le =
    let parts = times_append (row r.start r.count) (blocks_of rs) b in
    cond_both (leb n r.count) _ _ (λ (x : Run). times (row x.start x.count) b ≤ times (blocks_of (r ∷ rs)) b)
    (λ e. grind (arith, nat_tests, parts, times_row_le r.start n r.count b))
    (λ e. grind (arith, nat_tests, parts, fit_blocks n rs b))

-- a split has n blocks, and none that the runs lack
pub split_total : (k n : ℕ) (rs : List Run) → length rs ≤ k → n ≤ total rs → total (split_up_to k n rs) ≡ n
split_total zero n [] short le = omega arith
split_total zero n (r ∷ rs) short le = absurd (omega arith)
split_total (suc k) n [] short le = grind (arith, nat_tests)
split_total (suc k) n (r ∷ rs) short le =
    grind (arith, nat_tests, fit_count n (r ∷ rs), longest_count (r ∷ rs), parted r rs, split_total k (n - most (r ∷ rs)) (others (r ∷ rs)))

pub split_blocks : (k n : ℕ) (rs : List Run) (b : ℕ) → times (blocks_of (split_up_to k n rs)) b ≤ times (blocks_of rs) b
split_blocks zero n rs b = omega arith
split_blocks (suc k) n [] b = grind (arith, nat_tests, split_blocks k n [] b)
split_blocks (suc k) n (r ∷ rs) b =
    let f = lowest_fit n (r ∷ rs) in
    let l = longest (r ∷ rs) in
    let rest = split_up_to k (n - most (r ∷ rs)) (others (r ∷ rs)) in
    cond_both (leb n (most (r ∷ rs))) _ _ (λ x. times (blocks_of x) b ≤ times (blocks_of (r ∷ rs)) b)
    (λ e. omega (arith, times_append (row f.start f.count) [] b, fit_blocks n (r ∷ rs) b (leb-true n (most (r ∷ rs)) e)))
    (λ _. omega (arith, times_append (row l.start l.count) (blocks_of rest) b, (parted r rs).blocks b, split_blocks k (n - most (r ∷ rs)) (others (r ∷ rs)) b))

-- the blocks of the runs are the free blocks, each once
pub blocks_before : (s : ℕ) (rs : List Run) → blocks_of (run_before true s rs) ≡ s ∷ blocks_of rs
blocks_before s [] = refl
blocks_before s (r ∷ rs) = grind (arith, nat_tests)

pub times_before : (x : Bool) (s : ℕ) (rs : List Run) (b : ℕ) → times (blocks_of (run_before x s rs)) b ≡ cond x (one_if (eqb s b)) 0 + times (blocks_of rs) b
times_before false s rs b = omega arith
times_before true s rs b = rw (blocks_before s rs) (times_cons s (blocks_of rs) b)

pub record Once (free : Blocks) (s : ℕ) (bs : List ℕ) (b : ℕ) : Type 0 where
  pub below : b < s → times bs b ≡ 0
  pub free_only : times bs b ≤ one_if (free b)

pub runs_once : (free : Blocks) (s n b : ℕ) → Once free s (blocks_of (runs_from free s n)) b
runs_once free s zero b = record { below = λ _. refl; free_only = omega arith }
runs_once free s (suc n) b = grind (arith, nat_tests, times_before (free s) s (runs_from free (suc s) n) b, runs_once free (suc s) n b)
