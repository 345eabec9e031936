-- Rows of free blocks and the runs that they lie in.
use Rattle.std.proofs.Common.{◌≡◌, ℕ, zero, suc, ◌+◌, ◌<◌, ◌≤◌, false, List, [], ◌∷◌, refl, ap, ◌∙◌, arith}
use Rattle.std.proofs.lemmas.List.{append-nil}
use Rattle.std.proofs.lemmas.Bool.Decides.{nat_tests}
use Rattle.model.specs.Space.{Blocks, times, Run, runs, most, longest, lowest_fit, whole, row, blocks_of}
use Rattle.model.specs.Ownership.{one_if}
use Rattle.model.specs.Pieces.{AllFree, LowestRow, LongestRow}
use Rattle.model.specs.Exact.{Rising}
use Rattle.model.proofs.Choosing.{row_once, parted, longest_count, fit_count}
use Rattle.model.proofs.Owners.{free_of_runs, whole_free}
use Rattle.model.proofs.Lowest.{Fits, fits_from}
use Rattle.model.proofs.ExactRuns.{runs_exact}

-- a row whose blocks are all free, counted
row_free : (free : Blocks) (s n : ℕ) → ((b : ℕ) → times (row s n) b ≤ one_if (free b)) → AllFree free s n
row_free free s n within i lt = grind (arith, row_once s n (s + i), within (s + i))

-- the lowest fit of the greatest length is the longest run
longest_fit : (rs : List Run) → (lowest_fit (most rs) rs).start ≡ (longest rs).start
longest_fit [] = refl
longest_fit (r ∷ rs) = grind (arith, nat_tests, longest_fit rs)

longest_blocks : (rs : List Run) (b : ℕ) → times (row (longest rs).start (longest rs).count) b ≤ times (blocks_of rs) b
longest_blocks [] b = omega arith
longest_blocks (r ∷ rs) b = omega (arith, (parted r rs).blocks b)

-- over a volume of v blocks
module _ (free : Blocks) (v : ℕ) (below : (b : ℕ) → v ≤ b → free b ≡ false) where
  pub fits_at : (n b : ℕ) → 0 < n → AllFree free b n → Fits n b (runs free v)
  fits_at zero b pos all = absurd (omega arith)
  fits_at (suc n) b pos all = fits_from free n b 0 v (omega arith) (grind (arith, below (b + n), all n)) all

  pub no_row : (n : ℕ) → most (runs free v) < n → (b : ℕ) → AllFree free b n → ⊥
  no_row n lt b all = omega (arith, (fits_at n b (omega arith) all).room)

  pub whole_lowest : (n : ℕ) → 0 < n → n ≤ most (runs free v) → LowestRow free n (blocks_of (whole n (runs free v)))
  whole_lowest n pos le =
      let rs = runs free v in
      let r = lowest_fit n rs in
      let is : blocks_of (whole n rs) ≡ row r.start n = append-nil (row r.start r.count) ∙ ap (row r.start) (fit_count n rs le) in
      record {
        start = r.start;
        is_row = is;
        is_free = row_free free r.start n (λ b. omega (arith, whole_free free v n b le, ap (λ l. times l b) is));
        is_lowest = λ b all. (fits_at n b pos all).low;
      }

  pub longest_row : LongestRow free (longest (runs free v)).start (longest (runs free v)).count
  longest_row = record {
    is_free = row_free free (longest (runs free v)).start (longest (runs free v)).count (λ b. omega (arith, longest_blocks (runs free v) b, free_of_runs free v b));
    is_longest = λ x all. no_row (suc (longest (runs free v)).count) (omega (arith, longest_count (runs free v))) x all;
    is_lowest = λ x all. low (runs free v) (runs_exact.rising free v) (λ pos. omega (arith, (fits_at (most (runs free v)) x pos (rw (longest_count (runs free v)) at all)).low, longest_fit (runs free v)));
  }
    where
      low : {x : ℕ} (rs : List Run) → Rising v 0 rs → (0 < most rs → (longest rs).start ≤ x) → (longest rs).start ≤ x
      low [] rise pos = omega arith
      low (r ∷ rs) rise pos = pos (omega (arith, rise.1))
