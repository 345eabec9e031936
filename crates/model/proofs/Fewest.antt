-- A split has the fewest pieces.
use Rattle.std.proofs.Common.{◌≡◌, ℕ, zero, suc, ◌-◌, ◌<◌, ◌≤◌, false, cond, not, List, [], ◌∷◌, length, count_by, refl, arith}
use Rattle.std.proofs.lemmas.List.Sums.{sum_by-cons, sum_by-append}
use Rattle.std.proofs.lemmas.Bool.{le-leb}
use Rattle.std.proofs.lemmas.Bool.Decides.{nat_tests}
use Rattle.model.specs.Space.{Blocks, times, Run, runs, total, most, others, split_up_to, split, whole, row, blocks_of}
use Rattle.model.specs.Pieces.{Choice, preceded, pieces, LowestRow, Fewest}
use Rattle.model.proofs.Choosing.{some_run, times_cons, times_append, longest_count, split_total}
use Rattle.model.proofs.Owners.{split_free, split_long}
use Rattle.model.proofs.Covering.{sub_total, split_fewest, covered}
use Rattle.model.proofs.Rows.{whole_lowest}
use Rattle.model.proofs.Taking.{split_taken}

-- a row has at most one first block
module _ (ds : List ℕ) where
  row_none : (s l : ℕ) → 0 < times ds s → ((x : ℕ) → times (row (suc s) l) x ≤ times ds x) → count_by (λ b. not (preceded ds b)) (row (suc s) l) ≡ 0
  row_none s zero some within = refl
  row_none s (suc l) some within =
      let parts = times_cons (suc s) (row (suc (suc s)) l) in
      let rest = row_none (suc s) l (grind (arith, nat_tests, within (suc s), parts (suc s))) (λ x. omega (arith, within x, parts x)) in
      grind (arith, nat_tests, sum_by-cons (λ b. cond (not (preceded ds b)) 1 0) (suc s) (row (suc (suc s)) l), rest)

  row_one : (s l : ℕ) → ((x : ℕ) → times (row s l) x ≤ times ds x) → count_by (λ b. not (preceded ds b)) (row s l) ≤ 1
  row_one s zero within = omega arith
  row_one s (suc l) within =
      let parts = times_cons s (row (suc s) l) in
      let rest = row_none s l (grind (arith, nat_tests, within s, parts s)) (λ x. omega (arith, within x, parts x)) in
      grind (arith, sum_by-cons (λ b. cond (not (preceded ds b)) 1 0) s (row (suc s) l), rest)

  rows_le : (qs : List Run) → ((x : ℕ) → times (blocks_of qs) x ≤ times ds x) → count_by (λ b. not (preceded ds b)) (blocks_of qs) ≤ length qs
  rows_le [] within = omega arith
  rows_le (q ∷ qs) within =
      let r = row q.start q.count in
      omega (arith, sum_by-append (λ b. cond (not (preceded ds b)) 1 0) r (blocks_of qs), row_one q.start q.count (λ x. omega (arith, within x, times_append r (blocks_of qs) x)), rows_le qs (λ x. omega (arith, within x, times_append r (blocks_of qs) x)))

-- a split in one piece is the whole
split_one : (n : ℕ) (rs : List Run) → 0 < n → n ≤ total rs → length (split n rs) ≡ 1 → n ≤ most rs
split_one n [] pos fits one = absurd (omega arith)
split_one n (r ∷ rs) pos fits one =
    let rest = split_up_to (length rs) (n - most (r ∷ rs)) (others (r ∷ rs)) in
    grind (arith, nat_tests, split_total (length (r ∷ rs)) n (r ∷ rs), some_run rest, longest_count (r ∷ rs))

split_is_whole : (n : ℕ) (rs : List Run) → 0 < n → n ≤ most rs → split n rs ≡ whole n rs
split_is_whole n [] pos le = absurd (omega arith)
split_is_whole n (r ∷ rs) pos le = rw (le-leb n (most (r ∷ rs)) le)

most_total : (rs : List Run) → most rs ≤ total rs
most_total [] = omega arith
most_total (r ∷ rs) = omega (arith, most_total rs)

-- what is chosen, over a volume of v blocks
module _ (free : Blocks) (v : ℕ) (below : (b : ℕ) → v ≤ b → free b ≡ false) where
  pub split_least : (n : ℕ) → 0 < n → (bs : List ℕ) → Choice free n bs → length (split n (runs free v)) ≤ pieces bs
  split_least n pos bs ch =
      let c = covered free bs ch.apart v below in
      omega (arith, split_fewest (length (runs free v)) n (runs free v) c.0 (omega arith) c.1 pos (omega (arith, c.2, ch.many)), c.3)

  pub has_room : (n : ℕ) (bs : List ℕ) → Choice free n bs → n ≤ total (runs free v)
  has_room n bs ch = let c = covered free bs ch.apart v below in omega (arith, sub_total c.1, c.2, ch.many)

  pub split_choice : (n : ℕ) → n ≤ total (runs free v) → Choice free n (blocks_of (split n (runs free v)))
  split_choice n fits = record { many = split_long (runs free v) n fits; apart = λ b. split_free free v n b }

  module _ (n : ℕ) (pos : 0 < n) (fits : n ≤ total (runs free v)) where
    split_lowest : length (split n (runs free v)) ≡ 1 → LowestRow free n (blocks_of (split n (runs free v)))
    split_lowest one =
        let le = split_one n (runs free v) pos fits one in
        rw (split_is_whole n (runs free v) pos le) (whole_lowest free v below n pos le)

    pub split_good : Fewest free n (length (split n (runs free v))) (blocks_of (split n (runs free v)))
    split_good = record {
      choice = split_choice n fits;
      counted = omega (arith, split_least n pos (blocks_of (split n (runs free v))) (split_choice n fits), rows_le (blocks_of (split n (runs free v))) (split n (runs free v)) (λ x. omega arith));
      fewest = split_least n pos;
      lowest = split_lowest;
      taken = split_taken v (length (runs free v)) n free below (omega arith) pos fits;
    }

  pub whole_good : (n : ℕ) → 0 < n → n ≤ most (runs free v) → Fewest free n 1 (blocks_of (whole n (runs free v)))
  whole_good n pos le = rw (split_is_whole n (runs free v) pos le) at (split_good n pos (omega (arith, most_total (runs free v))))
