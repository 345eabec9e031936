-- The free runs are the only rising rows that have just the free blocks.
use Rattle.std.proofs.Common.{◌≡◌, ℕ, zero, suc, ◌+◌, ◌<◌, ◌≤◌, Bool, true, false, ltb, List, [], ◌∷◌, refl, ⊎_elim, arith}
use Rattle.std.proofs.lemmas.Bool.Decides.{nat_tests}
use Rattle.std.proofs.lemmas.Bool.{cases_lt}
use Rattle.model.specs.Space.{Blocks, times, Run, run_before, runs_from, runs, row, blocks_of}
use Rattle.model.specs.Ownership.{one_if}
use Rattle.model.specs.Exact.{Rising, RunsExact}
use Rattle.model.proofs.Choosing.{times_cons, times_append, row_below, row_once, times_before, runs_once}

pub rising_weaker : (v s t : ℕ) (rs : List Run) → t ≤ s → Rising v s rs → Rising v t rs
rising_weaker v s t [] le r = tt
rising_weaker v s t (r ∷ rs) le q = (omega (arith, q.0), q.1, q.2, q.3)

-- the blocks of rising runs are not below
rising_none : (v s b : ℕ) (rs : List Run) → Rising v s rs → b < s → times (blocks_of rs) b ≡ 0
rising_none v s b [] r lt = refl
rising_none v s b (r ∷ rs) q lt = grind (arith, times_append (row r.start r.count) (blocks_of rs) b, row_below r.start r.count b, rising_none v (suc (r.start + r.count)) b rs)

rising_before : (v s : ℕ) (x : Bool) (rs : List Run) → s < v → Rising v (suc s) rs → Rising v s (run_before x s rs)
rising_before v s false rs lt r = rising_weaker v (suc s) s rs (omega arith) r
rising_before v s true [] lt r = (omega arith, omega arith, omega arith, tt)
rising_before v s true (r ∷ rs) lt q = grind (arith, nat_tests, rising_weaker v (suc (r.start + r.count)) (suc (s + suc r.count)) rs)

runs_rise : (free : Blocks) (v s n : ℕ) → s + n ≡ v → Rising v s (runs_from free s n)
runs_rise free v s zero e = tt
runs_rise free v s (suc n) e = rising_before v s (free s) (runs_from free (suc s) n) (omega arith) (runs_rise free v (suc s) n (omega arith))

runs_stand : (free : Blocks) (s n b : ℕ) → s ≤ b → b < s + n → times (blocks_of (runs_from free s n)) b ≡ one_if (free b)
runs_stand free s zero b le lt = absurd (omega arith)
runs_stand free s (suc n) b le lt =
    let later = runs_from free (suc s) n in
    grind (arith, nat_tests, times_before (free s) s later b, (runs_once free (suc s) n b).below, runs_stand free (suc s) n b)

before_gap : (v s : ℕ) (rs : List Run) → Rising v (suc (s + 1)) rs → run_before true s rs ≡ record { start = s; count = 1 } ∷ rs
before_gap v s [] r = refl
before_gap v s (r ∷ rs) q = grind (arith, nat_tests)

-- the runs have just the free blocks from s up to v
abbrev Just : Blocks → ℕ → ℕ → List Run → Type 0
Just free s v rs = (b : ℕ) → s ≤ b → b < v → times (blocks_of rs) b ≡ one_if (free b)

-- a run that begins at s, if all behind it is as it should be
first_run : (free : Blocks) (v n s c : ℕ) (rs : List Run) → Rising v s (record { start = s; count = c } ∷ rs) → Just free s v (record { start = s; count = c } ∷ rs)
    → ((l : List Run) → Rising v (suc s) l → Just free (suc s) v l → runs_from free (suc s) n ≡ l) → run_before (free s) s (runs_from free (suc s) n) ≡ record { start = s; count = c } ∷ rs
first_run free v n s zero rs q just ih = absurd (omega (arith, q.1))
first_run free v n s (suc zero) rs q just ih =
    let open_here : free s ≡ true = grind (arith, nat_tests, just s, times_cons s (blocks_of rs) s) in
    let later = ih rs (rising_weaker v (suc (s + 1)) (suc s) rs (omega arith) q.3) (λ b le lt. grind (arith, nat_tests, times_cons s (blocks_of rs) b, just b)) in
    rw (open_here, later) (before_gap v s rs q.3)
first_run free v n s (suc (suc c)) rs q just ih =
    let l : List Run = record { start = suc s; count = suc c } ∷ rs in
    let open_here : free s ≡ true = grind (arith, nat_tests, just s, times_cons s (blocks_of l) s) in
    let up : Rising v (suc s) l = (omega arith, omega arith, omega (arith, q.2), rising_weaker v (suc (s + suc (suc c))) (suc (suc s + suc c)) rs (omega arith) q.3) in
    let later = ih l up (λ b le lt. grind (arith, nat_tests, times_cons s (blocks_of l) b, just b)) in
    rw (open_here, later) (grind (arith, nat_tests))

runs_only : (free : Blocks) (v n s : ℕ) (rs : List Run) → s + n ≡ v → Rising v s rs → Just free s v rs → runs_from free s n ≡ rs
runs_only free v zero s [] e r all = refl
runs_only free v zero s (r ∷ rs) e q all = absurd (omega (arith, q.0, q.1, q.2))
runs_only free v (suc n) s [] e r all =
    let shut : free s ≡ false = grind (arith, all s) in
    rw (shut, runs_only free v n (suc s) [] (omega arith) tt (λ b le lt. all b (omega arith) lt))
runs_only free v (suc n) s (r ∷ rs) e q all =
    ⊎_elim
    (λ lt.
    let higher : Rising v (suc s) (r ∷ rs) = (lt, q.1, q.2, q.3) in
    let shut : free s ≡ false = grind (arith, all s, rising_none v (suc s) s (r ∷ rs) higher) in
    rw (shut, runs_only free v n (suc s) (r ∷ rs) (omega arith) higher (λ b le lt'. all b (omega arith) lt')))
    (λ ge.
    let same : s ≡ r.start = omega (arith, q.0) in
    rw same (first_run free v n r.start r.count rs (omega arith, q.1, q.2, q.3) (λ b le lt. all b (omega arith) lt) (λ l rise just. runs_only free v n (suc r.start) l (omega arith) rise just)))
    (cases_lt s r.start)

pub runs_exact : RunsExact
runs_exact = record {
  rising = λ free v. runs_rise free v 0 v (omega arith);
  stand = λ free v b lt. runs_stand free 0 v b (omega arith) (omega arith);
  only = λ free v rs rise just. runs_only free v v 0 rs (omega arith) rise (λ b _ lt. just b lt);
}

-- a new volume has one free run
pub fresh_runs : (v : ℕ) → 0 < v → runs (λ b. ltb b v) v ≡ record { start = 0; count = v } ∷ []
fresh_runs v pos =
    runs_exact.only (λ b. ltb b v) v (record { start = 0; count = v } ∷ []) (omega arith, pos, omega arith, tt)
    (λ b lt. grind (arith, nat_tests, times_append (row 0 v) [] b, row_once 0 v b))
