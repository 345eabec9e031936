-- The lowest run that fits.
use Rattle.std.proofs.Common.{◌≡◌, ℕ, zero, suc, ◌+◌, ◌≤◌, Bool, true, eqb, List, [], ◌∷◌, sym, refl, ⊎_elim, arith}
use Rattle.std.proofs.lemmas.Bool.Decides.{nat_tests}
use Rattle.std.proofs.lemmas.Bool.{eq-eqb, cond_both, cases_eq}
use Rattle.model.specs.Space.{Blocks, Run, run_before, runs_from, most, lowest_fit}
use Rattle.model.specs.Pieces.{AllFree}

-- the first run starts at s and has n blocks or more
pub data Starts (s n : ℕ) : List Run → Type 0 where
  starts : {r : Run} {rs : List Run} → r.start ≡ s → n ≤ r.count → Starts s n (r ∷ rs)

pub starts_one : (s : ℕ) (rs : List Run) → Starts s 1 (run_before true s rs)
starts_one s [] = starts refl (omega arith)
starts_one s (r ∷ rs) = cond_both (eqb (suc s) r.start) _ _ (λ os. Starts s 1 os) (λ _. starts refl (omega arith)) (λ _. starts refl (omega arith))

starts_more : (s n : ℕ) {rs : List Run} → Starts (suc s) n rs → Starts s (suc n) (run_before true s rs)
starts_more s n (starts {r = r} {rs = rs} at le) = rw (eq-eqb (suc s) r.start (sym at)) (starts {r = record { start = s; count = suc r.count }} refl (omega arith))

all_starts : (free : Blocks) (n s w : ℕ) → suc n ≤ w → AllFree free s (suc n) → Starts s (suc n) (runs_from free s w)
all_starts free n s zero le all = absurd (omega arith)
all_starts free zero s (suc w) le all = let here : free s ≡ true = grind (arith, all 0) in rw here (starts_one s (runs_from free (suc s) w))
all_starts free (suc n) s (suc w) le all =
    let here : free s ≡ true = grind (arith, all 0) in
    rw here (starts_more s (suc n) (all_starts free n (suc s) w (omega arith) (λ i lt. grind (arith, all (suc i)))))

-- there is a fit, and the lowest starts at b or below
pub record Fits (n b : ℕ) (rs : List Run) : Type 0 where
  pub room : n ≤ most rs
  pub low : (lowest_fit n rs).start ≤ b

starts_fits : (s n : ℕ) {rs : List Run} → Starts s n rs → Fits n s rs
starts_fits s n (starts at le) = grind (arith, nat_tests)

fits_before : (x : Bool) (s b n : ℕ) (rs : List Run) → s ≤ b → Fits n b rs → Fits n b (run_before x s rs)
fits_before x s b n rs le f = grind (arith, nat_tests)

pub fits_from : (free : Blocks) (n b s w : ℕ) → s ≤ b → b + suc n ≤ s + w → AllFree free b (suc n) → Fits (suc n) b (runs_from free s w)
fits_from free n b s zero le fit all = absurd (omega arith)
fits_from free n b s (suc w) le fit all =
    ⊎_elim
    (λ (same : b ≡ s). rw same (starts_fits s (suc n) (all_starts free n s (suc w) (omega arith) (rw same at all))))
    (λ other. fits_before (free s) s b (suc n) (runs_from free (suc s) w) le (fits_from free n b (suc s) w (omega arith) (omega arith) all))
    (cases_eq b s)
