-- The free runs are at most one more than the extents that own blocks.
use Rattle.std.proofs.Common.{◌≡◌, ℕ, zero, suc, ◌+◌, ◌<◌, ◌≤◌, Bool, true, false, cond, not, ◌&&◌, eqb, List, [], ◌∷◌, length, sum_by, count_by, refl, arith}
use Rattle.std.proofs.lemmas.List.Sums.{sum_by-cons}
use Rattle.std.proofs.lemmas.Bool.{cond_both}
use Rattle.std.proofs.lemmas.Bool.Decides.{nat_tests}
use Rattle.calls.specs.declared.kind.Kind.{Kind}
use Rattle.model.specs.Places.{Place, is_hole, on, held}
use Rattle.model.specs.Extents.{Extent, goes_on, before, extents}
use Rattle.model.specs.Space.{Blocks, Run, run_before, runs_from, runs}
use Rattle.model.specs.Store.{Config, Model, free_runs}
use Rattle.model.specs.Replay.{reached}
use Rattle.model.specs.Ownership.{one_if, owners}
use Rattle.model.specs.Limits.{owning, owning_count, FewRuns}
use Rattle.model.proofs.Basics.{one_if_le}
use Rattle.model.proofs.Owners.{Sound, reached_sound, held_cons}
use Rattle.model.proofs.Covering.{tally, tally_sum, tally_zero, tally_none}
use Rattle.model.proofs.ExactExtents.{kinds_same}
use Rattle.model.proofs.Entries.{before_head}
use Rattle.model.proofs.Lowest.{Starts, starts, starts_one}

-- runs, counted by their first blocks
abbrev pre : Blocks → ℕ → Bool
pre free zero = false
pre free (suc x) = free x

abbrev opens : Blocks → ℕ → ℕ
opens free x = one_if (free x && not (pre free x))

abbrev follows : Blocks → ℕ → ℕ
follows free x = one_if (free x && pre free x)

before_joins : (s : ℕ) {rs : List Run} → Starts (suc s) 1 rs → length (run_before true s rs) ≡ length rs
before_joins s (starts at le) = grind (arith, nat_tests)

-- one block more in front
runs_more : (free : Blocks) (s n : ℕ) (x y : Bool) → free s ≡ x → free (suc s) ≡ y → length (runs_from free (suc s) n) ≤ tally (opens free) (suc s) n + one_if (free (suc s) && free s) → length (run_before x s (runs_from free (suc s) n)) ≤ tally (opens free) (suc s) n + one_if x
runs_more free s n false y xe ye ih = grind arith
runs_more free s n true false xe ye ih = grind (arith, nat_tests)
runs_more free s zero true true xe ye ih = omega arith
runs_more free s (suc n) true true xe ye ih =
    let h : Starts (suc s) 1 (runs_from free (suc s) (suc n)) = rw ye (starts_one (suc s) (runs_from free (suc (suc s)) n)) in
    omega (arith, before_joins s h, one_if_le (free (suc s) && free s))

runs_opens : (free : Blocks) (s n : ℕ) → length (runs_from free s n) ≤ tally (opens free) s n + follows free s
runs_opens free s zero = omega arith
runs_opens free s (suc n) = grind (arith, runs_more free s n (free s) (free (suc s)) refl refl (runs_opens free (suc s) n))

-- extents that own blocks
owning_cons : (e : Extent) (es : List Extent) → owning (e ∷ es) ≡ one_if (not (is_hole e.kind)) + owning es
owning_cons e es = sum_by-cons (λ (x : Extent). cond (not (is_hole x.kind)) 1 0) e es

owning_grows : (k : Kind) (b : ℕ) (es : List Extent) → owning es ≤ owning (before k b es)
owning_grows k b [] = omega arith
owning_grows k b (e ∷ es) =
    cond_both (goes_on k b e.kind e.block) _ _ (λ x. owning (e ∷ es) ≤ owning x)
    (λ q. grind (arith, owning_cons e es, owning_cons (record { kind = k; count = suc e.count; block = b }) es, kinds_same k e.kind))
    (λ _. omega (arith, owning_cons (record { kind = k; count = 1; block = b }) (e ∷ es)))

owning_new : (k : Kind) (b : ℕ) (e : Extent) (es : List Extent) → is_hole k ≡ false → goes_on k b e.kind e.block ≡ false → owning (before k b (e ∷ es)) ≡ suc (owning (e ∷ es))
owning_new k b e es solid apart = rw apart (grind (arith, owning_cons (record { kind = k; count = 1; block = b }) (e ∷ es)))

-- a place whose next block is free is the last of its extent
module _ (free : Blocks) where
  apart_from : (q r : Place) (rs : List Place) → is_hole q.kind ≡ false → free (suc q.block) ≡ true → ((b : ℕ) → 0 < held (r ∷ rs) b → free b ≡ false) → goes_on q.kind q.block r.kind r.block ≡ false
  apart_from q r rs solid next shut = grind (arith, nat_tests, kinds_same q.kind r.kind, held_cons r rs (suc q.block), shut (suc q.block))

  last_place : (q : Place) (ps : List Place) → is_hole q.kind ≡ false → free (suc q.block) ≡ true → ((b : ℕ) → 0 < held ps b → free b ≡ false) → owning (before q.kind q.block (extents ps)) ≡ suc (owning (extents ps))
  last_place q [] solid next shut = rw solid
  last_place q (r ∷ rs) solid next shut =
      let h = before_head r.kind r.block (extents rs) in
      let apart = apart_from q r rs solid next shut in
      rw h.is (owning_new q.kind q.block h.first h.rest solid (rw (h.kind, h.block) apart))

  abbrev ends_here : Place → Bool
  ends_here q = not (is_hole q.kind) && free (suc q.block)

  ends_le : (ps : List Place) → ((b : ℕ) → 0 < held ps b → free b ≡ false) → count_by ends_here ps ≤ owning (extents ps)
  ends_le [] shut = omega arith
  ends_le (q ∷ ps) shut =
      let shut' : (b : ℕ) → 0 < held ps b → free b ≡ false = λ b lt. shut b (omega (arith, held_cons q ps b)) in
      let more = sum_by-cons (λ x. cond (ends_here x) 1 0) q ps in
      grind (arith, more, ends_le ps shut', last_place q ps, owning_grows q.kind q.block (extents ps))

  -- by blocks instead of by places
  one_le : (b s n : ℕ) → tally (λ x. cond (free (suc x)) (one_if (eqb b x)) 0) s n ≤ one_if (free (suc b))
  one_le b s zero = omega arith
  one_le b s (suc n) = grind (arith, nat_tests, tally_none (λ x. free (suc x)) b (suc s) n, one_le b (suc s) n)

  place_le : (q : Place) (n : ℕ) (hole : Bool) → is_hole q.kind ≡ hole → tally (λ x. cond (free (suc x)) (one_if (not hole && eqb q.block x)) 0) 0 n ≤ one_if (not hole && free (suc q.block))
  place_le q n true e = omega (arith, tally_zero (λ x. free (suc x)) 0 n)
  place_le q n false e = one_le q.block 0 n

  places_le : (n : ℕ) (ps : List Place) → tally (λ x. cond (free (suc x)) (held ps x) 0) 0 n ≤ count_by ends_here ps
  places_le n [] = omega (arith, tally_zero (λ x. free (suc x)) 0 n)
  places_le n (q ∷ ps) =
      let sum = tally_sum (λ x. free (suc x)) (held (q ∷ ps)) (λ x. one_if (on x q)) (held ps) 0 n (held_cons q ps) in
      omega (arith, sum, places_le n ps, place_le q n (is_hole q.kind) refl, sum_by-cons (λ x. cond (ends_here x) 1 0) q ps)

  files_le : (n : ℕ) (fs : List (List Place)) → ((b : ℕ) → 0 < sum_by (λ ps. held ps b) fs → free b ≡ false) → tally (λ x. cond (free (suc x)) (sum_by (λ ps. held ps x) fs) 0) 0 n ≤ sum_by (λ ps. owning (extents ps)) fs
  files_le n [] shut = omega (arith, tally_zero (λ x. free (suc x)) 0 n)
  files_le n (ps ∷ fs) shut =
      let cons : (b : ℕ) → sum_by (λ qs. held qs b) (ps ∷ fs) ≡ held ps b + sum_by (λ qs. held qs b) fs = λ b. sum_by-cons (λ qs. held qs b) ps fs in
      let sum = tally_sum (λ x. free (suc x)) (λ x. sum_by (λ qs. held qs x) (ps ∷ fs)) (held ps) (λ x. sum_by (λ qs. held qs x) fs) 0 n cons in
      omega (arith, sum, places_le n ps, ends_le ps (λ x lt. shut x (omega (arith, cons x))), files_le n fs (λ x lt. shut x (omega (arith, cons x))), sum_by-cons (λ qs. owning (extents qs)) ps fs)

-- each run but one at block 0 has an owned block before it
opens_le : (free : Blocks) (owner : ℕ → ℕ) (v s n : ℕ) → s + n ≤ v → ((b : ℕ) → b < v → 1 ≤ owner b + one_if (free b)) → tally (opens free) (suc s) n ≤ tally (λ x. cond (free (suc x)) (owner x) 0) s n
opens_le free owner v s zero le whole = omega arith
opens_le free owner v s (suc n) le whole = grind (arith, whole s, opens_le free owner v (suc s) n)

few : (c : Config) (m : Model) → Sound c.volume m → length (free_runs c m) ≤ suc (owning_count m)
few c m s = go c.volume s
  where
    go : (v : ℕ) → Sound v m → length (runs m.free v) ≤ suc (owning_count m)
    go zero s = omega arith
    go (suc v) s =
        let a = runs_opens m.free 0 (suc v) in
        let b = opens_le m.free (owners m) v 0 v (omega arith) (λ x lt. grind (arith, nat_tests, s.owned x)) in
        let d = files_le m.free v m.files (λ x lt. grind (arith, s.owned x)) in
        grind (arith, a, b, d)

pub few_runs : FewRuns
few_runs c qs = few c (reached c qs) (reached_sound c qs)
