-- Build is granted just where it is allowed.
use Rattle.std.proofs.Common.{◌≡◌, ℕ, suc, Bool, false, ◌||◌, arith}
use Rattle.std.proofs.lemmas.Bool.Decides.{nat_tests}
use Rattle.std.proofs.lemmas.Bool.{true_from_ne_false, lt-ltb, le-ltb}
use Rattle.card.specs.Sizes.{most_blocks}
use Rattle.model.specs.Rules.{outside, most_extent_entries, most_run_entries}
use Rattle.model.specs.Limits.{Allowed, Builds}
use Rattle.model.proofs.ExactRuns.{fresh_runs}
use Rattle.model.proofs.Limits.{fresh_file}

-- the test that build makes of its sizes
abbrev refused : ℕ → ℕ → ℕ → Bool
refused v e r = outside 1 most_blocks v || (outside 1 most_extent_entries e || outside (suc e) most_run_entries r)

allowed_passes : (v e r : ℕ) → Allowed v e r → refused v e r ≡ false
allowed_passes v e r a = grind (arith, nat_tests)

passes_allowed : (v e r : ℕ) → refused v e r ≡ false → Allowed v e r
passes_allowed v e r q = grind (arith, nat_tests)

pub builds : Builds
builds = record {
  files = fresh_file;
  one_run = fresh_runs;
  granted = λ v e r n ok le. rw (allowed_passes v e r ok, le-ltb n v le);
  small = λ v e r n ok lt. rw (allowed_passes v e r ok, lt-ltb n v lt);
  outside = λ v e r n bad. rw (true_from_ne_false (refused v e r) (λ passed. bad (passes_allowed v e r passed)));
}
