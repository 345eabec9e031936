-- Limits: what every volume keeps within.
use Rattle.std.specs.Prelude.{◌≡◌, ℕ, suc, ◌<◌, ◌≤◌, not, List, [], ◌∷◌, length, Ok, Err, sum_by, count_by}
use Rattle.card.specs.Sizes.{block_size, most_blocks}
use Rattle.calls.specs.declared.kind.Kind.{Kind}
use Rattle.calls.specs.declared.kind.Kind.TheVariants.{Hole, Reserved, Written}
use Rattle.calls.specs.declared.refusal.Refusal.TheVariants.{OutsideLimits, SmallCard}
use Rattle.model.specs.Places.{Place, zeros, is_hole}
use Rattle.model.specs.Extents.{Extent, extents}
use Rattle.model.specs.Space.{runs}
use Rattle.model.specs.Store.{Config, Model, file_count, most_places, fresh, file, place, free_runs}
use Rattle.model.specs.Rules.{most_extent_entries, most_run_entries, build}
use Rattle.model.specs.Replay.{Request, reached}

-- block and bytes go with the kind: a hole has block 0, and what is not written shows zeros
abbrev pub TidyAs : Kind → Place → Type 0
TidyAs Hole p = (p.block ≡ 0) × (p.bytes ≡ zeros)
TidyAs Reserved p = p.bytes ≡ zeros
TidyAs Written p = length p.bytes ≡ block_size

-- of a place by its own kind
abbrev pub Tidy : Place → Type 0
Tidy p = TidyAs p.kind p

-- the limits of a volume
pub record Within (c : Config) (m : Model) : Type 0 where
  pub files : length m.files ≡ file_count
  pub places : (f : ℕ) → length (file m f) ≤ most_places
  pub tidy : (f k : ℕ) → Tidy (place m f k)
  pub entries : sum_by (λ ps. length (extents ps)) m.files ≤ c.entries

-- After any calls, no file is too long, the extents fit into their table, and block and bytes of a place go with its kind.
abbrev pub LimitsKept : Type 0
LimitsKept = (c : Config) (qs : List Request) → Within c (reached c qs)

-- how many extents own blocks
abbrev pub owning : List Extent → ℕ
owning es = count_by (λ (e : Extent). not (is_hole e.kind)) es

-- how many extents of all files own blocks
abbrev pub owning_count : Model → ℕ
owning_count m = sum_by (λ ps. owning (extents ps)) m.files

-- After any calls, the free runs are at most one more than the extents that own blocks.
abbrev pub FewRuns : Type 0
FewRuns = (c : Config) (qs : List Request) → length (free_runs c (reached c qs)) ≤ suc (owning_count (reached c qs))

-- the sizes that a volume may be built with
pub record Allowed (v extent_entries run_entries : ℕ) : Type 0 where
  pub some_blocks : 1 ≤ v
  pub few_blocks : v ≤ most_blocks
  pub some_extents : 1 ≤ extent_entries
  pub few_extents : extent_entries ≤ most_extent_entries
  pub some_runs : suc extent_entries ≤ run_entries
  pub few_runs : run_entries ≤ most_run_entries

-- Build makes a new volume of the size asked for, where sizes and card allow it: empty files and one free run.
pub record Builds : Type 0 where
  pub files : (v f : ℕ) → file (fresh v) f ≡ []
  pub one_run : (v : ℕ) → 0 < v → runs (fresh v).free v ≡ record { start = 0; count = v } ∷ []
  pub granted : (v e r n : ℕ) → Allowed v e r → v ≤ n → build v e r n ≡ Ok (fresh v)
  pub small : (v e r n : ℕ) → Allowed v e r → n < v → build v e r n ≡ Err SmallCard
  pub outside : (v e r n : ℕ) → (Allowed v e r → ⊥) → build v e r n ≡ Err OutsideLimits
