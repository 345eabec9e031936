-- One owner: every block of the volume is free, or in one place of one file.
use Rattle.std.specs.Prelude.{◌≡◌, ℕ, ◌+◌, Bool, List, sum_by, nat_lt, if◌then◌else◌}
use Rattle.model.specs.Places.{held}
use Rattle.model.specs.Store.{Config, Model}
use Rattle.model.specs.Replay.{Request, reached}

-- 1 for true, 0 for false
abbrev pub one_if : Bool → ℕ
one_if b = if b then 1 else 0

-- how many places of all files are on block b
abbrev pub owners : Model → ℕ → ℕ
owners m b = sum_by (λ ps. held ps b) m.files

-- After any calls, a block below V is free or in one place of one file, and not both; any other block is neither.
abbrev pub OneOwner : Type 0
OneOwner = (c : Config) (qs : List Request) (b : ℕ) → owners (reached c qs) b + one_if ((reached c qs).free b) ≡ one_if (nat_lt b c.volume)
