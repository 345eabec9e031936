-- The free blocks of a volume, their runs, and which of them a reserve takes.
use Rattle.std.specs.Prelude.{ℕ, zero, suc, ◌+◌, ◌-◌, max, Bool, true, false, ◌&&◌, List, [], ◌∷◌, ◌++◌, length, count_by, ◌==◌, nat_le, nat_lt, if◌then◌else◌}

-- a set of blocks
abbrev pub Blocks : Type 0
Blocks = ℕ → Bool

-- n blocks in a row, from block b on
abbrev pub row : ℕ → ℕ → List ℕ
row b zero = []
row b (suc n) = b ∷ row (suc b) n

-- how often block b stands in a list
abbrev pub times : List ℕ → ℕ → ℕ
times bs b = count_by (λ x. x == b) bs

-- the set without the blocks of a list
abbrev pub without : Blocks → List ℕ → Blocks
without free bs b = free b && times bs b == 0

-- a row of blocks
pub record Run : Type 0 where
  pub start : ℕ
  pub count : ℕ

-- block b, where it is free, put before the runs behind it
abbrev pub run_before : Bool → ℕ → List Run → List Run
run_before false b rs = rs
run_before true b [] = record { start = b; count = 1 } ∷ []
run_before true b (r ∷ rs) =
    if suc b == r.start then record { start = b; count = suc r.count } ∷ rs
    else record { start = b; count = 1 } ∷ r ∷ rs

-- the longest rows of free blocks among n blocks from block b on, rising
abbrev pub runs_from : Blocks → ℕ → ℕ → List Run
runs_from free b zero = []
runs_from free b (suc n) = run_before (free b) b (runs_from free (suc b) n)

-- the free runs of a volume of v blocks
abbrev pub runs : Blocks → ℕ → List Run
runs free v = runs_from free 0 v

-- the blocks of all runs, counted
abbrev pub total : List Run → ℕ
total [] = 0
total (r ∷ rs) = r.count + total rs

-- the length of the longest run
abbrev pub most : List Run → ℕ
most [] = 0
most (r ∷ rs) = max r.count (most rs)

-- the longest run, the lowest of equals; no block where there is none
abbrev pub longest : List Run → Run
longest [] = record { start = 0; count = 0 }
longest (r ∷ rs) = if nat_lt r.count (most rs) then longest rs else r

-- the runs but for that one
abbrev pub others : List Run → List Run
others [] = []
others (r ∷ rs) = if nat_lt r.count (most rs) then r ∷ others rs else rs

-- the first n blocks of the lowest run of at least n; no block where there is none
abbrev pub lowest_fit : ℕ → List Run → Run
lowest_fit n [] = record { start = 0; count = 0 }
lowest_fit n (r ∷ rs) = if nat_le n r.count then record { start = r.start; count = n } else lowest_fit n rs

-- whole: one piece
abbrev pub whole : ℕ → List Run → List Run
whole n rs = lowest_fit n rs ∷ []

-- split: one piece where a run of at least n exists, else the whole of the longest run, and on with the rest of n. No more than k pieces
abbrev pub split_up_to : ℕ → ℕ → List Run → List Run
split_up_to zero n rs = []
split_up_to (suc k) n rs = if nat_le n (most rs) then whole n rs else longest rs ∷ split_up_to k (n - most rs) (others rs)

-- the pieces of a split, in the order taken: never more than there are runs
abbrev pub split : ℕ → List Run → List Run
split n rs = split_up_to (length rs) n rs

-- the blocks of some runs, one run after another
abbrev pub blocks_of : List Run → List ℕ
blocks_of [] = []
blocks_of (r ∷ rs) = row r.start r.count ++ blocks_of rs

-- the most pieces that a split may have
abbrev pub most_pieces : ℕ
most_pieces = 8
