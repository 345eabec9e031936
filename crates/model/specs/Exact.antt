-- Extents and runs are the only lists with their properties.
use Rattle.std.specs.Prelude.{◌≡◌, ℕ, zero, suc, ◌+◌, ◌<◌, ◌≤◌, List, [], ◌∷◌, ◌++◌, map, length, take, drop, ◌≢◌, slice_index_or, if◌then◌else◌}
use Rattle.calls.specs.declared.kind.Kind.{Kind}
use Rattle.model.specs.Places.{Place, hole, is_hole}
use Rattle.model.specs.Extents.{Extent, extents, cut}
use Rattle.model.specs.Space.{Blocks, times, Run, runs, blocks_of}
use Rattle.model.specs.Ownership.{one_if}
use Rattle.model.specs.Limits.{Tidy}

-- what a file maps a place to: a place without its bytes
pub record Mapping : Type 0 where
  pub kind : Kind
  pub block : ℕ

-- the places of a list without their bytes
abbrev pub mappings : List Place → List Mapping
mappings ps = map (λ (p : Place). record { kind = p.kind; block = p.block }) ps

-- the block behind block b in an extent; holes have block 0 throughout
abbrev pub next : Kind → ℕ → ℕ
next k b = if is_hole k then b else suc b

-- n places of kind k, the first on block b
abbrev pub stretch : Kind → ℕ → ℕ → List Mapping
stretch k b zero = []
stretch k b (suc n) = record { kind = k; block = b } ∷ stretch k (next k b) n

-- the places that extents stand for
abbrev pub spread : List Extent → List Mapping
spread [] = []
spread (e ∷ es) = stretch e.kind e.block e.count ++ spread es

-- the block of the last of n + 1 places
abbrev pub last_block : Kind → ℕ → ℕ → ℕ
last_block k b zero = b
last_block k b (suc n) = last_block k (next k b) n

-- a stretch whose last place is of kind k on block b does not go on in the first of the extents
abbrev pub Apart : Kind → ℕ → List Extent → Type 0
Apart k b [] = Unit {0}
Apart k b (e ∷ es) = e.kind ≡ k → e.block ≢ next k b

-- a stretch of n places is not empty, and ends where the extents behind it begin
abbrev pub Ends : Kind → ℕ → ℕ → List Extent → Type 0
Ends k b zero es = ⊥
Ends k b (suc n) es = Apart k (last_block k b n) es

-- every extent ends where the next begins, and could not be longer
abbrev pub Longest : List Extent → Type 0
Longest [] = Unit {0}
Longest (e ∷ es) = Ends e.kind e.block e.count es × Longest es

-- Extents stand for their places and are longest, and no other list is; cut is 1 just where the places, taken apart there, have one extent more.
pub record ExtentsExact : Type 0 where
  pub stand : (ps : List Place) → ((k : ℕ) → Tidy (slice_index_or ps k hole)) → spread (extents ps) ≡ mappings ps
  pub longest : (ps : List Place) → ((k : ℕ) → Tidy (slice_index_or ps k hole)) → Longest (extents ps)
  pub only : (ps : List Place) (es : List Extent) → ((k : ℕ) → Tidy (slice_index_or ps k hole)) → spread es ≡ mappings ps → Longest es → extents ps ≡ es
  pub cuts : (ps : List Place) (at : ℕ) → length (extents (take at ps)) + length (extents (drop at ps)) ≡ length (extents ps) + cut ps at

-- runs that rise from block s on, none empty, with a block between each two, below v
abbrev pub Rising : ℕ → ℕ → List Run → Type 0
Rising v s [] = Unit {0}
Rising v s (r ∷ rs) = (s ≤ r.start) × (0 < r.count) × (r.start + r.count ≤ v) × Rising v (suc (r.start + r.count)) rs

-- Runs rise and have just the free blocks, and no other list does.
pub record RunsExact : Type 0 where
  pub rising : (free : Blocks) (v : ℕ) → Rising v 0 (runs free v)
  pub stand : (free : Blocks) (v b : ℕ) → b < v → times (blocks_of (runs free v)) b ≡ one_if (free b)
  pub only : (free : Blocks) (v : ℕ) (rs : List Run) → Rising v 0 rs → ((b : ℕ) → b < v → times (blocks_of rs) b ≡ one_if (free b)) → runs free v ≡ rs
