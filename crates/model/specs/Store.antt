-- The store as its rules see it: 64 lists of places and a set of free blocks.
use Rattle.std.specs.Prelude.{ℕ, ◌+◌, ◌-◌, ◌||◌, List, [], length, replicate, sum_by, nat_lt, slice_index_or, slice_set}
use Rattle.calls.specs.declared.kind.Kind.TheVariants.{Written}
use Rattle.model.specs.Places.{Place, hole, held, range, inserted, collapsed, punched, reserved}
use Rattle.model.specs.Extents.{extents, cut}
use Rattle.model.specs.Space.{Blocks, without, Run, runs}

-- what a volume is made with: the number of its blocks, the entries of its extent table, and the worn blocks of its card
pub record Config : Type 0 where
  pub volume : ℕ
  pub entries : ℕ
  pub worn : Blocks

-- the places of each file, and which blocks are free
pub record Model : Type 0 where
  pub files : List (List Place)
  pub free : Blocks

-- the number of files
abbrev pub file_count : ℕ
file_count = 64

-- the most places that a file may have
abbrev pub most_places : ℕ
most_places = 16777216

-- a new volume of v blocks: empty files, and every block free
abbrev pub fresh : ℕ → Model
fresh v = record { files = replicate file_count []; free = λ b. nat_lt b v }

-- the places of file f; none past the last file
abbrev pub file : Model → ℕ → List Place
file m f = slice_index_or m.files f []

-- place at of file f; a hole past its end
abbrev pub place : Model → ℕ → ℕ → Place
place m f at = slice_index_or (file m f) at hole

-- how many extents all files have
abbrev pub extent_count : Model → ℕ
extent_count m = sum_by (λ ps. length (extents ps)) m.files

-- the entries of the extent table that no extent needs
abbrev pub spare : Config → Model → ℕ
spare c m = c.entries - extent_count m

-- 1 for each end of a range that lies inside an extent
abbrev pub both_cuts : Model → ℕ → ℕ → ℕ → ℕ
both_cuts m f at n = cut (file m f) at + cut (file m f) (at + n)

-- the free runs of the volume
abbrev pub free_runs : Config → Model → List Run
free_runs c m = runs m.free c.volume

-- the free blocks, joined by those that places are on
abbrev pub freed : Blocks → List Place → Blocks
freed free ps b = free b || nat_lt 0 (held ps b)

-- one file and the free blocks replaced
abbrev pub with_file : Model → ℕ → List Place → Blocks → Model
with_file m f ps free = record { files = slice_set m.files f ps; free = free }

-- n holes before place at of file f
abbrev pub insert : Model → ℕ → ℕ → ℕ → Model
insert m f at n = with_file m f (inserted (file m f) at n) m.free

-- n places from place at on of file f out, and their blocks free
abbrev pub collapse : Model → ℕ → ℕ → ℕ → Model
collapse m f at n = with_file m f (collapsed (file m f) at n) (freed m.free (range (file m f) at n))

-- n places from place at on of file f holes, and their blocks free
abbrev pub punch : Model → ℕ → ℕ → ℕ → Model
punch m f at n = with_file m f (punched (file m f) at n) (freed m.free (range (file m f) at n))

-- the places from place at on of file f reserved on these blocks, which are no longer free
abbrev pub reserve : Model → ℕ → ℕ → List ℕ → Model
reserve m f at bs = with_file m f (reserved (file m f) at bs) (without m.free bs)

-- place at of file f written with these bytes, on its block
abbrev pub write : Model → ℕ → ℕ → List ℕ → Model
write m f at bytes = with_file m f (slice_set (file m f) at (record { kind = Written; block = (place m f at).block; bytes = bytes })) m.free

-- file f empty, and its blocks free
abbrev pub empty : Model → ℕ → Model
empty m f = with_file m f [] (freed m.free (file m f))
