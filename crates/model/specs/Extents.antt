-- The extents of a file: its longest stretches of places that belong together.
use Rattle.std.specs.Prelude.{ℕ, zero, suc, ◌+◌, Bool, ◌&&◌, ◌||◌, List, [], ◌∷◌, ◌++◌, length, decimal, ◌==◌, nat_lt, slice_index_or, if◌then◌else◌}
use Rattle.calls.specs.declared.kind.Kind.{Kind}
use Rattle.calls.specs.Kinds.{kind_letter, kind_number}
use Rattle.model.specs.Places.{Place, hole, is_hole}

-- a stretch of places of one kind: how many, and the block of the first (0 for holes)
pub record Extent : Type 0 where
  pub kind : Kind
  pub count : ℕ
  pub block : ℕ

-- whether two kinds are one
abbrev pub same_kind : Kind → Kind → Bool
same_kind k j = kind_number k == kind_number j

-- whether a place of kind j on block b goes on from one of kind k on block a: both are holes, or both of one other kind and b is the next block
abbrev pub goes_on : Kind → ℕ → Kind → ℕ → Bool
goes_on k a j b = same_kind k j && (is_hole k || suc a == b)

-- a place of kind k on block b, put before the extents of the places behind it
abbrev pub before : Kind → ℕ → List Extent → List Extent
before k b [] = record { kind = k; count = 1; block = b } ∷ []
before k b (e ∷ es) =
    if goes_on k b e.kind e.block then record { kind = k; count = suc e.count; block = b } ∷ es
    else record { kind = k; count = 1; block = b } ∷ e ∷ es

-- the extents of a list of places, in order
abbrev pub extents : List Place → List Extent
extents [] = []
extents (p ∷ ps) = before p.kind p.block (extents ps)

-- 1 where places at - 1 and at are in one extent, else 0, as at place 0 and at the length
abbrev pub cut : List Place → ℕ → ℕ
cut ps zero = 0
cut ps (suc i) =
    let p = slice_index_or ps i hole in
    let q = slice_index_or ps (suc i) hole in
    if nat_lt (suc i) (length ps) && goes_on p.kind p.block q.kind q.block then 1 else 0

-- how many places the first extent has
abbrev pub leading_count : List Extent → ℕ
leading_count [] = 0
leading_count (e ∷ es) = e.count

-- a map's line: first place, number of places, letter of the kind, block; spaces (32) between, byte 10 at the end
abbrev pub line : ℕ → Extent → List ℕ
line at e = decimal at ++ (32 ∷ decimal e.count ++ (32 ∷ kind_letter e.kind ∷ 32 ∷ decimal e.block ++ (10 ∷ [])))

-- a line for each extent, where the first begins at place at
abbrev pub lines : ℕ → List Extent → List ℕ
lines at [] = []
lines at (e ∷ es) = line at e ++ lines (at + e.count) es

-- the map of a file
abbrev pub map_text : List Place → List ℕ
map_text ps = lines 0 (extents ps)
