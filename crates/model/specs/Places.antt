-- The places of a file, and what the calls make of a list of them.
use Rattle.std.specs.Prelude.{ℕ, Bool, true, false, not, ◌&&◌, List, [], ◌∷◌, ◌++◌, take, drop, replicate, count_by, ◌==◌}
use Rattle.card.specs.Sizes.{block_size}
use Rattle.calls.specs.declared.kind.Kind.{Kind}
use Rattle.calls.specs.declared.kind.Kind.TheVariants.{Hole, Reserved, Written}

-- a place: its kind, the block that it is on (0 for a hole), and the bytes that a read of it shows
pub record Place : Type 0 where
  pub kind : Kind
  pub block : ℕ
  pub bytes : List ℕ

-- what a place shows that is not written
abbrev pub zeros : List ℕ
zeros = replicate block_size 0

-- a new hole
abbrev pub hole : Place
hole = record { kind = Hole; block = 0; bytes = zeros }

-- whether a kind is that of holes
abbrev pub is_hole : Kind → Bool
is_hole Hole = true
is_hole Reserved = false
is_hole Written = false

-- whether a kind is that of reserved places
abbrev pub is_reserved : Kind → Bool
is_reserved Hole = false
is_reserved Reserved = true
is_reserved Written = false

-- whether a place is on block b
abbrev pub on : ℕ → Place → Bool
on b p = not (is_hole p.kind) && p.block == b

-- how many of the places are on block b
abbrev pub held : List Place → ℕ → ℕ
held ps b = count_by (on b) ps

-- whether the places are all holes
abbrev pub all_holes : List Place → Bool
all_holes [] = true
all_holes (p ∷ ps) = is_hole p.kind && all_holes ps

-- n places from place at on
abbrev pub range : List Place → ℕ → ℕ → List Place
range ps at n = take n (drop at ps)

-- n holes put before place at
abbrev pub inserted : List Place → ℕ → ℕ → List Place
inserted ps at n = take at ps ++ (replicate n hole ++ drop at ps)

-- n places from place at on taken out
abbrev pub collapsed : List Place → ℕ → ℕ → List Place
collapsed ps at n = take at ps ++ drop n (drop at ps)

-- n places from place at on turned into holes
abbrev pub punched : List Place → ℕ → ℕ → List Place
punched ps at n = take at ps ++ (replicate n hole ++ drop n (drop at ps))

-- the first places reserved on these blocks, one each
abbrev pub laid : List ℕ → List Place → List Place
laid [] ps = ps
laid (b ∷ bs) [] = []
laid (b ∷ bs) (p ∷ ps) = record { kind = Reserved; block = b; bytes = p.bytes } ∷ laid bs ps

-- the places from place at on reserved on these blocks
abbrev pub reserved : List Place → ℕ → List ℕ → List Place
reserved ps at bs = take at ps ++ laid bs (drop at ps)
