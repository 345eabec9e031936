-- A memory as blocks.
use Rattle.std.specs.Prelude.{ℕ, ◌*◌, ◌/◌, min, List, map, length, take, drop}
use Rattle.std.specs.Borrow.{GName}
use Rattle.std.specs.List.{range_with_len}
use Rattle.card.specs.Sizes.{block_size, most_blocks}

-- the 512 bytes from k * 512 on
abbrev pub block_of : List ℕ → ℕ → List ℕ
block_of memory k = take block_size (drop (k * block_size) memory)

-- as many whole blocks as fit, at most 2^24
unfoldable pub blocks_of : List ℕ → List (List ℕ)
blocks_of memory = map (block_of memory) (range_with_len 0 (min most_blocks (length memory / block_size)))

-- the bytes behind the last block, which are in none
abbrev pub rest_of : List ℕ → List ℕ
rest_of memory = drop (length (blocks_of memory) * block_size) memory

-- what no call on a memory card changes: the loan, the bytes that are in no block, and the numbers of the worn blocks
pub record MemoryKept : Type 0 where
  pub lender : GName
  pub rest : List ℕ
  pub worn : List ℕ
