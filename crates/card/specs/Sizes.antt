-- The two numbers that every card has to do with.
use Rattle.std.specs.Prelude.{ℕ}

-- the bytes of a block
abbrev pub block_size : ℕ
block_size = 512

-- the most blocks that a card has
abbrev pub most_blocks : ℕ
most_blocks = 16777216
