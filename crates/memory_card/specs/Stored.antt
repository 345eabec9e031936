-- The blocks of a memory are a card's contents: how many, which, and that they are whole.
use Rattle.std.specs.Prelude.{◌≡◌, ℕ, ◌+◌, ◌*◌, ◌/◌, ◌<◌, ◌≤◌, min, List, [], length, slice_index_or}
use Rattle.std.proofs.Common.{arith}
use Rattle.std.proofs.lemmas.List.FromFn.{length-map-range_with_len, get_or-map-range_with_len}
use Rattle.std.proofs.lemmas.List.{length-take, length-drop}
use Rattle.memory_card.specs.Blocks.{block_of, blocks_of}
use Rattle.card.specs.Cards.{Shaped}

pub length_blocks : (memory : List ℕ) → length (blocks_of memory) ≡ min 16777216 (length memory / 512)
unfolding blocks_of
length_blocks memory = length-map-range_with_len (block_of memory) 0 (min 16777216 (length memory / 512))

module _ (memory : List ℕ) (k : ℕ) (inside : k < length (blocks_of memory)) where
  pub block_at : slice_index_or (blocks_of memory) k [] ≡ block_of memory k
  unfolding blocks_of
  block_at = let h : k < min 16777216 (length memory / 512) = omega (arith, length_blocks memory) in get_or-map-range_with_len (block_of memory) 0 _ k k [] h (omega arith)

  pub block_fits : k * 512 + 512 ≤ length memory
  block_fits = let n = length_blocks memory in omega arith

  pub length_block : length (block_of memory k) ≡ 512
  length_block = let f = block_fits in simp (length-take, length-drop) (omega arith)

pub blocks_shaped : (memory : List ℕ) → Shaped (blocks_of memory)
blocks_shaped memory = record {
  few = let n = length_blocks memory in omega arith;
  whole = λ k h. rw (block_at memory k h) (length_block memory k h);
}
