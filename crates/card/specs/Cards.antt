-- What a card holds, and what its calls do. A card's contents are its blocks in order, each as its list of bytes.
use Rattle.std.specs.Prelude.{◌≡◌, ℕ, ◌<◌, ◌≤◌, Bool, false, List, [], length, is_ok, Result, slice_index_or, slice_set, if◌then◌else◌}
use Rattle.card.specs.declared.fault.CardFault.{CardFault}
use Rattle.card.specs.Faults.{checked}
use Rattle.card.specs.Sizes.{block_size, most_blocks}

-- at most 2^24 blocks, each of 512 bytes
pub record Shaped (contents : List (List ℕ)) : Type 0 where
  pub few : length contents ≤ most_blocks
  pub whole : (k : ℕ) → k < length contents → length (slice_index_or contents k []) ≡ block_size

-- a read of block b: the buffer then holds the block where the read was granted, else what it held before
pub record Read (contents : List (List ℕ)) (b : ℕ) (before after : List ℕ) (r : Result (Unit {0}) CardFault) : Type 0 where
  pub answer : r ≡ checked (length contents) false b (length before)
  pub buffer : after ≡ (if is_ok r then slice_index_or contents b [] else before)

-- a write of a buffer to block b, which is worn or not: that block alone changes, and only where the write was granted
pub record Written (before : List (List ℕ)) (worn : Bool) (b : ℕ) (buffer : List ℕ) (after : List (List ℕ)) (r : Result (Unit {0}) CardFault) : Type 0 where
  pub answer : r ≡ checked (length before) worn b (length buffer)
  pub contents : after ≡ (if is_ok r then slice_set before b buffer else before)
