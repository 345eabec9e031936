-- A write into a memory, block by block.
use Rattle.std.proofs.Common.{◌≡◌, ℕ, ◌+◌, ◌*◌, ◌/◌, ◌<◌, ◌≤◌, min, ◌≢◌, List, [], length, get_or, take, drop, set, sym, ap, ◌∙◌, ⊎_elim, arith}
use borrow.Rule.Slice.PartMut.{put_mid}
use Rattle.std.proofs.lemmas.List.{ext_get_or, length-append, drop_at, take_at, drop-take, length-take, length-drop, length-set, get_or-set_same, get_or-set_other}
use Rattle.std.proofs.lemmas.Bool.{cases_eq, cases_lt}
use Rattle.std.proofs.lemmas.Bool.Decides.{nat_tests}
use Rattle.std.proofs.lemmas.Slice.{take-put_mid_below, drop-put_mid}
use Rattle.memory_card.specs.Blocks.{block_of, blocks_of, rest_of}
use Rattle.memory_card.specs.Stored.{length_blocks, block_at, block_fits}

module _ (memory block : List ℕ) (b : ℕ) (fits : b * 512 + 512 ≤ length memory) (whole : length block ≡ 512) where
  length_put : length (put_mid (b * 512) 512 memory block) ≡ length memory
  length_put = simp (length-append, length-take, length-drop) (omega arith)

  put_here : block_of (put_mid (b * 512) 512 memory block) b ≡ block
  put_here =
      let front : length (take (b * 512) memory) ≡ b * 512 = simp length-take (omega arith) in
      ap (take 512) (drop_at (take (b * 512) memory) _ (b * 512) front) ∙ take_at block _ 512 whole

  put_other : (k : ℕ) → k ≢ b → block_of (put_mid (b * 512) 512 memory block) k ≡ block_of memory k
  put_other k ne =
      let after = put_mid (b * 512) 512 memory block in
      ⊎_elim
      (λ (q : k < b). sym (drop-take (k * 512) 512 after) ∙ ap (drop (k * 512)) (take-put_mid_below (b * 512) 512 memory block (k * 512 + 512) (omega arith) (omega arith)) ∙ drop-take (k * 512) 512 memory)
      (λ (q : b ≤ k). ap (take 512) (drop-put_mid (b * 512) 512 memory block (k * 512) (omega arith) (omega arith) whole))
      (cases_lt k b)

  counts_put : length (blocks_of (put_mid (b * 512) 512 memory block)) ≡ length (blocks_of memory)
  counts_put = length_blocks (put_mid (b * 512) 512 memory block) ∙ ap (λ n. min 16777216 (n / 512)) length_put ∙ sym (length_blocks memory)

module _ (memory block : List ℕ) (b : ℕ) (h : b < length (blocks_of memory)) (e : length block ≡ 512) where
  blocks_after : blocks_of (put_mid (b * 512) 512 memory block) ≡ set (blocks_of memory) b block
  blocks_after =
      let after = put_mid (b * 512) 512 memory block in
      let fits = block_fits memory b h in
      ext_get_or [] _ _ (counts_put memory block b fits e ∙ sym (length-set (blocks_of memory) b block)) (λ k l.
      let l' : k < length (blocks_of memory) = omega (arith, counts_put memory block b fits e) in
      block_at after k l ∙
      ⊎_elim
      (λ (q : k ≡ b). ap (block_of after) q ∙ put_here memory block b fits e ∙ sym (get_or-set_same (blocks_of memory) b block [] h) ∙ ap (λ j. get_or (set (blocks_of memory) b block) j []) (sym q))
      (λ (q : k ≢ b). put_other memory block b fits e k q ∙ sym (block_at memory k l') ∙ sym (get_or-set_other (blocks_of memory) b k block [] q))
      (cases_eq k b))

  rest_after : rest_of (put_mid (b * 512) 512 memory block) ≡ rest_of memory
  rest_after =
      let fits = block_fits memory b h in
      ap (λ n. drop (n * 512) (put_mid (b * 512) 512 memory block)) (counts_put memory block b fits e)
      ∙ drop-put_mid (b * 512) 512 memory block (length (blocks_of memory) * 512) (omega arith) (omega arith) e

-- storing a block of n bytes, which are 512, at b * 512 sets block b and leaves every other block
pub blocks_put : (memory block : List ℕ) (b n : ℕ) → n ≡ 512 → b < length (blocks_of memory) → length block ≡ 512 → blocks_of (put_mid (b * 512) n memory block) ≡ set (blocks_of memory) b block
blocks_put memory block b n whole h e = rw whole (blocks_after memory block b h e)

-- and leaves what is in no block
pub rest_put : (memory block : List ℕ) (b n : ℕ) → n ≡ 512 → b < length (blocks_of memory) → length block ≡ 512 → rest_of (put_mid (b * 512) n memory block) ≡ rest_of memory
rest_put memory block b n whole h e = rw whole (rest_after memory block b h e)

-- the steps of a read and of a write
pub ruleset reads = (nat_tests, length_blocks, block_at)

pub ruleset writes = (nat_tests, length_blocks, blocks_put, rest_put)
