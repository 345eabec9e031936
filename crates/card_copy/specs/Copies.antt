-- What a copy from card to card leaves, and where it stops.
use Rattle.std.specs.Prelude.{◌≡◌, ℕ, ◌+◌, ◌<◌, Bool, false, List, [], length, drop, is_ok, Ok, Err, Result, slice_index_or, slice_set, if◌then◌else◌}
use Rattle.std.proofs.Math.Seq.{paste}
use Rattle.card.specs.declared.fault.CardFault.{CardFault}
use Rattle.card_copy.specs.declared.copy.CopyFault.{CopyFault}
use Rattle.card_copy.specs.declared.copy.CopyFault.TheVariants.{Read, Write}
use Rattle.card_copy.specs.declared.copy.CopyRange.{CopyRange}
use Rattle.card_copy.specs.declared.copy.Stopped.{Stopped}
use Rattle.card.specs.Faults.{checked}
use Rattle.card.specs.Sizes.{block_size}

-- the answer to a read and then a write: the first refusal, or Ok
abbrev pub in_turn : Result (Unit {0}) CardFault → Result (Unit {0}) CardFault → Result (Unit {0}) CopyFault
in_turn (Err fault) w = Err (Read fault)
in_turn (Ok x) (Err fault) = Err (Write fault)
in_turn (Ok x) (Ok y) = Ok tt

module _ (source target : List (List ℕ)) (worn : ℕ → Bool) where
  -- the answer to the copy of block b of the source to block d of the target, whose worn blocks are given
  abbrev pub copy_checked : (b d : ℕ) → Result (Unit {0}) CopyFault
  copy_checked b d = in_turn (checked (length source) false b block_size) (checked (length target) (worn d) d block_size)

  -- the copy of one block
  pub record BlockCopied (b d : ℕ) (after : List (List ℕ)) (r : Result (Unit {0}) CopyFault) : Type 0 where
    pub answer : r ≡ copy_checked b d
    pub contents : after ≡ (if is_ok r then slice_set target d (slice_index_or source b []) else target)

  -- k blocks from block first of the source on are now on the target from block start on, and the rest of the target is as it was
  pub record Copied (first start k : ℕ) (after : List (List ℕ)) : Type 0 where
    pub passed : (j : ℕ) → j < k → copy_checked (first + j) (start + j) ≡ Ok tt
    pub contents : after ≡ paste target start (drop first source) k

  -- the copy of a range: all of it, or the blocks before the first one that is refused
  abbrev pub RangeCopied : CopyRange → (after : List (List ℕ)) → Result (Unit {0}) Stopped → Type 0
  RangeCopied range after (Ok x) = Copied range.first range.start range.count after
  RangeCopied range after (Err stop) =
      Copied range.first range.start stop.copied after
      × (stop.copied < range.count)
      × (copy_checked (range.first + stop.copied) (range.start + stop.copied) ≡ Err stop.fault)
