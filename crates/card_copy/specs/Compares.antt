-- Whether a block of one card is a block of another.
use Rattle.std.specs.Prelude.{◌≡◌, ℕ, Bool, false, List, [], length, Ok, Err, IsTrue, ◌↔◌, Result, slice_index_or}
use Rattle.std.specs.Result.{result_and}
use Rattle.card.specs.declared.fault.CardFault.{CardFault}
use Rattle.card.specs.Faults.{checked}
use Rattle.card.specs.Sizes.{block_size}

-- the answer to the reads of block b of one card and block d of the other: the first refusal, or Ok
abbrev pub compare_checked : (one other : List (List ℕ)) (b d : ℕ) → Result (Unit {0}) CardFault
compare_checked one other b d = result_and (checked (length one) false b block_size) (checked (length other) false d block_size)

-- a granted comparison says whether both blocks hold the same bytes
abbrev pub Compared : (one other : List (List ℕ)) (b d : ℕ) → Result Bool CardFault → Type 0
Compared one other b d (Ok same) = (compare_checked one other b d ≡ Ok tt) × (IsTrue same ↔ (slice_index_or one b [] ≡ slice_index_or other d []))
Compared one other b d (Err fault) = compare_checked one other b d ≡ Err fault
