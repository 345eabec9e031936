-- Why a card refuses, by which number, and in which order it looks.
use Rattle.std.specs.Prelude.{ℕ, Bool, not, Ok, Err, Result, ◌==◌, nat_le, if◌then◌else◌}
use Rattle.card.specs.Sizes.{block_size}
use Rattle.card.specs.declared.fault.CardFault.{CardFault}
use Rattle.card.specs.declared.fault.CardFault.TheVariants.{OutOfRange, WrongLength, Worn}

-- the number of each fault
abbrev pub number_of : CardFault → ℕ
number_of OutOfRange = 1
number_of WrongLength = 2
number_of Worn = 3

-- The answer to a call on block b of a card of count blocks, with a buffer of len bytes: the first check that fails, or Ok.
-- Only a write asks for the worn mark; a read is checked as a write to a block that is not worn.
abbrev pub checked : (count : ℕ) (worn : Bool) (b len : ℕ) → Result (Unit {0}) CardFault
checked count worn b len =
    if nat_le count b then Err OutOfRange
    else if not (len == block_size) then Err WrongLength
    else if worn then Err Worn
    else Ok tt
