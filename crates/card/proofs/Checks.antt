-- What the checks of a card tell.
use Rattle.std.proofs.Common.{◌≡◌, ℕ, ◌<◌, ◌≤◌, Bool, false, Ok, Err, arith}
use Rattle.std.proofs.lemmas.Bool.Decides.{nat_tests}
use Rattle.card.specs.declared.fault.CardFault.TheVariants.{OutOfRange, Worn}
use Rattle.card.specs.Faults.{checked}

-- a granted call is on a block that the card has and that is not worn, with a buffer of one block
pub record Granted (count : ℕ) (worn : Bool) (b len : ℕ) : Type 0 where
  pub inside : b < count
  pub whole : len ≡ 512
  pub sound : worn ≡ false

pub granted : (count : ℕ) (worn : Bool) (b len : ℕ) → Ok tt ≡ checked count worn b len → Granted count worn b len
granted count worn b len e = grind (arith, nat_tests)

-- of the count and the block number only their order matters
pub checked_inside : (n m b c : ℕ) (worn : Bool) (len : ℕ) → b < n → c < m → checked n worn b len ≡ checked m worn c len
checked_inside n m b c worn len h k = grind (arith, nat_tests)

pub checked_past : (n : ℕ) (worn : Bool) (b len : ℕ) → n ≤ b → checked n worn b len ≡ Err OutOfRange
checked_past n worn b len h = grind (arith, nat_tests)

-- a worn block is one that the card has
pub worn_inside : (count : ℕ) (worn : Bool) (b len : ℕ) → checked count worn b len ≡ Err Worn → b < count
worn_inside count worn b len e = grind (arith, nat_tests)
