-- Two cards as one: the blocks of the first, then those of the second.
use Rattle.std.specs.Prelude.{ℕ, ◌+◌, ◌-◌, min, Bool, Ok, Err, Result, List, ◌++◌, take, drop, nat_le, nat_lt, if◌then◌else◌}
use Rattle.card.specs.Sizes.{most_blocks}
use Rattle.card.specs.declared.fault.CardFault.{CardFault}
use Rattle.card.specs.declared.fault.CardFault.TheVariants.{OutOfRange}
use Rattle.pair_card.specs.declared.Place.{Place}
use Rattle.pair_card.specs.declared.Place.TheVariants.{First, Second}

-- the blocks of both, at most 2^24
unfoldable pub both_blocks : List (List ℕ) → List (List ℕ) → List (List ℕ)
both_blocks xs ys = take most_blocks (xs ++ ys)

-- the blocks of both past that, which are in no call's reach
unfoldable pub hidden_blocks : List (List ℕ) → List (List ℕ) → List (List ℕ)
hidden_blocks xs ys = drop most_blocks (xs ++ ys)

-- the worn marks of both, where the first card has n blocks
abbrev pub both_worn : ℕ → (ℕ → Bool) → (ℕ → Bool) → ℕ → Bool
both_worn n w v b = if nat_lt b n then w b else v (b - n)

-- where block b of the pair is, of cards of n and of m blocks
abbrev pub place_of : (n m b : ℕ) → Result Place CardFault
place_of n m b =
    if nat_le (min most_blocks (n + m)) b then Err OutOfRange
    else if nat_lt b n then Ok (First b)
    else Ok (Second (b - n))

-- what no call on a pair changes: what each card keeps, how many blocks the first has, and the blocks in no call's reach
pub record PairKept (P Q : Type 0) : Type 0 where
  pub first : P
  pub second : Q
  pub count : ℕ
  pub hidden : List (List ℕ)
