-- Which blocks a list of numbers marks as worn.
use Rattle.std.specs.Prelude.{◌≡◌, ℕ, ◌-◌, ◌≤◌, Bool, List, ◌++◌, length, take, replicate, ◌==◌}
use Rattle.std.specs.List.{list_any}

-- whether block b is in the list
abbrev pub marked : List ℕ → ℕ → Bool
marked xs b = list_any (λ x. x == b) xs

-- a list with zeros behind it, up to 16 numbers
abbrev pub filled_up : List ℕ → List ℕ
filled_up xs = xs ++ replicate (16 - length xs) 0

-- how a list is kept: up to 16 numbers, and zeros behind them
pub record IsKept (numbers : List ℕ) (count : ℕ) : Type 0 where
  pub few : count ≤ 16
  pub places : length numbers ≡ 16
  pub zeros_behind : filled_up (take count numbers) ≡ numbers
