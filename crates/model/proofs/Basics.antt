-- Small facts on tests and counts.
use Rattle.std.proofs.Common.{◌≡◌, ℕ, ◌+◌, ◌<◌, ◌≤◌, Bool, false, ◌&&◌, eqb, arith}
use Rattle.std.proofs.lemmas.Bool.Decides.{nat_tests}
use Rattle.model.specs.Ownership.{one_if}

pub one_if_le : (x : Bool) → one_if x ≤ 1
one_if_le x = grind arith

pub positive : (n : ℕ) → eqb n 0 ≡ false → 0 < n
positive n e = grind (arith, nat_tests)

-- a block that is free and stands t times in a list is free without the list, or in it
pub without_one : (x : Bool) (t : ℕ) → t ≤ one_if x → one_if (x && eqb t 0) + t ≡ one_if x
without_one x t le = grind (arith, nat_tests)
