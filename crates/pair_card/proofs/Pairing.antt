-- What a call on one of two cards makes of both, as equations from both to the one.
use Rattle.std.proofs.Common.{◌≡◌, ℕ, ◌-◌, ◌<◌, ◌≤◌, Bool, List, ◌++◌, length, take, drop, set, sym, refl, ap, ◌∙◌, arith}
use lib.Seq.{take-set-lt}
use Rattle.std.proofs.lemmas.List.{set-append_left, set-append_right, drop-set-lt, length-set}
use Rattle.std.proofs.lemmas.Bool.Decides.{nat_tests}
use Rattle.card.specs.Faults.{checked}
use Rattle.card.proofs.Checks.{checked_inside, checked_past}
use Rattle.pair_card.specs.Pairs.{both_blocks, hidden_blocks}
use Rattle.pair_card.specs.Paired.{length_both, both_left, both_right}

module _ (xs ys : List (List ℕ)) (b : ℕ) (inside : b < length (both_blocks xs ys)) where
  -- the checks
  pub checked_left : (worn : Bool) (len : ℕ) → b < length xs → checked (length (both_blocks xs ys)) worn b len ≡ checked (length xs) worn b len
  checked_left worn len l = checked_inside (length (both_blocks xs ys)) (length xs) b b worn len inside l

  pub checked_right : (worn : Bool) (len : ℕ) → length xs ≤ b → checked (length (both_blocks xs ys)) worn b len ≡ checked (length ys) worn (b - length xs) len
  checked_right worn len l = let n = length_both xs ys in checked_inside (length (both_blocks xs ys)) (length ys) b (b - length xs) worn len inside (omega arith)

  module _ (block : List ℕ) where
    -- the blocks
    pub set_left : b < length xs → both_blocks (set xs b block) ys ≡ set (both_blocks xs ys) b block
    unfolding both_blocks
    set_left l = let n = length_both xs ys in ap (take 16777216) (sym (set-append_left xs ys b block l)) ∙ take-set-lt 16777216 (xs ++ ys) b block (omega arith)

    pub set_right : length xs ≤ b → both_blocks xs (set ys (b - length xs) block) ≡ set (both_blocks xs ys) b block
    unfolding both_blocks
    set_right l = let n = length_both xs ys in ap (take 16777216) (sym (set-append_right xs ys (length xs) b block refl l)) ∙ take-set-lt 16777216 (xs ++ ys) b block (omega arith)

    -- what no call reaches
    pub hidden_left : b < length xs → hidden_blocks (set xs b block) ys ≡ hidden_blocks xs ys
    unfolding hidden_blocks
    hidden_left l = let n = length_both xs ys in ap (drop 16777216) (sym (set-append_left xs ys b block l)) ∙ drop-set-lt 16777216 (xs ++ ys) b block (omega arith)

    pub hidden_right : length xs ≤ b → hidden_blocks xs (set ys (b - length xs) block) ≡ hidden_blocks xs ys
    unfolding hidden_blocks
    hidden_right l = let n = length_both xs ys in ap (drop 16777216) (sym (set-append_right xs ys (length xs) b block refl l)) ∙ drop-set-lt 16777216 (xs ++ ys) b block (omega arith)

pub ruleset reads = (nat_tests, length_both, checked_left, checked_right, checked_past, both_left, both_right)

pub ruleset writes = (nat_tests, length_both, checked_left, checked_right, checked_past, set_left, set_right, hidden_left, hidden_right, length-set)
