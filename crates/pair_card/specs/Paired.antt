-- The blocks of two cards are a card's contents: how many, which, and that they are whole.
use Rattle.std.specs.Prelude.{◌≡◌, ℕ, ◌+◌, ◌-◌, ◌<◌, ◌≤◌, min, List, [], ◌++◌, length, slice_index_or}
use Rattle.std.proofs.Math.Path.{refl}
use Rattle.std.proofs.Common.{ap, ◌∙◌, ⊎_elim, arith}
use Rattle.std.proofs.lemmas.List.{length-append, length-take, get_or-take, get_or_append_left, get_or-append_right}
use Rattle.std.proofs.lemmas.Bool.{cases_lt}
use Rattle.card.specs.Cards.{Shaped}
use Rattle.pair_card.specs.Pairs.{both_blocks}

pub length_both : (xs ys : List (List ℕ)) → length (both_blocks xs ys) ≡ min 16777216 (length xs + length ys)
unfolding both_blocks
length_both xs ys = length-take 16777216 (xs ++ ys) ∙ ap (min 16777216) (length-append xs ys)

module _ (xs ys : List (List ℕ)) (b : ℕ) (inside : b < length (both_blocks xs ys)) where
  pub both_left : b < length xs → slice_index_or (both_blocks xs ys) b [] ≡ slice_index_or xs b []
  unfolding both_blocks
  both_left l = let n = length_both xs ys in get_or-take 16777216 (xs ++ ys) b [] (omega arith) ∙ get_or_append_left xs ys [] b l

  pub both_right : length xs ≤ b → slice_index_or (both_blocks xs ys) b [] ≡ slice_index_or ys (b - length xs) []
  unfolding both_blocks
  both_right l = let n = length_both xs ys in get_or-take 16777216 (xs ++ ys) b [] (omega arith) ∙ get_or-append_right xs ys (length xs) b [] refl l

pub both_shaped : (xs ys : List (List ℕ)) → Shaped xs → Shaped ys → Shaped (both_blocks xs ys)
both_shaped xs ys s t = let n = length_both xs ys in record {
  few = omega arith;
  whole = λ k h. ⊎_elim
      (λ (l : k < length xs). ap length (both_left xs ys k h l) ∙ s.whole k l)
      (λ (l : length xs ≤ k). ap length (both_right xs ys k h l) ∙ t.whole (k - length xs) (omega arith))
      (cases_lt k (length xs));
}
