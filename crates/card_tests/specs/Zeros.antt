-- A card of zeros.
use Rattle.std.specs.Prelude.{ℕ, ◌<◌, ◌≤◌, List, [], length, replicate}
use Rattle.std.proofs.Common.{ap, arith}
use Rattle.std.proofs.lemmas.List.{length-replicate, get_or-replicate}
use Rattle.card.specs.Cards.{Shaped}

-- 512 zero bytes
abbrev pub zero_block : List ℕ
zero_block = replicate 512 0

-- n such blocks
abbrev pub zeros : ℕ → List (List ℕ)
zeros n = replicate n zero_block

pub zeros_shaped : (n : ℕ) → n ≤ 16777216 → Shaped (zeros n)
zeros_shaped n few = record {
  few = simp length-replicate (omega arith);
  whole = λ k h. let inside : k < n = omega (arith, length-replicate n zero_block) in ap length (get_or-replicate n k zero_block [] inside);
}
