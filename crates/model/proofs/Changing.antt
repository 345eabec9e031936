-- The places of a changed list.
use Rattle.std.proofs.Common.{◌≡◌, ℕ, zero, suc, ◌+◌, ◌-◌, ◌<◌, ◌≤◌, true, cond, ◌&&◌, ltb, leb, List, [], ◌∷◌, length, get_or, take, drop, refl, ap, arith}
use Rattle.std.proofs.lemmas.List.{places}
use Rattle.std.proofs.lemmas.Bool.Decides.{nat_tests}
use Rattle.std.proofs.lemmas.Bool.{and_parts}
use Rattle.calls.specs.declared.kind.Kind.TheVariants.{Hole, Reserved}
use Rattle.model.specs.Places.{Place, hole, is_hole, all_holes, range, inserted, collapsed, punched, laid, reserved}

-- an insert, a collapse and a punch: how many places there are, and each of them
module _ (ps : List Place) (at n : ℕ) where
  pub length_inserted : at ≤ length ps → length (inserted ps at n) ≡ length ps + n
  length_inserted le = grind (arith, places)

  pub length_collapsed : at + n ≤ length ps → length (collapsed ps at n) ≡ length ps - n
  length_collapsed le = grind (arith, places)

  pub length_punched : at + n ≤ length ps → length (punched ps at n) ≡ length ps
  length_punched le = grind (arith, places)

  pub inserted_at : (k : ℕ) → at ≤ length ps → get_or (inserted ps at n) k hole ≡ cond (ltb k at) (get_or ps k hole) (cond (ltb k (at + n)) hole (get_or ps (k - n) hole))
  inserted_at k le = grind (arith, places, nat_tests)

  pub collapsed_at : (k : ℕ) → at + n ≤ length ps → get_or (collapsed ps at n) k hole ≡ cond (ltb k at) (get_or ps k hole) (get_or ps (k + n) hole)
  collapsed_at k le = grind (arith, places, nat_tests)

  pub punched_at : (k : ℕ) → at + n ≤ length ps → get_or (punched ps at n) k hole ≡ cond (leb at k && ltb k (at + n)) hole (get_or ps k hole)
  punched_at k le = grind (arith, places, nat_tests)

pub length_laid : (bs : List ℕ) (ps : List Place) → length (laid bs ps) ≡ length ps
length_laid [] ps = refl
length_laid (b ∷ bs) [] = refl
length_laid (b ∷ bs) (p ∷ ps) = ap suc (length_laid bs ps)

-- a place on which block b is laid
abbrev pub reserved_on : ℕ → Place → Place
reserved_on b p = record { kind = Reserved; block = b; bytes = p.bytes }

pub laid_at : (bs : List ℕ) (ps : List Place) (k : ℕ) → get_or (laid bs ps) k hole ≡ cond (ltb k (length bs) && ltb k (length ps)) (reserved_on (get_or bs k 0) (get_or ps k hole)) (get_or ps k hole)
laid_at [] ps k = grind (arith, nat_tests)
laid_at (b ∷ bs) [] k = grind (arith, nat_tests)
laid_at (b ∷ bs) (p ∷ ps) zero = grind (arith, nat_tests)
laid_at (b ∷ bs) (p ∷ ps) (suc k) = grind (arith, nat_tests, laid_at bs ps k)

-- a reserve, place by place
module _ (ps : List Place) (at : ℕ) (bs : List ℕ) where
  pub length_reserved : at ≤ length ps → length (reserved ps at bs) ≡ length ps
  length_reserved le = grind (arith, places, length_laid bs (drop at ps))

  pub reserved_at : (k : ℕ) → at ≤ length ps → get_or (reserved ps at bs) k hole ≡ cond (leb at k && (ltb k (at + length bs) && ltb k (length ps))) (reserved_on (get_or bs (k - at) 0) (get_or ps k hole)) (get_or ps k hole)
  reserved_at k le = grind (arith, places, nat_tests, laid_at bs (drop at ps) (k - at))

-- a place of a range that is all holes
pub holes_in : (ps : List Place) (at n k : ℕ) → at ≤ k → k < at + n → all_holes (range ps at n) ≡ true → (get_or ps k hole).kind ≡ Hole
holes_in [] at n k from below all = refl
holes_in (p ∷ ps) zero zero k from below all = absurd (omega arith)
holes_in (p ∷ ps) zero (suc n) zero from below all = grind arith
holes_in (p ∷ ps) zero (suc n) (suc k) from below all = holes_in ps 0 n k (omega arith) (omega arith) (and_parts (is_hole p.kind) (all_holes (take n ps)) all).1
holes_in (p ∷ ps) (suc at) n zero from below all = absurd (omega arith)
holes_in (p ∷ ps) (suc at) n (suc k) from below all = holes_in ps at n k (omega arith) (omega arith) all
