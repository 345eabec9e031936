-- A copy of some blocks, and one block more.
use Rattle.std.proofs.Common.{◌≡◌, ℕ, ◌+◌, ◌-◌, ◌^◌, ◌<◌, ◌≤◌, Bool, false, List, [], length, get_or, drop, set, Ok, Err, Result, is_ok, true, sym, refl, ap, ◌∙◌, ⊎_elim, arith, below_more}
use lib.Seq.{paste}
use Rattle.std.proofs.lemmas.List.Edits.{paste_none, length-paste, paste_more}
use Rattle.std.proofs.lemmas.List.{get_or-drop, length-drop}
use Rattle.std.proofs.lemmas.Bool.{cases_lt, cond-true, cond-false}
use Rattle.card.specs.declared.fault.CardFault.{CardFault}
use Rattle.card.specs.declared.fault.CardFault.TheVariants.{Worn}
use Rattle.card_copy.specs.declared.copy.CopyFault.{CopyFault}
use Rattle.card_copy.specs.declared.copy.CopyFault.TheVariants.{Write}
use Rattle.card.specs.Faults.{checked}
use Rattle.card_copy.specs.Copies.{in_turn, copy_checked, BlockCopied, Copied}
use Rattle.card.proofs.Checks.{granted, worn_inside}

only_ok : (r : Result (Unit {0}) CopyFault) → is_ok r ≡ true → r ≡ Ok tt
only_ok (Ok x) e = refl
only_ok (Err f) e = cc

in_turn_ok : (r w : Result (Unit {0}) CardFault) → in_turn r w ≡ Ok tt → (Ok tt ≡ r) × (Ok tt ≡ w)
in_turn_ok (Err f) w e = cc
in_turn_ok (Ok x) (Err f) e = cc
in_turn_ok (Ok x) (Ok y) e = (refl, refl)

in_turn_worn : (r w : Result (Unit {0}) CardFault) → in_turn r w ≡ Err (Write Worn) → w ≡ Err Worn
in_turn_worn (Err f) w e = cc
in_turn_worn (Ok x) (Err f) e = cc
in_turn_worn (Ok x) (Ok y) e = cc

module _ (source target : List (List ℕ)) (worn : ℕ → Bool) where
  -- a block that is copied is one of the source and goes to one of the target
  within : (b d : ℕ) → copy_checked source target worn b d ≡ Ok tt → (b < length source) × (d < length target)
  within b d e =
      let both = in_turn_ok (checked (length source) false b 512) (checked (length target) (worn d) d 512) e in
      ((granted (length source) false b 512 both.0).inside, (granted (length target) (worn d) d 512 both.1).inside)

  -- a copy that stops at a worn block stops at one of the target
  pub worn_within : (b d : ℕ) (fault : CopyFault) → copy_checked source target worn b d ≡ Err fault → fault ≡ Write Worn → d < length target
  worn_within b d fault e w = worn_inside (length target) (worn d) d 512 (in_turn_worn (checked (length source) false b 512) (checked (length target) (worn d) d 512) (e ∙ ap Err w))

  module _ (first start k : ℕ) where
    -- so the blocks copied end within both cards
    pub ends_within : (after : List (List ℕ)) → Copied source target worn first start k after → 0 < k → (first + k ≤ length source) × (start + k ≤ length target)
    ends_within after done h = let last = within (first + (k - 1)) (start + (k - 1)) (done.passed (k - 1) (omega arith)) in (omega arith, omega arith)

    -- and their numbers fit
    pub sums_fit :
        (after : List (List ℕ)) → Copied source target worn first start k after → length source ≤ 16777216 → length target ≤ 16777216 → first < 2 ^ 32 → start < 2 ^ 32 →
        (first + k < 2 ^ 32) × (start + k < 2 ^ 32)
    sums_fit after done few_s few_t fits_f fits_s = ⊎_elim
        (λ (h : 0 < k). let ends = ends_within after done h in (omega arith, omega arith))
        (λ (h : k ≤ 0). (omega arith, omega arith))
        (cases_lt 0 k)

    length_copied : (after : List (List ℕ)) → Copied source target worn first start k after → length after ≡ length target
    length_copied after done = ap length done.contents ∙ ⊎_elim
        (λ (h : 0 < k). let e = ends_within after done h in length-paste target start (drop first source) k e.1 (simp length-drop (omega arith)))
        (λ (h : k ≤ 0). let z : k ≡ 0 = omega arith in ap (λ n. length (paste target start (drop first source) n)) z ∙ ap length (sym (paste_none target start (drop first source))))
        (cases_lt 0 k)

    -- the check of the next block is the same on the target as it is by now
    same_check : (by_now : List (List ℕ)) (marks : ℕ → Bool) → Copied source target worn first start k by_now → marks ≡ worn → (b d : ℕ) → copy_checked source by_now marks b d ≡ copy_checked source target worn b d
    same_check by_now marks done e b d =
        ap (λ n. in_turn (checked (length source) false b 512) (checked n (marks d) d 512)) (length_copied by_now done)
        ∙ ap (λ (m : ℕ → Bool). in_turn (checked (length source) false b 512) (checked (length target) (m d) d 512)) e

    -- the next block was copied, or not
    module _ (before after : List (List ℕ)) (marks : ℕ → Bool) (r : Result (Unit {0}) CopyFault) (done : Copied source target worn first start k before) (same : marks ≡ worn) (one : BlockCopied source before marks (first + k) (start + k) after r) where
      pub copied_more : is_ok r ≡ true → Copied source target worn first start (k + 1) after
      copied_more ok =
          let passes : copy_checked source target worn (first + k) (start + k) ≡ Ok tt = sym (same_check before marks done same (first + k) (start + k)) ∙ sym one.answer ∙ only_ok r ok in
          let w = within (first + k) (start + k) passes in
          record {
            passed = below_more _ _ done.passed passes;
            contents = one.contents ∙ cond-true (is_ok r) _ _ ok
                ∙ ap (λ blocks. set blocks (start + k) (get_or source (first + k) [])) done.contents
                ∙ ap (set (paste target start (drop first source) k) (start + k)) (sym (get_or-drop first source k []))
                ∙ paste_more target start (drop first source) k [] w.1 (simp length-drop (omega arith));
          }

      pub copied_stop : (fault : CopyFault) → r ≡ Err fault → Copied source target worn first start k after × (copy_checked source target worn (first + k) (start + k) ≡ Err fault)
      copied_stop fault e = (
        record { passed = done.passed; contents = one.contents ∙ cond-false (is_ok r) _ _ (ap is_ok e) ∙ done.contents },
        sym (same_check before marks done same (first + k) (start + k)) ∙ sym one.answer ∙ e,
      )

  pub copied_none : (first start : ℕ) → Copied source target worn first start 0 target
  copied_none first start = record { passed = λ j h. absurd (omega arith); contents = paste_none target start (drop first source) }

-- the steps of a copy
pub ruleset steps = (sums_fit, copied_stop, copied_none)
