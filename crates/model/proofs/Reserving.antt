-- What the answers to a reserve mean.
use Rattle.std.proofs.Common.{◌≡◌, ℕ, ◌+◌, ◌<◌, ◌≤◌, List, [], ◌∷◌, map, length, take, drop, Ok, refl, ap, arith, length-drop}
use Rattle.std.proofs.lemmas.List.{drop_at, length-take-le, get_or-set_same}
use Rattle.std.proofs.lemmas.Bool.{ltb-false, leb-false}
use Rattle.calls.specs.declared.call.Call.TheVariants.{ReserveWhole, ReserveSplit}
use Rattle.calls.specs.declared.refusal.Refusal.TheVariants.{NoSpace, NoRun}
use Rattle.calls.specs.declared.answer.Answer.TheVariants.{Pieces}
use Rattle.calls.specs.Answers.{answer_number}
use Rattle.model.specs.Places.{Place, laid, reserved}
use Rattle.model.specs.Space.{total, most, split}
use Rattle.model.specs.Store.{Config, Model, file_count, file, free_runs, reserve}
use Rattle.model.specs.Rules.{step}
use Rattle.model.specs.Replay.{reached}
use Rattle.model.specs.Pieces.{Choice, AllFree, Fewest, laid_on, Reserves, FewestPieces}
use Rattle.model.specs.Grounds.{Ground, no_space, no_run}
use Rattle.model.proofs.Basics.{positive}
use Rattle.model.proofs.Settled.{step_both, refused_some}
use Rattle.model.proofs.Owners.{Sound, reached_sound, split_long, whole_long, free_below}
use Rattle.model.proofs.Fewest.{split_good, whole_good}
use Rattle.model.proofs.Truth.{truthful}

-- the blocks are on the places
laid_blocks : (bs : List ℕ) (ps : List Place) → length bs ≤ length ps → map (λ (p : Place). p.block) (take (length bs) (laid bs ps)) ≡ bs
laid_blocks [] ps le = refl
laid_blocks (b ∷ bs) [] le = absurd (omega arith)
laid_blocks (b ∷ bs) (p ∷ ps) le = ap (λ l. b ∷ l) (laid_blocks bs ps (omega arith))

pub on_places : (m : Model) (f at n : ℕ) (bs : List ℕ) → f < length m.files → length bs ≡ n → at + n ≤ length (file m f) → laid_on (reserve m f at bs) f at n ≡ bs
on_places m f at n bs lt long fits =
    let ps = file m f in
    let same : file (reserve m f at bs) f ≡ reserved ps at bs = get_or-set_same m.files f (reserved ps at bs) [] lt in
    let behind : drop at (reserved ps at bs) ≡ laid bs (drop at ps) = drop_at (take at ps) (laid bs (drop at ps)) at (length-take-le at ps (omega arith)) in
    rw (same, behind, ← long) (laid_blocks bs (drop at ps) (omega (arith, length-drop at ps)))

module _ (c : Config) (m : Model) (s : Sound c.volume m) (f at n : ℕ) (buffer : List ℕ) where
  -- what is the fewest for n blocks is so on the places
  on_file : (bs : List ℕ) (k : ℕ) → f < file_count → length bs ≡ n → at + n ≤ length (file m f) → Fewest m.free n k bs → Fewest m.free n k (laid_on (reserve m f at bs) f at n)
  on_file bs k lt long inside best = rw (on_places m f at n bs (omega (arith, s.sized)) long inside) best

  split_granted : (k : ℕ) → (step c m (ReserveSplit f at n) buffer).answer ≡ Ok (Pieces k) → Fewest m.free n k (laid_on (step c m (ReserveSplit f at n) buffer).next f at n)
  split_granted k =
      step_both c m (ReserveSplit f at n) buffer (λ o. o.answer ≡ Ok (Pieces k) → Fewest m.free n k (laid_on o.next f at n))
      (λ w e. absurd (omega (arith, refused_some w, ap answer_number e)))
      (λ ok e.
      let fits : n ≤ total (free_runs c m) = ltb-false _ _ ok.1.1.1.1.0 in
      let good = split_good m.free c.volume (free_below c m s) n (positive n ok.1.0) fits in
      let count : length (split n (free_runs c m)) ≡ k = cc in
      rw (← count) (on_file _ _ (leb-false _ _ ok.0) (split_long (free_runs c m) n fits) (ltb-false _ _ ok.1.1.0) good))

  whole_granted : (k : ℕ) → (step c m (ReserveWhole f at n) buffer).answer ≡ Ok (Pieces k) → (k ≡ 1) × Fewest m.free n k (laid_on (step c m (ReserveWhole f at n) buffer).next f at n)
  whole_granted k =
      step_both c m (ReserveWhole f at n) buffer (λ o. o.answer ≡ Ok (Pieces k) → (k ≡ 1) × Fewest m.free n k (laid_on o.next f at n))
      (λ w e. absurd (omega (arith, refused_some w, ap answer_number e)))
      (λ ok e.
      let fits : n ≤ most (free_runs c m) = ltb-false _ _ ok.1.1.1.1.0 in
      let good = whole_good m.free c.volume (free_below c m s) n (positive n ok.1.0) fits in
      let count : k ≡ 1 = cc in
      (count, rw count (on_file _ _ (leb-false _ _ ok.0) (whole_long (free_runs c m) n fits) (ltb-false _ _ ok.1.1.0) good)))

  no_space_says : Ground c m (ReserveSplit f at n) buffer NoSpace → (bs : List ℕ) → Choice m.free n bs → ⊥
  no_space_says (no_space none) = none

  no_run_says : Ground c m (ReserveWhole f at n) buffer NoRun → (b : ℕ) → AllFree m.free b n → ⊥
  no_run_says (no_run none) = none

  reserves : Reserves c m f at n buffer
  reserves = record { split_granted = split_granted; whole_granted = whole_granted; no_space = λ e. no_space_says ((truthful c m s (ReserveSplit f at n) buffer).refused NoSpace e); no_run = λ e. no_run_says ((truthful c m s (ReserveWhole f at n) buffer).refused NoRun e) }

pub fewest_pieces : FewestPieces
fewest_pieces c qs f at n buffer = reserves c (reached c qs) (reached_sound c qs) f at n buffer
