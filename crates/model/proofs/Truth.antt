-- A call is refused for the first ground that holds, and granted where none does.
use Rattle.std.proofs.Common.{◌≡◌, ℕ, zero, suc, ◌+◌, ◌-◌, ◌<◌, ◌≤◌, Bool, true, false, ◌&&◌, eqb, ltb, leb, ◌⊎◌, List, [], ◌∷◌, length, get_or, take, Some, None, refl, ap, ◌∙◌, ⊎_elim, arith}
use Rattle.std.proofs.lemmas.Bool.{ltb-true, ltb-false, leb-true, eq-eqb, eqb-true, eqb-false, and_parts, not-true, cases_lt, cases_Bool, and_cases}
use Rattle.std.proofs.lemmas.Bool.Decides.{nat_tests}
use Rattle.calls.specs.declared.kind.Kind.TheVariants.{Hole}
use Rattle.calls.specs.declared.call.Call.{Call}
use Rattle.calls.specs.declared.call.Call.TheVariants.{Insert, Collapse, Punch, ReserveWhole, ReserveSplit, Write, Read, Find, Length, Tally, Map, Drop}
use Rattle.calls.specs.declared.refusal.Refusal.{Refusal}
use Rattle.calls.specs.declared.refusal.Refusal.TheVariants.{NoFile, NoCount, OutOfFile}
use Rattle.calls.specs.Calls.{concerns}
use Rattle.calls.specs.Refusals.{refusal_number}
use Rattle.model.specs.Places.{Place, hole, is_hole, all_holes, range}
use Rattle.model.specs.Space.{total, most, longest, split, blocks_of, most_pieces}
use Rattle.model.specs.Store.{Config, Model, file_count, file, spare, both_cuts, free_runs}
use Rattle.model.specs.Rules.{Reason, first, reasons}
use Rattle.model.specs.Replay.{reached}
use Rattle.model.specs.Pieces.{Choice, AllFree, pieces}
use Rattle.model.specs.Grounds.{count_of, reach, Ground, no_file, no_count, out_of_file, too_long, write_buffer, read_buffer, map_buffer, whole_kind, split_kind, write_kind, no_space, no_run, too_many, insert_entries, collapse_entries, punch_entries, whole_entries, split_entries, write_entries, worn, Truthful, RefusalsTrue}
use Rattle.model.proofs.Basics.{positive}
use Rattle.model.proofs.Changing.{holes_in}
use Rattle.model.proofs.Settled.{step_why, step_none, FirstHas, first_has}
use Rattle.model.proofs.Owners.{Sound, reached_sound, free_below}
use Rattle.model.proofs.Choosing.{longest_count}
use Rattle.model.proofs.Rows.{no_row, longest_row}
use Rattle.model.proofs.Fewest.{has_room, split_choice, split_least, split_good}

-- a reason of the list holds, and refuses with w
abbrev Listed : List Reason → Refusal → Type 0
Listed [] w = ⊥
Listed (r ∷ rs) w = ((r.holds ≡ true) × (r.refusal ≡ w)) ⊎ Listed rs w

-- the numbers of the reasons rise, from low on
abbrev rises : ℕ → List Reason → Bool
rises low [] = true
rises low (r ∷ rs) = leb low (refusal_number r.refusal) && rises (refusal_number r.refusal) rs

listed_above : (rs : List Reason) (low : ℕ) (v : Refusal) → rises low rs ≡ true → Listed rs v → low ≤ refusal_number v
listed_above [] low v up l = grind arith
listed_above (r ∷ rs) low v up l = grind (arith, nat_tests, listed_above rs (refusal_number r.refusal) v)

first_least : (rs : List Reason) (low : ℕ) (w v : Refusal) → rises low rs ≡ true → first rs ≡ Some w → Listed rs v → refusal_number w ≤ refusal_number v
first_least [] low w v up e l = grind arith
first_least (r ∷ rs) low w v up e l =
    let up' = (and_parts (leb low (refusal_number r.refusal)) _ up).1 in
    let above = listed_above rs (refusal_number r.refusal) v up' in
    let least = first_least rs (refusal_number r.refusal) w v up' in
    ⊎_elim (λ yes. grind (arith, above)) (λ no. grind (arith, least)) (cases_Bool r.holds)

none_listed : (rs : List Reason) (v : Refusal) → first rs ≡ None → Listed rs v → ⊥
none_listed [] v e l = grind arith
none_listed (r ∷ rs) v e l = grind (arith, none_listed rs v)

rising : (c : Config) (m : Model) (call : Call) (buffer : List ℕ) → rises 0 (reasons c m call buffer) ≡ true
rising c m call buffer = grind arith

-- a range with a place that is no hole
record Solid (ps : List Place) (at n : ℕ) : Type 0 where
  at_place : ℕ
  from : at ≤ at_place
  below : at_place < at + n
  solid : (get_or ps at_place hole).kind ≡ Hole → ⊥

some_solid : (ps : List Place) (at n : ℕ) → all_holes (range ps at n) ≡ false → Solid ps at n
some_solid ps at zero e = grind arith
some_solid [] zero (suc n) e = grind arith
some_solid [] (suc at) (suc n) e = grind arith
some_solid (p ∷ ps) zero (suc n) e =
    ⊎_elim
    (λ h. record { at_place = 0; from = omega arith; below = omega arith; solid = grind arith })
    (λ e'. let s = some_solid ps 0 n e' in record { at_place = suc s.at_place; from = omega arith; below = omega (arith, s.below); solid = s.solid })
    (and_cases (is_hole p.kind) (all_holes (take n ps)) e)
some_solid (p ∷ ps) (suc at) (suc n) e =
    let s = some_solid ps at (suc n) e in record { at_place = suc s.at_place; from = omega (arith, s.from); below = omega (arith, s.below); solid = s.solid }

-- a reason, and those behind it
also : {A B C : Type 0} → A → (B → C) → A × (B → C)
also here later = (here, later)

self : (f : ℕ) → eqb f f ≡ true
self f = eq-eqb f f refl

-- the grounds and the reasons of one call
module _ (c : Config) (m : Model) (s : Sound c.volume m) where
  below : (b : ℕ) → c.volume ≤ b → m.free b ≡ false
  below = free_below c m s

  space_reason : (n : ℕ) → ((bs : List ℕ) → Choice m.free n bs → ⊥) → total (free_runs c m) < n
  space_reason n none = grind (arith, none (blocks_of (split n (free_runs c m))), split_choice m.free c.volume below n)

  run_reason : (n : ℕ) → ((b : ℕ) → AllFree m.free b n → ⊥) → most (free_runs c m) < n
  run_reason n none =
      let l = longest_row m.free c.volume below in
      ⊎_elim (λ lt. lt) (λ le. absurd (none (longest (free_runs c m)).start (λ i lt. l.is_free i (omega (arith, longest_count (free_runs c m)))))) (cases_lt (most (free_runs c m)) n)

  -- the fewest pieces of n blocks are those of the split
  split_pieces : (n : ℕ) (bs : List ℕ) → 0 < n → Choice m.free n bs → pieces (blocks_of (split n (free_runs c m))) ≡ length (split n (free_runs c m))
  split_pieces n bs pos ch = (split_good m.free c.volume below n pos (has_room m.free c.volume below n bs ch)).counted

  split_is_choice : (n : ℕ) (bs : List ℕ) → Choice m.free n bs → Choice m.free n (blocks_of (split n (free_runs c m)))
  split_is_choice n bs ch = split_choice m.free c.volume below n (has_room m.free c.volume below n bs ch)

  empty_choice : Choice m.free 0 []
  empty_choice = record { many = refl; apart = λ b. omega arith }

  many_reason : (n : ℕ) (bs : List ℕ) → Choice m.free n bs → ((os : List ℕ) → Choice m.free n os → most_pieces < pieces os) → most_pieces < length (split n (free_runs c m))
  many_reason zero bs ch all = absurd (omega (arith, all [] empty_choice))
  many_reason (suc n) bs ch all = omega (arith, all (blocks_of (split (suc n) (free_runs c m))) (split_is_choice (suc n) bs ch), split_pieces (suc n) bs (omega arith) ch)

  entries_reason : (n cuts : ℕ) (bs : List ℕ) → Choice m.free n bs → ((os : List ℕ) → Choice m.free n os → pieces bs ≤ pieces os) → spare c m < cuts + pieces bs - 1 → spare c m < cuts + length (split n (free_runs c m)) - 1
  entries_reason zero cuts bs ch few lt = let none : pieces [] ≡ 0 = refl in omega (arith, few [] empty_choice, none)
  entries_reason (suc n) cuts bs ch few lt = omega (arith, few (blocks_of (split (suc n) (free_runs c m))) (split_is_choice (suc n) bs ch), split_pieces (suc n) bs (omega arith) ch)

  -- a ground is a reason that holds
  listed : {call : Call} {buffer : List ℕ} {w : Refusal} → Ground c m call buffer w → Listed (reasons c m call buffer) w
  listed {call = call} (no_file f e le) = grind (arith, nat_tests)
  listed {call = call} (no_count e) = grind (arith, nat_tests)
  listed {call = call} (out_of_file f e lt) = grind (arith, nat_tests)
  listed (too_long lt) = grind (arith, nat_tests)
  listed (write_buffer ne) = grind (arith, nat_tests)
  listed (read_buffer ne) = grind (arith, nat_tests)
  listed (map_buffer lt) = grind (arith, nat_tests)
  listed (whole_kind {f = f} {at = at} {n = n} {k = k} from to solid) = grind (arith, holes_in (file m f) at n k from to)
  listed (split_kind {f = f} {at = at} {n = n} {k = k} from to solid) = grind (arith, holes_in (file m f) at n k from to)
  listed (write_kind e) = grind arith
  listed (no_space {n = n} none) = grind (arith, nat_tests, space_reason n none)
  listed (no_run {n = n} none) = grind (arith, nat_tests, run_reason n none)
  listed (too_many {n = n} {bs = bs} ch all) = grind (arith, nat_tests, many_reason n bs ch all)
  listed (insert_entries lt) = grind (arith, nat_tests)
  listed (collapse_entries lt) = grind (arith, nat_tests)
  listed (punch_entries lt) = grind (arith, nat_tests)
  listed (whole_entries lt) = grind (arith, nat_tests)
  listed (split_entries {f = f} {at = at} {n = n} {bs = bs} ch few lt) = grind (arith, nat_tests, entries_reason n (both_cuts m f at n) bs ch few lt)
  listed (write_entries e lt) = grind (arith, nat_tests)
  listed (worn e) = grind arith

  -- the reasons that calls on a range begin with
  on_range : (call : Call) (buffer : List ℕ) (f n : ℕ) {R : Type 0} → concerns call f ≡ true → count_of call ≡ Some n → (0 < n → R)
      → (leb file_count f ≡ true → Ground c m call buffer NoFile)
      × (leb file_count f ≡ false → (eqb n 0 ≡ true → Ground c m call buffer NoCount)
      × (eqb n 0 ≡ false → (ltb (length (file m f)) (reach call) ≡ true → Ground c m call buffer OutOfFile) × (ltb (length (file m f)) (reach call) ≡ false → R)))
  on_range call buffer f n e count rest =
      (λ h. no_file f e (leb-true _ _ h), λ _. (λ h. no_count (count ∙ ap Some (eqb-true _ _ h)), λ some. (λ h. out_of_file f e (ltb-true _ _ h), λ _. rest (positive n some))))

  -- and those that calls on a place begin with
  on_place : (call : Call) (buffer : List ℕ) (f at : ℕ) {R : Type 0} → concerns call f ≡ true → reach call ≡ suc at → R
      → (leb file_count f ≡ true → Ground c m call buffer NoFile)
      × (leb file_count f ≡ false → (leb (length (file m f)) at ≡ true → Ground c m call buffer OutOfFile) × (leb (length (file m f)) at ≡ false → R))
  on_place call buffer f at e to rest = (λ h. no_file f e (leb-true _ _ h), λ _. (λ h. out_of_file f e (omega (arith, leb-true _ _ h)), λ _. rest))

  -- the first reason that holds is a ground
  grounds : (call : Call) (buffer : List ℕ) → FirstHas (Ground c m call buffer) (reasons c m call buffer)
  grounds (Insert f at n) buffer = on_range (Insert f at n) buffer f n (self f) refl (λ _. (λ h. too_long (ltb-true _ _ h), λ _. (λ h. insert_entries (ltb-true _ _ h), λ _. tt)))
  grounds (Collapse f at n) buffer = on_range (Collapse f at n) buffer f n (self f) refl (λ _. (λ h. collapse_entries (ltb-true _ _ h), λ _. tt))
  grounds (Punch f at n) buffer = on_range (Punch f at n) buffer f n (self f) refl (λ _. (λ h. punch_entries (ltb-true _ _ h), λ _. tt))
  grounds (ReserveWhole f at n) buffer =
      on_range (ReserveWhole f at n) buffer f n (self f) refl (λ _.
      also (λ h. let p = some_solid (file m f) at n (not-true _ h) in whole_kind p.from p.below p.solid) (λ _.
      also (λ h. no_run (no_row m.free c.volume below n (ltb-true _ _ h))) (λ _.
      (λ h. whole_entries (ltb-true _ _ h), λ _. tt))))
  grounds (ReserveSplit f at n) buffer =
      let rs = free_runs c m in
      on_range (ReserveSplit f at n) buffer f n (self f) refl (λ pos.
      also (λ h. let p = some_solid (file m f) at n (not-true _ h) in split_kind p.from p.below p.solid) (λ _.
      also (λ h. no_space (λ bs ch. omega (arith, ltb-true _ _ h, has_room m.free c.volume below n bs ch))) (λ room.
      let ch = split_choice m.free c.volume below n (ltb-false _ _ room) in
      let least = split_least m.free c.volume below n pos in
      let same = split_pieces n (blocks_of (split n rs)) pos ch in
      also (λ h. too_many ch (λ os och. omega (arith, ltb-true _ _ h, least os och))) (λ _.
      (λ h. split_entries ch (λ os och. omega (arith, same, least os och)) (omega (arith, same, ltb-true _ _ h)), λ _. tt)))))
  grounds (Write f at) buffer =
      on_place (Write f at) buffer f at (self f) refl
      (also (λ h. write_buffer (eqb-false _ _ (not-true _ h))) (λ _.
      also (λ h. write_kind (grind arith)) (λ _.
      also (λ h. grind (arith, nat_tests, write_entries)) (λ _.
      (λ h. worn h, λ _. tt)))))
  grounds (Read f at) buffer = on_place (Read f at) buffer f at (self f) refl (λ h. read_buffer (eqb-false _ _ (not-true _ h)), λ _. tt)
  grounds (Find f at) buffer = on_place (Find f at) buffer f at (self f) refl tt
  grounds (Length f) buffer = (λ h. no_file f (self f) (leb-true _ _ h), λ _. tt)
  grounds Tally buffer = tt
  grounds (Map f) buffer = (λ h. no_file f (self f) (leb-true _ _ h), λ _. (λ h. map_buffer (ltb-true _ _ h), λ _. tt))
  grounds (Drop f) buffer = (λ h. no_file f (self f) (leb-true _ _ h), λ _. tt)

  pub truthful : (call : Call) (buffer : List ℕ) → Truthful c m call buffer
  truthful call buffer = record {
    refused = λ w e. first_has (Ground c m call buffer) (reasons c m call buffer) w (grounds call buffer) (step_why c m call buffer w e);
    first = λ w v e g. first_least (reasons c m call buffer) 0 w v (rising c m call buffer) (step_why c m call buffer w e) (listed g);
    granted = λ e w g. none_listed (reasons c m call buffer) w (step_none c m call buffer e) (listed g);
  }

pub refusals_true : RefusalsTrue
refusals_true c qs call buffer = truthful c (reached c qs) (reached_sound c qs) call buffer
