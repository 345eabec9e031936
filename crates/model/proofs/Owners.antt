-- One owner: each block is free, or in one place of one file.
use Rattle.std.proofs.Common.{◌≡◌, ℕ, zero, suc, ◌+◌, ◌<◌, ◌≤◌, Bool, true, false, cond, ◌||◌, ltb, List, [], ◌∷◌, ◌++◌, length, take, drop, set, replicate, refl, ◌∙◌, arith, length-drop, length-set}
use Rattle.std.proofs.lemmas.List.Folds.{sum_by-replicate}
use Rattle.std.proofs.lemmas.List.Sums.{sum_by-cons, sum_by-append, sum_by-set, sum_by-take-drop, get_or-le-sum_by}
use Rattle.std.proofs.lemmas.Bool.{ltb-false, leb-false, not-false}
use Rattle.std.proofs.lemmas.Bool.Decides.{nat_tests}
use Rattle.calls.specs.declared.kind.Kind.TheVariants.{Reserved, Written}
use Rattle.calls.specs.declared.call.Call.{Call}
use Rattle.calls.specs.declared.call.Call.TheVariants.{Insert, Collapse, Punch, ReserveWhole, ReserveSplit, Write, Read, Find, Length, Tally, Map, Drop}
use Rattle.model.specs.Places.{Place, hole, is_hole, on, held, all_holes, range, inserted, collapsed, punched, laid, reserved}
use Rattle.model.specs.Space.{Blocks, times, Run, runs, total, most, lowest_fit, split, whole, row, blocks_of, without}
use Rattle.model.specs.Store.{Config, Model, fresh, file, place, with_file, freed, free_runs, insert, collapse, punch, reserve, write, empty, file_count}
use Rattle.model.specs.Rules.{reasons, granted}
use Rattle.model.specs.Replay.{Request, reached}
use Rattle.model.specs.Ownership.{one_if, owners, OneOwner}
use Rattle.model.proofs.Basics.{one_if_le, without_one}
use Rattle.model.proofs.Settled.{Clear, run_keeps}
use Rattle.model.proofs.Choosing.{times_cons, times_append, length_blocks, fit_count, fit_blocks, split_total, split_blocks, runs_once}

-- counting places on a block
pub held_cons : (p : Place) (ps : List Place) (b : ℕ) → held (p ∷ ps) b ≡ one_if (on b p) + held ps b
held_cons p ps b = sum_by-cons (λ q. cond (on b q) 1 0) p ps

pub held_append : (xs ys : List Place) (b : ℕ) → held (xs ++ ys) b ≡ held xs b + held ys b
held_append xs ys b = sum_by-append (λ q. cond (on b q) 1 0) xs ys

pub held_holes : (n b : ℕ) → held (replicate n hole) b ≡ 0
held_holes zero b = refl
held_holes (suc n) b = omega (arith, held_cons hole (replicate n hole) b, held_holes n b)

pub held_cut : (at : ℕ) (ps : List Place) (b : ℕ) → held (take at ps) b + held (drop at ps) b ≡ held ps b
held_cut at ps b = sum_by-take-drop (λ q. cond (on b q) 1 0) ps at

-- the sets of free blocks
freed_one : (x : Bool) (h : ℕ) → h + one_if x ≤ 1 → one_if (x || ltb 0 h) ≡ one_if x + h
freed_one x h le = grind (arith, nat_tests)

-- laid blocks
pub held_laid : (bs : List ℕ) (ps : List Place) (b : ℕ) → length bs ≤ length ps → all_holes (take (length bs) ps) ≡ true → held (laid bs ps) b ≡ times bs b + held ps b
held_laid [] ps b le e = omega arith
held_laid (x ∷ bs) [] b le e = absurd (omega arith)
held_laid (x ∷ bs) (p ∷ ps) b le e = grind (arith, held_cons (record { kind = Reserved; block = x; bytes = p.bytes }) (laid bs ps) b, held_cons p ps b, held_laid bs ps b, times_cons x bs b)

-- what a run of calls keeps
pub record Sound (v : ℕ) (m : Model) : Type 0 where
  pub sized : length m.files ≡ file_count
  pub owned : (b : ℕ) → owners m b + one_if (m.free b) ≡ one_if (ltb b v)

module _ {v : ℕ} {m : Model} (s : Sound v m) (f : ℕ) (lt : f < file_count) where
  inside : f < length m.files
  inside = omega (arith, s.sized)

  pub held_le : (b : ℕ) → held (file m f) b + one_if (m.free b) ≤ 1
  held_le b = omega (arith, s.owned b, get_or-le-sum_by (λ ps. held ps b) m.files f [] inside, one_if_le (ltb b v))

  -- a file and the free blocks change together, and every block stands as often as before
  pub kept : (ps : List Place) (free : Blocks) → ((b : ℕ) → held ps b + one_if (free b) ≡ held (file m f) b + one_if (m.free b)) → Sound v (with_file m f ps free)
  kept ps free same = record {
    sized = length-set m.files f ps ∙ s.sized;
    owned = λ b. omega (arith, s.owned b, same b, sum_by-set (λ qs. held qs b) m.files f ps [] inside);
  }

  -- three parts of a file
  parts : (at n b : ℕ) → held (take at (file m f)) b + (held (range (file m f) at n) b + held (drop n (drop at (file m f))) b) ≡ held (file m f) b
  parts at n b = omega (arith, held_cut at (file m f) b, held_cut n (drop at (file m f)) b)

  pub insert_sound : (at n : ℕ) → Sound v (insert m f at n)
  insert_sound at n = kept (inserted (file m f) at n) m.free (λ b. omega (arith, held_append, held_holes, held_cut at (file m f) b))

  freed_parts : (at n b : ℕ) → one_if (freed m.free (range (file m f) at n) b) ≡ one_if (m.free b) + held (range (file m f) at n) b
  freed_parts at n b = freed_one (m.free b) (held (range (file m f) at n) b) (omega (arith, parts at n b, held_le b))

  pub collapse_sound : (at n : ℕ) → Sound v (collapse m f at n)
  collapse_sound at n = kept (collapsed (file m f) at n) (freed m.free (range (file m f) at n)) (λ b. omega (arith, held_append, parts at n b, freed_parts at n b))

  pub punch_sound : (at n : ℕ) → Sound v (punch m f at n)
  punch_sound at n = kept (punched (file m f) at n) (freed m.free (range (file m f) at n)) (λ b. omega (arith, held_append, held_holes, parts at n b, freed_parts at n b))

  pub empty_sound : Sound v (empty m f)
  empty_sound = kept [] (freed m.free (file m f)) (λ b. omega (arith, freed_one (m.free b) (held (file m f) b) (held_le b)))

  pub reserve_sound : (at n : ℕ) (bs : List ℕ) → length bs ≡ n → at + n ≤ length (file m f) → all_holes (range (file m f) at n) ≡ true → ((b : ℕ) → times bs b ≤ one_if (m.free b)) → Sound v (reserve m f at bs)
  reserve_sound at n bs long fits holes free = kept (reserved (file m f) at bs) (without m.free bs) (λ b.
      omega (arith, held_append, held_cut at (file m f) b, without_one (m.free b) (times bs b) (free b), held_laid bs (drop at (file m f)) b (omega (arith, length-drop at (file m f))) (rw long holes)))

  pub write_sound : (at : ℕ) (bytes : List ℕ) → at < length (file m f) → is_hole (place m f at).kind ≡ false → Sound v (write m f at bytes)
  write_sound at bytes lt' solid =
      let p : Place = record { kind = Written; block = (place m f at).block; bytes = bytes } in
      kept (set (file m f) at p) m.free (λ b. grind (arith, sum_by-set (λ q. cond (on b q) 1 0) (file m f) at p hole))

-- what a reserve takes is free, and none is taken twice
pub free_of_runs : (free : Blocks) (v b : ℕ) → times (blocks_of (runs free v)) b ≤ one_if (free b)
free_of_runs free v b = (runs_once free 0 v b).free_only

pub whole_free : (free : Blocks) (v n b : ℕ) → n ≤ most (runs free v) → times (blocks_of (whole n (runs free v))) b ≤ one_if (free b)
whole_free free v n b le =
    let r = lowest_fit n (runs free v) in
    omega (arith, times_append (row r.start r.count) [] b, fit_blocks n (runs free v) b le, free_of_runs free v b)

pub whole_long : (rs : List Run) (n : ℕ) → n ≤ most rs → length (blocks_of (whole n rs)) ≡ n
whole_long rs n le = length_blocks (whole n rs) ∙ omega (arith, fit_count n rs le)

pub split_free : (free : Blocks) (v n b : ℕ) → times (blocks_of (split n (runs free v))) b ≤ one_if (free b)
split_free free v n b = omega (arith, split_blocks (length (runs free v)) n (runs free v) b, free_of_runs free v b)

pub split_long : (rs : List Run) (n : ℕ) → n ≤ total rs → length (blocks_of (split n rs)) ≡ n
split_long rs n le = length_blocks (split n rs) ∙ split_total (length rs) n rs (omega arith) le

-- each granted call
pub granted_sound : (c : Config) (m : Model) → Sound c.volume m → (call : Call) (bytes : List ℕ) → Clear (reasons c m call bytes) → Sound c.volume (granted c m call bytes).next
granted_sound c m s (Insert f at n) bytes ok = insert_sound s f (leb-false _ _ ok.0) at n
granted_sound c m s (Collapse f at n) bytes ok = collapse_sound s f (leb-false _ _ ok.0) at n
granted_sound c m s (Punch f at n) bytes ok = punch_sound s f (leb-false _ _ ok.0) at n
granted_sound c m s (ReserveWhole f at n) bytes ok =
    let fits : n ≤ most (free_runs c m) = ltb-false _ _ ok.1.1.1.1.0 in
    reserve_sound s f (leb-false _ _ ok.0) at n _ (whole_long (free_runs c m) n fits) (ltb-false _ _ ok.1.1.0) (not-false _ ok.1.1.1.0) (λ b. whole_free m.free c.volume n b fits)
granted_sound c m s (ReserveSplit f at n) bytes ok =
    let fits : n ≤ total (free_runs c m) = ltb-false _ _ ok.1.1.1.1.0 in
    reserve_sound s f (leb-false _ _ ok.0) at n _ (split_long (free_runs c m) n fits) (ltb-false _ _ ok.1.1.0) (not-false _ ok.1.1.1.0) (λ b. split_free m.free c.volume n b)
granted_sound c m s (Write f at) bytes ok = write_sound s f (leb-false _ _ ok.0) at bytes (leb-false _ _ ok.1.0) ok.1.1.1.0
granted_sound c m s (Read f at) bytes ok = s
granted_sound c m s (Find f at) bytes ok = s
granted_sound c m s (Length f) bytes ok = s
granted_sound c m s Tally bytes ok = s
granted_sound c m s (Map f) bytes ok = s
granted_sound c m s (Drop f) bytes ok = empty_sound s f (leb-false _ _ ok.0)

pub fresh_sound : (v : ℕ) → Sound v (fresh v)
fresh_sound v = record { sized = refl; owned = λ b. omega (arith, sum_by-replicate (λ ps. held ps b) file_count []) }

pub reached_sound : (c : Config) (qs : List Request) → Sound c.volume (reached c qs)
reached_sound c qs = run_keeps c (Sound c.volume) (granted_sound c) (fresh c.volume) (fresh_sound c.volume) qs

pub one_owner : OneOwner
one_owner c qs b = (reached_sound c qs).owned b

-- no block past the volume is free
pub free_below : (c : Config) (m : Model) → Sound c.volume m → (b : ℕ) → c.volume ≤ b → m.free b ≡ false
free_below c m s b ge = grind (arith, nat_tests, s.owned b)
