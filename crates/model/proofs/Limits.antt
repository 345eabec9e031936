-- Limits: what every run keeps within.
use Rattle.std.proofs.Common.{◌≡◌, ℕ, ◌+◌, ◌-◌, ◌<◌, ◌≤◌, true, false, cond, ltb, List, [], length, get_or, set, replicate, refl, ◌∙◌, ⊎_elim, arith, length-set}
use Rattle.std.proofs.lemmas.List.Sums.{sum_by-set}
use Rattle.std.proofs.lemmas.List.{places, get_or-set_same, get_or-set_other}
use Rattle.std.proofs.lemmas.Bool.Decides.{nat_tests}
use Rattle.std.proofs.lemmas.Bool.{ltb-false, leb-false, eqb-true, not-false, cases_eq}
use Rattle.calls.specs.declared.kind.Kind.TheVariants.{Written}
use Rattle.calls.specs.declared.call.Call.{Call}
use Rattle.calls.specs.declared.call.Call.TheVariants.{Insert, Collapse, Punch, ReserveWhole, ReserveSplit, Write, Read, Find, Length, Tally, Map, Drop}
use Rattle.model.specs.Places.{Place, hole, is_hole, is_reserved, all_holes, range, inserted, collapsed, punched, reserved}
use Rattle.model.specs.Extents.{extents, cut}
use Rattle.model.specs.Space.{Blocks, Run, total, most, split, whole, blocks_of}
use Rattle.card.specs.Sizes.{block_size}
use Rattle.model.specs.Store.{Config, Model, fresh, file, place, with_file, extent_count, spare, free_runs, both_cuts, insert, collapse, punch, reserve, write, empty, file_count, most_places}
use Rattle.model.specs.Rules.{reasons, granted}
use Rattle.model.specs.Limits.{Tidy, Within, LimitsKept}
use Rattle.model.proofs.Basics.{positive}
use Rattle.model.proofs.Settled.{Clear, run_keeps}
use Rattle.model.proofs.Choosing.{some_run, fit_count, split_total}
use Rattle.model.proofs.Owners.{whole_long, split_long}
use Rattle.model.proofs.Changing.{inserted_at, collapsed_at, punched_at, length_inserted, length_collapsed, length_punched, length_reserved, reserved_at, holes_in}
use Rattle.model.proofs.Entries.{ext, inserted_ext, collapsed_ext, punched_ext, reserved_ext, set_ext, set_same}

hole_tidy : Tidy hole
hole_tidy = (refl, refl)

module _ {c : Config} {m : Model} (w : Within c m) (f : ℕ) (lt : f < file_count) where
  inside : f < length m.files
  inside = omega (arith, w.files)

  -- what holds of the new list and of an old file holds of that file with the list put in
  either : (P : List Place → Type 0) (ps : List Place) (g : ℕ) → P ps → P (file m g) → P (get_or (set m.files f ps) g [])
  either P ps g new old =
      ⊎_elim
      (λ (same : g ≡ f). rw (same, get_or-set_same m.files f ps [] inside) new)
      (λ other. rw (get_or-set_other m.files f g ps [] other) old)
      (cases_eq g f)

  pub changed : (ps : List Place) (free : Blocks) → length ps ≤ most_places → ext ps + extent_count m ≤ ext (file m f) + c.entries → ((k : ℕ) → Tidy (get_or ps k hole)) → Within c (with_file m f ps free)
  changed ps free short few all = record {
    files = length-set m.files f ps ∙ w.files;
    places = λ g. either (λ qs. length qs ≤ most_places) ps g short (w.places g);
    tidy = λ g k. either (λ qs. Tidy (get_or qs k hole)) ps g (all k) (w.tidy g k);
    entries = omega (arith, sum_by-set (λ qs. length (extents qs)) m.files f ps [] inside, few);
  }

  -- what spare allows
  room : (needed : ℕ) → ltb (spare c m) needed ≡ false → extent_count m + needed ≤ c.entries
  room needed e = omega (arith, ltb-false (spare c m) needed e, w.entries)

  insert_within : (at n : ℕ) → at ≤ length (file m f) → length (file m f) + n ≤ most_places → ltb (spare c m) (cut (file m f) at + 1) ≡ false → Within c (insert m f at n)
  insert_within at n le short e =
      changed (inserted (file m f) at n) m.free (omega (arith, length_inserted (file m f) at n le)) (omega (arith, inserted_ext (file m f) at n, room _ e))
      (λ k. rw (inserted_at (file m f) at n k le) (grind (arith, hole_tidy, w.tidy f k, w.tidy f (k - n))))

  collapse_within : (at n : ℕ) → 0 < n → at + n ≤ length (file m f) → ltb (spare c m) (both_cuts m f at n) ≡ false → Within c (collapse m f at n)
  collapse_within at n pos le e =
      changed (collapsed (file m f) at n) (collapse m f at n).free (omega (arith, length_collapsed (file m f) at n le, w.places f)) (omega (arith, collapsed_ext (file m f) at n pos, room _ e))
      (λ k. rw (collapsed_at (file m f) at n k le) (grind (arith, w.tidy f k, w.tidy f (k + n))))

  punch_within : (at n : ℕ) → 0 < n → at + n ≤ length (file m f) → ltb (spare c m) (both_cuts m f at n) ≡ false → Within c (punch m f at n)
  punch_within at n pos le e =
      changed (punched (file m f) at n) (punch m f at n).free (omega (arith, length_punched (file m f) at n le, w.places f)) (omega (arith, punched_ext (file m f) at n pos le, room _ e))
      (λ k. rw (punched_at (file m f) at n k le) (grind (arith, hole_tidy, w.tidy f k)))

  reserve_within : (at n : ℕ) (qs : List Run) → 0 < n → at + n ≤ length (file m f) → total qs ≡ n → length (blocks_of qs) ≡ n → all_holes (range (file m f) at n) ≡ true → 0 < length qs → ltb (spare c m) (both_cuts m f at n + length qs - 1) ≡ false → Within c (reserve m f at (blocks_of qs))
  reserve_within at n qs pos le all long holes some e =
      let ps = file m f in
      let bs = blocks_of qs in
      let le' : at ≤ length ps = omega arith in
      changed (reserved ps at bs) (reserve m f at bs).free (omega (arith, length_reserved ps at bs le', w.places f)) (omega (arith, reserved_ext ps at n qs all pos le, room _ e))
      (λ k. rw (reserved_at ps at bs k le') (grind (arith, nat_tests, holes_in ps at n k, w.tidy f k)))

  write_within : (at : ℕ) (bytes : List ℕ) → at < length (file m f) → length bytes ≡ block_size → is_hole (place m f at).kind ≡ false → ltb (spare c m) (cond (is_reserved (place m f at).kind) (both_cuts m f at 1) 0) ≡ false → Within c (write m f at bytes)
  write_within at bytes under full solid e =
      let ps = file m f in
      let p : Place = record { kind = Written; block = (place m f at).block; bytes = bytes } in
      changed (set ps at p) m.free (omega (arith, length-set ps at p, w.places f)) (grind (arith, set_ext (file m f) at p under, room (both_cuts m f at 1), set_same (file m f) at p under, w.entries))
      (λ k. ⊎_elim
      (λ (same : k ≡ at). rw (same, get_or-set_same ps at p hole under) full)
      (λ other. rw (get_or-set_other ps at k p hole other) (w.tidy f k))
      (cases_eq k at))

  drop_within : Within c (empty m f)
  drop_within = changed [] (empty m f).free (omega arith) (omega (arith, w.entries)) (λ k. hole_tidy)

granted_within : (c : Config) (m : Model) → Within c m → (call : Call) (bytes : List ℕ) → Clear (reasons c m call bytes) → Within c (granted c m call bytes).next
granted_within c m w (Insert f at n) bytes ok = insert_within w f (leb-false _ _ ok.0) at n (ltb-false _ _ ok.1.1.0) (ltb-false _ _ ok.1.1.1.0) ok.1.1.1.1.0
granted_within c m w (Collapse f at n) bytes ok = collapse_within w f (leb-false _ _ ok.0) at n (positive n ok.1.0) (ltb-false _ _ ok.1.1.0) ok.1.1.1.0
granted_within c m w (Punch f at n) bytes ok = punch_within w f (leb-false _ _ ok.0) at n (positive n ok.1.0) (ltb-false _ _ ok.1.1.0) ok.1.1.1.0
granted_within c m w (ReserveWhole f at n) bytes ok =
    let fits : n ≤ most (free_runs c m) = ltb-false _ _ ok.1.1.1.1.0 in
    let qs = whole n (free_runs c m) in
    let all : total qs ≡ n = omega (arith, fit_count n (free_runs c m) fits) in
    reserve_within w f (leb-false _ _ ok.0) at n qs (positive n ok.1.0) (ltb-false _ _ ok.1.1.0) all (whole_long (free_runs c m) n fits) (not-false _ ok.1.1.1.0) (omega arith)
    (rw (let same : both_cuts m f at n + 1 - 1 ≡ both_cuts m f at n = omega arith in same) ok.1.1.1.1.1.0)
granted_within c m w (ReserveSplit f at n) bytes ok =
    let fits : n ≤ total (free_runs c m) = ltb-false _ _ ok.1.1.1.1.0 in
    let qs = split n (free_runs c m) in
    let all : total qs ≡ n = split_total (length (free_runs c m)) n (free_runs c m) (omega arith) fits in
    let pos = positive n ok.1.0 in
    reserve_within w f (leb-false _ _ ok.0) at n qs pos (ltb-false _ _ ok.1.1.0) all (split_long (free_runs c m) n fits) (not-false _ ok.1.1.1.0) (some_run qs (omega (arith, all, pos)))
    ok.1.1.1.1.1.1.0
granted_within c m w (Write f at) bytes ok = write_within w f (leb-false _ _ ok.0) at bytes (leb-false _ _ ok.1.0) (eqb-true _ _ (not-false _ ok.1.1.0)) ok.1.1.1.0 ok.1.1.1.1.0
granted_within c m w (Read f at) bytes ok = w
granted_within c m w (Find f at) bytes ok = w
granted_within c m w (Length f) bytes ok = w
granted_within c m w Tally bytes ok = w
granted_within c m w (Map f) bytes ok = w
granted_within c m w (Drop f) bytes ok = drop_within w f (leb-false _ _ ok.0)

-- every file of a new volume is empty
pub no_places : (n f : ℕ) → get_or {A = List Place} (replicate n []) f [] ≡ []
no_places n f = grind (arith, places)

pub fresh_file : (v f : ℕ) → file (fresh v) f ≡ []
fresh_file v f = no_places file_count f

fresh_within : (c : Config) → Within c (fresh c.volume)
fresh_within c = record {
  files = refl;
  places = λ f. rw (fresh_file c.volume f) (omega arith);
  tidy = λ f k. rw (fresh_file c.volume f) hole_tidy;
  entries = omega arith;
}

pub limits_kept : LimitsKept
limits_kept c qs = run_keeps c (Within c) (granted_within c) (fresh c.volume) (fresh_within c) qs
