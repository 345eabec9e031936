-- What each granted call does to its file, place by place.
use Rattle.std.proofs.Common.{◌≡◌, ℕ, ◌+◌, ◌<◌, ◌≤◌, true, List, [], length, get_or, set, Result, refl, arith, length-set}
use Rattle.std.proofs.lemmas.List.{places, get_or-set_same, get_or-set_other}
use Rattle.std.proofs.lemmas.Bool.Decides.{nat_tests}
use Rattle.std.proofs.lemmas.Bool.{ltb-false, leb-false, not-false}
use Rattle.calls.specs.declared.kind.Kind.TheVariants.{Hole, Written}
use Rattle.calls.specs.declared.call.Call.{Call}
use Rattle.calls.specs.declared.call.Call.TheVariants.{Insert, Collapse, Punch, ReserveWhole, ReserveSplit, Write, Drop}
use Rattle.calls.specs.declared.refusal.Refusal.{Refusal}
use Rattle.calls.specs.declared.answer.Answer.{Answer}
use Rattle.calls.specs.Answers.{answer_number}
use Rattle.model.specs.Places.{Place, hole, all_holes, range, inserted, collapsed, punched, reserved}
use Rattle.model.specs.Space.{total, most, split, whole, blocks_of}
use Rattle.model.specs.Store.{Config, Model, file_count, file, place, free_runs}
use Rattle.model.specs.Rules.{reasons, granted}
use Rattle.model.specs.Replay.{reached}
use Rattle.model.specs.Limits.{Tidy, Within}
use Rattle.model.specs.Ranges.{nth, Opened, Closed, Cleared, Backed, Stored, Plain, InPieces, Does, Changes, RangeCalls}
use Rattle.model.proofs.Settled.{Clear, step_both, refused_some}
use Rattle.model.proofs.Changing.{length_reserved, reserved_at, holes_in}
use Rattle.model.proofs.Owners.{whole_long, split_long}
use Rattle.model.proofs.Limits.{limits_kept}

module _ (ps : List Place) (at n : ℕ) where
  opened : at ≤ length ps → Opened at n ps (inserted ps at n)
  opened le = grind (arith, places)

  closed : at + n ≤ length ps → Closed at n ps (collapsed ps at n)
  closed le = grind (arith, places)

  cleared : at + n ≤ length ps → Cleared at n ps (punched ps at n)
  cleared le = grind (arith, places)

hole_place : (p : Place) → p.kind ≡ Hole → Tidy p → p ≡ hole
hole_place p e t = grind arith

backed : (ps : List Place) (at n : ℕ) (bs : List ℕ) → length bs ≡ n → at + n ≤ length ps → all_holes (range ps at n) ≡ true → ((k : ℕ) → Tidy (nth ps k)) → Backed at n ps (reserved ps at bs)
backed ps at n bs many le holes tidy = record {
  long = length_reserved ps at bs (omega arith);
  front = λ k lt. rw (reserved_at ps at bs k (omega arith)) (grind (arith, nat_tests));
  inside = λ k from to. let was = hole_place (nth ps k) (holes_in ps at n k from to holes) (tidy k) in rw (reserved_at ps at bs k (omega arith)) (grind (arith, nat_tests, was));
  behind = λ k from. rw (reserved_at ps at bs k (omega arith)) (grind (arith, nat_tests));
}

module _ (c : Config) (m : Model) (w : Within c m) (f at n : ℕ) (buffer : List ℕ) where
  changed : (ps : List Place) (Change : List Place → List Place → Type 0) → f < file_count → Change (file m f) ps → Change (file m f) (get_or (set m.files f ps) f [])
  changed ps Change lt so = rw (get_or-set_same m.files f ps [] (omega (arith, w.files))) so

  does : (call : Call) (Says : Result Answer Refusal → Type 0) (Change : List Place → List Place → Type 0)
      → (Clear (reasons c m call buffer) → Says (granted c m call buffer).answer × ((granted c m call buffer).buffer ≡ buffer) × Change (file m f) (file (granted c m call buffer).next f)) → Does c m call buffer f Says Change
  does call Says Change done =
      step_both c m call buffer (λ o. answer_number o.answer ≡ 0 → Says o.answer × (o.buffer ≡ buffer) × Change (file m f) (file o.next f))
      (λ why zero. absurd (omega (arith, refused_some why, zero)))
      (λ ok _. done ok)

  changes : Changes c m f at n buffer
  changes = record {
    insert = does (Insert f at n) Plain (Opened at n) (λ ok.
        (refl, refl, changed (inserted (file m f) at n) (Opened at n) (leb-false _ _ ok.0) (opened (file m f) at n (ltb-false _ _ ok.1.1.0))));
    collapse = does (Collapse f at n) Plain (Closed at n) (λ ok.
        (refl, refl, changed (collapsed (file m f) at n) (Closed at n) (leb-false _ _ ok.0) (closed (file m f) at n (ltb-false _ _ ok.1.1.0))));
    punch = does (Punch f at n) Plain (Cleared at n) (λ ok.
        (refl, refl, changed (punched (file m f) at n) (Cleared at n) (leb-false _ _ ok.0) (cleared (file m f) at n (ltb-false _ _ ok.1.1.0))));
    reserve_whole = does (ReserveWhole f at n) InPieces (Backed at n) (λ ok.
        let bs = blocks_of (whole n (free_runs c m)) in
        let fits : n ≤ most (free_runs c m) = ltb-false _ _ ok.1.1.1.1.0 in
        ((1, refl), refl, changed (reserved (file m f) at bs) (Backed at n) (leb-false _ _ ok.0) (backed (file m f) at n bs (whole_long (free_runs c m) n fits) (ltb-false _ _ ok.1.1.0) (not-false _ ok.1.1.1.0) (w.tidy f))));
    reserve_split = does (ReserveSplit f at n) InPieces (Backed at n) (λ ok.
        let bs = blocks_of (split n (free_runs c m)) in
        let fits : n ≤ total (free_runs c m) = ltb-false _ _ ok.1.1.1.1.0 in
        ((length (split n (free_runs c m)), refl), refl, changed (reserved (file m f) at bs) (Backed at n) (leb-false _ _ ok.0) (backed (file m f) at n bs (split_long (free_runs c m) n fits) (ltb-false _ _ ok.1.1.0) (not-false _ ok.1.1.1.0) (w.tidy f))));
    write = does (Write f at) Plain (Stored at buffer) (λ ok.
        let p : Place = record { kind = Written; block = (place m f at).block; bytes = buffer } in (
          refl,
          refl,
          changed _ (Stored at buffer) (leb-false _ _ ok.0) (record {
            long = length-set (file m f) at p;
            here = get_or-set_same (file m f) at p hole (leb-false _ _ ok.1.0);
            elsewhere = λ k other. get_or-set_other (file m f) at k p hole other;
          }),
        ));
    drop = does (Drop f) Plain (λ old new. new ≡ []) (λ ok.
        (refl, refl, changed [] (λ old new. new ≡ []) (leb-false _ _ ok.0) refl));
  }

pub range_calls : RangeCalls
range_calls c qs f at n buffer = changes c (reached c qs) (limits_kept c qs) f at n buffer
