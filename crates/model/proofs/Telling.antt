-- Contents by history: a place shows what the calls and their answers say.
use Rattle.std.proofs.Common.{◌≡◌, ℕ, ◌+◌, ◌-◌, ◌<◌, ◌≤◌, cond, eqb, List, [], ◌∷◌, length, get_or, set, sym, refl, ap, ◌∙◌, arith, length-set}
use Rattle.std.proofs.lemmas.List.{get_or-set_same, get_or-set_other}
use Rattle.std.proofs.lemmas.Bool.Decides.{nat_tests}
use Rattle.std.proofs.lemmas.Bool.{ltb-false, leb-false}
use Rattle.calls.specs.declared.kind.Kind.TheVariants.{Written}
use Rattle.calls.specs.declared.call.Call.{Call}
use Rattle.calls.specs.declared.call.Call.TheVariants.{Insert, Collapse, Punch, ReserveWhole, ReserveSplit, Write, Read, Find, Length, Tally, Map, Drop}
use Rattle.calls.specs.declared.answer.Answer.TheVariants.{Places}
use Rattle.calls.specs.Answers.{answer_number}
use Rattle.calls.specs.Calls.{concerns}
use Rattle.model.specs.Places.{Place, hole, inserted, collapsed, punched, reserved}
use Rattle.model.specs.Space.{Blocks, split, whole, blocks_of}
use Rattle.model.specs.Store.{Config, Model, file_count, fresh, file, place, with_file, free_runs, insert, collapse, punch, reserve, write, empty}
use Rattle.model.specs.Rules.{leaves, reasons, granted, step}
use Rattle.model.specs.Replay.{Request, run, reached}
use Rattle.model.specs.History.{granted_first, was, origin, traced, bytes_of, resized, length_of, Contents}
use Rattle.model.proofs.Limits.{fresh_file}
use Rattle.model.proofs.Settled.{Clear, step_both, granted_zero, refused_some}
use Rattle.model.proofs.Changing.{length_inserted, length_collapsed, length_punched, length_reserved, inserted_at, collapsed_at, punched_at, reserved_at}

-- the store agrees with a history
pub record Agrees (m : Model) (past : List Request) : Type 0 where
  pub sized : length m.files ≡ file_count
  pub longs : (f : ℕ) → f < file_count → length (file m f) ≡ length_of past f
  pub shows : (f k : ℕ) → f < file_count → k < length (file m f) → (place m f k).bytes ≡ bytes_of past f k

-- one file changes by a granted call on it
module _ {m : Model} {past : List Request} (a : Agrees m past) (f : ℕ) (lt : f < file_count) (buffer : List ℕ) where
  inside : f < length m.files
  inside = omega (arith, a.sized)

  pub told : (call : Call) (ps : List Place) (free : Blocks) → ((g : ℕ) → concerns call g ≡ eqb f g) → length ps ≡ resized call (length_of past f) → ((k : ℕ) → k < length ps → (get_or ps k hole).bytes ≡ traced (bytes_of past f) (origin call buffer k)) → Agrees (with_file m f ps free) (record { call = call; buffer = buffer } ∷ past)
  told call ps free on long bytes = record {
    sized = length-set m.files f ps ∙ a.sized;
    longs = λ g lt'. grind (arith, nat_tests, on g, a.longs g, long, get_or-set_same m.files f ps [], get_or-set_other m.files f g ps []);
    shows = λ g k lt' under. grind (arith, nat_tests, on g, a.shows g k, bytes k, get_or-set_same m.files f ps [], get_or-set_other m.files f g ps []);
  }

  pub insert_told : (at n : ℕ) → at ≤ length (file m f) → Agrees (insert m f at n) (record { call = Insert f at n; buffer = buffer } ∷ past)
  insert_told at n le =
      let ps = file m f in
      let long = length_inserted ps at n le in
      told (Insert f at n) (inserted ps at n) m.free (λ g. refl) (omega (arith, long, a.longs f lt))
      (λ k under. rw (inserted_at ps at n k le) (grind (arith, nat_tests, long, a.shows f k lt, a.shows f (k - n) lt)))

  pub collapse_told : (at n : ℕ) → at + n ≤ length (file m f) → Agrees (collapse m f at n) (record { call = Collapse f at n; buffer = buffer } ∷ past)
  collapse_told at n le =
      let ps = file m f in
      let long = length_collapsed ps at n le in
      told (Collapse f at n) (collapsed ps at n) (collapse m f at n).free (λ g. refl) (omega (arith, long, a.longs f lt))
      (λ k under. rw (collapsed_at ps at n k le) (grind (arith, nat_tests, long, a.shows f k lt, a.shows f (k + n) lt)))

  pub punch_told : (at n : ℕ) → at + n ≤ length (file m f) → Agrees (punch m f at n) (record { call = Punch f at n; buffer = buffer } ∷ past)
  punch_told at n le =
      let ps = file m f in
      let long = length_punched ps at n le in
      told (Punch f at n) (punched ps at n) (punch m f at n).free (λ g. refl) (omega (arith, long, a.longs f lt))
      (λ k under. rw (punched_at ps at n k le) (grind (arith, nat_tests, long, a.shows f k lt)))

  -- a reserve of either form
  pub reserve_told : (call : Call) (at : ℕ) (bs : List ℕ) → ((g : ℕ) → concerns call g ≡ eqb f g) → ((l : ℕ) → resized call l ≡ l) → ((k : ℕ) → origin call buffer k ≡ was k) → at ≤ length (file m f) → Agrees (reserve m f at bs) (record { call = call; buffer = buffer } ∷ past)
  reserve_told call at bs on size stays le =
      let ps = file m f in
      let long = length_reserved ps at bs le in
      told call (reserved ps at bs) (reserve m f at bs).free on
      (long ∙ a.longs f lt ∙ sym (size (length_of past f)))
      (λ k under. rw (reserved_at ps at bs k le) (grind (arith, long, a.shows f k lt, stays k)))

  pub write_told : (at : ℕ) → at < length (file m f) → Agrees (write m f at buffer) (record { call = Write f at; buffer = buffer } ∷ past)
  write_told at under =
      let ps = file m f in
      let p : Place = record { kind = Written; block = (place m f at).block; bytes = buffer } in
      let long = length-set ps at p in
      told (Write f at) (set ps at p) m.free (λ g. refl) (long ∙ a.longs f lt)
      (λ k under'. grind (arith, nat_tests, long, a.shows f k lt, get_or-set_same ps at p hole, get_or-set_other ps at k p hole))

  pub drop_told : Agrees (empty m f) (record { call = Drop f; buffer = buffer } ∷ past)
  drop_told = told (Drop f) [] (empty m f).free (λ g. refl) refl (λ k under. absurd (omega arith))

-- a granted call that changes no place
unchanged : {m : Model} {past : List Request} → Agrees m past → (q : Request) → ((l : ℕ) → resized q.call l ≡ l) → ((k : ℕ) → origin q.call q.buffer k ≡ was k) → Agrees m (q ∷ past)
unchanged {m = m} {past = past} a q size stays = record {
  sized = a.sized;
  longs = λ f lt. grind (arith, a.longs f lt, size (length_of past f));
  shows = λ f k lt under. grind (arith, a.shows f k lt under, stays k);
}

granted_told : (c : Config) (m : Model) (past : List Request) → Agrees m past → (call : Call) (buffer : List ℕ) → Clear (reasons c m call buffer) → Agrees (granted c m call buffer).next (record { call = call; buffer = buffer } ∷ past)
granted_told c m past a (Insert f at n) buffer ok = insert_told a f (leb-false _ _ ok.0) buffer at n (ltb-false _ _ ok.1.1.0)
granted_told c m past a (Collapse f at n) buffer ok = collapse_told a f (leb-false _ _ ok.0) buffer at n (ltb-false _ _ ok.1.1.0)
granted_told c m past a (Punch f at n) buffer ok = punch_told a f (leb-false _ _ ok.0) buffer at n (ltb-false _ _ ok.1.1.0)
granted_told c m past a (ReserveWhole f at n) buffer ok =
    let fits : at + n ≤ length (file m f) = ltb-false _ _ ok.1.1.0 in
    reserve_told a f (leb-false _ _ ok.0) buffer (ReserveWhole f at n) at (blocks_of (whole n (free_runs c m))) (λ g. refl) (λ l. refl) (λ k. refl) (omega (arith, fits))
granted_told c m past a (ReserveSplit f at n) buffer ok =
    let fits : at + n ≤ length (file m f) = ltb-false _ _ ok.1.1.0 in
    reserve_told a f (leb-false _ _ ok.0) buffer (ReserveSplit f at n) at (blocks_of (split n (free_runs c m))) (λ g. refl) (λ l. refl) (λ k. refl) (omega (arith, fits))
granted_told c m past a (Write f at) buffer ok = write_told a f (leb-false _ _ ok.0) buffer at (leb-false _ _ ok.1.0)
granted_told c m past a (Read f at) buffer ok = unchanged a (record { call = Read f at; buffer = buffer }) (λ l. refl) (λ k. refl)
granted_told c m past a (Find f at) buffer ok = unchanged a (record { call = Find f at; buffer = buffer }) (λ l. refl) (λ k. refl)
granted_told c m past a (Length f) buffer ok = unchanged a (record { call = Length f; buffer = buffer }) (λ l. refl) (λ k. refl)
granted_told c m past a Tally buffer ok = unchanged a (record { call = Tally; buffer = buffer }) (λ l. refl) (λ k. refl)
granted_told c m past a (Map f) buffer ok = unchanged a (record { call = Map f; buffer = buffer }) (λ l. refl) (λ k. refl)
granted_told c m past a (Drop f) buffer ok = drop_told a f (leb-false _ _ ok.0) buffer

step_told : (c : Config) (m : Model) (past : List Request) → Agrees m past → (q : Request) → Agrees (step c m q.call q.buffer).next (cond (eqb (answer_number (step c m q.call q.buffer).answer) 0) (q ∷ past) past)
step_told c m past a q =
    step_both c m q.call q.buffer (λ o. Agrees o.next (cond (eqb (answer_number o.answer) 0) (q ∷ past) past))
    (λ w. grind (arith, nat_tests, a, refused_some w))
    (λ e. rw (granted_zero c m q.call q.buffer) (granted_told c m past a q.call q.buffer e))

run_told : (c : Config) (m : Model) (past : List Request) → Agrees m past → (qs : List Request) → Agrees (run c m qs).after (granted_first qs (run c m qs).replies past)
run_told c m past a [] = a
run_told c m past a (q ∷ qs) = run_told c (step c m q.call q.buffer).next _ (step_told c m past a q) qs

fresh_told : (v : ℕ) → Agrees (fresh v) []
fresh_told v = record {
  sized = refl;
  longs = λ f lt. ap length (fresh_file v f);
  shows = λ f k lt under. absurd (omega (arith, under, ap length (fresh_file v f)));
}

-- length, which nothing stands against
pub lengths : (c : Config) (m : Model) (f : ℕ) (buffer : List ℕ) → f < file_count → step c m (Length f) buffer ≡ leaves m buffer (Places (length (file m f)))
lengths c m f buffer lt = grind (arith, nat_tests)

pub contents : Contents
contents c qs f buffer lt =
    let a = run_told c (fresh c.volume) [] (fresh_told c.volume) qs in
    let m = reached c qs in
    record {
      long = grind (arith, lengths c m f buffer lt, a.longs f lt);
      shown = λ k full under. grind (arith, nat_tests, a.longs f lt, a.shows f k lt);
    }
