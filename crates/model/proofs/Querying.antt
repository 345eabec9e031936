-- What find, length, tally and map answer.
use Rattle.std.proofs.Common.{◌≡◌, ℕ, zero, suc, ◌+◌, ◌<◌, ◌≤◌, Bool, true, cond, List, [], ◌∷◌, length, drop, count_by, sym, refl, ◌∙◌, ap₂, arith, length-drop}
use Rattle.std.proofs.lemmas.List.Sums.{sum_by-cons}
use Rattle.std.proofs.lemmas.Bool.Decides.{nat_tests}
use Rattle.std.proofs.lemmas.Bool.{lt-leb, cond_both}
use Rattle.calls.specs.declared.call.Call.TheVariants.{Find, Tally}
use Rattle.calls.specs.declared.answer.Answer.TheVariants.{Tallied}
use Rattle.model.specs.Places.{Place}
use Rattle.model.specs.Extents.{Extent, goes_on, extents, cut, leading_count}
use Rattle.model.specs.Space.{Blocks, Run, run_before, runs_from, total, longest, row}
use Rattle.model.specs.Store.{Config, Model, file_count, file, place, free_runs, spare}
use Rattle.model.specs.Rules.{leaves, step}
use Rattle.model.specs.Replay.{reached}
use Rattle.model.specs.Ownership.{one_if}
use Rattle.model.specs.Limits.{Tidy}
use Rattle.model.specs.Exact.{mappings, spread, Longest}
use Rattle.model.specs.Queries.{Finds, Tallies, Maps, QueriesRight}
use Rattle.model.proofs.Owners.{Sound, reached_sound, free_below}
use Rattle.model.proofs.Choosing.{longest_count}
use Rattle.model.proofs.Rows.{longest_row}
use Rattle.model.proofs.ExactExtents.{extents_exact}
use Rattle.model.proofs.Entries.{before_head, cut_cons, cut_past, cut_drop}
use Rattle.model.proofs.Limits.{limits_kept}
use Rattle.model.proofs.Telling.{lengths}

-- the first extent of some places: how far it goes
record Leads (ps : List Place) (l : ℕ) : Type 0 where
  some : 0 < l
  inside : l ≤ length ps
  together : (i : ℕ) → 0 < i → i < l → cut ps i ≡ 1
  ends : cut ps l ≡ 0

-- one place more in front, in the same extent
leads_more : (p q : Place) (qs : List Place) (l : ℕ) → goes_on p.kind p.block q.kind q.block ≡ true → Leads (q ∷ qs) l → Leads (p ∷ q ∷ qs) (suc l)
leads_more p q qs zero on ih = absurd (omega (arith, ih.some))
leads_more p q qs (suc l) on ih = record { some = omega arith; inside = omega (arith, ih.inside); together = joined; ends = cut_cons p (q ∷ qs) l ∙ ih.ends }
  where
    joined : (i : ℕ) → 0 < i → i < suc (suc l) → cut (p ∷ q ∷ qs) i ≡ 1
    joined zero pos lt = absurd (omega arith)
    joined (suc zero) pos lt = grind (arith, nat_tests)
    joined (suc (suc i)) pos lt = cut_cons p (q ∷ qs) i ∙ ih.together (suc i) (omega arith) (omega arith)

leads : (p : Place) (ps : List Place) → Leads (p ∷ ps) (leading_count (extents (p ∷ ps)))
leads p [] = record { some = omega arith; inside = omega arith; together = λ i pos lt. absurd (omega arith); ends = cut_past (p ∷ []) 0 (omega arith) }
leads p (q ∷ qs) =
    let h = before_head q.kind q.block (extents qs) in
    let ih : Leads (q ∷ qs) h.first.count = rw h.is at (leads q qs) in
    let same = ap₂ (goes_on p.kind p.block) h.kind h.block in
    rw h.is (cond_both (goes_on p.kind p.block h.first.kind h.first.block) _ _ (λ x. Leads (p ∷ q ∷ qs) (leading_count x))
    (λ on. leads_more p q qs h.first.count (sym same ∙ on) ih)
    (λ apart. record { some = omega arith; inside = omega arith; together = λ i pos lt. absurd (omega arith); ends = grind (arith, nat_tests, sym same ∙ apart) }))

leads_some : (ps : List Place) → 0 < length ps → Leads ps (leading_count (extents ps))
leads_some [] lt = absurd (omega arith)
leads_some (p ∷ ps) lt = leads p ps

-- the same, from place at on
finds : (c : Config) (m : Model) (f at : ℕ) (buffer : List ℕ) → f < file_count → at < length (file m f) → Finds m f at buffer (step c m (Find f at) buffer)
finds c m f at buffer lt under =
    let ps = file m f in
    let l = leading_count (extents (drop at ps)) in
    let h = leads_some (drop at ps) (omega (arith, length-drop at ps)) in
    record {
      rest = l;
      says = rw (lt-leb file_count f lt, lt-leb (length ps) at under);
      some = h.some;
      inside = omega (arith, h.inside, length-drop at ps);
      together = λ i pos lt'. sym (cut_drop ps at i pos) ∙ h.together i pos lt';
      ends = sym (cut_drop ps at l h.some) ∙ h.ends;
    }

-- the free blocks, counted
total_before : (x : Bool) (s : ℕ) (rs : List Run) → total (run_before x s rs) ≡ one_if x + total rs
total_before x s rs = grind (arith, nat_tests)

runs_total : (free : Blocks) (s n : ℕ) → total (runs_from free s n) ≡ count_by free (row s n)
runs_total free s zero = refl
runs_total free s (suc n) = omega (arith, total_before (free s) s (runs_from free (suc s) n), sum_by-cons (λ b. cond (free b) 1 0) s (row (suc s) n), runs_total free (suc s) n)

tallies : (c : Config) (m : Model) → Sound c.volume m → (buffer : List ℕ) → Tallies c m buffer (step c m Tally buffer)
tallies c m s buffer = record {
  start = (longest (free_runs c m)).start;
  count = (longest (free_runs c m)).count;
  longest = longest_row m.free c.volume (free_below c m s);
  says = ap₂ (λ x y. leaves m buffer (Tallied x y (spare c m))) (runs_total m.free 0 c.volume) (sym (longest_count (free_runs c m)));
}

maps : (c : Config) (m : Model) (f : ℕ) (buffer : List ℕ) → f < file_count → ((k : ℕ) → Tidy (place m f k)) → (es : List Extent) → spread es ≡ mappings (file m f) → Longest es → Maps c m f buffer es
maps c m f buffer lt tidy es stand long =
    rw (← extents_exact.only (file m f) es tidy stand long) (λ fits. grind (arith, nat_tests))

pub queries_right : QueriesRight
queries_right c qs f buffer lt =
    let m = reached c qs in
    record {
      find = λ at under. finds c m f at buffer lt under;
      nothing_else = λ at over. grind (arith, nat_tests);
      long = lengths c m f buffer lt;
      tally = tallies c m (reached_sound c qs) buffer;
      map = maps c m f buffer lt ((limits_kept c qs).tidy f);
    }
