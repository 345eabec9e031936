-- The extents never outnumber the entries of the table.
use Rattle.std.proofs.Common.{◌≡◌, ℕ, zero, suc, ◌+◌, ◌<◌, ◌≤◌, List, [], ◌∷◌, ◌++◌, length, get_or, take, drop, set, replicate, refl, ap, ◌∙◌, ap₂, arith, length-drop, take-append-drop, length-take}
use Rattle.std.proofs.lemmas.List.{places, drop-drop, set_split}
use Rattle.std.proofs.lemmas.Bool.Decides.{nat_tests}
use Rattle.std.proofs.lemmas.Bool.{cond_both}
use Rattle.calls.specs.declared.kind.Kind.{Kind}
use Rattle.calls.specs.declared.kind.Kind.TheVariants.{Reserved}
use Rattle.model.specs.Places.{Place, hole, range, inserted, collapsed, punched, laid, reserved}
use Rattle.model.specs.Extents.{Extent, goes_on, before, extents, cut}
use Rattle.model.specs.Space.{Run, total, row, blocks_of}
use Rattle.model.specs.Ownership.{one_if}

abbrev pub ext : List Place → ℕ
ext ps = length (extents ps)

-- 1 where a place and the first of those behind it are in one extent
abbrev link : Place → List Place → ℕ
link p [] = 0
link p (q ∷ qs) = one_if (goes_on p.kind p.block q.kind q.block)

pub record Head (k : Kind) (b : ℕ) (es : List Extent) : Type 0 where
  pub first : Extent
  pub rest : List Extent
  pub is : es ≡ first ∷ rest
  pub kind : first.kind ≡ k
  pub block : first.block ≡ b

pub before_head : (k : Kind) (b : ℕ) (es : List Extent) → Head k b (before k b es)
before_head k b [] = record { first = record { kind = k; count = 1; block = b }; rest = []; is = refl; kind = refl; block = refl }
before_head k b (e ∷ es) =
    cond_both (goes_on k b e.kind e.block) _ _ (λ x. Head k b x)
    (λ _. record { first = record { kind = k; count = suc e.count; block = b }; rest = es; is = refl; kind = refl; block = refl })
    (λ _. record { first = record { kind = k; count = 1; block = b }; rest = e ∷ es; is = refl; kind = refl; block = refl })

before_length : (k : Kind) (b : ℕ) (e : Extent) (es : List Extent) → length (before k b (e ∷ es)) + one_if (goes_on k b e.kind e.block) ≡ suc (suc (length es))
before_length k b e es = grind (arith, nat_tests)

pub ext_cons : (p : Place) (ps : List Place) → ext (p ∷ ps) + link p ps ≡ suc (ext ps)
ext_cons p [] = refl
ext_cons p (q ∷ qs) = let h = before_head q.kind q.block (extents qs) in rw h.is (grind (arith, before_length p.kind p.block h.first h.rest, h))

pub ext_some : (ps : List Place) → 0 < length ps → 1 ≤ ext ps
ext_some [] lt = absurd (omega arith)
ext_some (p ∷ ps) lt = let h = before_head p.kind p.block (extents ps) in omega (arith, ap length h.is)

-- 1 where the last of some places and the first of others are in one extent
abbrev join : List Place → List Place → ℕ
join [] ys = 0
join (x ∷ []) ys = link x ys
join (x ∷ z ∷ xs) ys = join (z ∷ xs) ys

ext_append : (xs ys : List Place) → ext (xs ++ ys) + join xs ys ≡ ext xs + ext ys
ext_append [] ys = omega arith
ext_append (x ∷ []) ys = omega (arith, ext_cons x ys)
ext_append (x ∷ z ∷ xs) ys = omega (arith, ext_append (z ∷ xs) ys, ext_cons x (z ∷ xs ++ ys), ext_cons x (z ∷ xs))

pub ext_append_le : (xs ys : List Place) → ext (xs ++ ys) ≤ ext xs + ext ys
ext_append_le xs ys = omega (arith, ext_append xs ys)

-- cut is that
pub cut_cons : (p : Place) (ps : List Place) (i : ℕ) → cut (p ∷ ps) (suc (suc i)) ≡ cut ps (suc i)
cut_cons p ps i = grind (arith, nat_tests)

pub cut_past : (ps : List Place) (i : ℕ) → length ps ≤ suc i → cut ps (suc i) ≡ 0
cut_past ps i le = grind (arith, nat_tests)

cut_join : (ps : List Place) (at : ℕ) → cut ps at ≡ join (take at ps) (drop at ps)
cut_join ps zero = refl
cut_join [] (suc i) = cut_past [] i (omega arith)
cut_join (p ∷ []) (suc zero) = refl
cut_join (p ∷ []) (suc (suc i)) = cut_past (p ∷ []) (suc i) (omega arith)
cut_join (p ∷ q ∷ qs) (suc zero) = grind (arith, nat_tests)
cut_join (p ∷ q ∷ qs) (suc (suc i)) = cut_cons p (q ∷ qs) i ∙ cut_join (q ∷ qs) (suc i)

cut_from : (ps : List Place) (at i : ℕ) → cut (drop at ps) (suc i) ≡ cut ps (suc (at + i))
cut_from ps at i = grind (arith, nat_tests, places)

pub cut_drop : (ps : List Place) (at i : ℕ) → 0 < i → cut (drop at ps) i ≡ cut ps (at + i)
cut_drop ps at zero pos = absurd (omega arith)
cut_drop ps at (suc i) pos = rw (let e : at + suc i ≡ suc (at + i) = omega arith in e) (cut_from ps at i)

-- the front, the range and the rest of a list of places
pub cut_once : (ps : List Place) (at : ℕ) → ext (take at ps) + ext (drop at ps) ≡ ext ps + cut ps at
cut_once ps at = grind (arith, ext_append (take at ps) (drop at ps), take-append-drop at ps, cut_join ps at)

pub cut_twice : (ps : List Place) (at n : ℕ) → 0 < n → ext (take at ps) + (ext (range ps at n) + ext (drop n (drop at ps))) ≡ ext ps + (cut ps at + cut ps (at + n))
cut_twice ps at n pos = omega (arith, cut_once ps at, cut_once (drop at ps) n, cut_drop ps at n pos)

ext_holes : (n : ℕ) → ext (replicate n hole) ≤ 1
ext_holes zero = omega arith
ext_holes (suc zero) = omega arith
ext_holes (suc (suc n)) = omega (arith, ext_cons hole (replicate (suc n) hole), ext_holes (suc n))

-- blocks in k rows, laid on places, make k extents at most
laid_row : (s l : ℕ) (cs : List ℕ) (ps : List Place) → ext (laid (row s l ++ cs) ps) ≤ suc (ext (laid cs (drop l ps)))
laid_row s zero cs ps = omega arith
laid_row s (suc l) cs [] = omega arith
laid_row s (suc zero) cs (p ∷ ps) = omega (arith, ext_cons (record { kind = Reserved; block = s; bytes = p.bytes }) (laid cs ps))
laid_row s (suc (suc l)) cs (p ∷ []) = omega (arith, ext_cons (record { kind = Reserved; block = s; bytes = p.bytes }) [])
laid_row s (suc (suc l)) cs (p ∷ q ∷ ps) =
    grind (arith, nat_tests, laid_row (suc s) (suc l) cs (q ∷ ps), ext_cons (record { kind = Reserved; block = s; bytes = p.bytes }) (laid (row (suc s) (suc l) ++ cs) (q ∷ ps)))

pub laid_runs : (qs : List Run) (ps : List Place) → ext (laid (blocks_of qs) ps) ≤ length qs + ext (drop (total qs) ps)
laid_runs [] ps = omega arith
laid_runs (q ∷ qs) ps = grind (arith, laid_row q.start q.count (blocks_of qs) ps, laid_runs qs (drop q.count ps), drop-drop (total qs) q.count ps)

-- each change needs no more entries than the rules ask for
module _ (ps : List Place) (at n : ℕ) where
  pub inserted_ext : ext (inserted ps at n) ≤ ext ps + (cut ps at + 1)
  inserted_ext = omega (arith, ext_append_le, ext_holes n, cut_once ps at)

  pub collapsed_ext : 0 < n → ext (collapsed ps at n) ≤ ext ps + (cut ps at + cut ps (at + n))
  collapsed_ext pos = omega (arith, ext_append_le, cut_twice ps at n pos)

  some_range : 0 < n → at + n ≤ length ps → 1 ≤ ext (range ps at n)
  some_range pos le = ext_some (range ps at n) (omega (arith, length-take n (drop at ps), length-drop at ps))

  pub punched_ext : 0 < n → at + n ≤ length ps → ext (punched ps at n) ≤ ext ps + (cut ps at + cut ps (at + n))
  punched_ext pos le = omega (arith, ext_append_le, ext_holes n, cut_twice ps at n pos, some_range pos le)

  pub reserved_ext : (qs : List Run) → total qs ≡ n → 0 < n → at + n ≤ length ps → ext (reserved ps at (blocks_of qs)) + 1 ≤ ext ps + (cut ps at + cut ps (at + n)) + length qs
  reserved_ext qs all pos le = grind (arith, ext_append_le (take at ps) (laid (blocks_of qs) (drop at ps)), laid_runs qs (drop at ps), cut_twice ps at n pos, some_range pos le)

pub set_ext : (ps : List Place) (at : ℕ) (p : Place) → at < length ps → ext (set ps at p) ≤ ext ps + (cut ps at + cut ps (at + 1))
set_ext ps at p lt =
    let rest = drop (suc at) ps in
    grind (arith, set_split ps at p lt, drop-drop 1 at ps, ext_append_le (take at ps) (p ∷ rest), ext_cons p rest, cut_twice ps at 1, some_range ps at 1)

-- a place of the same kind on the same block
pub set_same : (ps : List Place) (at : ℕ) (p : Place) → at < length ps → p.kind ≡ (get_or ps at hole).kind → p.block ≡ (get_or ps at hole).block → extents (set ps at p) ≡ extents ps
set_same [] at p lt k b = refl
set_same (q ∷ ps) zero p lt k b = ap₂ (λ k b. before k b (extents ps)) k b
set_same (q ∷ ps) (suc at) p lt k b = ap (before q.kind q.block) (set_same ps at p (omega arith) k b)
