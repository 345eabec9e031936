-- No choice has fewer pieces than the split.
use Rattle.std.proofs.Common.{◌≡◌, ℕ, zero, suc, ◌+◌, ◌-◌, ◌<◌, ◌≤◌, max, Bool, true, false, cond, not, eqb, ltb, List, [], ◌∷◌, length, count_by, sym, refl, ap, ◌∙◌, arith}
use Rattle.std.proofs.lemmas.List.Recursion.{is_count_by}
use Rattle.std.proofs.lemmas.List.Sums.{sum_by-cons}
use Rattle.std.proofs.lemmas.Bool.{ltb-true, eqb-false, cond_both}
use Rattle.std.proofs.lemmas.Bool.Decides.{nat_tests}
use Rattle.model.specs.Space.{Blocks, times, Run, run_before, runs_from, runs, total, most, others, split_up_to}
use Rattle.model.specs.Ownership.{one_if}
use Rattle.model.specs.Pieces.{preceded, pieces}
use Rattle.model.proofs.Basics.{one_if_le}
use Rattle.model.proofs.Choosing.{times_cons, parted}

-- some of the runs, in their order
pub data Sub : List Run → List Run → Type 0 where
  none : Sub [] []
  skip : {r : Run} {xs rs : List Run} → Sub xs rs → Sub xs (r ∷ rs)
  keep : {r : Run} {xs rs : List Run} → Sub xs rs → Sub (r ∷ xs) (r ∷ rs)

pub sub_none : (rs : List Run) → Sub [] rs
sub_none [] = none
sub_none (r ∷ rs) = skip (sub_none rs)

pub sub_total : {xs rs : List Run} → Sub xs rs → total xs ≤ total rs
sub_total none = omega arith
sub_total (skip s) = omega (arith, sub_total s)
sub_total (keep s) = omega (arith, sub_total s)

sub_tail : {x : Run} {xs rs : List Run} → Sub (x ∷ xs) rs → Sub xs rs
sub_tail (skip s) = skip (sub_tail s)
sub_tail (keep s) = skip s

sub_most : {x : Run} {xs rs : List Run} → Sub (x ∷ xs) rs → x.count ≤ most rs
sub_most (skip s) = omega (arith, sub_most s)
sub_most (keep s) = omega arith

-- one fewer, among the others, and short of what was there by the longest at most
record Fewer (xs : List Run) (os : List Run) (l : ℕ) : Type 0 where
  rest : List Run
  sub : Sub rest os
  fewer : suc (length rest) ≡ length xs
  near : total xs ≤ total rest + l

exchange : {xs rs : List Run} → Sub xs rs → 0 < length xs → Fewer xs (others rs) (most rs)
exchange none some = absurd (omega arith)
exchange (skip {xs = []} s) some = absurd (omega arith)
exchange (skip {r = r} {xs = x ∷ xs} {rs = rs} s) some =
    cond_both (ltb r.count (most rs)) _ _ (λ os. Fewer (x ∷ xs) os (max r.count (most rs)))
    (λ e. let ih = exchange s some in record { rest = ih.rest; sub = skip ih.sub; fewer = ih.fewer; near = omega (arith, ih.near) })
    (λ e. record { rest = xs; sub = sub_tail s; fewer = refl; near = omega (arith, sub_most s) })
exchange (keep {r = r} {xs = []} {rs = rs} s) some = record { rest = []; sub = sub_none (others (r ∷ rs)); fewer = refl; near = omega arith }
exchange (keep {r = r} {xs = x ∷ xs} {rs = rs} s) some =
    cond_both (ltb r.count (most rs)) _ _ (λ os. Fewer (r ∷ x ∷ xs) os (max r.count (most rs)))
    (λ e. let ih = exchange s (omega arith) in record { rest = r ∷ ih.rest; sub = keep ih.sub; fewer = ap suc ih.fewer; near = omega (arith, ih.near, ltb-true r.count (most rs) e) })
    (λ e. record { rest = x ∷ xs; sub = s; fewer = refl; near = omega arith })

-- no selection that has room for n has fewer runs than the split
pub split_fewest : (k n : ℕ) (rs xs : List Run) → length rs ≤ k → Sub xs rs → 0 < n → n ≤ total xs → length (split_up_to k n rs) ≤ length xs
split_fewest zero n rs xs short s pos fits = omega arith
split_fewest (suc k) n rs [] short s pos fits = absurd (omega arith)
split_fewest (suc k) n [] (x ∷ xs) short s pos fits = absurd (omega (arith, sub_total s))
split_fewest (suc k) n (r ∷ rs) (x ∷ xs) short s pos fits =
    let f = exchange s (omega arith) in
    grind (arith, nat_tests, f, parted r rs, split_fewest k (n - most (r ∷ rs)) (others (r ∷ rs)) f.rest)

-- sums over n blocks from s on
abbrev pub tally : (ℕ → ℕ) → ℕ → ℕ → ℕ
tally g s zero = 0
tally g s (suc n) = g s + tally g (suc s) n

-- numbers that are sums of two, summed over the blocks that pass a test
pub tally_sum : (p : ℕ → Bool) (f g h : ℕ → ℕ) (s n : ℕ) → ((x : ℕ) → f x ≡ g x + h x) → tally (λ x. cond (p x) (f x) 0) s n ≡ tally (λ x. cond (p x) (g x) 0) s n + tally (λ x. cond (p x) (h x) 0) s n
tally_sum p f g h s zero sum = refl
tally_sum p f g h s (suc n) sum = grind (arith, sum s, tally_sum p f g h (suc s) n sum)

pub tally_zero : (p : ℕ → Bool) (s n : ℕ) → tally (λ x. cond (p x) 0 0) s n ≡ 0
tally_zero p s zero = refl
tally_zero p s (suc n) = grind (arith, tally_zero p (suc s) n)

pub tally_none : (p : ℕ → Bool) (b s n : ℕ) → b < s → tally (λ x. cond (p x) (one_if (eqb b x)) 0) s n ≡ 0
tally_none p b s zero lt = refl
tally_none p b s (suc n) lt = grind (arith, nat_tests, tally_none p b (suc s) n)

pub tally_one : (p : ℕ → Bool) (b s n : ℕ) → s ≤ b → b < s + n → tally (λ x. cond (p x) (one_if (eqb b x)) 0) s n ≡ one_if (p b)
tally_one p b s zero le lt = absurd (omega arith)
tally_one p b s (suc n) le lt = grind (arith, nat_tests, tally_none p b (suc s) n, tally_one p b (suc s) n)

-- counting over a list of blocks below v is counting over the blocks
pub over_blocks : (p : ℕ → Bool) (v : ℕ) (bs : List ℕ) → ((b : ℕ) → v ≤ b → times bs b ≡ 0) → count_by p bs ≡ tally (λ x. cond (p x) (times bs x) 0) 0 v
over_blocks p v [] below = sym (tally_zero p 0 v)
over_blocks p v (b ∷ bs) below =
    let under : b < v = grind (arith, nat_tests, below b, times_cons b bs b) in
    let rest = over_blocks p v bs (λ x ge. omega (arith, below x ge, times_cons b bs x)) in
    let sum = tally_sum p (times (b ∷ bs)) (λ x. one_if (eqb b x)) (times bs) 0 v (times_cons b bs) in
    sum_by-cons (λ x. cond (p x) 1 0) b bs ∙ omega (arith, rest, sum, tally_one p b 0 v (omega arith) (omega arith))

-- the first run is kept, and starts at s
pub data Headed (s : ℕ) : List Run → List Run → Type 0 where
  headed : {r : Run} {xs rs : List Run} → r.start ≡ s → Sub xs rs → Headed s (r ∷ xs) (r ∷ rs)

headed_sub : {s : ℕ} {xs rs : List Run} → Headed s xs rs → Sub xs rs
headed_sub (headed e q) = keep q

-- a selection from longer runs that takes the first
record Grown (s : ℕ) (rs : List Run) (room : ℕ) (few : ℕ) : Type 0 where
  picked : List Run
  head : Headed s picked rs
  wide : room ≤ total picked
  short : length picked ≤ few

-- a selection from longer runs that need not take the first
record Passed (rs : List Run) (room : ℕ) (few : ℕ) : Type 0 where
  picked : List Run
  sub : Sub picked rs
  wide : room ≤ total picked
  short : length picked ≤ few

grow : (s : ℕ) {xs rs : List Run} → Sub xs rs → Grown s (run_before true s rs) (suc (total xs)) (suc (length xs))
grow s none = record { picked = record { start = s; count = 1 } ∷ []; head = headed refl none; wide = omega arith; short = omega arith }
grow s (skip {r = r} {xs = xs} {rs = rs} q) =
    cond_both (eqb (suc s) r.start) _ _ (λ os. Grown s os (suc (total xs)) (suc (length xs)))
    (λ e. record { picked = record { start = s; count = suc r.count } ∷ xs; head = headed refl q; wide = omega arith; short = omega arith })
    (λ e. record { picked = record { start = s; count = 1 } ∷ xs; head = headed refl (skip q); wide = omega arith; short = omega arith })
grow s (keep {r = r} {xs = xs} {rs = rs} q) =
    cond_both (eqb (suc s) r.start) _ _ (λ os. Grown s os (suc (total (r ∷ xs))) (suc (length (r ∷ xs))))
    (λ e. record { picked = record { start = s; count = suc r.count } ∷ xs; head = headed refl q; wide = omega arith; short = omega arith })
    (λ e. record { picked = record { start = s; count = 1 } ∷ r ∷ xs; head = headed refl (keep q); wide = omega arith; short = omega arith })

grow_head : (s : ℕ) {xs rs : List Run} → Headed (suc s) xs rs → Grown s (run_before true s rs) (suc (total xs)) (length xs)
grow_head s (headed {r = r} {xs = xs} {rs = rs} at q) =
    cond_both (eqb (suc s) r.start) _ _ (λ os. Grown s os (suc (total (r ∷ xs))) (length (r ∷ xs)))
    (λ e. record { picked = record { start = s; count = suc r.count } ∷ xs; head = headed refl q; wide = omega arith; short = omega arith })
    (λ e. absurd (eqb-false (suc s) r.start e (sym at)))

pass : (s : ℕ) {xs rs : List Run} → Sub xs rs → Passed (run_before true s rs) (total xs) (length xs)
pass s none = record { picked = []; sub = skip none; wide = omega arith; short = omega arith }
pass s (skip {r = r} {xs = xs} {rs = rs} q) =
    cond_both (eqb (suc s) r.start) _ _ (λ os. Passed os (total xs) (length xs))
    (λ e. record { picked = xs; sub = skip q; wide = omega arith; short = omega arith })
    (λ e. record { picked = xs; sub = skip (skip q); wide = omega arith; short = omega arith })
pass s (keep {r = r} {xs = xs} {rs = rs} q) =
    cond_both (eqb (suc s) r.start) _ _ (λ os. Passed os (total (r ∷ xs)) (length (r ∷ xs)))
    (λ e. record { picked = record { start = s; count = suc r.count } ∷ xs; sub = keep q; wide = omega arith; short = omega arith })
    (λ e. record { picked = r ∷ xs; sub = skip (keep q); wide = omega arith; short = omega arith })

-- of the blocks of a choice: those that begin a piece, and those that go on with one
abbrev pub begins : List ℕ → ℕ → ℕ
begins bs x = cond (not (preceded bs x)) (times bs x) 0

abbrev pub continues : List ℕ → ℕ → ℕ
continues bs x = cond (preceded bs x) (times bs x) 0

continues_le : (bs : List ℕ) (x : ℕ) → continues bs x ≤ times bs x
continues_le bs x = grind arith

-- runs that have room for the blocks of a choice from s on, and are no more than its pieces
pub record Cover (free : Blocks) (bs : List ℕ) (s n : ℕ) (rs : List Run) : Type 0 where
  pub picked : List Run
  pub sub : Sub picked rs
  pub wide : tally (λ x. times bs x) s n ≤ total picked
  pub short : length picked ≤ tally (begins bs) s n + continues bs s
  pub head : 0 < n → 0 < times bs s → Headed s picked rs

-- a choice of free blocks, none twice, lies in as many runs as it has pieces, or fewer
module _ (free : Blocks) (bs : List ℕ) (apart : (b : ℕ) → times bs b ≤ one_if (free b)) where
  cover_more : (s n : ℕ) (x : Bool) → free s ≡ x → Cover free bs (suc s) n (runs_from free (suc s) n) → Cover free bs s (suc n) (run_before x s (runs_from free (suc s) n))
  cover_more s n false fe old = record {
    picked = old.picked;
    sub = old.sub;
    wide = grind (arith, apart s, old.wide);
    short = grind (arith, nat_tests, apart s, old.short);
    head = λ _ some. absurd (grind (arith, apart s));
  }
  cover_more s n true fe old = go n old (times bs s) refl (times bs (suc s)) refl
    where
      both : begins bs s + continues bs s ≡ times bs s
      both = grind arith

      grown : (n room few : ℕ) → Grown s (run_before true s (runs_from free (suc s) n)) room few → 0 < times bs s → suc (tally (λ x. times bs x) (suc s) n) ≤ room → few ≤ suc (tally (begins bs) (suc s) n) → Cover free bs s (suc n) (run_before true s (runs_from free (suc s) n))
      grown n room few g some a b = record {
        picked = g.picked;
        sub = headed_sub g.head;
        wide = grind (arith, apart s, g.wide);
        short = omega (arith, g.short, both);
        head = λ _ _. g.head;
      }

      go : (n : ℕ) → Cover free bs (suc s) n (runs_from free (suc s) n) → (t : ℕ) → times bs s ≡ t → (u : ℕ) → times bs (suc s) ≡ u → Cover free bs s (suc n) (run_before true s (runs_from free (suc s) n))
      go n old zero te u ue =
          let p = pass s old.sub in
          record { picked = p.picked; sub = p.sub; wide = omega (arith, old.wide, p.wide); short = grind (arith, nat_tests, old.short, p.short); head = λ _ some. absurd (omega arith) }
      go n old (suc t) te zero ue = grown n _ _ (grow s old.sub) (omega arith) (omega (arith, old.wide)) (omega (arith, old.short, continues_le bs (suc s)))
      go zero old (suc t) te (suc u) ue = grown zero _ _ (grow s none) (omega arith) (omega arith) (omega arith)
      go (suc n) old (suc t) te (suc u) ue =
          grown (suc n) _ _ (grow_head s (old.head (omega arith) (omega arith))) (omega arith) (omega (arith, old.wide)) (omega (arith, old.short, continues_le bs (suc s), apart (suc s), one_if_le (free (suc s))))

  pub cover : (s n : ℕ) → Cover free bs s n (runs_from free s n)
  cover s zero = record { picked = []; sub = none; wide = omega arith; short = omega arith; head = λ lt _. absurd (omega arith) }
  cover s (suc n) = cover_more s n (free s) refl (cover (suc s) n)

  -- over the whole volume
  module _ (v : ℕ) (below : (b : ℕ) → v ≤ b → free b ≡ false) where
    unheld : (b : ℕ) → v ≤ b → times bs b ≡ 0
    unheld b ge = grind (arith, below b, apart b)

    pub covered : (xs : List Run) × Sub xs (runs free v) × (length bs ≤ total xs) × (length xs ≤ pieces bs)
    covered =
        let c = cover 0 v in
        let long = over_blocks (λ _. true) v bs unheld in
        let rows = over_blocks (λ b. not (preceded bs b)) v bs unheld in
        (c.picked, c.sub, omega (arith, c.wide, long, is_count_by {X = ℕ} length (λ _. true) refl (λ _ _. omega arith) bs), omega (arith, c.short, rows))
