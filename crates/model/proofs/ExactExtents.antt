-- The extents of a file are the only longest stretches that stand for its places.
use Rattle.std.proofs.Common.{◌≡◌, ℕ, zero, suc, true, false, ◌||◌, eqb, List, [], ◌∷◌, ◌++◌, get_or, sym, refl, ap, ◌∙◌, subst, ap₂, arith}
use Rattle.std.proofs.lemmas.Bool.Decides.{nat_tests}
use Rattle.std.proofs.lemmas.Bool.{and_parts, false≢true, cond_both}
use Rattle.calls.specs.declared.kind.Kind.{Kind}
use Rattle.model.specs.Places.{Place, hole, is_hole}
use Rattle.model.specs.Extents.{Extent, same_kind, goes_on, before, extents}
use Rattle.model.specs.Limits.{Tidy, TidyAs}
use Rattle.model.specs.Exact.{Mapping, mappings, next, stretch, spread, last_block, Apart, Ends, Longest, ExtentsExact}
use Rattle.model.proofs.Entries.{cut_once}

-- extents of mappings
abbrev found : List Mapping → List Extent
found [] = []
found (x ∷ xs) = before x.kind x.block (found xs)

found_mappings : (ps : List Place) → found (mappings ps) ≡ extents ps
found_mappings [] = refl
found_mappings (p ∷ ps) = ap (before p.kind p.block) (found_mappings ps)

goes_on_next : (k : Kind) (b : ℕ) → goes_on k b k (next k b) ≡ true
goes_on_next k b = grind (arith, nat_tests)

before_next : (k : Kind) (b n : ℕ) (es : List Extent) → before k b (record { kind = k; count = n; block = next k b } ∷ es) ≡ record { kind = k; count = suc n; block = b } ∷ es
before_next k b n es = rw (goes_on_next k b)

-- a hole's extent begins at block 0
abbrev Zeroed : List Extent → Type 0
Zeroed [] = Unit {0}
Zeroed (e ∷ es) = is_hole e.kind ≡ true → e.block ≡ 0

-- a place that does not go on in the extents behind it
abbrev NotOn : Kind → ℕ → List Extent → Type 0
NotOn k b [] = Unit {0}
NotOn k b (e ∷ es) = goes_on k b e.kind e.block ≡ false

before_apart : (k : Kind) (b : ℕ) (es : List Extent) → NotOn k b es → before k b es ≡ record { kind = k; count = 1; block = b } ∷ es
before_apart k b [] a = refl
before_apart k b (e ∷ es) a = rw a

found_stretch : (k : Kind) (b n : ℕ) (xs : List Mapping) (es : List Extent) → found xs ≡ es → NotOn k (last_block k b n) es → found (stretch k b (suc n) ++ xs) ≡ record { kind = k; count = suc n; block = b } ∷ es
found_stretch k b zero xs es e a = ap (before k b) e ∙ before_apart k b es a
found_stretch k b (suc n) xs es e a = ap (before k b) (found_stretch k (next k b) n xs es e a) ∙ before_next k b (suc n) es

pub kinds_same : (k j : Kind) → same_kind k j ≡ true → k ≡ j
kinds_same k j e = grind arith

next_is : (k : Kind) (b a : ℕ) → (is_hole k ≡ true → b ≡ 0) → (is_hole k ≡ true → a ≡ 0) → (is_hole k || eqb (suc b) a) ≡ true → next k b ≡ a
next_is k b a zb za e = grind (arith, nat_tests)

-- a hole has block 0
abbrev Plain : Kind → ℕ → Type 0
Plain k b = is_hole k ≡ true → b ≡ 0

abbrev AllPlain : List Mapping → Type 0
AllPlain [] = Unit {0}
AllPlain (x ∷ xs) = Plain x.kind x.block × AllPlain xs

plain_behind : (xs ys : List Mapping) → AllPlain (xs ++ ys) → AllPlain ys
plain_behind [] ys p = p
plain_behind (x ∷ xs) ys p = plain_behind xs ys p.1

-- the first of some extents that stand for such places
plain_first : (es : List Extent) → AllPlain (spread es) → Longest es → Zeroed es
plain_first [] p l = tt
plain_first (e ∷ es) p l = go e.count p l.0
  where
    go : (n : ℕ) → AllPlain (stretch e.kind e.block n ++ spread es) → Ends e.kind e.block n es → Plain e.kind e.block
    go zero p ends = elim ends [ ]
    go (suc n) p ends = p.0

last_plain : (k : Kind) (b n : ℕ) → Plain k b → Plain k (last_block k b n)
last_plain k b zero p = p
last_plain k b (suc n) p = last_plain k (next k b) n (λ h. grind arith)

apart_not_on : (k : Kind) (b : ℕ) (es : List Extent) → Plain k b → Zeroed es → Apart k b es → NotOn k b es
apart_not_on k b [] p z a = tt
apart_not_on k b (e ∷ es) p z a = grind (arith, nat_tests, kinds_same k e.kind)

found_spread : (es : List Extent) → AllPlain (spread es) → Longest es → found (spread es) ≡ es
found_spread [] p l = refl
found_spread (e ∷ es) p l =
    let rest = plain_behind (stretch e.kind e.block e.count) (spread es) p in
    go e.count refl l.0 (plain_first (e ∷ es) p l) (plain_first es rest l.1) (found_spread es rest l.1)
  where
    go : (n : ℕ) → e.count ≡ n → Ends e.kind e.block n es → Plain e.kind e.block → Zeroed es → found (spread es) ≡ es → found (stretch e.kind e.block n ++ spread es) ≡ record { kind = e.kind; count = n; block = e.block } ∷ es
    go zero q a p z ih = elim a [ ]
    go (suc n) q a p z ih = found_stretch e.kind e.block n (spread es) es ih (apart_not_on e.kind (last_block e.kind e.block n) es (last_plain e.kind e.block n p) z a)

-- of tidy places
tidy_head : (k : Kind) (p : Place) → TidyAs k p → is_hole k ≡ true → p.block ≡ 0
tidy_head k p t h = grind arith

tidy_plain : (ps : List Place) → ((k : ℕ) → Tidy (get_or ps k hole)) → AllPlain (mappings ps)
tidy_plain [] tidy = tt
tidy_plain (p ∷ ps) tidy = (tidy_head p.kind p (tidy 0), tidy_plain ps (λ k. tidy (suc k)))

record Stood (k : Kind) (b : ℕ) (old : List Extent) (es : List Extent) : Type 0 where
  spreads : spread es ≡ record { kind = k; block = b } ∷ spread old
  longest : Longest es
  zeroed : Zeroed es

stood : (k : Kind) (b : ℕ) (es : List Extent) → (is_hole k ≡ true → b ≡ 0) → Longest es → Zeroed es → Stood k b es (before k b es)
stood k b [] zb l z = record { spreads = refl; longest = (tt, tt); zeroed = zb }
stood k b (e ∷ es) zb l z =
    cond_both (goes_on k b e.kind e.block) _ _ (λ x. Stood k b (e ∷ es) x)
    (λ q.
    let both = and_parts (same_kind k e.kind) (is_hole k || eqb (suc b) e.block) q in
    let same = kinds_same k e.kind both.0 in
    let to = next_is k b e.block zb (rw same z) both.1 in
    record {
      spreads = ap₂ (λ j a. record { kind = k; block = b } ∷ (stretch j a e.count ++ spread es)) same to;
      longest = (behind e.count same to l.0, l.1);
      zeroed = zb;
    })
    (λ q. record { spreads = refl; longest = (λ same to. false≢true (sym q ∙ ap₂ (goes_on k b) same to ∙ goes_on_next k b), l); zeroed = zb })
  where
    behind : (n : ℕ) → k ≡ e.kind → next k b ≡ e.block → Ends e.kind e.block n es → Apart k (last_block k b n) es
    behind zero same to a = elim a [ ]
    behind (suc n) same to a = subst (λ j. Apart j (last_block j (next k b) n) es) (sym same) (rw to a)

record AllStood (ps : List Place) : Type 0 where
  spreads : spread (extents ps) ≡ mappings ps
  longest : Longest (extents ps)
  zeroed : Zeroed (extents ps)

all_stood : (ps : List Place) → ((k : ℕ) → Tidy (get_or ps k hole)) → AllStood ps
all_stood [] tidy = record { spreads = refl; longest = tt; zeroed = tt }
all_stood (p ∷ ps) tidy =
    let ih = all_stood ps (λ k. tidy (suc k)) in
    let s = stood p.kind p.block (extents ps) (tidy_head p.kind p (tidy 0)) ih.longest ih.zeroed in
    record { spreads = s.spreads ∙ ap (λ xs. record { kind = p.kind; block = p.block } ∷ xs) ih.spreads; longest = s.longest; zeroed = s.zeroed }

pub extents_exact : ExtentsExact
extents_exact = record {
  stand = λ ps tidy. (all_stood ps tidy).spreads;
  longest = λ ps tidy. (all_stood ps tidy).longest;
  only = λ ps es tidy stands long. sym (found_mappings ps) ∙ ap found (sym stands) ∙ found_spread es (subst AllPlain (sym stands) (tidy_plain ps tidy)) long;
  cuts = λ ps at. cut_once ps at;
}
