-- Fewest pieces: which blocks a reserve takes, told by the set of free blocks alone.
use Rattle.std.specs.Prelude.{◌≡◌, ℕ, zero, suc, ◌+◌, ◌-◌, ◌<◌, ◌≤◌, Bool, true, false, not, List, ◌++◌, map, length, count_by, Ok, Err, nat_lt}
use Rattle.calls.specs.declared.call.Call.TheVariants.{ReserveWhole, ReserveSplit}
use Rattle.calls.specs.declared.refusal.Refusal.TheVariants.{NoSpace, NoRun}
use Rattle.calls.specs.declared.answer.Answer.TheVariants.{Pieces}
use Rattle.model.specs.Places.{Place, range}
use Rattle.model.specs.Space.{Blocks, times, row, without}
use Rattle.model.specs.Store.{Config, Model, file}
use Rattle.model.specs.Rules.{step}
use Rattle.model.specs.Replay.{Request, reached}
use Rattle.model.specs.Ownership.{one_if}

-- a choice of n blocks: each is free, and none stands twice
pub record Choice (free : Blocks) (n : ℕ) (bs : List ℕ) : Type 0 where
  pub many : length bs ≡ n
  pub apart : (b : ℕ) → times bs b ≤ one_if (free b)

-- whether the block before block b is among the chosen
abbrev pub preceded : List ℕ → ℕ → Bool
preceded bs zero = false
preceded bs (suc b) = nat_lt 0 (times bs b)

-- the pieces of a choice are the longest rows in it, counted here by their first blocks
abbrev pub pieces : List ℕ → ℕ
pieces bs = count_by (λ b. not (preceded bs b)) bs

-- the n blocks from block b on are free
abbrev pub AllFree : Blocks → ℕ → ℕ → Type 0
AllFree free b n = (i : ℕ) → i < n → free (b + i) ≡ true

-- the lowest n free blocks in a row
pub record LowestRow (free : Blocks) (n : ℕ) (bs : List ℕ) : Type 0 where
  pub start : ℕ
  pub is_row : bs ≡ row start n
  pub is_free : AllFree free start n
  pub is_lowest : (b : ℕ) → AllFree free b n → start ≤ b

-- the longest row of free blocks, the lowest of equals: l blocks from block b on
pub record LongestRow (free : Blocks) (b l : ℕ) : Type 0 where
  pub is_free : AllFree free b l
  pub is_longest : (x : ℕ) → AllFree free x (suc l) → ⊥
  pub is_lowest : (x : ℕ) → AllFree free x l → b ≤ x

-- n blocks taken in k pieces, in the order taken: the lowest row of n; where there is none, the longest row, and then the rest of n of what is left
pub data Taken : Blocks → ℕ → ℕ → List ℕ → Type 0 where
  last : {free : Blocks} {n : ℕ} {bs : List ℕ} → LowestRow free n bs → Taken free n 1 bs
  more : {free : Blocks} {n k b l : ℕ} {bs : List ℕ} → ((x : ℕ) → AllFree free x n → ⊥) → LongestRow free b l → Taken (without free (row b l)) (n - l) k bs → Taken free n (suc k) (row b l ++ bs)

-- blocks bs, taken in k pieces: no choice of n blocks has fewer, and one piece is the lowest
pub record Fewest (free : Blocks) (n k : ℕ) (bs : List ℕ) : Type 0 where
  pub choice : Choice free n bs
  pub counted : pieces bs ≡ k
  pub fewest : (os : List ℕ) → Choice free n os → k ≤ pieces os
  pub lowest : k ≡ 1 → LowestRow free n bs
  pub taken : Taken free n k bs

-- the blocks of n places from place at on
abbrev pub laid_on : Model → ℕ → ℕ → ℕ → List ℕ
laid_on m f at n = map (λ (p : Place). p.block) (range (file m f) at n)

-- what the answers to a reserve mean
pub record Reserves (c : Config) (m : Model) (f at n : ℕ) (buffer : List ℕ) : Type 0 where
  pub split_granted : (k : ℕ) → (step c m (ReserveSplit f at n) buffer).answer ≡ Ok (Pieces k) → Fewest m.free n k (laid_on (step c m (ReserveSplit f at n) buffer).next f at n)
  pub whole_granted : (k : ℕ) → (step c m (ReserveWhole f at n) buffer).answer ≡ Ok (Pieces k) → (k ≡ 1) × Fewest m.free n k (laid_on (step c m (ReserveWhole f at n) buffer).next f at n)
  pub no_space : (step c m (ReserveSplit f at n) buffer).answer ≡ Err NoSpace → (bs : List ℕ) → Choice m.free n bs → ⊥
  pub no_run : (step c m (ReserveWhole f at n) buffer).answer ≡ Err NoRun → (b : ℕ) → AllFree m.free b n → ⊥

-- After any calls, a granted reserve has the fewest pieces that there are, taken as ruled; "no space" and "no run" are true.
abbrev pub FewestPieces : Type 0
FewestPieces = (c : Config) (qs : List Request) (f at n : ℕ) (buffer : List ℕ) → Reserves c (reached c qs) f at n buffer
