-- What find, length, tally and map answer, place by place and block by block.
use Rattle.std.specs.Prelude.{◌≡◌, ℕ, ◌+◌, ◌-◌, ◌<◌, ◌≤◌, List, ◌++◌, length, drop, sum_by, count_by}
use Rattle.calls.specs.declared.call.Call.TheVariants.{Find, Length, Tally, Map}
use Rattle.calls.specs.declared.refusal.Refusal.TheVariants.{OutOfFile}
use Rattle.calls.specs.declared.answer.Answer.TheVariants.{Found, Places, Tallied, Bytes}
use Rattle.model.specs.Extents.{Extent, extents, cut, lines}
use Rattle.model.specs.Space.{row}
use Rattle.model.specs.Store.{Config, Model, file_count, file, place}
use Rattle.model.specs.Rules.{Outcome, leaves, refuses, step}
use Rattle.model.specs.Replay.{Request, reached}
use Rattle.model.specs.Pieces.{LongestRow}
use Rattle.model.specs.Exact.{mappings, spread, Longest}

-- find: the kind and the block of the place, and rest places from this one on, which are in one extent that ends there
pub record Finds (m : Model) (f at : ℕ) (buffer : List ℕ) (o : Outcome) : Type 0 where
  pub rest : ℕ
  pub says : o ≡ leaves m buffer (Found (place m f at).kind (place m f at).block rest)
  pub some : 0 < rest
  pub inside : at + rest ≤ length (file m f)
  pub together : (i : ℕ) → 0 < i → i < rest → cut (file m f) (at + i) ≡ 1
  pub ends : cut (file m f) (at + rest) ≡ 0

-- tally: the free blocks counted, the longest free row, and the entries that extents leave
pub record Tallies (c : Config) (m : Model) (buffer : List ℕ) (o : Outcome) : Type 0 where
  pub start : ℕ
  pub count : ℕ
  pub longest : LongestRow m.free start count
  pub says : o ≡ leaves m buffer (Tallied (count_by m.free (row 0 c.volume)) count (c.entries - sum_by (λ ps. length (extents ps)) m.files))

-- map: the lines of the longest stretches that stand for the places, at the front of the buffer
abbrev pub Maps : Config → Model → ℕ → List ℕ → List Extent → Type 0
Maps c m f buffer es = length (lines 0 es) ≤ length buffer → step c m (Map f) buffer ≡ leaves m (lines 0 es ++ drop (length (lines 0 es)) buffer) (Bytes (length (lines 0 es)))

-- what each query of file f answers
pub record Answers (c : Config) (m : Model) (f : ℕ) (buffer : List ℕ) : Type 0 where
  pub find : (at : ℕ) → at < length (file m f) → Finds m f at buffer (step c m (Find f at) buffer)
  pub nothing_else : (at : ℕ) → length (file m f) ≤ at → step c m (Find f at) buffer ≡ refuses m buffer OutOfFile
  pub long : step c m (Length f) buffer ≡ leaves m buffer (Places (length (file m f)))
  pub tally : Tallies c m buffer (step c m Tally buffer)
  pub map : (es : List Extent) → spread es ≡ mappings (file m f) → Longest es → Maps c m f buffer es

-- After any calls, every place of every file is found and nothing else is, and each answer says what the lists say.
abbrev pub QueriesRight : Type 0
QueriesRight = (c : Config) (qs : List Request) (f : ℕ) (buffer : List ℕ) → f < file_count → Answers c (reached c qs) f buffer
