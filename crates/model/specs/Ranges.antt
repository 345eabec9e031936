-- What each call that changes a file does to its places, place by place: before the range, inside it and behind it.
-- Insert, collapse, punch and reserve are the ranges of fallocate(2) with these differences: insert at the length appends, collapse may reach the end,
-- every range lies in the file, and a reserve wants holes only.
use Rattle.std.specs.Prelude.{◌≡◌, ℕ, ◌+◌, ◌<◌, ◌≤◌, List, [], length, Ok, Result, ◌≢◌, slice_index_or}
use Rattle.calls.specs.declared.kind.Kind.TheVariants.{Reserved, Written}
use Rattle.calls.specs.declared.call.Call.{Call}
use Rattle.calls.specs.declared.call.Call.TheVariants.{Insert, Collapse, Punch, ReserveWhole, ReserveSplit, Write, Drop}
use Rattle.calls.specs.declared.refusal.Refusal.{Refusal}
use Rattle.calls.specs.declared.answer.Answer.{Answer}
use Rattle.calls.specs.declared.answer.Answer.TheVariants.{Done, Pieces}
use Rattle.calls.specs.Answers.{answer_number}
use Rattle.model.specs.Places.{Place, hole, zeros}
use Rattle.model.specs.Store.{Config, Model, file}
use Rattle.model.specs.Rules.{step}
use Rattle.model.specs.Replay.{Request, reached}

-- place k of a list, a hole past its end
abbrev pub nth : List Place → ℕ → Place
nth ps k = slice_index_or ps k hole

-- insert: a gap of n holes before place at; what stood from there on stands n places further
pub record Opened (at n : ℕ) (old new : List Place) : Type 0 where
  pub longer : length new ≡ length old + n
  pub front : (k : ℕ) → k < at → nth new k ≡ nth old k
  pub inside : (k : ℕ) → at ≤ k → k < at + n → nth new k ≡ hole
  pub behind : (k : ℕ) → at ≤ k → nth new (k + n) ≡ nth old k

-- collapse: n places are out; what stood behind them stands n places nearer
pub record Closed (at n : ℕ) (old new : List Place) : Type 0 where
  pub shorter : length new + n ≡ length old
  pub front : (k : ℕ) → k < at → nth new k ≡ nth old k
  pub behind : (k : ℕ) → at ≤ k → nth new k ≡ nth old (k + n)

-- punch: n places are holes
pub record Cleared (at n : ℕ) (old new : List Place) : Type 0 where
  pub long : length new ≡ length old
  pub front : (k : ℕ) → k < at → nth new k ≡ nth old k
  pub inside : (k : ℕ) → at ≤ k → k < at + n → nth new k ≡ hole
  pub behind : (k : ℕ) → at + n ≤ k → nth new k ≡ nth old k

-- a hole that becomes a reserved place: it reads as zeros before and after
pub record BackedPlace (old new : Place) : Type 0 where
  pub was : old ≡ hole
  pub kind : new.kind ≡ Reserved
  pub bytes : new.bytes ≡ zeros

-- reserve: n holes are reserved places
pub record Backed (at n : ℕ) (old new : List Place) : Type 0 where
  pub long : length new ≡ length old
  pub front : (k : ℕ) → k < at → nth new k ≡ nth old k
  pub inside : (k : ℕ) → at ≤ k → k < at + n → BackedPlace (nth old k) (nth new k)
  pub behind : (k : ℕ) → at + n ≤ k → nth new k ≡ nth old k

-- write: place at holds the buffer, on the block that it was on
pub record Stored (at : ℕ) (buffer : List ℕ) (old new : List Place) : Type 0 where
  pub long : length new ≡ length old
  pub here : nth new at ≡ record { kind = Written; block = (nth old at).block; bytes = buffer }
  pub elsewhere : (k : ℕ) → (k ≢ at) → nth new k ≡ nth old k

-- drop: no place is left
abbrev pub Emptied : List Place → List Place → Type 0
Emptied old new = new ≡ []

-- an answer that says no more than 0
abbrev pub Plain : Result Answer Refusal → Type 0
Plain a = a ≡ Ok Done

-- an answer that says how many pieces there are
abbrev pub InPieces : Result Answer Refusal → Type 0
InPieces a = (k : ℕ) × (a ≡ Ok (Pieces k))

-- a call on file f, where it is granted, answers so, leaves the buffer, and changes the file so
abbrev pub Does : Config → Model → Call → List ℕ → ℕ → (Result Answer Refusal → Type 0) → (List Place → List Place → Type 0) → Type 0
Does c m call buffer f Says Change =
    answer_number (step c m call buffer).answer ≡ 0 → Says (step c m call buffer).answer × ((step c m call buffer).buffer ≡ buffer) × Change (file m f) (file (step c m call buffer).next f)

-- what each call does that changes a file
pub record Changes (c : Config) (m : Model) (f at n : ℕ) (buffer : List ℕ) : Type 0 where
  pub insert : Does c m (Insert f at n) buffer f Plain (Opened at n)
  pub collapse : Does c m (Collapse f at n) buffer f Plain (Closed at n)
  pub punch : Does c m (Punch f at n) buffer f Plain (Cleared at n)
  pub reserve_whole : Does c m (ReserveWhole f at n) buffer f InPieces (Backed at n)
  pub reserve_split : Does c m (ReserveSplit f at n) buffer f InPieces (Backed at n)
  pub write : Does c m (Write f at) buffer f Plain (Stored at buffer)
  pub drop : Does c m (Drop f) buffer f Plain Emptied

-- After any calls, a granted call changes its file so, place by place.
abbrev pub RangeCalls : Type 0
RangeCalls = (c : Config) (qs : List Request) (f at n : ℕ) (buffer : List ℕ) → Changes c (reached c qs) f at n buffer
