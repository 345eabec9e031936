-- Refusals are true: what each refusal says of the store, the call and the buffer.
use Rattle.std.specs.Prelude.{◌≡◌, ℕ, suc, ◌+◌, ◌-◌, ◌<◌, ◌≤◌, true, List, length, Some, None, Err, Option, ◌≢◌}
use Rattle.card.specs.Sizes.{block_size}
use Rattle.card.specs.declared.fault.CardFault.TheVariants.{Worn}
use Rattle.calls.specs.declared.kind.Kind.TheVariants.{Hole, Reserved}
use Rattle.calls.specs.declared.call.Call.{Call}
use Rattle.calls.specs.declared.call.Call.TheVariants.{Insert, Collapse, Punch, ReserveWhole, ReserveSplit, Write, Read, Find, Length, Tally, Map, Drop}
use Rattle.calls.specs.declared.refusal.Refusal.{Refusal}
use Rattle.calls.specs.declared.refusal.Refusal.TheVariants.{NoFile, NoCount, OutOfFile, TooLong, WrongBuffer, WrongKind, NoSpace, NoRun, TooManyPieces, NoEntries, Card}
use Rattle.calls.specs.Answers.{answer_number}
use Rattle.calls.specs.Calls.{concerns}
use Rattle.calls.specs.Refusals.{refusal_number}
use Rattle.model.specs.Extents.{cut, map_text}
use Rattle.model.specs.Space.{most_pieces}
use Rattle.model.specs.Store.{Config, Model, file_count, most_places, file, place, spare, both_cuts}
use Rattle.model.specs.Rules.{step}
use Rattle.model.specs.Replay.{Request, reached}
use Rattle.model.specs.Pieces.{Choice, AllFree, pieces}

-- the count that a call is given
abbrev pub count_of : Call → Option ℕ
count_of (Insert f at n) = Some n
count_of (Collapse f at n) = Some n
count_of (Punch f at n) = Some n
count_of (ReserveWhole f at n) = Some n
count_of (ReserveSplit f at n) = Some n
count_of (Write f at) = None
count_of (Read f at) = None
count_of (Find f at) = None
count_of (Length f) = None
count_of Tally = None
count_of (Map f) = None
count_of (Drop f) = None

-- how many places its file must have for a call
abbrev pub reach : Call → ℕ
reach (Insert f at n) = at
reach (Collapse f at n) = at + n
reach (Punch f at n) = at + n
reach (ReserveWhole f at n) = at + n
reach (ReserveSplit f at n) = at + n
reach (Write f at) = suc at
reach (Read f at) = suc at
reach (Find f at) = suc at
reach (Length f) = 0
reach Tally = 0
reach (Map f) = 0
reach (Drop f) = 0

-- why a call can be refused, in any order
pub data Ground (c : Config) (m : Model) : Call → List ℕ → Refusal → Type 0 where
  -- the file number is above 63
  no_file : {call : Call} {buffer : List ℕ} (f : ℕ) → concerns call f ≡ true → file_count ≤ f → Ground c m call buffer NoFile
  -- the count is 0
  no_count : {call : Call} {buffer : List ℕ} → count_of call ≡ Some 0 → Ground c m call buffer NoCount
  -- the range or the place does not lie in the file
  out_of_file : {call : Call} {buffer : List ℕ} (f : ℕ) → concerns call f ≡ true → length (file m f) < reach call → Ground c m call buffer OutOfFile
  -- the file would have more than 16,777,216 places
  too_long : {f at n : ℕ} {buffer : List ℕ} → most_places < length (file m f) + n → Ground c m (Insert f at n) buffer TooLong
  -- the buffer is not 512 bytes, or shorter than the map
  write_buffer : {f at : ℕ} {buffer : List ℕ} → (length buffer ≢ block_size) → Ground c m (Write f at) buffer WrongBuffer
  read_buffer : {f at : ℕ} {buffer : List ℕ} → (length buffer ≢ block_size) → Ground c m (Read f at) buffer WrongBuffer
  map_buffer : {f : ℕ} {buffer : List ℕ} → length buffer < length (map_text (file m f)) → Ground c m (Map f) buffer WrongBuffer
  -- a place to be reserved is no hole, a place to be written is one
  whole_kind : {f at n k : ℕ} {buffer : List ℕ} → at ≤ k → k < at + n → ((place m f k).kind ≢ Hole) → Ground c m (ReserveWhole f at n) buffer WrongKind
  split_kind : {f at n k : ℕ} {buffer : List ℕ} → at ≤ k → k < at + n → ((place m f k).kind ≢ Hole) → Ground c m (ReserveSplit f at n) buffer WrongKind
  write_kind : {f at : ℕ} {buffer : List ℕ} → (place m f at).kind ≡ Hole → Ground c m (Write f at) buffer WrongKind
  -- no n blocks are free
  no_space : {f at n : ℕ} {buffer : List ℕ} → ((bs : List ℕ) → Choice m.free n bs → ⊥) → Ground c m (ReserveSplit f at n) buffer NoSpace
  -- no n free blocks stand in a row
  no_run : {f at n : ℕ} {buffer : List ℕ} → ((b : ℕ) → AllFree m.free b n → ⊥) → Ground c m (ReserveWhole f at n) buffer NoRun
  -- n blocks are free, and every choice of n has more pieces than a split may have
  too_many : {f at n : ℕ} {buffer bs : List ℕ} → Choice m.free n bs → ((os : List ℕ) → Choice m.free n os → most_pieces < pieces os) → Ground c m (ReserveSplit f at n) buffer TooManyPieces
  -- spare is below the entries needed, which for a split follow from the fewest pieces
  insert_entries : {f at n : ℕ} {buffer : List ℕ} → spare c m < cut (file m f) at + 1 → Ground c m (Insert f at n) buffer NoEntries
  collapse_entries : {f at n : ℕ} {buffer : List ℕ} → spare c m < both_cuts m f at n → Ground c m (Collapse f at n) buffer NoEntries
  punch_entries : {f at n : ℕ} {buffer : List ℕ} → spare c m < both_cuts m f at n → Ground c m (Punch f at n) buffer NoEntries
  whole_entries : {f at n : ℕ} {buffer : List ℕ} → spare c m < both_cuts m f at n → Ground c m (ReserveWhole f at n) buffer NoEntries
  split_entries : {f at n : ℕ} {buffer bs : List ℕ} → Choice m.free n bs → ((os : List ℕ) → Choice m.free n os → pieces bs ≤ pieces os) → spare c m < both_cuts m f at n + pieces bs - 1 → Ground c m (ReserveSplit f at n) buffer NoEntries
  write_entries : {f at : ℕ} {buffer : List ℕ} → (place m f at).kind ≡ Reserved → spare c m < both_cuts m f at 1 → Ground c m (Write f at) buffer NoEntries
  -- the place's block is worn
  worn : {f at : ℕ} {buffer : List ℕ} → c.worn (place m f at).block ≡ true → Ground c m (Write f at) buffer (Card Worn (place m f at).block)

-- a refusal has its ground, and no ground has a lower number; a granted call has no ground to refuse it
pub record Truthful (c : Config) (m : Model) (call : Call) (buffer : List ℕ) : Type 0 where
  pub refused : (w : Refusal) → (step c m call buffer).answer ≡ Err w → Ground c m call buffer w
  pub first : (w v : Refusal) → (step c m call buffer).answer ≡ Err w → Ground c m call buffer v → refusal_number w ≤ refusal_number v
  pub granted : answer_number (step c m call buffer).answer ≡ 0 → (w : Refusal) → Ground c m call buffer w → ⊥

-- After any calls, a call is refused for the first ground that holds, and granted where none does.
abbrev pub RefusalsTrue : Type 0
RefusalsTrue = (c : Config) (qs : List Request) (call : Call) (buffer : List ℕ) → Truthful c (reached c qs) call buffer
