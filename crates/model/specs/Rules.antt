-- The rule of each call: why it is refused, and what it does where it is granted.
use Rattle.std.specs.Prelude.{ℕ, suc, ◌+◌, ◌-◌, Bool, true, false, not, ◌||◌, List, [], ◌∷◌, ◌++◌, length, drop, Some, None, Ok, Err, Option, Result, ◌==◌, nat_le, nat_lt, if◌then◌else◌}
use Rattle.card.specs.Sizes.{block_size, most_blocks}
use Rattle.card.specs.declared.fault.CardFault.TheVariants.{Worn}
use Rattle.calls.specs.declared.call.Call.{Call}
use Rattle.calls.specs.declared.call.Call.TheVariants.{Insert, Collapse, Punch, ReserveWhole, ReserveSplit, Write, Read, Find, Length, Tally, Map, Drop}
use Rattle.calls.specs.declared.refusal.Refusal.{Refusal}
use Rattle.calls.specs.declared.refusal.Refusal.TheVariants.{OutsideLimits, SmallCard, NoFile, NoCount, OutOfFile, TooLong, WrongBuffer, WrongKind, NoSpace, NoRun, TooManyPieces, NoEntries, Card}
use Rattle.calls.specs.declared.answer.Answer.{Answer}
use Rattle.calls.specs.declared.answer.Answer.TheVariants.{Done, Pieces, Found, Places, Tallied, Bytes}
use Rattle.model.specs.Places.{is_hole, is_reserved, all_holes, range}
use Rattle.model.specs.Extents.{extents, cut, leading_count, map_text}
use Rattle.model.specs.Space.{total, most, whole, split, blocks_of, most_pieces}
use Rattle.model.specs.Store.{Config, Model, file_count, most_places, fresh, file, place, spare, both_cuts, free_runs, insert, collapse, punch, reserve, write, empty}

-- what a call leaves: the store, the answer or the refusal, and the caller's buffer
pub record Outcome : Type 0 where
  pub next : Model
  pub answer : Result Answer Refusal
  pub buffer : List ℕ

-- the outcome of a granted call that leaves this and answers so
abbrev pub leaves : Model → List ℕ → Answer → Outcome
leaves m buffer a = record { next = m; answer = Ok a; buffer = buffer }

-- the outcome of a call refused for this
abbrev pub refuses : Model → List ℕ → Refusal → Outcome
refuses m buffer w = record { next = m; answer = Err w; buffer = buffer }

-- a reason to refuse, and whether it holds
pub record Reason : Type 0 where
  pub holds : Bool
  pub refusal : Refusal

-- a reason by its test
abbrev pub when : Bool → Refusal → Reason
when b w = record { holds = b; refusal = w }

-- the rule of a call: the reasons to refuse it, in the order in which they are looked at, and what it leaves where none of them holds
pub record Rule : Type 0 where
  pub reasons : List Reason
  pub granted : Outcome

-- there is no file f
abbrev pub no_file : ℕ → Reason
no_file f = when (nat_le file_count f) NoFile

-- nothing is asked for
abbrev pub no_count : ℕ → Reason
no_count n = when (n == 0) NoCount

-- the range ends past the end of the file
abbrev pub past_end : Model → ℕ → ℕ → ℕ → Reason
past_end m f at n = when (nat_lt (length (file m f)) (at + n)) OutOfFile

-- the file has no place at
abbrev pub no_place : Model → ℕ → ℕ → Reason
no_place m f at = when (nat_le (length (file m f)) at) OutOfFile

-- the buffer is not as long as a block
abbrev pub no_block : List ℕ → Reason
no_block buffer = when (not (length buffer == block_size)) WrongBuffer

-- the range has a place that is no hole
abbrev pub not_holes : Model → ℕ → ℕ → ℕ → Reason
not_holes m f at n = when (not (all_holes (range (file m f) at n))) WrongKind

-- fewer entries are spare than a call needs
abbrev pub no_entries : Config → Model → ℕ → Reason
no_entries c m needed = when (nat_lt (spare c m) needed) NoEntries

-- n holes before place at; at the length they are appended
abbrev pub insert_rule : Config → Model → ℕ → ℕ → ℕ → List ℕ → Rule
insert_rule c m f at n buffer = record {
  reasons =
      no_file f ∷ no_count n ∷ when (nat_lt (length (file m f)) at) OutOfFile ∷ when (nat_lt most_places (length (file m f) + n)) TooLong
      ∷ no_entries c m (cut (file m f) at + 1) ∷ [];
  granted = leaves (insert m f at n) buffer Done;
}

-- n places taken out, their blocks free
abbrev pub collapse_rule : Config → Model → ℕ → ℕ → ℕ → List ℕ → Rule
collapse_rule c m f at n buffer = record {
  reasons = no_file f ∷ no_count n ∷ past_end m f at n ∷ no_entries c m (both_cuts m f at n) ∷ [];
  granted = leaves (collapse m f at n) buffer Done;
}

-- n places turned into holes, their blocks free
abbrev pub punch_rule : Config → Model → ℕ → ℕ → ℕ → List ℕ → Rule
punch_rule c m f at n buffer = record {
  reasons = no_file f ∷ no_count n ∷ past_end m f at n ∷ no_entries c m (both_cuts m f at n) ∷ [];
  granted = leaves (punch m f at n) buffer Done;
}

-- n holes reserved on blocks in one row
abbrev pub whole_rule : Config → Model → ℕ → ℕ → ℕ → List ℕ → Rule
whole_rule c m f at n buffer =
    let rs = free_runs c m in
    record {
      reasons = no_file f ∷ no_count n ∷ past_end m f at n ∷ not_holes m f at n ∷ when (nat_lt (most rs) n) NoRun ∷ no_entries c m (both_cuts m f at n) ∷ [];
      granted = leaves (reserve m f at (blocks_of (whole n rs))) buffer (Pieces 1);
    }

-- n holes reserved on blocks in as few rows as can be
abbrev pub split_rule : Config → Model → ℕ → ℕ → ℕ → List ℕ → Rule
split_rule c m f at n buffer =
    let rs = free_runs c m in
    let k = length (split n rs) in
    record {
      reasons =
          no_file f ∷ no_count n ∷ past_end m f at n ∷ not_holes m f at n ∷ when (nat_lt (total rs) n) NoSpace ∷ when (nat_lt most_pieces k) TooManyPieces
          ∷ no_entries c m (both_cuts m f at n + k - 1) ∷ [];
      granted = leaves (reserve m f at (blocks_of (split n rs))) buffer (Pieces k);
    }

-- the buffer stored on the block of a place, which is written from then on
abbrev pub write_rule : Config → Model → ℕ → ℕ → List ℕ → Rule
write_rule c m f at buffer =
    let p = place m f at in
    record {
      reasons =
          no_file f ∷ no_place m f at ∷ no_block buffer ∷ when (is_hole p.kind) WrongKind ∷ no_entries c m (if is_reserved p.kind then both_cuts m f at 1 else 0)
          ∷ when (c.worn p.block) (Card Worn p.block) ∷ [];
      granted = leaves (write m f at buffer) buffer Done;
    }

-- the bytes of a place, put into the buffer
abbrev pub read_rule : Model → ℕ → ℕ → List ℕ → Rule
read_rule m f at buffer = record {
  reasons = no_file f ∷ no_place m f at ∷ no_block buffer ∷ [];
  granted = leaves m (place m f at).bytes Done;
}

-- the kind and the block of a place, and how many places its extent has from this one on
abbrev pub find_rule : Model → ℕ → ℕ → List ℕ → Rule
find_rule m f at buffer = record {
  reasons = no_file f ∷ no_place m f at ∷ [];
  granted = leaves m buffer (Found (place m f at).kind (place m f at).block (leading_count (extents (drop at (file m f)))));
}

-- the number of places
abbrev pub length_rule : Model → ℕ → List ℕ → Rule
length_rule m f buffer = record { reasons = no_file f ∷ []; granted = leaves m buffer (Places (length (file m f))) }

-- the free blocks, the longest free run, the spare entries
abbrev pub tally_rule : Config → Model → List ℕ → Rule
tally_rule c m buffer = record { reasons = []; granted = leaves m buffer (Tallied (total (free_runs c m)) (most (free_runs c m)) (spare c m)) }

-- a line for each extent, put at the front of the buffer; the rest of the buffer stays
abbrev pub map_rule : Model → ℕ → List ℕ → Rule
map_rule m f buffer =
    let text = map_text (file m f) in
    record {
      reasons = no_file f ∷ when (nat_lt (length buffer) (length text)) WrongBuffer ∷ [];
      granted = leaves m (text ++ drop (length text) buffer) (Bytes (length text));
    }

-- no places any more, their blocks free
abbrev pub drop_rule : Model → ℕ → List ℕ → Rule
drop_rule m f buffer = record { reasons = no_file f ∷ []; granted = leaves (empty m f) buffer Done }

-- the rule of a call with its buffer
abbrev pub rule : Config → Model → Call → List ℕ → Rule
rule c m (Insert f at n) buffer = insert_rule c m f at n buffer
rule c m (Collapse f at n) buffer = collapse_rule c m f at n buffer
rule c m (Punch f at n) buffer = punch_rule c m f at n buffer
rule c m (ReserveWhole f at n) buffer = whole_rule c m f at n buffer
rule c m (ReserveSplit f at n) buffer = split_rule c m f at n buffer
rule c m (Write f at) buffer = write_rule c m f at buffer
rule c m (Read f at) buffer = read_rule m f at buffer
rule c m (Find f at) buffer = find_rule m f at buffer
rule c m (Length f) buffer = length_rule m f buffer
rule c m Tally buffer = tally_rule c m buffer
rule c m (Map f) buffer = map_rule m f buffer
rule c m (Drop f) buffer = drop_rule m f buffer

-- the reasons to refuse a call
abbrev pub reasons : Config → Model → Call → List ℕ → List Reason
reasons c m call buffer = (rule c m call buffer).reasons

-- what a call leaves that is not refused
abbrev pub granted : Config → Model → Call → List ℕ → Outcome
granted c m call buffer = (rule c m call buffer).granted

-- this refusal where it holds, else the rest
abbrev pub or_else : Bool → Refusal → Option Refusal → Option Refusal
or_else true w rest = Some w
or_else false w rest = rest

-- the first reason that holds
abbrev pub first : List Reason → Option Refusal
first [] = None
first (r ∷ rs) = or_else r.holds r.refusal (first rs)

-- refused, or granted
abbrev pub settled : Model → List ℕ → Option Refusal → Outcome → Outcome
settled m buffer (Some w) o = refuses m buffer w
settled m buffer None o = o

-- a call: refused for the first reason that holds, and then store and buffer are as they were; else granted
abbrev pub step : Config → Model → Call → List ℕ → Outcome
step c m call buffer = settled m buffer (first (reasons c m call buffer)) (granted c m call buffer)

-- whether x is below the least or above the most
abbrev pub outside : ℕ → ℕ → ℕ → Bool
outside low high x = nat_lt x low || nat_lt high x

-- the most entries of an extent table
abbrev pub most_extent_entries : ℕ
most_extent_entries = 32768

-- the most entries of a run table
abbrev pub most_run_entries : ℕ
most_run_entries = 40000

-- why a volume of v blocks, with tables of so many entries, is refused on a card of n blocks
abbrev pub build_reasons : ℕ → ℕ → ℕ → ℕ → List Reason
build_reasons v extent_entries run_entries n =
    when (outside 1 most_blocks v || (outside 1 most_extent_entries extent_entries || outside (suc extent_entries) most_run_entries run_entries)) OutsideLimits ∷ when (nat_lt n v) SmallCard ∷ []

-- the new volume, or the refusal
abbrev pub built : ℕ → Option Refusal → Result Model Refusal
built v (Some w) = Err w
built v None = Ok (fresh v)

-- build: a volume of v blocks with tables of so many entries, on a card of n blocks
abbrev pub build : ℕ → ℕ → ℕ → ℕ → Result Model Refusal
build v extent_entries run_entries n = built v (first (build_reasons v extent_entries run_entries n))
