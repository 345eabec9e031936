-- The rules by example.
use Rattle.std.specs.Prelude.{◌≡◌, ℕ, suc, false, ◌&&◌, ◌||◌, List, [], ◌∷◌, ◌++◌, map, replicate, Ok, Err, Result, codes, ◌==◌, nat_le, nat_lt, slice_set}
use Rattle.card.specs.Sizes.{block_size}
use Rattle.card.specs.declared.fault.CardFault.TheVariants.{Worn}
use Rattle.calls.specs.declared.kind.Kind.TheVariants.{Hole, Reserved, Written}
use Rattle.calls.specs.declared.call.Call.{Call}
use Rattle.calls.specs.declared.call.Call.TheVariants.{Insert, Collapse, Punch, ReserveWhole, ReserveSplit, Write, Read, Find, Length, Tally, Map, Drop}
use Rattle.calls.specs.declared.refusal.Refusal.{Refusal}
use Rattle.calls.specs.declared.refusal.Refusal.TheVariants.{OutsideLimits, SmallCard, NoFile, NoCount, OutOfFile, TooLong, WrongBuffer, WrongKind, NoSpace, NoRun, TooManyPieces, NoEntries, Card}
use Rattle.calls.specs.declared.answer.Answer.{Answer}
use Rattle.calls.specs.declared.answer.Answer.TheVariants.{Done, Pieces, Found, Places, Tallied, Bytes}
use Rattle.model.specs.Places.{hole}
use Rattle.model.specs.Space.{Blocks, row}
use Rattle.model.specs.Store.{Config, Model, file_count, fresh}
use Rattle.model.specs.Rules.{step, build}
use Rattle.model.specs.Replay.{Request, Reply, answered}
use Rattle.model.specs.Pieces.{laid_on}

-- a volume of v blocks with so many extent entries, on a card without worn blocks
abbrev pub unworn : ℕ → ℕ → Config
unworn v entries = record { volume = v; entries = entries; worn = λ b. false }

-- a call that is lent no bytes
abbrev pub plain : Call → Request
plain call = record { call = call; buffer = [] }

-- the answers to calls on a new volume
abbrev pub answers : ℕ → ℕ → List Call → List (Result Answer Refusal)
answers v entries calls = map (λ (r : Reply). r.answer) (answered (unworn v entries) (map plain calls))

-- a file of nine holes, and these blocks free
abbrev pub nine_holes : Blocks → Model
nine_holes free = record { files = slice_set (replicate file_count []) 0 (replicate 9 hole); free = free }

-- free runs of 3, 5 and 4 blocks at 0, 10 and 20
abbrev pub three_runs : Blocks
three_runs b = nat_lt b 3 || ((nat_le 10 b && nat_lt b 15) || (nat_le 20 b && nat_lt b 24))

-- free runs of 2 blocks at 4 and at 10
abbrev pub equal_runs : Blocks
equal_runs b = (nat_le 4 b && nat_lt b 6) || (nat_le 10 b && nat_lt b 12)

-- the blocks that a whole of n holes takes
abbrev pub whole_takes : Blocks → ℕ → List ℕ
whole_takes free n = laid_on (step (unworn 30 12) (nine_holes free) (ReserveWhole 0 0 n) []).next 0 0 n

-- the blocks that a split of n holes takes
abbrev pub split_takes : Blocks → ℕ → List ℕ
split_takes free n = laid_on (step (unworn 30 12) (nine_holes free) (ReserveSplit 0 0 n) []).next 0 0 n

-- calls that leave nine free runs of one block each, and nine holes in file 1
abbrev pub nine_runs : List Call
nine_runs =
    Insert 0 0 17 ∷ ReserveWhole 0 0 17 ∷ Punch 0 0 1 ∷ Punch 0 2 1 ∷ Punch 0 4 1 ∷ Punch 0 6 1 ∷ Punch 0 8 1
    ∷ Punch 0 10 1 ∷ Punch 0 12 1 ∷ Punch 0 14 1 ∷ Punch 0 16 1 ∷ Insert 1 0 9 ∷ []

-- and their answers
abbrev pub nine_answers : List (Result Answer Refusal)
nine_answers = Ok Done ∷ Ok (Pieces 1) ∷ replicate 10 (Ok Done)

-- a call with the number of bytes that it is lent, and its answer
pub record Line : Type 0 where
  pub call : Call
  pub lent : ℕ
  pub answer : Result Answer Refusal

-- a line of a call that is lent no bytes
abbrev pub gives : Call → Result Answer Refusal → Line
gives call a = record { call = call; lent = 0; answer = a }

-- a line of a call that is lent n bytes
abbrev pub lent_gives : Call → ℕ → Result Answer Refusal → Line
lent_gives call n a = record { call = call; lent = n; answer = a }

-- a volume of 12 blocks with 6 extent entries; block 2 is worn
abbrev pub worn_volume : Config
worn_volume = record { volume = 12; entries = 6; worn = λ b. (b == 2) }

-- calls on it that meet the refusals
abbrev pub tour : List Line
tour =
    gives (Insert 0 0 8) (Ok Done) ∷ gives (Find 0 2) (Ok (Found Hole 0 6))
    -- eight places on blocks 0 to 7; places 4 to 6 are written and one extent
    ∷ gives (ReserveWhole 0 0 8) (Ok (Pieces 1)) ∷ lent_gives (Write 0 4) 512 (Ok Done) ∷ lent_gives (Write 0 5) 512 (Ok Done) ∷ lent_gives (Write 0 6) 512 (Ok Done)
    ∷ gives (Find 0 5) (Ok (Found Written 5 2)) ∷ lent_gives (Write 0 2) 512 (Err (Card Worn 2))
    -- places 1 and 2 are holes; five extents leave one entry, and a punch inside the written extent needs two
    ∷ gives (Punch 0 1 2) (Ok Done) ∷ gives Tally (Ok (Tallied 6 4 1))
    ∷ lent_gives (Write 0 1) 512 (Err WrongKind) ∷ gives (ReserveWhole 0 5 1) (Err WrongKind) ∷ gives (Punch 0 5 1) (Err NoEntries)
    -- the lowest run has two blocks, 1 and 2: places 0 to 3 are one extent again
    ∷ gives (ReserveSplit 0 1 2) (Ok (Pieces 1)) ∷ gives (Find 0 1) (Ok (Found Reserved 1 3)) ∷ gives Tally (Ok (Tallied 4 4 3))
    -- four blocks are free, then none
    ∷ gives (Insert 1 0 6) (Ok Done) ∷ gives (ReserveWhole 1 0 5) (Err NoRun) ∷ gives (ReserveSplit 1 0 5) (Err NoSpace)
    ∷ gives (ReserveSplit 1 0 4) (Ok (Pieces 1)) ∷ gives (ReserveSplit 1 4 2) (Err NoSpace)
    -- one entry is left: too few for a write or an insert inside an extent
    ∷ lent_gives (Write 0 2) 512 (Err NoEntries) ∷ gives (Insert 0 2 1) (Err NoEntries)
    -- places 0 and 3 are out: block 2 is at place 1, and what stood at place 4 stands at place 2
    ∷ gives (Collapse 0 0 1) (Ok Done) ∷ gives (Collapse 0 2 1) (Ok Done) ∷ lent_gives (Write 0 1) 512 (Err (Card Worn 2))
    ∷ gives (Find 0 2) (Ok (Found Written 4 3)) ∷ gives (Length 0) (Ok (Places 6))
    ∷ gives (Insert 0 7 1) (Err OutOfFile) ∷ gives (Collapse 0 5 2) (Err OutOfFile) ∷ gives (Punch 1 5 0) (Err NoCount)
    ∷ gives (Drop 64) (Err NoFile) ∷ lent_gives (Read 0 4) 511 (Err WrongBuffer)
    ∷ gives (Drop 0) (Ok Done) ∷ gives (Length 0) (Ok (Places 0)) ∷ gives Tally (Ok (Tallied 8 8 4)) ∷ []

-- the answers to the calls of some lines
abbrev pub toured : Config → List Line → List (Result Answer Refusal)
toured c ls = map (λ (r : Reply). r.answer) (answered c (map (λ (l : Line). record { call = l.call; buffer = replicate l.lent 1 }) ls))

-- a block of one byte over and over
abbrev pub filled : ℕ → List ℕ
filled byte = replicate block_size byte

-- calls with their buffers
abbrev pub listing : List Request
listing =
    plain (Insert 0 0 10) ∷ plain (ReserveSplit 0 0 10) ∷ plain (Insert 1 0 4) ∷ plain (ReserveWhole 1 0 4) ∷ plain (Punch 0 2 3)
    ∷ plain (Insert 1 4 20) ∷ plain (ReserveSplit 1 4 20)
    ∷ record { call = Map 0; buffer = replicate 30 1 } ∷ record { call = Map 1; buffer = replicate 19 1 }
    ∷ plain (ReserveWhole 0 2 2) ∷ record { call = Write 0 0; buffer = filled 7 } ∷ record { call = Read 0 0; buffer = filled 1 } ∷ []

-- a reply without bytes
abbrev pub says : Result Answer Refusal → Reply
says a = record { answer = a; buffer = [] }

-- and what comes back
abbrev pub listing_replies : List Reply
listing_replies =
    says (Ok Done) ∷ says (Ok (Pieces 1)) ∷ says (Ok Done) ∷ says (Ok (Pieces 1)) ∷ says (Ok Done)
    ∷ says (Ok Done) ∷ says (Ok (Pieces 2))
    ∷ record { answer = Ok (Bytes 24); buffer = codes "0 2 r 0\n2 3 h 0\n5 5 r 5\n" ++ replicate 6 1 } ∷ record { answer = Ok (Bytes 19); buffer = codes "0 22 r 10\n22 2 r 2\n" }
    ∷ says (Err NoRun) ∷ record { answer = Ok Done; buffer = filled 7 } ∷ record { answer = Ok Done; buffer = filled 7 } ∷ []

-- a call that is lent a block of ones
abbrev pub ones : Call → Request
ones call = record { call = call; buffer = filled 1 }

-- a call that is lent a block of sevens
abbrev pub sevens : Call → Request
sevens call = record { call = call; buffer = filled 7 }

-- a block written, moved up by an insert, moved back by a collapse, and punched
abbrev pub moved : List Request
moved =
    plain (Insert 0 0 2) ∷ plain (ReserveSplit 0 0 2) ∷ sevens (Write 0 0) ∷ plain (Insert 0 0 1) ∷ ones (Read 0 0) ∷ ones (Read 0 1) ∷ ones (Read 0 2)
    ∷ plain (Collapse 0 0 1) ∷ ones (Read 0 0) ∷ plain (Punch 0 0 1) ∷ ones (Read 0 0) ∷ []

-- the reply to a granted read of this byte
abbrev pub shows : ℕ → Reply
shows byte = record { answer = Ok Done; buffer = filled byte }

-- the gap and the reserved place show zeros, the written place its sevens wherever it stands
abbrev pub moved_replies : List Reply
moved_replies =
    says (Ok Done) ∷ says (Ok (Pieces 1)) ∷ shows 7 ∷ says (Ok Done) ∷ shows 0 ∷ shows 7 ∷ shows 0
    ∷ says (Ok Done) ∷ shows 7 ∷ says (Ok Done) ∷ shows 0 ∷ []

-- each is proved by computing the rules
pub record Examples : Type 0 where
  -- 12 extent entries want 13 run entries
  pub run_entries_short : build 32 12 12 40 ≡ Err OutsideLimits
  pub run_entries_enough : build 32 12 13 40 ≡ Ok (fresh 32)
  -- the largest volume, and one too many of each
  pub largest : build 16777216 32768 40000 16777216 ≡ Ok (fresh 16777216)
  pub larger_volume : build 16777217 32768 40000 16777217 ≡ Err OutsideLimits
  pub more_extent_entries : build 16777216 32769 40000 16777216 ≡ Err OutsideLimits
  pub more_run_entries : build 16777216 32768 40001 16777216 ≡ Err OutsideLimits
  -- the smallest volume, and none of each
  pub smallest : build 1 1 2 1 ≡ Ok (fresh 1)
  pub no_volume : build 0 1 2 1 ≡ Err OutsideLimits
  pub no_extent_entries : build 1 0 2 1 ≡ Err OutsideLimits
  pub small_card : build 2 1 2 1 ≡ Err SmallCard
  -- the last file
  pub last_file : (v e : ℕ) → answers v e (Length 63 ∷ Length 64 ∷ []) ≡ Ok (Places 0) ∷ Err NoFile ∷ []
  -- the longest file, on any volume with an entry
  pub longest_file : (v e : ℕ) → answers v (suc e) (Insert 0 0 16777216 ∷ []) ≡ Ok Done ∷ []
  pub too_long_file : (v e : ℕ) → answers v e (Insert 0 0 16777217 ∷ []) ≡ Err TooLong ∷ []
  -- one entry carries one extent and no cut
  pub one_entry : answers 5 1 (Insert 0 0 5 ∷ ReserveSplit 0 0 5 ∷ Punch 0 1 1 ∷ Collapse 0 0 1 ∷ Drop 0 ∷ []) ≡ Ok Done ∷ Ok (Pieces 1) ∷ Err NoEntries ∷ Err NoEntries ∷ Ok Done ∷ []
  -- the lowest run that is long enough; else the longest first
  pub whole_4 : whole_takes three_runs 4 ≡ row 10 4
  pub split_4 : split_takes three_runs 4 ≡ row 10 4
  pub split_8 : split_takes three_runs 8 ≡ row 10 5 ++ row 0 3
  pub split_9 : split_takes three_runs 9 ≡ row 10 5 ++ row 20 4
  pub lowest_of_equals : split_takes equal_runs 3 ≡ row 4 2 ++ row 10 1
  -- eight pieces are granted, nine are not
  pub eight_pieces : answers 17 40 (nine_runs ++ ReserveSplit 1 0 8 ∷ []) ≡ nine_answers ++ Ok (Pieces 8) ∷ []
  pub nine_pieces : answers 17 40 (nine_runs ++ ReserveSplit 1 0 9 ∷ []) ≡ nine_answers ++ Err TooManyPieces ∷ []
  -- each refusal, and what stands when it is given
  pub tour_answered : toured worn_volume tour ≡ map (λ (l : Line). l.answer) tour
  -- what reads show, and what maps say
  pub moved_shown : answered (unworn 4 4) moved ≡ moved_replies
  pub listing_answered : answered (unworn 32 12) listing ≡ listing_replies
