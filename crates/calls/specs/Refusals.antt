-- The number of each refusal.
use Rattle.std.specs.Prelude.{ℕ}
use Rattle.calls.specs.declared.refusal.Refusal.{Refusal}
use Rattle.calls.specs.declared.refusal.Refusal.TheVariants.{OutsideLimits, SmallCard, NoFile, NoCount, OutOfFile, TooLong, WrongBuffer, WrongKind, NoSpace, NoRun, TooManyPieces, NoEntries, Card, NoCatalogueRoom, BadCatalogue, TooManyRecords, WrongRecord}

abbrev pub refusal_number : Refusal → ℕ
refusal_number OutsideLimits = 1
refusal_number SmallCard = 2
refusal_number NoFile = 3
refusal_number NoCount = 4
refusal_number OutOfFile = 5
refusal_number TooLong = 6
refusal_number WrongBuffer = 7
refusal_number WrongKind = 8
refusal_number NoSpace = 9
refusal_number NoRun = 10
refusal_number TooManyPieces = 11
refusal_number NoEntries = 12
refusal_number (Card fault block) = 13
refusal_number NoCatalogueRoom = 14
refusal_number BadCatalogue = 15
refusal_number TooManyRecords = 16
refusal_number (WrongRecord index) = 17
