-- Which file a call is on.
use Rattle.std.specs.Prelude.{ℕ, Bool, false, ◌==◌}
use Rattle.calls.specs.declared.call.Call.{Call}
use Rattle.calls.specs.declared.call.Call.TheVariants.{Insert, Collapse, Punch, ReserveWhole, ReserveSplit, Write, Read, Find, Length, Tally, Map, Drop}

-- whether a call is on file g
abbrev pub concerns : Call → ℕ → Bool
concerns (Insert f at n) g = f == g
concerns (Collapse f at n) g = f == g
concerns (Punch f at n) g = f == g
concerns (ReserveWhole f at n) g = f == g
concerns (ReserveSplit f at n) g = f == g
concerns (Write f at) g = f == g
concerns (Read f at) g = f == g
concerns (Find f at) g = f == g
concerns (Length f) g = f == g
concerns Tally g = false
concerns (Map f) g = f == g
concerns (Drop f) g = f == g
