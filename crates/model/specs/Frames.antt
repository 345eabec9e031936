-- What a call leaves alone.
use Rattle.std.specs.Prelude.{◌≡◌, ℕ, false, List, Err}
use Rattle.calls.specs.declared.call.Call.{Call}
use Rattle.calls.specs.declared.refusal.Refusal.{Refusal}
use Rattle.calls.specs.Calls.{concerns}
use Rattle.model.specs.Store.{Config, Model, file}
use Rattle.model.specs.Rules.{step}

-- A refused call leaves store and buffer as they were.
abbrev pub RefusalsLeave : Type 0
RefusalsLeave = (c : Config) (m : Model) (call : Call) (buffer : List ℕ) (w : Refusal) →
    (step c m call buffer).answer ≡ Err w → ((step c m call buffer).next ≡ m) × ((step c m call buffer).buffer ≡ buffer)

-- A call leaves every file that it is not on as it was.
abbrev pub OthersStay : Type 0
OthersStay = (c : Config) (m : Model) (call : Call) (buffer : List ℕ) (g : ℕ) →
    concerns call g ≡ false → file (step c m call buffer).next g ≡ file m g
