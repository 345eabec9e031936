-- The number of each answer: 0 for whatever is granted.
use Rattle.std.specs.Prelude.{ℕ, Ok, Err, Result}
use Rattle.calls.specs.declared.refusal.Refusal.{Refusal}
use Rattle.calls.specs.Refusals.{refusal_number}

abbrev pub answer_number : {T : Type 0} → Result T Refusal → ℕ
answer_number (Ok x) = 0
answer_number (Err why) = refusal_number why
