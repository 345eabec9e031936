-- The examples, computed.
use Rattle.std.proofs.Common.{◌≡◌, ℕ, suc, ◌+◌, ◌-◌, ◌<◌, ◌≤◌, [], ◌∷◌, Ok, refl, arith}
use Rattle.std.specs.Fmt.{digits}
use Rattle.std.proofs.lemmas.Bool.{ne_eqb, le-ltb}
use Rattle.calls.specs.declared.call.Call.TheVariants.{Insert}
use Rattle.calls.specs.declared.answer.Answer.TheVariants.{Done}
use Rattle.model.specs.Replay.{answered}
use Rattle.model.specs.Examples.{listing, listing_replies, unworn, answers}

pub listing_answered : answered (unworn 32 12) listing ≡ listing_replies
unfolding digits
listing_answered = refl

-- an insert of any number of places up to the most, into an empty file
pub inserts : (v e n : ℕ) → 0 < n → n ≤ 16777216 → answers v (suc e) (Insert 0 0 n ∷ []) ≡ Ok Done ∷ []
inserts v e n some fits = rw (ne_eqb n 0 (λ z. omega arith), le-ltb 16777216 (0 + n) (omega arith), le-ltb (suc e - 0) 1 (omega arith))
