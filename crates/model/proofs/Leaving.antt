-- What a call leaves alone.
use Rattle.std.proofs.Common.{◌≡◌, ℕ, false, eqb, List, [], get_or, set, Err, sym, refl, ap, arith}
use Rattle.std.proofs.lemmas.List.{get_or-set_other}
use Rattle.std.proofs.lemmas.Bool.{eqb-false}
use Rattle.calls.specs.declared.call.Call.{Call}
use Rattle.calls.specs.Answers.{answer_number}
use Rattle.calls.specs.Calls.{concerns}
use Rattle.model.specs.Places.{Place}
use Rattle.model.specs.Store.{Config, Model, file}
use Rattle.model.specs.Rules.{granted}
use Rattle.model.specs.Frames.{RefusalsLeave, OthersStay}
use Rattle.model.proofs.Settled.{step_both, granted_zero, refused_some}

pub refusals_leave : RefusalsLeave
refusals_leave c m call buffer w =
    step_both c m call buffer (λ o. o.answer ≡ Err w → (o.next ≡ m) × (o.buffer ≡ buffer))
    (λ _ _. (refl, refl))
    (λ _ e. absurd (omega (arith, refused_some w, granted_zero c m call buffer, ap answer_number e)))

other : (m : Model) (f g : ℕ) (ps : List Place) → eqb f g ≡ false → get_or (set m.files f ps) g [] ≡ file m g
other m f g ps e = get_or-set_other m.files f g ps [] (λ same. eqb-false f g e (sym same))

granted_others : (c : Config) (m : Model) (call : Call) (buffer : List ℕ) (g : ℕ) → concerns call g ≡ false → file (granted c m call buffer).next g ≡ file m g
granted_others c m call buffer g e = grind (arith, other m)

pub others_stay : OthersStay
others_stay c m call buffer g e = step_both c m call buffer (λ o. file o.next g ≡ file m g) (λ _. refl) (λ _. granted_others c m call buffer g e)
