-- A call is refused for the first reason that holds, or granted where none does.
use Rattle.std.proofs.Common.{◌≡◌, ℕ, ◌<◌, true, false, List, [], ◌∷◌, Some, None, Err, Option, refl, arith}
use Rattle.calls.specs.declared.call.Call.{Call}
use Rattle.calls.specs.declared.refusal.Refusal.{Refusal}
use Rattle.calls.specs.Answers.{answer_number}
use Rattle.calls.specs.Refusals.{refusal_number}
use Rattle.model.specs.Store.{Config, Model}
use Rattle.model.specs.Replay.{Request, run}
use Rattle.model.specs.Rules.{Outcome, Reason, first, reasons, granted, settled, refuses, step}

-- no reason holds
abbrev pub Clear : List Reason → Type 0
Clear [] = Unit {0}
Clear (r ∷ rs) = (r.holds ≡ false) × Clear rs

pub clear : (rs : List Reason) → first rs ≡ None → Clear rs
clear [] e = tt
clear (r ∷ rs) e = grind (arith, clear rs)

settled_both : (m : Model) (buffer : List ℕ) (o : Option Refusal) (g : Outcome) (P : Outcome → Type 0) → ((w : Refusal) → P (refuses m buffer w)) → (o ≡ None → P g) → P (settled m buffer o g)
settled_both m buffer (Some w) g P refused done = refused w
settled_both m buffer None g P refused done = done refl

-- what holds of a refused call and of a granted one, for which no reason holds, holds of the call
pub step_both : (c : Config) (m : Model) (call : Call) (buffer : List ℕ) (P : Outcome → Type 0) → ((w : Refusal) → P (refuses m buffer w)) → (Clear (reasons c m call buffer) → P (granted c m call buffer)) → P (step c m call buffer)
step_both c m call buffer P refused done = settled_both m buffer (first (reasons c m call buffer)) (granted c m call buffer) P refused (λ none. done (clear (reasons c m call buffer) none))

-- what each granted call keeps, a run of calls keeps
pub run_keeps : (c : Config) (P : Model → Type 0) → ((m : Model) → P m → (call : Call) (buffer : List ℕ) → Clear (reasons c m call buffer) → P (granted c m call buffer).next) → (m : Model) → P m → (qs : List Request) → P (run c m qs).after
run_keeps c P keeps m p [] = p
run_keeps c P keeps m p (q ∷ qs) = run_keeps c P keeps (step c m q.call q.buffer).next (step_both c m q.call q.buffer (λ o. P o.next) (λ why. p) (keeps m p q.call q.buffer)) qs

-- what is granted has number 0, and a refusal has not
pub granted_zero : (c : Config) (m : Model) (call : Call) (buffer : List ℕ) → answer_number (granted c m call buffer).answer ≡ 0
granted_zero c m call buffer = grind arith

pub refused_some : (w : Refusal) → 0 < refusal_number w
refused_some w = grind arith

-- what a refusal says of the reasons
pub step_why : (c : Config) (m : Model) (call : Call) (buffer : List ℕ) (w : Refusal) → (step c m call buffer).answer ≡ Err w → first (reasons c m call buffer) ≡ Some w
step_why c m call buffer w e = grind (arith, refused_some, granted_zero c m call buffer)

-- what a grant says of the reasons
pub step_none : (c : Config) (m : Model) (call : Call) (buffer : List ℕ) → answer_number (step c m call buffer).answer ≡ 0 → first (reasons c m call buffer) ≡ None
step_none c m call buffer e = grind (arith, refused_some)

-- each reason that holds while none before it does has property G
abbrev pub FirstHas : (Refusal → Type 0) → List Reason → Type 0
FirstHas G [] = Unit {0}
FirstHas G (r ∷ rs) = (r.holds ≡ true → G r.refusal) × (r.holds ≡ false → FirstHas G rs)

pub first_has : (G : Refusal → Type 0) (rs : List Reason) (w : Refusal) → FirstHas G rs → first rs ≡ Some w → G w
first_has G [] w all e = grind arith
first_has G (r ∷ rs) w all e = grind (arith, first_has G rs w)
