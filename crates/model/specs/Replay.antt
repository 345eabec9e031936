-- Whole runs of calls.
use Rattle.std.specs.Prelude.{◌≡◌, ℕ, List, [], ◌∷◌, ◌++◌, Result}
use Rattle.calls.specs.declared.call.Call.{Call}
use Rattle.calls.specs.declared.refusal.Refusal.{Refusal}
use Rattle.calls.specs.declared.answer.Answer.{Answer}
use Rattle.model.specs.Store.{Config, Model, fresh}
use Rattle.model.specs.Rules.{Outcome, step}

-- a call, with the buffer that it is lent
pub record Request : Type 0 where
  pub call : Call
  pub buffer : List ℕ

-- what comes back of it: the answer or the refusal, and the buffer after the call
pub record Reply : Type 0 where
  pub answer : Result Answer Refusal
  pub buffer : List ℕ

-- what a list of requests leaves, and the reply to each
pub record Ran : Type 0 where
  pub after : Model
  pub replies : List Reply

-- what the caller sees of an outcome
abbrev pub reply : Outcome → Reply
reply o = record { answer = o.answer; buffer = o.buffer }

-- an outcome, and what came after it
abbrev pub and_then : Outcome → Ran → Ran
and_then o r = record { after = r.after; replies = reply o ∷ r.replies }

-- one request after another
abbrev pub run : Config → Model → List Request → Ran
run c m [] = record { after = m; replies = [] }
run c m (q ∷ qs) = and_then (step c m q.call q.buffer) (run c (step c m q.call q.buffer).next qs)

-- the store that a list of requests leaves on a new volume
abbrev pub reached : Config → List Request → Model
reached c qs = (run c (fresh c.volume) qs).after

-- the replies to a list of requests on a new volume
abbrev pub answered : Config → List Request → List Reply
answered c qs = (run c (fresh c.volume) qs).replies

-- A run is one step after another: one more request is answered by the store that those before it left.
pub record OneByOne : Type 0 where
  pub store : (c : Config) (qs : List Request) (q : Request) → reached c (qs ++ q ∷ []) ≡ (step c (reached c qs) q.call q.buffer).next
  pub answers : (c : Config) (qs : List Request) (q : Request) → answered c (qs ++ q ∷ []) ≡ answered c qs ++ reply (step c (reached c qs) q.call q.buffer) ∷ []
