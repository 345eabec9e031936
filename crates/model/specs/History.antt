-- Contents by history: what files hold, told by the calls and their answers alone. Each place is followed backward through the calls that were granted.
use Rattle.std.specs.Prelude.{◌≡◌, ℕ, ◌+◌, ◌-◌, ◌<◌, ◌&&◌, List, [], ◌∷◌, length, ◌==◌, nat_le, nat_lt, if◌then◌else◌}
use Rattle.card.specs.Sizes.{block_size}
use Rattle.calls.specs.declared.call.Call.{Call}
use Rattle.calls.specs.declared.call.Call.TheVariants.{Insert, Collapse, Punch, ReserveWhole, ReserveSplit, Write, Read, Find, Length, Tally, Map, Drop}
use Rattle.calls.specs.declared.answer.Answer.TheVariants.{Done, Places}
use Rattle.calls.specs.Answers.{answer_number}
use Rattle.calls.specs.Calls.{concerns}
use Rattle.model.specs.Places.{zeros}
use Rattle.model.specs.Store.{Config, Model, file_count}
use Rattle.model.specs.Rules.{leaves, step}
use Rattle.model.specs.Replay.{Request, Reply, reached, answered}

-- the requests that were granted, the latest first, before those that were granted earlier
abbrev pub granted_first : List Request → List Reply → List Request → List Request
granted_first [] rs past = past
granted_first (q ∷ qs) [] past = past
granted_first (q ∷ qs) (r ∷ rs) past = granted_first qs rs (if answer_number r.answer == 0 then q ∷ past else past)

-- the history of a volume
abbrev pub history : Config → List Request → List Request
history c qs = granted_first qs (answered c qs) []

-- where the bytes of a place come from: the call put them there, or they stood at a place before it
pub data Origin : Type 0 where
  put : List ℕ → Origin
  was : ℕ → Origin

-- where the bytes of place k come from, in the file that a granted call is on
abbrev pub origin : Call → List ℕ → ℕ → Origin
origin (Insert f at n) buffer k = if nat_lt k at then was k else (if nat_lt k (at + n) then put zeros else was (k - n))
origin (Collapse f at n) buffer k = if nat_lt k at then was k else was (k + n)
origin (Punch f at n) buffer k = if nat_le at k && nat_lt k (at + n) then put zeros else was k
origin (ReserveWhole f at n) buffer k = was k
origin (ReserveSplit f at n) buffer k = was k
origin (Write f at) buffer k = if k == at then put buffer else was k
origin (Read f at) buffer k = was k
origin (Find f at) buffer k = was k
origin (Length f) buffer k = was k
origin Tally buffer k = was k
origin (Map f) buffer k = was k
origin (Drop f) buffer k = put zeros

-- the bytes by their origin, given what each place showed before the call
abbrev pub traced : (ℕ → List ℕ) → Origin → List ℕ
traced earlier (put bytes) = bytes
traced earlier (was k) = earlier k

-- the bytes of place k of file f
abbrev pub bytes_of : List Request → ℕ → ℕ → List ℕ
bytes_of [] f k = zeros
bytes_of (q ∷ past) f k = traced (bytes_of past f) (if concerns q.call f then origin q.call q.buffer k else was k)

-- the length of a file after a granted call on it
abbrev pub resized : Call → ℕ → ℕ
resized (Insert f at n) l = l + n
resized (Collapse f at n) l = l - n
resized (Punch f at n) l = l
resized (ReserveWhole f at n) l = l
resized (ReserveSplit f at n) l = l
resized (Write f at) l = l
resized (Read f at) l = l
resized (Find f at) l = l
resized (Length f) l = l
resized Tally l = l
resized (Map f) l = l
resized (Drop f) l = 0

-- the length of file f
abbrev pub length_of : List Request → ℕ → ℕ
length_of [] f = 0
length_of (q ∷ past) f = if concerns q.call f then resized q.call (length_of past f) else length_of past f

-- length and read tell of file f what its history says
pub record Told (c : Config) (m : Model) (past : List Request) (f : ℕ) (buffer : List ℕ) : Type 0 where
  pub long : step c m (Length f) buffer ≡ leaves m buffer (Places (length_of past f))
  pub shown : (k : ℕ) → length buffer ≡ block_size → k < length_of past f → step c m (Read f k) buffer ≡ leaves m (bytes_of past f k) Done

-- After any calls, a read of a place inside a file into 512 bytes is granted and shows what the history says.
abbrev pub Contents : Type 0
Contents = (c : Config) (qs : List Request) (f : ℕ) (buffer : List ℕ) → f < file_count → Told c (reached c qs) (history c qs) f buffer
