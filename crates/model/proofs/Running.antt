-- A run is one step after another.
use Rattle.std.proofs.Common.{◌≡◌, List, [], ◌∷◌, ◌++◌, refl, ap}
use Rattle.model.specs.Store.{Config, Model, fresh}
use Rattle.model.specs.Rules.{step}
use Rattle.model.specs.Replay.{Request, reply, run, OneByOne}

store_more : (c : Config) (m : Model) (qs : List Request) (q : Request) → (run c m (qs ++ q ∷ [])).after ≡ (step c (run c m qs).after q.call q.buffer).next
store_more c m [] q = refl
store_more c m (p ∷ qs) q = store_more c (step c m p.call p.buffer).next qs q

replies_more : (c : Config) (m : Model) (qs : List Request) (q : Request) → (run c m (qs ++ q ∷ [])).replies ≡ (run c m qs).replies ++ reply (step c (run c m qs).after q.call q.buffer) ∷ []
replies_more c m [] q = refl
replies_more c m (p ∷ qs) q = ap (λ rs. reply (step c m p.call p.buffer) ∷ rs) (replies_more c (step c m p.call p.buffer).next qs q)

pub one_by_one : OneByOne
one_by_one = record { store = λ c qs q. store_more c (fresh c.volume) qs q; answers = λ c qs q. replies_more c (fresh c.volume) qs q }
