-- Laws about what `specs/First` defines that rest on a definition which a must-fail edit turns.
use Rattle.std.specs.Prelude.{◌≡◌, ◌≢◌, List, ◌++◌}
use Rattle.std.proofs.Common.{ap}
use Rattle.refusal.specs.Answer.{Answer}
use Rattle.refusal.specs.First.{Row, first_of, answer_front}

-- ---- rows tested in two stages: where one of the front rows applies the answer is theirs, and where none does it is that of the rest

pub first_front : (front rest : List Row) → first_of front ≢ 0 → first_of (front ++ rest) ≡ first_of front
first_front front rest h = ap (λ (a : Answer). a.number) (answer_front front rest h)
