-- What the program's steps promise. Assumes nothing.
use Rattle.std.specs.Prelude.{◌≡◌, ℕ, List, None}
use Rattle.class.specs.Kinds.{Asked, Kind}
use Rattle.class.specs.Refusals.{carry_refusal}

-- what the cell shows once a request that nothing refuses is carried through is the plain service's data
abbrev pub ShowsTheData : Kind → ℕ → Asked → List ℕ → List ℕ → List ℕ → Type 0
ShowsTheData kind t r cell store after = carry_refusal t (kind.refuses r) kind.least cell store ≡ None → kind.shows after ≡ (kind.plain store r).answer.bytes
