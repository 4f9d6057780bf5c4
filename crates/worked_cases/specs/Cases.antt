-- The table of worked cases, and what it is for a case to follow the rule. Assumes nothing.
use Rattle.std.specs.Prelude.{◌≡◌, ℕ, zero, suc, Bool, true, false, List, [], ◌∷◌, Some, None, Option}
use Rattle.positions.specs.Stretch.{in_stretch}
use Rattle.worked_cases.specs.declared.table.Case.{Case}

abbrev pub row : ℕ → ℕ → ℕ → ℕ → Bool → Case
row m a b e r = record { stretch = record { modulus = m; from = a; to = b }; event = e; inside = r }

-- each row: the stretch's modulus, start and end, the event, and whether the stretch holds it
abbrev pub table : List Case
table =
    row 65536 65535 1 65535 true
    ∷ (row 65536 65535 1 0 true
    ∷ (row 65536 65535 1 1 false
    ∷ (row 8 7 2 7 true
    ∷ (row 8 7 2 3 false
    ∷ (row 8 5 5 5 false
    ∷ [])))))

abbrev pub row_at : List Case → ℕ → Option Case
row_at [] i = None
row_at (c ∷ cs) zero = Some c
row_at (c ∷ cs) (suc i) = row_at cs i

-- the rule's own answer to a case
abbrev pub ruled : Case → Bool
ruled c = in_stretch c.stretch.modulus c.stretch.from c.stretch.to c.event

-- a row, where there is one, answers as the rule does
abbrev pub AsRuled : Option Case → Type 0
AsRuled o = (c : Case) → o ≡ Some c → c.inside ≡ ruled c
