-- Requests by their values, what serving does by whether a request is stated, and segments that fit their types.
use Rattle.std.proofs.Common.{◌≡◌, ℕ, ◌≤◌, Bool, true, false, cond, List, Some, None, refl, ap, ◌∙◌, arith, lit<}
use Rattle.entries.specs.Legality.{blank}
use Rattle.entries.specs.Typed.{TypedSegment}
use Rattle.class.specs.Cells.{segment}
use Rattle.class.specs.Kinds.{Asked, Kind}
use Rattle.class.specs.Rules.{Effect, answered, effect_of}

abbrev made : ℕ → ℕ → List ℕ → Asked
made c p bs = record { code = c; place = p; payload = bs }

pub same_asked : (c p : ℕ) (bs : List ℕ) (r : Asked) → c ≡ r.code → p ≡ r.place → bs ≡ r.payload → record { code = c; place = p; payload = bs } ≡ r
same_asked c p bs r a b d = ap (λ x. made x p bs) a ∙ ap (λ x. made r.code x bs) b ∙ ap (made r.code r.place) d

-- where a test says whether an entry and its cell state the request r
pub by_stated : (P : Effect → Type 0) (kind : Kind) (b : Bool) (r : Asked) (cell store : List ℕ)
    → P (record { written = 0; cell = cell; store = store }) → (b ≡ true → P (answered kind (kind.plain store r) cell)) → P (effect_of kind (cond b (Some r) None) cell store)
by_stated P kind false r cell store u s = u
by_stated P kind true r cell store u s = s refl

-- a segment of a tag's cell, and an unused place
pub in_cell : (t at n : ℕ) (w : Bool) → t ≤ 15 → at ≤ 544 → n ≤ 544 → TypedSegment (segment t at n w)
in_cell t at n w h k l = record { small_start = omega arith; small_length = omega arith }

pub blank_typed : TypedSegment blank
blank_typed = record { small_start = lit< tt; small_length = lit< tt }
