-- How a layout holds the three lists: end to end, from the oldest finished to the newest published. One text for every layout.
-- Places count descriptors and positions count spans; here neither wraps. Assumes nothing.
use Rattle.std.specs.Prelude.{◌≡◌, ℕ, zero, suc, ◌+◌, ◌%◌, ◌≤◌, List, [], ◌∷◌}
use Rattle.entries.specs.declared.shapes.Entry.{Entry}
use Rattle.queue.specs.declared.values.Finished.{Finished}
use Rattle.queue.specs.Meaning.{Meaning, count_of, back_count, back_span}

-- the items xs lie one after another, from the place d and the position p up to d' and p'
unfoldable pub Run : {X : Type 0} → (X → ℕ) → (X → ℕ) → (ℕ → ℕ → X → Type 0) → ℕ → ℕ → List X → ℕ → ℕ → Type 0
Run size span At d p [] d' p' = (d ≡ d') × (p ≡ p')
Run size span At d p (x ∷ xs) d' p' = At d p x × Run size span At (d + size x) (p + span x) xs d' p'

-- n items read off from the position p on
unfoldable pub read_off : {X : Type 0} → (X → ℕ) → (ℕ → X) → ℕ → ℕ → List X
read_off span read zero p = []
read_off span read (suc n) p = read p ∷ read_off span read n (p + span (read p))

-- what it is for an entry, and for a finished one, to lie at a place and a position
pub record Layout : Type 1 where
  pub Lies : ℕ → ℕ → Entry → Type 0
  pub BackLies : ℕ → ℕ → Finished → Type 0

-- where back begins, held, out, and where out ends
pub record Cuts : Type 0 where
  pub d0 : ℕ
  pub d1 : ℕ
  pub d2 : ℕ
  pub d3 : ℕ
  pub p0 : ℕ
  pub p1 : ℕ
  pub p2 : ℕ
  pub p3 : ℕ

pub record Lists (t : Layout) (k : ℕ) (m : Meaning) (c : Cuts) : Type 0 where
  pub backs : Run back_count back_span t.BackLies c.d0 c.p0 m.back c.d1 c.p1
  pub helds : Run count_of m.span t.Lies c.d1 c.p1 m.held c.d2 c.p2
  pub outs : Run count_of m.span t.Lies c.d2 c.p2 m.out c.d3 c.p3
  -- the one fact on room: no place is taken twice
  pub within : c.d3 ≤ c.d0 + k
  pub capacity_is : m.capacity ≡ k
  pub collected_at : m.collected ≡ c.p0 % m.modulus
  pub finished_at : m.finished ≡ c.p1 % m.modulus
  pub taken_at : m.taken ≡ c.p2 % m.modulus
  pub published_at : m.published ≡ c.p3 % m.modulus

-- one of the four has come on by n places and s positions
abbrev pub grow_out : Cuts → ℕ → ℕ → Cuts
grow_out c n s = record c { d3 = c.d3 + n; p3 = c.p3 + s }

abbrev pub grow_held : Cuts → ℕ → ℕ → Cuts
grow_held c n s = record c { d2 = c.d2 + n; p2 = c.p2 + s }

abbrev pub grow_back : Cuts → ℕ → ℕ → Cuts
grow_back c n s = record c { d1 = c.d1 + n; p1 = c.p1 + s }

abbrev pub shed : Cuts → ℕ → ℕ → Cuts
shed c n s = record c { d0 = c.d0 + n; p0 = c.p0 + s }

-- whatever lies between the places lo and hi and the positions lop and hip still lies there
abbrev pub Keeps : {X : Type 0} → (X → ℕ) → (X → ℕ) → (ℕ → ℕ → X → Type 0) → (ℕ → ℕ → X → Type 0) → ℕ → ℕ → ℕ → ℕ → Type 0
Keeps {X} size span At At' lo hi lop hip = (d p : ℕ) (x : X) → lo ≤ d → d + size x ≤ hi → lop ≤ p → p + span x ≤ hip → At d p x → At' d p x

-- the four moments in their order
pub record Spread (k : ℕ) (c : Cuts) : Type 0 where
  pub places : (c.d0 ≤ c.d1) × (c.d1 ≤ c.d2) × (c.d2 ≤ c.d3) × (c.d3 ≤ c.d0 + k)
  pub positions : (c.p0 ≤ c.p1) × (c.p1 ≤ c.p2) × (c.p2 ≤ c.p3)
