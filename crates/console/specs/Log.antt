-- What the plain service makes of a store, in the words of a log that is never longer than its room. Assumes nothing.
use Rattle.std.specs.Prelude.{◌≡◌, ℕ, ◌+◌, ◌-◌, true, ◌⊎◌, List, ◌++◌, length, take, drop}
use Rattle.class.specs.Refusals.{is_store}
use Rattle.console.specs.Service.{text_at, largest_count, kept_in, lost_in, append}

-- the text that a store has kept, up to the store's end
abbrev pub text_in : List ℕ → List ℕ
text_in store = take (kept_in store) (drop text_at store)

-- a line comes after the text, and the end of the store cuts it off
abbrev pub TextGrows : List ℕ → Type 0
TextGrows store = (line : List ℕ) → is_store 8 store ≡ true → text_in (append store line) ≡ take (length store - text_at) (text_in store ++ line)

-- each byte of a line is kept or lost, and counted so until lost is at its largest
abbrev pub EveryByteCounted : List ℕ → Type 0
EveryByteCounted store = (line : List ℕ) → is_store 8 store ≡ true
    → (kept_in (append store line) + lost_in (append store line) ≡ kept_in store + lost_in store + length line) ⊎ (lost_in (append store line) ≡ largest_count)
