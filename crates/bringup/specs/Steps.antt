-- What each step of bring-up gives: the next state, or a refusal with the very state that was given. Assumes nothing.
use Rattle.std.specs.Prelude.{ℕ, cond, Ok, Err, Result}
use Rattle.entries.specs.declared.refusals.Refusal.{Refusal}
use Rattle.entries.specs.declared.refusals.Refusal.TheVariants.{Features, Capacity}
use Rattle.bringup.specs.declared.states.Reset.{Reset}
use Rattle.bringup.specs.declared.states.Known.{Known}
use Rattle.bringup.specs.declared.states.Agreed.{Agreed}
use Rattle.bringup.specs.declared.states.Sized.{Sized}
use Rattle.bringup.specs.declared.states.DriverOk.{DriverOk}
use Rattle.bringup.specs.Features.{agreeable}
use Rattle.bringup.specs.Modes.{mode_chosen}
use Rattle.bringup.specs.Capacities.{fitting}

abbrev pub starting : ℕ → Reset
starting offered = record { offered = offered }

abbrev pub knowing : Reset → Known
knowing s = record { offered = s.offered }

abbrev pub agreeing : Known → ℕ → Result Agreed (Refusal × Known)
agreeing s wanted = cond (agreeable s.offered wanted) (Ok (record { features = wanted })) (Err (Features, s))

abbrev pub sizing : Agreed → ℕ → Result Sized (Refusal × Agreed)
sizing s capacity =
    cond (fitting s.features capacity) (Ok (record { mode = mode_chosen s.features; capacity = capacity })) (Err (Capacity, s))

abbrev pub spending : Sized → DriverOk
spending s = record { mode = s.mode; capacity = s.capacity }

-- a refusal without the state that it handed back
abbrev pub refusal_alone : {A S : Type 0} → Result A (Refusal × S) → Result A Refusal
refusal_alone (Ok a) = Ok a
refusal_alone (Err (n, s)) = Err n

-- a step after another, where that one came through
abbrev pub and_then : {A B : Type 0} → Result A Refusal → (A → Result B Refusal) → Result B Refusal
and_then (Ok a) f = f a
and_then (Err n) f = Err n

-- all steps up to a legal capacity
abbrev pub bringing_up : ℕ → ℕ → ℕ → Result Sized Refusal
bringing_up offered wanted capacity =
    and_then (refusal_alone (agreeing (knowing (starting offered)) wanted)) (λ s. refusal_alone (sizing s capacity))
