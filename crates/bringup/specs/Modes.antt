-- The mode as a layout and a way to notify, and the number that stands for it. Assumes nothing.
use Rattle.std.specs.Prelude.{ℕ, ◌+◌, ◌^◌, cond}
use Rattle.bringup.specs.declared.modes.Layout.{Layout}
use Rattle.bringup.specs.declared.modes.Layout.TheVariants.{Split, Packed}
use Rattle.bringup.specs.declared.modes.Mode.{Mode}
use Rattle.bringup.specs.Features.{has_all, packed_bit, event_bit}

abbrev pub layout_of : ℕ → Layout
layout_of features = cond (has_all features (2 ^ packed_bit)) Packed Split

-- what the features choose
abbrev pub mode_chosen : ℕ → Mode
mode_chosen features = record { layout = layout_of features; events = has_all features (2 ^ event_bit) }

abbrev pub layout_number : Layout → ℕ
layout_number Split = 0
layout_number Packed = 2

-- 2 for the packed layout, and 1 more where each side says when it wants to be notified
abbrev pub mode_number : Mode → ℕ
mode_number m = layout_number m.layout + cond m.events 1 0
