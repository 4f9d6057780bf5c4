-- The device status of each state, as a sum of flags. Assumes nothing.
use Rattle.std.specs.Prelude.{ℕ, ◌+◌}

abbrev pub reset_status : ℕ
reset_status = 0

-- ACKNOWLEDGE is 1, DRIVER is 2
abbrev pub known_status : ℕ
known_status = 1 + 2

-- FEATURES_OK is 8; a capacity does not show in the status
abbrev pub agreed_status : ℕ
agreed_status = known_status + 8

-- DRIVER_OK is 4
abbrev pub ready_status : ℕ
ready_status = agreed_status + 4
