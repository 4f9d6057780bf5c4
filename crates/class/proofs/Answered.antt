-- What a call's answer says of its refusals.
use Rattle.std.proofs.Common.{◌≡◌, ℕ, Some, None, Err, Option, arith}
use Rattle.entries.specs.declared.refusals.Refusal.{Refusal}
use Rattle.entries.specs.Refusals.{unless}

-- a call that was refused met that refusal
pub refused : {A : Type 0} (o : Option Refusal) (n : Refusal) (y : A) → Err n ≡ unless o y → o ≡ Some n
refused None n y h = let z : ◌≡◌ {A = ℕ} 0 1 = cc in absurd (omega arith)
refused (Some k) n y h = cc
