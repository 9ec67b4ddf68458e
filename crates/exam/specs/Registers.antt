-- The registers that OPEN may name. Assumes nothing.
--   register_named n   1 is the tally, 2 the roll; no other number names one
use Rattle.std.specs.Prelude.{ℕ, Ok, Err, Result, ◌==◌, if◌then◌else◌}
use Rattle.refusals.specs.declared.causes.Refusal.{Refusal}
use Rattle.refusals.specs.declared.causes.Refusal.TheVariants.{FieldOutOfRange}
use Rattle.exam.specs.declared.sitting.registers.RegisterKind.{RegisterKind}
use Rattle.exam.specs.declared.sitting.registers.RegisterKind.TheVariants.{Tally, Roll}

abbrev pub register_named : ℕ → Result RegisterKind Refusal
register_named n = if n == 1 then Ok Tally else (if n == 2 then Ok Roll else Err FieldOutOfRange)
