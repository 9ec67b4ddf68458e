-- A process, and what changes of it. Assumes nothing.
--   idle, certifying, running   the phase
--   mark v x                    the value x with the view v
--   blank_process               a process that has done nothing: every field is 0
--   with_…                      the process with that field, or that group of fields, changed
use Rattle.std.specs.Prelude.{ℕ, Bool, true, false}
use Rattle.wire.specs.declared.vouch.Vouch.{Vouch}
use Rattle.wire.specs.declared.vouch.Vouch.TheVariants.{Nothing}
use Rattle.protocol.specs.declared.process.Phase.{Phase}
use Rattle.protocol.specs.declared.process.Phase.TheVariants.{Idle, Certifying, Running}
use Rattle.protocol.specs.declared.process.Certification.{Certification}
use Rattle.protocol.specs.declared.process.Synchronizer.{Synchronizer}
use Rattle.protocol.specs.declared.process.Mark.{Mark}
use Rattle.protocol.specs.declared.process.ViewCore.{ViewCore}
use Rattle.protocol.specs.declared.process.Process.{Process}

abbrev pub idle : Phase → Bool
idle Idle = true
idle Certifying = false
idle Running = false

abbrev pub running : Phase → Bool
running Idle = false
running Certifying = false
running Running = true

abbrev pub mark : ℕ → ℕ → Mark
mark v x = record { view = v; value = x }

abbrev pub process_of : Certification → Synchronizer → ViewCore → Process
process_of c s k = record { certification = c; synchronizer = s; core = k }

abbrev pub certification_of : Phase → ℕ → ℕ → Vouch → Bool → Certification
certification_of s x y v a = record { phase = s; proposal = x; offer = y; vouch = v; allowed = a }

abbrev pub synchronizer_of : ℕ → ℕ → ℕ → ℕ → ℕ → Synchronizer
synchronizer_of e l t d s = record { epoch = e; place = l; clock = t; due = d; spread = s }

abbrev pub core_of : ℕ → Mark → Mark → ℕ → ℕ → ℕ → ℕ → ViewCore
core_of v p l s d w x = record { view = v; prepared = p; locked = l; step = s; lead = d; led = w; decided = x }

abbrev pub blank_process : Process
blank_process = process_of (certification_of Idle 0 0 Nothing false) (synchronizer_of 0 0 0 0 0) (core_of 0 (mark 0 0) (mark 0 0) 0 0 0 0)

abbrev pub with_certification : Certification → Process → Process
with_certification c q = process_of c q.synchronizer q.core

abbrev pub with_synchronizer : Synchronizer → Process → Process
with_synchronizer s q = process_of q.certification s q.core

abbrev pub with_core : ViewCore → Process → Process
with_core k q = process_of q.certification q.synchronizer k
