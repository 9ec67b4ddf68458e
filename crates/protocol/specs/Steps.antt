-- The ways in which a move can end. Assumes nothing.
--   moves q r       a move other than a delivery, which appends one record
--   moves_twice     one that appends two
--   moves_on q      one that appends none
--   drops q         a delivery that changes nothing but got
--   heeds q         one that is heeded, and no more
--   acts q          one that is heeded and changes the process
--   acts_with q r   one that appends a record too
--   acts_twice      one that appends two
--   is_heed a       such a delivery is heeded
use Rattle.std.specs.Prelude.{Bool, true, false, Some, None}
use Rattle.wire.specs.declared.record.Record.{Record}
use Rattle.protocol.specs.declared.process.Process.{Process}
use Rattle.protocol.specs.declared.step.Step.{Step}
use Rattle.protocol.specs.declared.step.Answer.{Answer}
use Rattle.protocol.specs.declared.step.Answer.TheVariants.{Moved, Dropped, Heeded, Acted}

-- whether the delivered record is heeded
abbrev pub is_heed : Answer → Bool
is_heed (Moved n) = false
is_heed Dropped = false
is_heed Heeded = true
is_heed (Acted n) = true

abbrev pub moves_on : Process → Step
moves_on q = record { process = q; answer = Moved 0; first = None; second = None }

abbrev pub moves : Process → Record → Step
moves q r = record { process = q; answer = Moved 1; first = Some r; second = None }

abbrev pub moves_twice : Process → Record → Record → Step
moves_twice q r s = record { process = q; answer = Moved 2; first = Some r; second = Some s }

abbrev pub drops : Process → Step
drops q = record { process = q; answer = Dropped; first = None; second = None }

abbrev pub heeds : Process → Step
heeds q = record { process = q; answer = Heeded; first = None; second = None }

abbrev pub acts : Process → Step
acts q = record { process = q; answer = Acted 0; first = None; second = None }

abbrev pub acts_with : Process → Record → Step
acts_with q r = record { process = q; answer = Acted 1; first = Some r; second = None }

abbrev pub acts_twice : Process → Record → Record → Step
acts_twice q r s = record { process = q; answer = Acted 2; first = Some r; second = Some s }
