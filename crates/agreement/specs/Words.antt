-- What correct processes have spent on a wire. Assumes nothing.
--   is_charged c e r   the sender of the record is correct, and the record belongs to epoch e; 0 stands for certification
--   words_in c e ws    the words of these records
use Rattle.std.specs.Prelude.{ℕ, Bool, cond, ◌&&◌, sum_by, ◌==◌}
use Rattle.committee.specs.declared.membership.Committee.{Committee}
use Rattle.committee.specs.Thresholds.{is_correct}
use Rattle.wire.specs.declared.record.Record.{Record}
use Rattle.wire.specs.Words.{words_of, epoch_in}
use Rattle.agreement.specs.Wires.{Wire}

abbrev pub is_charged : Committee → ℕ → Record → Bool
is_charged c e r = is_correct c r.sender && epoch_in c.f r == e

abbrev pub words_in : Committee → ℕ → Wire → ℕ
words_in c e ws = sum_by (λ r. cond (is_charged c e r) (words_of r) 0) ws
