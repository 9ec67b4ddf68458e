-- What a record costs, and to which epoch that is charged. Assumes nothing.
--   words_of r     the processes that it goes to
--   epoch_in f r   the epoch that it belongs to; 0 stands for certification
--   no_epoch r     its number should be a view and is none
use Rattle.std.specs.Prelude.{ℕ, Bool, cond, not, ◌&&◌, nat_le}
use Rattle.committee.specs.Sets.{size}
use Rattle.committee.specs.Views.{epoch_of, is_view}
use Rattle.wire.specs.declared.record.Record.{Record}
use Rattle.wire.specs.Kinds.{kind_number}
use Rattle.wire.specs.Ranges.{of_view}

abbrev pub words_of : Record → ℕ
words_of r = size r.to

abbrev pub epoch_in : ℕ → Record → ℕ
epoch_in f r = cond (nat_le (kind_number r.kind) 3) 0 (cond (of_view r.kind) (epoch_of f r.number) r.number)

abbrev pub no_epoch : Record → Bool
no_epoch r = of_view r.kind && not (is_view r.number)
