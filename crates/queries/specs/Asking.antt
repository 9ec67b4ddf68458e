-- What can be asked of a board, and what is answered. Assumes nothing.
--   in_reach          the board is in range, or that is the cause; then the rest
--   charge c e r      what a record adds to the words of epoch e; one that belongs to no epoch adds nothing
--   words_answer      the words of an epoch; epoch 0 is certification
--   line_answer       the printed line of a used record
--   leader_answer     the leader of a view
--   place_answer      epoch and place of a view
--   first_decided     the decision of the first correct process that has one
--   decision_answer   the same of a board
use Rattle.std.specs.Prelude.{ℕ, ◌+◌, cond, not, ◌&&◌, List, [], ◌∷◌, take, Some, None, Ok, Err, Option, Result, nat_le, nat_lt}
use Rattle.refusals.specs.declared.causes.Refusal.{Refusal}
use Rattle.refusals.specs.declared.causes.Refusal.TheVariants.{BoardOutOfRange, FieldOutOfRange, NoSuchRecord}
use Rattle.committee.specs.declared.membership.Committee.{Committee}
use Rattle.committee.specs.Thresholds.{is_correct}
use Rattle.committee.specs.Views.{is_view, epoch_of, place_of}
use Rattle.wire.specs.declared.record.Record.{Record}
use Rattle.wire.specs.Lines.{line_of}
use Rattle.protocol.specs.declared.board.Table.{Table}
use Rattle.protocol.specs.declared.process.Process.{Process}
use Rattle.protocol.specs.Moments.{record_at}
use Rattle.wire.specs.Words.{words_of, no_epoch}
use Rattle.agreement.specs.Words.{is_charged, words_in}
use Rattle.admission.specs.Seating.{in_order}

abbrev pub in_reach : {A : Type 0} → ℕ → Table → List Record → Result A Refusal → Result A Refusal
in_reach n t w rest = cond (not (in_order n t w)) (Err BoardOutOfRange) rest

abbrev pub charge : Committee → ℕ → Record → ℕ
charge c e r = cond (not (no_epoch r) && is_charged c e r) (words_of r) 0

abbrev pub words_answer : ℕ → Table → List Record → ℕ → Result ℕ Refusal
words_answer n t w e = in_reach n t w (cond (nat_lt 65535 e) (Err FieldOutOfRange) (Ok (words_in t.setting.committee e (take t.used w))))

abbrev pub line_answer : ℕ → Table → List Record → ℕ → Result (List ℕ) Refusal
line_answer n t w i = in_reach n t w (cond (nat_le t.used i) (Err NoSuchRecord) (Ok (line_of i (record_at w i))))

abbrev pub leader_answer : (ℕ → ℕ) → ℕ → Table → List Record → ℕ → Result ℕ Refusal
leader_answer leads n t w v = in_reach n t w (cond (not (is_view v)) (Err FieldOutOfRange) (Ok (leads v)))

abbrev pub place_answer : ℕ → Table → List Record → ℕ → Result (ℕ × ℕ) Refusal
place_answer n t w v =
    let f = t.setting.committee.f in
    in_reach n t w (cond (not (is_view v)) (Err FieldOutOfRange) (Ok (epoch_of f v, place_of f v)))

-- the list begins with the process p
unfoldable pub first_decided : Committee → ℕ → List Process → Option ℕ
first_decided c p [] = None
first_decided c p (q ∷ qs) = cond (is_correct c p && nat_lt 0 q.core.decided) (Some q.core.decided) (first_decided c (p + 1) qs)

abbrev pub decision_answer : ℕ → Table → List Record → Result (Option ℕ) Refusal
decision_answer n t w = let c = t.setting.committee in in_reach n t w (Ok (first_decided c 0 (take c.n t.processes)))
