-- What a step makes of a board, a wire and a register. Assumes nothing.
--   Signed             what a register means to a sitting: who has signed what, and how many pairs that is
--   signed_of xs       the same of a list of pairs
--   with_pair p s z    with one pair more
--   with_share r z     with the share of a record signed by its sender, if it has one
--   Moment             a board without its rota, the wire, and what is signed
--   appended r m       a record written behind the used ones, and its share signed
--   done p z m         a step carried out: the process takes its fields, then the records are appended
--   delivered p h r    the record that the process has got, and heeded where h says so
--   played, received   what a move, and what a delivery, makes of a moment; a refusal leaves it
--   told               what is answered
use Rattle.std.specs.Prelude.{ℕ, ◌+◌, Bool, cond, ◌&&◌, ◌||◌, List, length, Some, None, Ok, Err, Option, Result, ◌==◌, slice_index_or, slice_set}
use Rattle.refusals.specs.declared.causes.Refusal.{Refusal}
use Rattle.committee.specs.Sets.{with_member, of_bits}
use Rattle.register.specs.declared.pair.Statement.{Statement}
use Rattle.register.specs.declared.pair.Pair.{Pair}
use Rattle.register.specs.Pairs.{same_statement, has_pair}
use Rattle.wire.specs.declared.kind.Kind.TheVariants.{Disclose}
use Rattle.wire.specs.declared.vouch.Vouch.TheVariants.{Nothing}
use Rattle.wire.specs.declared.record.Record.{Record}
use Rattle.wire.specs.Shares.{share_of}
use Rattle.protocol.specs.declared.process.Process.{Process}
use Rattle.protocol.specs.declared.board.Table.{Table}
use Rattle.protocol.specs.declared.step.Step.{Step}
use Rattle.protocol.specs.declared.step.Answer.{Answer}
use Rattle.protocol.specs.Steps.{is_heed}
use Rattle.protocol.specs.Sending.{sent}

pub record Signed : Type 0 where
  pub has : ℕ → Statement → Bool
  pub size : ℕ

abbrev pub signed_of : List Pair → Signed
signed_of xs = record { has = has_pair xs; size = length xs }

abbrev pub with_pair : ℕ → Statement → Signed → Signed
with_pair p s z = record { has = λ q t. z.has q t || (p == q && same_statement s t); size = z.size + cond (z.has p s) 0 1 }

abbrev pub with_statement : Option Statement → ℕ → Signed → Signed
with_statement None p z = z
with_statement (Some s) p z = with_pair p s z

abbrev pub with_share : Record → Signed → Signed
with_share r z = with_statement (share_of r) r.sender z

pub record Moment : Type 0 where
  pub table : Table
  pub wire : List Record
  pub signed : Signed

abbrev pub moment : Table → List Record → Signed → Moment
moment t w z = record { table = t; wire = w; signed = z }

abbrev pub used_to : ℕ → Table → Table
used_to n t = record { setting = t.setting; processes = t.processes; used = n }

abbrev pub seated : ℕ → Process → Table → Table
seated p q t = record { setting = t.setting; processes = slice_set t.processes p q; used = t.used }

abbrev pub appended : Record → Moment → Moment
appended r m = moment (used_to (m.table.used + 1) m.table) (slice_set m.wire m.table.used r) (with_share r m.signed)

abbrev pub noted : Option Record → Moment → Moment
noted None m = m
noted (Some r) m = appended r m

abbrev pub done : ℕ → Step → Moment → Moment
done p z m = noted z.second (noted z.first (moment (seated p z.process m.table) m.wire m.signed))

abbrev pub delivered : ℕ → Bool → Record → Record
delivered p h r =
    record {
      sender = r.sender;
      kind = r.kind;
      number = r.number;
      value = r.value;
      back = r.back;
      vouch = r.vouch;
      to = r.to;
      got = with_member r.got p;
      heeded = cond h (with_member r.heeded p) r.heeded;
    }

-- what stands behind the end of a wire
abbrev pub no_record : Record
no_record = sent (of_bits 0) 0 Disclose 0 0 0 Nothing

abbrev pub record_at : List Record → ℕ → Record
record_at w i = slice_index_or w i no_record

abbrev pub marked : ℕ → ℕ → Bool → List Record → List Record
marked p i h w = slice_set w i (delivered p h (record_at w i))

abbrev pub played : Result Step Refusal → ℕ → Moment → Moment
played (Err e) p m = m
played (Ok z) p m = done p z m

abbrev pub received : Result Step Refusal → ℕ → ℕ → Moment → Moment
received (Err e) p i m = m
received (Ok z) p i m = done p z (moment m.table (marked p i (is_heed z.answer) m.wire) m.signed)

abbrev pub told : Result Step Refusal → Result Answer Refusal
told (Err e) = Err e
told (Ok z) = Ok z.answer
