-- What the sender of a record signs. Assumes nothing.
--   statement k m x   the statement of these three numbers
--   share_number s    the number of what is signed
--   share_of r        the statement that the record signs, if any
use Rattle.std.specs.Prelude.{ℕ, Some, None, Option}
use Rattle.register.specs.declared.pair.Statement.{Statement}
use Rattle.wire.specs.declared.kind.Kind.{Kind}
use Rattle.wire.specs.declared.kind.Kind.TheVariants.{Disclose, AllowAny, Certificate, EpochCompleted, EnterEpoch, ViewChange, Prepare, PrepareVote, Precommit, PrecommitVote, Commit, CommitVote, Decide}
use Rattle.wire.specs.declared.record.Record.{Record}
use Rattle.wire.specs.declared.share.Share.{Share}
use Rattle.wire.specs.declared.share.Share.TheVariants as share

abbrev pub statement : ℕ → ℕ → ℕ → Statement
statement k m x = record { kind = k; number = m; value = x }

abbrev pub share_number : Share → ℕ
share_number share.Disclose = 1
share_number share.AllowAny = 2
share_number share.EpochCompleted = 3
share_number share.Prepare = 4
share_number share.Precommit = 5
share_number share.Commit = 6

abbrev pub share_by : Kind → ℕ → ℕ → Option Statement
share_by Disclose number value = Some (statement 1 0 value)
share_by AllowAny number value = Some (statement 2 0 0)
share_by Certificate number value = None
share_by EpochCompleted number value = Some (statement 3 number 0)
share_by EnterEpoch number value = None
share_by ViewChange number value = None
share_by Prepare number value = None
share_by PrepareVote number value = Some (statement 4 number value)
share_by Precommit number value = None
share_by PrecommitVote number value = Some (statement 5 number value)
share_by Commit number value = None
share_by CommitVote number value = Some (statement 6 number value)
share_by Decide number value = None

abbrev pub share_of : Record → Option Statement
share_of r = share_by r.kind r.number r.value
