-- The numbers and names of kinds and vouches. Assumes nothing.
--   kind_number k    the number of a kind
--   kind_of m        the kind that has the number m, if any
--   kind_name k      the bytes of its printed name
--   vouch_number v   the number of a vouch
--   vouch_of m       the vouch that has the number m, if any
--   in_field o       what a number stands for, or that no field has it
use Rattle.std.specs.Prelude.{ℕ, cond, List, Some, None, codes, Option, Ok, Err, Result, ◌==◌}
use Rattle.refusals.specs.declared.causes.Refusal.{Refusal}
use Rattle.refusals.specs.declared.causes.Refusal.TheVariants.{FieldOutOfRange}
use Rattle.wire.specs.declared.kind.Kind.{Kind}
use Rattle.wire.specs.declared.kind.Kind.TheVariants.{Disclose, AllowAny, Certificate, EpochCompleted, EnterEpoch, ViewChange, Prepare, PrepareVote, Precommit, PrecommitVote, Commit, CommitVote, Decide}
use Rattle.wire.specs.declared.vouch.Vouch.{Vouch}
use Rattle.wire.specs.declared.vouch.Vouch.TheVariants.{Nothing, Disclosed, Any}

abbrev pub kind_number : Kind → ℕ
kind_number Disclose = 1
kind_number AllowAny = 2
kind_number Certificate = 3
kind_number EpochCompleted = 4
kind_number EnterEpoch = 5
kind_number ViewChange = 6
kind_number Prepare = 7
kind_number PrepareVote = 8
kind_number Precommit = 9
kind_number PrecommitVote = 10
kind_number Commit = 11
kind_number CommitVote = 12
kind_number Decide = 13

abbrev pub kind_of : ℕ → Option Kind
kind_of m =
    cond (m == 1) (Some Disclose)
    (cond (m == 2) (Some AllowAny)
    (cond (m == 3) (Some Certificate)
    (cond (m == 4) (Some EpochCompleted)
    (cond (m == 5) (Some EnterEpoch)
    (cond (m == 6) (Some ViewChange)
    (cond (m == 7) (Some Prepare)
    (cond (m == 8) (Some PrepareVote)
    (cond (m == 9) (Some Precommit)
    (cond (m == 10) (Some PrecommitVote)
    (cond (m == 11) (Some Commit)
    (cond (m == 12) (Some CommitVote)
    (cond (m == 13) (Some Decide) None))))))))))))

abbrev pub kind_name : Kind → List ℕ
kind_name Disclose = codes "DISCLOSE"
kind_name AllowAny = codes "ALLOW-ANY"
kind_name Certificate = codes "CERTIFICATE"
kind_name EpochCompleted = codes "EPOCH-COMPLETED"
kind_name EnterEpoch = codes "ENTER-EPOCH"
kind_name ViewChange = codes "VIEW-CHANGE"
kind_name Prepare = codes "PREPARE"
kind_name PrepareVote = codes "PREPARE-VOTE"
kind_name Precommit = codes "PRECOMMIT"
kind_name PrecommitVote = codes "PRECOMMIT-VOTE"
kind_name Commit = codes "COMMIT"
kind_name CommitVote = codes "COMMIT-VOTE"
kind_name Decide = codes "DECIDE"

abbrev pub vouch_number : Vouch → ℕ
vouch_number Nothing = 0
vouch_number Disclosed = 1
vouch_number Any = 2

abbrev pub vouch_of : ℕ → Option Vouch
vouch_of m = cond (m == 0) (Some Nothing) (cond (m == 1) (Some Disclosed) (cond (m == 2) (Some Any) None))

abbrev pub in_field : {A : Type 0} → Option A → Result A Refusal
in_field None = Err FieldOutOfRange
in_field (Some x) = Ok x
