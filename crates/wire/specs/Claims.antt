-- The certificate that a record claims, and when it holds. Assumes nothing.
--   vouched c w x       a weak quorum has disclosed the value x, or allows any, as the vouch w says
--   prepared c v b x    a quorum has voted in the earlier view b to prepare x
--   claim_of c r        the certificate that the record claims
--   claim_holds k has   whether it holds, where `has p s` says that process p has signed the statement s
use Rattle.std.specs.Prelude.{ℕ, ◌-◌, Bool, true, false, cond, ◌==◌, nat_le, nat_lt}
use Rattle.counting.specs.Counts.{count_to}
use Rattle.committee.specs.declared.membership.Committee.{Committee}
use Rattle.committee.specs.Thresholds.{quorum_of, weak_quorum_of}
use Rattle.register.specs.declared.pair.Statement.{Statement}
use Rattle.wire.specs.declared.kind.Kind.{Kind}
use Rattle.wire.specs.declared.kind.Kind.TheVariants.{Disclose, AllowAny, Certificate, EpochCompleted, EnterEpoch, ViewChange, Prepare, PrepareVote, Precommit, PrecommitVote, Commit, CommitVote, Decide}
use Rattle.wire.specs.declared.vouch.Vouch.{Vouch}
use Rattle.wire.specs.declared.vouch.Vouch.TheVariants.{Nothing as NoVouch, Disclosed, Any}
use Rattle.wire.specs.declared.record.Record.{Record}
use Rattle.wire.specs.declared.claim.Claim.{Claim}
use Rattle.wire.specs.declared.claim.Claim.TheVariants.{Nothing, Never, Signed}
use Rattle.wire.specs.Shares.{statement}

abbrev pub vouched : Committee → Vouch → ℕ → Claim
vouched c NoVouch x = Never
vouched c Disclosed x = Signed (statement 1 0 x) (weak_quorum_of c)
vouched c Any x = Signed (statement 2 0 0) (weak_quorum_of c)

abbrev pub prepared : Committee → ℕ → ℕ → ℕ → Claim
prepared c v b x = cond (nat_lt b v) (Signed (statement 4 b x) (quorum_of c)) Never

abbrev pub claim_by : Kind → Committee → Record → Claim
claim_by Disclose c r = Nothing
claim_by AllowAny c r = Nothing
claim_by Certificate c r = vouched c r.vouch r.value
claim_by EpochCompleted c r = Nothing
claim_by EnterEpoch c r = Signed (statement 3 (r.number - 1) 0) (quorum_of c)
claim_by ViewChange c r = cond (r.back == 0) Nothing (prepared c r.number r.back r.value)
claim_by Prepare c r = cond (r.back == 0) (vouched c r.vouch r.value) (prepared c r.number r.back r.value)
claim_by PrepareVote c r = Nothing
claim_by Precommit c r = Signed (statement 4 r.number r.value) (quorum_of c)
claim_by PrecommitVote c r = Nothing
claim_by Commit c r = Signed (statement 5 r.number r.value) (quorum_of c)
claim_by CommitVote c r = Nothing
claim_by Decide c r = Signed (statement 6 r.number r.value) (quorum_of c)

abbrev pub claim_of : Committee → Record → Claim
claim_of c r = claim_by r.kind c r

abbrev pub claim_holds : Claim → (ℕ → Statement → Bool) → Bool
claim_holds Nothing has = true
claim_holds Never has = false
claim_holds (Signed s k) has = nat_le k (count_to (λ p. has p s) 31)
