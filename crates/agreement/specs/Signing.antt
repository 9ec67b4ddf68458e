-- Who has signed what on a wire. Assumes nothing.
--   is_share o s       the share o is of the statement s
--   signs p s r        process p sent the record r, and signs the statement s by it
--   Signed ws p s      the wire has such a record
--   signers ws s       how many processes have signed the statement
--   Quorum c ws s      a quorum has
--   Certified c ws x   a weak quorum has disclosed the value x, or allows any
-- A statement's first number says what is signed: 1 a disclosure, 2 that any value is allowed, 3 that an epoch is completed,
-- and 4, 5 and 6 a vote to prepare, to precommit and to commit.
use Rattle.std.specs.Prelude.{◌≡◌, ℕ, ◌≤◌, Bool, true, false, ◌&&◌, ◌⊎◌, Some, None, Option, ◌==◌}
use Rattle.counting.specs.Counts.{any, count_to}
use Rattle.committee.specs.declared.membership.Committee.{Committee}
use Rattle.committee.specs.Thresholds.{quorum_of, weak_quorum_of}
use Rattle.register.specs.declared.pair.Statement.{Statement}
use Rattle.register.specs.Pairs.{same_statement}
use Rattle.wire.specs.declared.record.Record.{Record}
use Rattle.wire.specs.Shares.{statement, share_of}
use Rattle.agreement.specs.Wires.{Wire}

abbrev pub is_share : Option Statement → Statement → Bool
is_share None s = false
is_share (Some t) s = same_statement t s

unfoldable pub signs : ℕ → Statement → Record → Bool
signs p s r = r.sender == p && is_share (share_of r) s

abbrev pub Signed : Wire → ℕ → Statement → Type 0
Signed ws p s = any (signs p s) ws ≡ true

abbrev pub signers : Wire → Statement → ℕ
signers ws s = count_to (λ p. any (signs p s) ws) 31

abbrev pub Quorum : Committee → Wire → Statement → Type 0
Quorum c ws s = quorum_of c ≤ signers ws s

abbrev pub Certified : Committee → Wire → ℕ → Type 0
Certified c ws x = (weak_quorum_of c ≤ signers ws (statement 1 0 x)) ⊎ (weak_quorum_of c ≤ signers ws (statement 2 0 0))
