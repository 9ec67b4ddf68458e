-- What holds at every moment of a run. Assumes nothing.
--   Kept leader m   the facts of the wire, the ties of every correct process, and a register that holds just what the records sign
--   KeptBut         the same of all processes but one
--   Sendable        a record that a process may append; only a correct one is bound to the law
--   Good            what a step of process p has to show of its new fields and its records
--   Room m o        two records are free, where one is to be appended
use Rattle.std.specs.Prelude.{◌≡◌, ℕ, ◌+◌, ◌<◌, ◌≤◌, [], ◌∷◌, ◌++◌, length, Some, None, Option, ◌≢◌}
use Rattle.counting.specs.Counts.{any}
use Rattle.committee.specs.declared.membership.Committee.{Committee}
use Rattle.committee.specs.Sets.{of_bits}
use Rattle.register.specs.declared.pair.Statement.{Statement}
use Rattle.wire.specs.declared.record.Record.{Record}
use Rattle.protocol.specs.declared.process.Process.{Process}
use Rattle.protocol.specs.Moments.{Moment, Signed}
use Rattle.protocol.specs.Plans.{seat, used_of}
use Rattle.agreement.specs.Wires.{Wire, Correct}
use Rattle.agreement.specs.Facts.{Facts, Formed, Lawful}
use Rattle.agreement.specs.Signing.{signs}
use Rattle.safety.specs.Ties.{Tied, Capped}

abbrev pub committee_of : Moment → Committee
committee_of m = m.table.setting.committee

abbrev pub Matches : Signed → Wire → Type 0
Matches z ws = (p : ℕ) (s : Statement) → z.has p s ≡ any (signs p s) ws

pub record KeptBut (leader : ℕ → ℕ) (p : ℕ) (m : Moment) : Type 0 where
  pub facts : Facts (committee_of m) leader (used_of m)
  pub tied : (o : ℕ) → o < (committee_of m).n → Correct (committee_of m) o → (o ≢ p) → Tied (committee_of m) (used_of m) o (seat m.table o)
  pub capped : (o : ℕ) → o < (committee_of m).n → Correct (committee_of m) o → (o ≢ p) → Capped (committee_of m) (used_of m) o (seat m.table o)
  pub signed : Matches m.signed (used_of m)
  pub used : m.table.used ≤ length m.wire
  pub seats : length m.table.processes ≡ 31

pub record Kept (leader : ℕ → ℕ) (m : Moment) : Type 0 where
  pub facts : Facts (committee_of m) leader (used_of m)
  pub tied : (o : ℕ) → o < (committee_of m).n → Correct (committee_of m) o → Tied (committee_of m) (used_of m) o (seat m.table o)
  pub capped : (o : ℕ) → o < (committee_of m).n → Correct (committee_of m) o → Capped (committee_of m) (used_of m) o (seat m.table o)
  pub signed : Matches m.signed (used_of m)
  pub used : m.table.used ≤ length m.wire
  pub seats : length m.table.processes ≡ 31

pub record Sendable (c : Committee) (leader : ℕ → ℕ) (ws : Wire) (p : ℕ) (r : Record) : Type 0 where
  pub formed : Formed c r
  pub sender : r.sender ≡ p
  pub new : r.heeded ≡ of_bits 0
  pub lawful : Correct c p → Lawful c leader ws r

abbrev pub Good : Committee → (ℕ → ℕ) → Wire → ℕ → Process → Option Record → Option Record → Type 0
Good c leader ws p u None None = Correct c p → Tied c ws p u
Good c leader ws p u (Some r) None = Sendable c leader ws p r × (Correct c p → Tied c (ws ++ (r ∷ [])) p u)
Good c leader ws p u (Some r) (Some z) =
    Sendable c leader ws p r × Sendable c leader (ws ++ (r ∷ [])) p z × (Correct c p → Tied c ((ws ++ (r ∷ [])) ++ (z ∷ [])) p u)
Good c leader ws p u None (Some z) = ⊥

abbrev pub Room : Moment → Option Record → Type 0
Room m None = Unit {0}
Room m (Some r) = m.table.used + 2 ≤ length m.wire
