-- A delivery to a correct process keeps everything, whatever way it ends. Assumes nothing.
use Rattle.std.proofs.Common.{◌≡◌, ℕ, ◌+◌, ◌<◌, ◌≤◌, Bool, true, false, [], ◌∷◌, ◌++◌, length, Some, None, Ok, Option, sym, subst, arith, length-set, length-take-le}
use Rattle.std.proofs.lemmas.Bool.{both_ways}
use Rattle.counting.specs.Counts.{count_to}
use Rattle.counting.proofs.Sums.{count_same}
use Rattle.committee.specs.declared.membership.Committee.{Committee}
use Rattle.committee.specs.Thresholds.{weak_quorum_of}
use Rattle.wire.specs.declared.record.Record.{Record}
use Rattle.protocol.specs.declared.process.Process.{Process}
use Rattle.protocol.specs.declared.step.Step.{Step}
use Rattle.protocol.specs.Processes.{running}
use Rattle.protocol.specs.Moments.{Moment, moment, marked, received, delivered, record_at, no_record}
use Rattle.protocol.specs.Plans.{seat, used_of}
use Rattle.protocol.specs.Steps.{is_heed, drops, heeds, acts, acts_with, acts_twice}
use Rattle.agreement.specs.Wires.{Wire, Correct, heard_of}
use Rattle.safety.specs.Ties.{Tied, Capped}
use Rattle.safety.specs.Kept.{committee_of, KeptBut, Kept, Sendable, Good, Room}
use Rattle.safety.proofs.Resting.{Ready}
use Rattle.safety.proofs.Keeping.{kept_done}
use Rattle.safety.proofs.Marking.{but_marked, tied_marked, used_marked, heard-unheeded}

pub sendable : (c : Committee) (leader : ℕ → ℕ) (ws : Wire) (p : ℕ) (r : Record) → Ready c leader ws p r → Sendable c leader ws p r
sendable c leader ws p r g = record { formed = g.formed; sender = g.sender; new = g.new; lawful = λ _. g.lawful }

module _ (leader : ℕ → ℕ) (m : Moment) (k : Kept leader m) (p i : ℕ) (member : p < (committee_of m).n) (ok : Correct (committee_of m) p) (below : i < m.table.used)
    (free : m.table.used + 2 ≤ length m.wire) where
  abbrev c : Committee
  c = committee_of m

  abbrev q : Process
  q = seat m.table p

  pub small : p ≤ 30
  small = omega (arith, member, c.whole, c.high)

  -- the moment with the record marked
  abbrev pub at : Bool → Moment
  at h = moment m.table (marked p i h m.wire) m.signed

  pub tied_at : (h : Bool) → Tied c (used_of (at h)) p q
  tied_at h = tied_marked leader p m i h k below small p member ok

  pub rest_at : (h : Bool) → KeptBut leader p (at h)
  rest_at h = but_marked leader p m i h k below small

  room_at : (h : Bool) (o : Option Record) → Room (at h) o
  room_at h None = tt
  room_at h (Some r) = omega (arith, length-set m.wire i (delivered p h (record_at m.wire i)))

  -- a step that is carried out on the marked wire
  pub keep : (z : Step) → Good c leader (used_of (at (is_heed z.answer))) p z.process z.first z.second → Capped c (used_of (at (is_heed z.answer))) p z.process
      → Kept leader (received (Ok z) p i m)
  keep z good cap = kept_done leader p (at (is_heed z.answer)) z.process (rest_at (is_heed z.answer)) member (λ _. cap) z.first z.second good (room_at (is_heed z.answer) z.first)

  runs_capped : (ws : Wire) (u : Process) → running u.certification.phase ≡ true → Capped c ws p u
  runs_capped ws u runs rests = absurd (both_ways _ rests runs)

  pub keep_drop : Kept leader (received (Ok (drops q)) p i m)
  keep_drop =
      keep (drops q) (λ _. tied_at false)
      (λ rests w.
      let C : Wire → Type 0 = λ ws. count_to (heard_of ws p w) 31 < weak_quorum_of c in
      let inside : i < length (used_of m) = rw (length-take-le m.table.used m.wire k.used) below in
      subst C (sym (used_marked m.wire m.table.used i p false below))
      (omega (
        arith,
        k.capped p member ok rests w,
        count_same _ (heard_of (used_of m) p w) 31 (λ o _. heard-unheeded (used_of m) i no_record inside p small p w o),
      )))

  -- steps of a running process
  pub keep_heed : running q.certification.phase ≡ true → Kept leader (received (Ok (heeds q)) p i m)
  keep_heed runs = keep (heeds q) (λ _. tied_at true) (runs_capped (used_of (at true)) q runs)

  pub keep_acts : (u : Process) → running u.certification.phase ≡ true → Tied c (used_of (at true)) p u → Kept leader (received (Ok (acts u)) p i m)
  keep_acts u runs t = keep (acts u) (λ _. t) (runs_capped (used_of (at true)) u runs)

  pub keep_acts_with : (u : Process) (r : Record) → running u.certification.phase ≡ true → Ready c leader (used_of (at true)) p r → Tied c (used_of (at true) ++ (r ∷ [])) p u
      → Kept leader (received (Ok (acts_with u r)) p i m)
  keep_acts_with u r runs g t = keep (acts_with u r) (sendable c leader (used_of (at true)) p r g, λ _. t) (runs_capped (used_of (at true)) u runs)

  pub keep_acts_twice : (u : Process) (r z : Record) → running u.certification.phase ≡ true → Ready c leader (used_of (at true)) p r
      → Ready c leader (used_of (at true) ++ (r ∷ [])) p z → Tied c ((used_of (at true) ++ (r ∷ [])) ++ (z ∷ [])) p u
      → Kept leader (received (Ok (acts_twice u r z)) p i m)
  keep_acts_twice u r z runs g h t =
      keep (acts_twice u r z) (sendable c leader (used_of (at true)) p r g, sendable c leader (used_of (at true) ++ (r ∷ [])) p z h, λ _. t) (runs_capped (used_of (at true)) u runs)
