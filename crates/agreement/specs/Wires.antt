-- What is on a wire. Assumes nothing.
--   Wire                the records sent so far, oldest first
--   Correct c p         process p of the committee keeps to the rules
--   sends p k m x r     process p sent the record r, of the kind with number k, with the number m and the value x
--   posts p k m r       the same, with any value
--   Sent ws p k m x     the wire has such a record
--   Entered ws p v      process p has sent VIEW-CHANGE for view v
--   heard ws p q        process p has heeded a disclosure of process q
--   heard_of ws p w q   the same, of the value w
use Rattle.std.specs.Prelude.{◌≡◌, ℕ, Bool, true, ◌&&◌, List, ◌==◌}
use Rattle.counting.specs.Counts.{any}
use Rattle.committee.specs.declared.membership.Committee.{Committee}
use Rattle.committee.specs.Sets.{contains}
use Rattle.committee.specs.Thresholds.{is_correct}
use Rattle.wire.specs.declared.record.Record.{Record}
use Rattle.wire.specs.Kinds.{kind_number}

abbrev pub Wire : Type 0
Wire = List Record

abbrev pub Correct : Committee → ℕ → Type 0
Correct c p = is_correct c p ≡ true

unfoldable pub sends : ℕ → ℕ → ℕ → ℕ → Record → Bool
sends p k m x r = r.sender == p && (kind_number r.kind == k && (r.number == m && r.value == x))

unfoldable pub posts : ℕ → ℕ → ℕ → Record → Bool
posts p k m r = r.sender == p && (kind_number r.kind == k && r.number == m)

abbrev pub Sent : Wire → ℕ → ℕ → ℕ → ℕ → Type 0
Sent ws p k m x = any (sends p k m x) ws ≡ true

abbrev pub Entered : Wire → ℕ → ℕ → Type 0
Entered ws p v = any (posts p 6 v) ws ≡ true

abbrev pub heard : Wire → ℕ → ℕ → Bool
heard ws p q = any (λ r. contains r.heeded p && posts q 1 0 r) ws

abbrev pub heard_of : Wire → ℕ → ℕ → ℕ → Bool
heard_of ws p w q = any (λ r. contains r.heeded p && sends q 1 0 w r) ws
