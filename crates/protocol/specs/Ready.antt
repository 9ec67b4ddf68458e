-- What carrying out a step rests on. Assumes nothing.
--   Free room m          two records are free, and one more pair goes into the register
--   Ready room p m a b   the records a and b, if any, come from process p and find room, and b has no share to sign
--   Doable room p m z    a refusal, or a step of a process that can be carried out
use Rattle.std.specs.Prelude.{◌≡◌, ℕ, ◌+◌, ◌<◌, ◌≤◌, length, Some, None, Ok, Err, Option, Result}
use Rattle.refusals.specs.declared.causes.Refusal.{Refusal}
use Rattle.wire.specs.declared.record.Record.{Record}
use Rattle.wire.specs.Shares.{share_of}
use Rattle.protocol.specs.declared.step.Step.{Step}
use Rattle.protocol.specs.Moments.{Moment}

pub record Free (room : ℕ) (m : Moment) : Type 0 where
  pub wire : m.table.used + 2 ≤ length m.wire
  pub cap : m.table.used + 2 ≤ 65535
  pub register : m.signed.size ≡ room → ⊥

abbrev pub Ready : ℕ → ℕ → Moment → Option Record → Option Record → Type 0
Ready room p m None None = Unit {0}
Ready room p m (Some r) None = Free room m × (r.sender ≡ p)
Ready room p m (Some r) (Some z) = Free room m × (r.sender ≡ p) × (z.sender ≡ p) × (share_of z ≡ None)
Ready room p m None (Some z) = ⊥

abbrev pub Doable : ℕ → ℕ → Moment → Result Step Refusal → Type 0
Doable room p m (Err e) = Unit {0}
Doable room p m (Ok z) = (p < 31) × Ready room p m z.first z.second
