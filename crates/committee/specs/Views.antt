-- How views fall into epochs of f + 1 views each. Assumes nothing.
--   last_view        the greatest view that a record or a call can name
--   epoch_of f v     the epoch of view v, counted from 1
--   place_of f v     its place there, from 1 to f + 1
--   view_of f e p    the view at place p of epoch e
--   is_view v        v can be asked for
--   Placed f e p v   where e and p are an epoch and a place in it, view v has them
use Rattle.std.specs.Prelude.{◌≡◌, ℕ, ◌+◌, ◌-◌, ◌*◌, ◌/◌, ◌%◌, ◌≤◌, Bool, ◌&&◌, nat_le}

abbrev pub last_view : ℕ
last_view = 720885

abbrev pub epoch_of : ℕ → ℕ → ℕ
epoch_of f v = (v - 1) / (f + 1) + 1

abbrev pub place_of : ℕ → ℕ → ℕ
place_of f v = (v - 1) % (f + 1) + 1

abbrev pub view_of : ℕ → ℕ → ℕ → ℕ
view_of f e p = (e - 1) * (f + 1) + p

abbrev pub is_view : ℕ → Bool
is_view v = nat_le 1 v && nat_le v last_view

abbrev pub Placed : ℕ → ℕ → ℕ → ℕ → Type 0
Placed f e p v = 1 ≤ e → 1 ≤ p → p ≤ f + 1 → (epoch_of f v ≡ e) × (place_of f v ≡ p)
