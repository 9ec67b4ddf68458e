-- What follows of a field that the field layer handed out. Assumes nothing.
use Rattle.std.proofs.Common.{◌≡◌, ℕ, ◌+◌, ◌-◌, ◌≤◌, true, List, length, drop, arith, length-drop}
use Rattle.std.proofs.lemmas.List.{length-take-le}
use Rattle.std.proofs.lemmas.Bool.{leb-true}
use Rattle.schedule.specs.Fields.{length_at, whole_at, behind_at, content_at}

pub within : (bs : List ℕ) (at : ℕ) → whole_at bs at ≡ true → behind_at bs at ≤ length bs
within bs at whole = leb-true (behind_at bs at) (length bs) whole

-- the content is as long as the field states
pub content_long : (bs : List ℕ) (at : ℕ) → whole_at bs at ≡ true → length (content_at bs at) ≡ length_at bs at
content_long bs at whole =
    let h = within bs at whole in
    let left : length (drop (at + 3) bs) ≡ length bs - (at + 3) = length-drop (at + 3) bs in
    length-take-le (length_at bs at) (drop (at + 3) bs) (omega arith)
