-- The tags of a schedule's fields. Assumes nothing.
--   tag_of         the tag that a byte stands for, if any
--   is_open        whether a tag is OPEN's
--   right_length   whether the content behind a tag may have this length
use Rattle.std.specs.Prelude.{ℕ, Bool, true, false, cond, ◌&&◌, Some, None, Option, ◌==◌, nat_le}
use Rattle.schedule.specs.declared.tags.Tag.{Tag}
use Rattle.schedule.specs.declared.tags.Tag.TheVariants.{Open, Rota, Propose, Tick, Expire, Deliver, Inject}

abbrev pub tag_of : ℕ → Option Tag
tag_of b =
    cond (b == 0x01) (Some Open)
    (cond (b == 0x02) (Some Rota)
    (cond (b == 0x10) (Some Propose)
    (cond (b == 0x11) (Some Tick)
    (cond (b == 0x12) (Some Expire)
    (cond (b == 0x13) (Some Deliver)
    (cond (b == 0x14) (Some Inject) None))))))

abbrev pub right_length : Tag → ℕ → Bool
right_length Open n = n == 14
right_length Rota n = nat_le 1 n && nat_le n 31
right_length Propose n = n == 3
right_length Tick n = n == 5
right_length Expire n = n == 2
right_length Deliver n = n == 3
right_length Inject n = n == 17

abbrev pub is_open : Tag → Bool
is_open Open = true
is_open Rota = false
is_open Propose = false
is_open Tick = false
is_open Expire = false
is_open Deliver = false
is_open Inject = false
