-- Which records are in range. Assumes nothing.
--   of_view k       kinds 6 to 13, whose number is a view
--   number_fits r   the number is one for the record's kind
--   value_fits r    the value is given just where the kind has one
--   back_fits r     the view that backs the value
--   vouch_fits r    the vouch is given just where the kind has one
--   sets_fit n r    the sender and the members of the three sets are below n, and it goes to somebody
--   in_range n r    all of these
use Rattle.std.specs.Prelude.{ℕ, ◌^◌, Bool, cond, not, ◌&&◌, ◌||◌, ◌==◌, nat_le, nat_lt}
use Rattle.committee.specs.Views.{is_view, last_view}
use Rattle.wire.specs.declared.kind.Kind.{Kind}
use Rattle.wire.specs.declared.record.Record.{Record}
use Rattle.wire.specs.Kinds.{kind_number, vouch_number}

abbrev pub of_view : Kind → Bool
of_view k = nat_le 6 (kind_number k)

-- ENTER-EPOCH goes one epoch further than EPOCH-COMPLETED
abbrev pub number_fits : Record → Bool
number_fits r =
    cond (nat_le (kind_number r.kind) 3) (r.number == 0)
    (cond (of_view r.kind) (is_view r.number)
    (nat_le 1 r.number && nat_le r.number (cond (kind_number r.kind == 4) 65534 65535)))

-- ALLOW-ANY, the epoch kinds, a certificate for any value and a view change with no backing have no value
abbrev pub has_value : Record → Bool
has_value r =
    let k = kind_number r.kind in
    cond (k == 3) (vouch_number r.vouch == 1) (cond (k == 6) (nat_lt 0 r.back) (k == 1 || nat_le 7 k))

abbrev pub same : Bool → Bool → Bool
same a b = cond a b (not b)

abbrev pub value_fits : Record → Bool
value_fits r = same (has_value r) (nat_lt 0 r.value)

-- only a view change and a proposal name a view that backs the value
abbrev pub backed : Kind → Bool
backed k = kind_number k == 6 || kind_number k == 7

abbrev pub back_fits : Record → Bool
back_fits r = nat_le r.back (cond (backed r.kind) last_view 0)

-- a certificate names one, and so does a proposal with no backing
abbrev pub has_vouch : Record → Bool
has_vouch r = kind_number r.kind == 3 || (kind_number r.kind == 7 && r.back == 0)

abbrev pub vouch_fits : Record → Bool
vouch_fits r = same (has_vouch r) (nat_lt 0 (vouch_number r.vouch))

abbrev pub sets_fit : ℕ → Record → Bool
sets_fit n r =
    nat_lt r.sender n
    && (nat_lt 0 r.to.bits && (nat_lt r.to.bits (2 ^ n) && (nat_lt r.got.bits (2 ^ n) && nat_lt r.heeded.bits (2 ^ n))))

abbrev pub in_range : ℕ → Record → Bool
in_range n r = sets_fit n r && (number_fits r && (value_fits r && (back_fits r && vouch_fits r)))
