-- What a board in range says of a process and of a record. Assumes nothing.
use Rattle.std.proofs.Common.{◌≡◌, ℕ, ◌+◌, ◌^◌, ◌<◌, ◌≤◌, true, false, eqb, ltb, leb, List, length, take, sym, ◌∙◌, subst, inl, inr, arith, length-take-le, get_or-take}
use lib.Count.{ones-le}
use Rattle.std.proofs.lemmas.Bool.Decides.{nat_tests}
use Rattle.std.proofs.lemmas.Bool.{and_parts, eqb-true, leb-true, ltb-true, cond-true, cond-false, cases_Bool}
use Rattle.counting.proofs.Every.{every-at}
use Rattle.committee.specs.Views.{last_view}
use Rattle.wire.specs.declared.record.Record.{Record}
use Rattle.wire.specs.Ranges.{in_range, sets_fit, number_fits}
use Rattle.wire.specs.Words.{words_of, no_epoch}
use Rattle.protocol.specs.declared.board.Table.{Table}
use Rattle.protocol.specs.declared.process.Process.{Process}
use Rattle.protocol.specs.Processes.{blank_process, running}
use Rattle.protocol.specs.Ranges.{between, last_tick, standing_fits, clock_fits, process_fits, setting_fits, table_fits, wire_fits}
use Rattle.protocol.specs.Moments.{Moment, record_at, no_record}
use Rattle.protocol.specs.Plans.{seat, board_fits}
use Rattle.agreement.specs.Facts.{Formed}
use Rattle.agreement.proofs.Records.{formed}
use Rattle.safety.specs.Kept.{committee_of}

-- where a process stands
pub record Runs (f : ℕ) (q : Process) : Type 0 where
  pub epoch : 1 ≤ q.synchronizer.epoch
  pub last : q.synchronizer.epoch ≤ 65535
  pub place : (1 ≤ q.synchronizer.place) × (q.synchronizer.place ≤ f + 1)

pub record Waits (q : Process) : Type 0 where
  pub epoch : q.synchronizer.epoch ≡ 0
  pub place : q.synchronizer.place ≡ 0
  pub view : q.core.view ≡ 0
  pub due : q.synchronizer.due ≡ 0
  pub spread : q.synchronizer.spread ≡ 0

module _ (f : ℕ) (q : Process) (fits : process_fits f q ≡ true) where
  standing : standing_fits f q ≡ true
  standing = (and_parts (standing_fits f q) _ fits).0

  pub runs_stand : running q.certification.phase ≡ true → Runs f q
  runs_stand h =
      let s = sym (cond-true (running q.certification.phase) _ _ h) ∙ standing in
      let a = and_parts (between 1 q.synchronizer.epoch 65535) _ s in
      let b = and_parts (between 1 q.synchronizer.place (f + 1)) _ a.1 in
      let e = and_parts (leb 1 q.synchronizer.epoch) _ a.0 in
      let l = and_parts (leb 1 q.synchronizer.place) _ b.0 in
      record { epoch = leb-true 1 _ e.0; last = leb-true _ 65535 e.1; place = (leb-true 1 _ l.0, leb-true _ (f + 1) l.1) }

  pub waits_stand : running q.certification.phase ≡ false → Waits q
  waits_stand h =
      let s = sym (cond-false (running q.certification.phase) _ _ h) ∙ standing in
      let a = and_parts (eqb q.synchronizer.epoch 0) _ s in
      let b = and_parts (eqb q.synchronizer.place 0) _ a.1 in
      let d = and_parts (eqb q.core.view 0) _ b.1 in
      let e = and_parts (eqb q.synchronizer.due 0) _ d.1 in
      record { epoch = eqb-true _ 0 a.0; place = eqb-true _ 0 b.0; view = eqb-true _ 0 d.0; due = eqb-true _ 0 e.0; spread = eqb-true _ 0 e.1 }

pub table_fits_lem : (t : Table) → table_fits t ≡ true → (p : ℕ) → p < t.setting.committee.n → length t.processes ≡ 31 → process_fits t.setting.committee.f (seat t p) ≡ true
table_fits_lem t fits p l long =
    let c = t.setting.committee in
    let room : c.n ≤ length t.processes = omega (arith, c.whole, c.high, long) in
    let short : p < length (take c.n t.processes) = rw (length-take-le c.n t.processes room) l in
    let at = every-at (process_fits c.f) (take c.n t.processes) p blank_process (and_parts (setting_fits t.setting) _ fits).1 short in
    let P : Process → Type 0 = λ q. process_fits c.f q ≡ true in
    subst P (get_or-take c.n t.processes p blank_process l) at

-- the used records of a wire in range
module _ (t : Table) (w : List Record) (fits : wire_fits t w ≡ true) where
  pub wire_used : t.used ≤ length w
  wire_used = leb-true t.used (length w) (and_parts (leb t.used (length w)) _ fits).0

  pub record_fits : (i : ℕ) → i < t.used → in_range t.setting.committee.n (record_at w i) ≡ true
  record_fits i l =
      let short : i < length (take t.used w) = rw (length-take-le t.used w wire_used) l in
      let at = every-at (in_range t.setting.committee.n) (take t.used w) i no_record (and_parts (leb t.used (length w)) _ fits).1 short in
      let P : Record → Type 0 = λ r. in_range t.setting.committee.n r ≡ true in
      subst P (get_or-take t.used w i no_record l) at

module _ (n : ℕ) (m : Moment) (fits : board_fits n m ≡ true) where
  pub size_is : n ≡ (committee_of m).n
  size_is = eqb-true n (committee_of m).n (and_parts (eqb n (committee_of m).n) _ fits).0

  both : (table_fits m.table ≡ true) × (wire_fits m.table m.wire ≡ true)
  both = and_parts (table_fits m.table) _ (and_parts (eqb n (committee_of m).n) _ fits).1

  pub seat-fits : (p : ℕ) → p < (committee_of m).n → length m.table.processes ≡ 31 → process_fits (committee_of m).f (seat m.table p) ≡ true
  seat-fits p l long = table_fits_lem m.table both.0 p l long

  pub used_fits : m.table.used ≤ length m.wire
  used_fits = wire_used m.table m.wire both.1

  pub record_formed : (i : ℕ) → i < m.table.used → Formed (committee_of m) (record_at m.wire i)
  record_formed i l = formed (committee_of m) (record_at m.wire i) (record_fits m.table m.wire both.1 i l)

-- what the rules rest on, of a seat
pub record SeatFits (t : Table) (p : ℕ) : Type 0 where
  pub delay : t.setting.delay ≤ 1000000
  pub overlap : t.setting.overlap ≤ 1000000
  pub place : (seat t p).synchronizer.place ≤ t.setting.committee.f + 1
  pub epoch : (seat t p).synchronizer.epoch ≤ 65535
  pub clock : (seat t p).synchronizer.clock ≤ 2 ^ 40

module _ (t : Table) (fits : table_fits t ≡ true) (p : ℕ) (member : p < t.setting.committee.n) (long : length t.processes ≡ 31) where
  pub table_seat : SeatFits t p
  table_seat =
      let set = (and_parts (setting_fits t.setting) _ fits).0 in
      let a = and_parts (between 1 t.setting.delay 1000000) _ set in
      let q = seat t p in
      let f = t.setting.committee.f in
      let seated = table_fits_lem t fits p member long in
      let timed = (and_parts (clock_fits q) _ (and_parts (standing_fits f q) _ seated).1).0 in
      record {
        delay = leb-true _ _ (and_parts (leb 1 t.setting.delay) _ a.0).1;
        overlap = leb-true _ _ (and_parts (leb 1 t.setting.overlap) _ a.1).1;
        place = elim (cases_Bool (running q.certification.phase)) [ inl e ↦ (runs_stand f q seated e).place.1 | inr e ↦ (let z = (waits_stand f q seated e).place in omega (arith, z)) ];
        epoch = elim (cases_Bool (running q.certification.phase)) [ inl e ↦ (runs_stand f q seated e).last | inr e ↦ (let z = (waits_stand f q seated e).epoch in omega (arith, z)) ];
        clock = leb-true _ _ (and_parts (leb q.synchronizer.clock last_tick) _ timed).0;
      }

number_fits_lem : (r : Record) → number_fits r ≡ true → r.number ≤ last_view
number_fits_lem r e = grind (arith, nat_tests)

-- the number of a used record is no higher than the last view
pub small_number : (t : Table) (w : List Record) → wire_fits t w ≡ true → (i : ℕ) → i < t.used → (record_at w i).number ≤ last_view
small_number t w fits i l =
    let n = t.setting.committee.n in
    let r = record_at w i in
    number_fits_lem r (and_parts (number_fits r) _ (and_parts (sets_fit n r) _ (record_fits t w fits i l)).1).0

-- a record in range belongs to an epoch, and goes to processes of the committee
epoch_fits : (r : Record) → number_fits r ≡ true → no_epoch r ≡ false
epoch_fits r e = grind (arith, nat_tests)

pub of_some_epoch : (n : ℕ) (r : Record) → in_range n r ≡ true → no_epoch r ≡ false
of_some_epoch n r e = epoch_fits r (and_parts (number_fits r) _ (and_parts (sets_fit n r) _ e).1).0

pub few_words : (n : ℕ) (r : Record) → in_range n r ≡ true → words_of r ≤ n
few_words n r e =
    let sets = (and_parts (sets_fit n r) _ e).0 in
    let to = (and_parts (ltb 0 r.to.bits) _ (and_parts (ltb r.sender n) _ sets).1).1 in
    ones-le n r.to.bits (ltb-true _ _ (and_parts (ltb r.to.bits (2 ^ n)) _ to).0)
