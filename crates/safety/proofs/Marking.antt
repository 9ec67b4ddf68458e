-- What marking a record as got and heeded does to what was heard. Assumes nothing.
use Rattle.std.proofs.Common.{◌≡◌, ℕ, ◌<◌, ◌≤◌, Bool, true, false, ◌&&◌, eqb, length, get_or, take, set, sym, refl, ap, ◌∙◌, subst, ap₂, arith, length-set, length-take-le, get_or-take}
use Rattle.std.proofs.lemmas.Bool.{and_right, ne_eqb}
use Rattle.counting.specs.Counts.{count_to}
use Rattle.counting.proofs.Booleans.{or_false}
use Rattle.counting.proofs.Sums.{count_same}
use Rattle.committee.specs.Sets.{contains}
use Rattle.committee.specs.Thresholds.{weak_quorum_of}
use Rattle.register.proofs.Gathering.{with_contains}
use Rattle.wire.specs.declared.record.Record.{Record}
use Rattle.protocol.specs.Moments.{Moment, moment, delivered, marked, record_at, no_record}
use Rattle.protocol.specs.Plans.{seat, used_of}
use Rattle.agreement.specs.Wires.{Wire, Correct, sends, heard_of}
use Rattle.agreement.specs.Facts.{Facts, Same}
use Rattle.agreement.proofs.Elements.{any-set}
use Rattle.agreement.proofs.Records.{same_sends}
use Rattle.agreement.proofs.Growth.{facts_set, set-signs}
use Rattle.agreement.proofs.Prefixes.{take-set_in}
use Rattle.safety.specs.Ties.{Tied}
use Rattle.safety.specs.Kept.{committee_of, Matches, KeptBut, Kept}
use Rattle.safety.proofs.Lasting.{tied_set}

-- a delivery changes nothing that the facts speak of
pub delivered-same : (p : ℕ) (h : Bool) (r : Record) → Same r (delivered p h r)
delivered-same p h r = record { sender = refl; kind = refl; number = refl; value = refl; to = refl }

-- another process, or a delivery that is not heeded
heeded_other : (p o : ℕ) (h : Bool) (r : Record) → p ≤ 30 → (o ≡ p → ⊥) → contains (delivered p h r).heeded o ≡ contains r.heeded o
heeded_other p o true r small n = with_contains r.heeded p o small ∙ or_false (contains r.heeded o) (eqb p o) (ne_eqb p o (λ e. n (sym e)))
heeded_other p o false r small n = refl

module _ (ws : Wire) (i : ℕ) (d : Record) (l : i < length ws) (p : ℕ) (small : p ≤ 30) where
  -- who was not delivered to has heard as much as before
  pub heard-other : (h : Bool) (o w q : ℕ) → (o ≡ p → ⊥) → heard_of (set ws i (delivered p h (get_or ws i d))) o w q ≡ heard_of ws o w q
  heard-other h o w q n =
      any-set (λ x. contains x.heeded o && sends q 1 0 w x) ws i (delivered p h (get_or ws i d)) d l
      (ap₂ (λ (a b : Bool). a && b) (sym (heeded_other p o h (get_or ws i d) small n)) (same_sends q 1 0 w (get_or ws i d) (delivered p h (get_or ws i d)) (delivered-same p h (get_or ws i d))))

  -- and so has whoever did not heed
  pub heard-unheeded : (o w q : ℕ) → heard_of (set ws i (delivered p false (get_or ws i d))) o w q ≡ heard_of ws o w q
  heard-unheeded o w q =
      any-set (λ x. contains x.heeded o && sends q 1 0 w x) ws i (delivered p false (get_or ws i d)) d l
      (ap (λ (b : Bool). contains (get_or ws i d).heeded o && b) (same_sends q 1 0 w (get_or ws i d) (delivered p false (get_or ws i d)) (delivered-same p false (get_or ws i d))))

  -- a record that is no disclosure of the value is not heard as one
  pub heard-else : (h : Bool) (o w q : ℕ) → sends q 1 0 w (get_or ws i d) ≡ false → heard_of (set ws i (delivered p h (get_or ws i d))) o w q ≡ heard_of ws o w q
  heard-else h o w q n =
      let r = get_or ws i d in
      let z = delivered p h r in
      any-set (λ x. contains x.heeded o && sends q 1 0 w x) ws i z d l
      (and_right (contains r.heeded o) (sends q 1 0 w r) n
      ∙ sym (and_right (contains z.heeded o) (sends q 1 0 w z) (sym (same_sends q 1 0 w r z (delivered-same p h r)) ∙ n)))

-- ---- the used part of a wire of which one record is marked

pub used_marked : (w : Wire) (n i p : ℕ) (h : Bool) → i < n → take n (marked p i h w) ≡ set (take n w) i (delivered p h (record_at (take n w) i))
used_marked w n i p h l =
    take-set_in n w i (delivered p h (record_at w i)) l ∙ ap (λ (r : Record). set (take n w) i (delivered p h r)) (sym (get_or-take n w i no_record l))

module _ (leader : ℕ → ℕ) (p : ℕ) (m : Moment) (i : ℕ) (h : Bool) (k : Kept leader m) (below : i < m.table.used) (small : p ≤ 30) where
  abbrev after : Moment
  after = moment m.table (marked p i h m.wire) m.signed

  within : i < length (used_of m)
  within = rw (length-take-le m.table.used m.wire k.used) below

  abbrev ms : Wire
  ms = set (used_of m) i (delivered p h (record_at (used_of m) i))

  is : used_of after ≡ ms
  is = used_marked m.wire m.table.used i p h below

  marks-same : Same (record_at (used_of m) i) (delivered p h (record_at (used_of m) i))
  marks-same = delivered-same p h (record_at (used_of m) i)

  -- whose ties they are, they stay
  pub tied_marked : (o : ℕ) → o < (committee_of m).n → Correct (committee_of m) o → Tied (committee_of m) (used_of after) o (seat m.table o)
  tied_marked o l g =
      let T : Wire → Type 0 = λ ws. Tied (committee_of m) ws o (seat m.table o) in
      subst T (sym is) (tied_set (committee_of m) (used_of m) o (seat m.table o) i (delivered p h (record_at (used_of m) i)) no_record within marks-same (k.tied o l g))

  pub but_marked : KeptBut leader p after
  but_marked =
      let c = committee_of m in
      let F : Wire → Type 0 = λ ws. Facts c leader ws in
      let M : Wire → Type 0 = λ ws. Matches m.signed ws in
      record {
        facts = subst F (sym is) (facts_set c leader (used_of m) i (delivered p h (record_at (used_of m) i)) no_record within marks-same k.facts);
        tied = λ o l g _. tied_marked o l g;
        capped = λ o l g n rests w.
            let C : Wire → Type 0 = λ ws. count_to (heard_of ws o w) 31 < weak_quorum_of c in
            subst C (sym is)
            (omega (arith, k.capped o l g rests w, count_same (heard_of ms o w) (heard_of (used_of m) o w) 31 (λ q _. heard-other (used_of m) i no_record within p small h o w q n)));
        signed = subst M (sym is)
            (λ q s. k.signed q s ∙ sym (set-signs (used_of m) i (delivered p h (record_at (used_of m) i)) no_record within marks-same q s));
        used = omega (arith, k.used, length-set m.wire i (delivered p h (record_at m.wire i)));
        seats = k.seats;
      }
