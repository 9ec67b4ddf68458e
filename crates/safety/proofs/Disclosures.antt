-- The rules of certification keep everything as a record is delivered. Assumes nothing.
use Rattle.std.proofs.Common.{◌≡◌, ℕ, ◌+◌, ◌<◌, ◌≤◌, Bool, true, false, not, ◌&&◌, leb, length, set, Some, None, Ok, sym, refl, ap, ◌∙◌, subst, inl, inr, arith, length-take-le, get_or-take}
use Rattle.std.proofs.lemmas.Bool.{cond_both, and_parts, leb-true, leb-false, cases_eq, not-true}
use Rattle.counting.specs.Counts.{count_to}
use Rattle.counting.proofs.Sums.{count_same}
use Rattle.committee.specs.declared.membership.Committee.{Committee}
use Rattle.committee.specs.Thresholds.{weak_quorum_of, disclosure_quorum_of}
use Rattle.wire.specs.declared.kind.Kind.TheVariants.{Disclose, AllowAny}
use Rattle.wire.specs.declared.vouch.Vouch.{Vouch}
use Rattle.wire.specs.declared.vouch.Vouch.TheVariants.{Disclosed, Any}
use Rattle.wire.specs.declared.record.Record.{Record}
use Rattle.wire.specs.Kinds.{kind_number}
use Rattle.protocol.specs.declared.process.Process.{Process}
use Rattle.protocol.specs.declared.step.Step.{Step}
use Rattle.protocol.specs.Processes.{running, certification_of, with_certification}
use Rattle.protocol.specs.Moments.{Moment, received, delivered, record_at, no_record}
use Rattle.protocol.specs.Plans.{seat, used_of, asked, from_senders}
use Rattle.protocol.specs.Sending.{to_all, certificate, view_change}
use Rattle.protocol.specs.Steps.{drops, heeds, acts_with}
use Rattle.protocol.specs.Certifying.{begun, begins, on_disclose, on_allow_any, offered, on_certificate}
use Rattle.agreement.specs.Wires.{Wire, Correct, heard, heard_of, sends}
use Rattle.agreement.specs.Facts.{Formed}
use Rattle.agreement.proofs.Elements.{not_any}
use Rattle.agreement.proofs.Records.{sends-parts}
use Rattle.agreement.proofs.Allowing.{differ}
use Rattle.safety.specs.Ties.{Tied, Capped}
use Rattle.safety.specs.Kept.{committee_of, Kept}
use Rattle.safety.proofs.Certifying.{certificate-ready, begin_ready, begin_tied, allow_ready, allow_tied}
use Rattle.safety.proofs.Hearing.{heard-counted, counted_heard, heard-of_others}
use Rattle.safety.proofs.Marking.{used_marked, heard-else}
use Rattle.safety.proofs.Receiving.{small, at, tied_at, keep, keep_drop, keep_acts_twice, sendable}

module _ (leader : ℕ → ℕ) (m : Moment) (k : Kept leader m) (p i : ℕ) (member : p < (committee_of m).n) (ok : Correct (committee_of m) p) (below : i < m.table.used)
    (free : m.table.used + 2 ≤ length m.wire) (led : leader 1 < (committee_of m).n) (waits : running (seat m.table p).certification.phase ≡ false)
    (view : (seat m.table p).core.view ≡ 0) (epoch : (seat m.table p).synchronizer.epoch ≡ 0) (spread : (seat m.table p).synchronizer.spread ≡ 0)
    (form : Formed (committee_of m) (record_at m.wire i)) where
  abbrev c : Committee
  c = committee_of m

  abbrev q : Process
  q = seat m.table p

  abbrev r : Record
  r = record_at m.wire i

  abbrev ws : Wire
  ws = used_of (at leader m k p i member ok below free true)

  abbrev Keeps : Step → Type 0
  Keeps z = Kept leader (received (Ok z) p i m)

  tie : Tied c ws p q
  tie = tied_at leader m k p i member ok below free true

  few : p ≤ 30
  few = small leader m k p i member ok below free

  inside : i < length (used_of m)
  inside = rw (length-take-le m.table.used m.wire k.used) below

  same_record : record_at (used_of m) i ≡ r
  same_record = get_or-take m.table.used m.wire i no_record below

  is : ws ≡ set (used_of m) i (delivered p true (record_at (used_of m) i))
  is = used_marked m.wire m.table.used i p true below

  pub begins-kept : (x y : ℕ) (w : Vouch) → Keeps (begins m.table.setting q p x w y (leader 1))
  begins-kept x y w =
      let s = m.table.setting in
      keep_acts_twice leader m k p i member ok below free (begun s q y w) (certificate c p x w) (view_change (leader 1) p 1 q.core) refl
      (certificate-ready s leader ws p q tie member x w waits) (begin_ready s leader ws p q tie member x w (leader 1) led view)
      (begin_tied s leader ws p q tie member x y w (leader 1) view epoch spread)

  -- a record that is no disclosure leaves what was heard
  other_capped : (kind_number r.kind ≡ 1 → ⊥) → Capped c ws p q
  other_capped n rests w =
      let C : Wire → Type 0 = λ vs. count_to (heard_of vs p w) 31 < weak_quorum_of c in
      let silent : (o : ℕ) → sends o 1 0 w (record_at (used_of m) i) ≡ false
      = λ o. not_any _ (λ e. n (ap (λ (x : Record). kind_number x.kind) (sym same_record) ∙ (sends-parts o 1 0 w (record_at (used_of m) i) e).1)) in
      subst C (sym is)
      (omega (
        arith,
        k.capped p member ok rests w,
        count_same (heard_of (set (used_of m) i (delivered p true (record_at (used_of m) i))) p w) (heard_of (used_of m) p w) 31
            (λ o _. heard-else (used_of m) i no_record inside p few true p w o (silent o)),
      ))

  pub allow_any_kept : r.kind ≡ AllowAny → (from : ℕ) → Keeps (on_allow_any m.table.setting q p from (leader 1))
  allow_any_kept kind from =
      cond_both (leb (weak_quorum_of c) from) _ (heeds q) Keeps
      (λ _. begins-kept 0 q.certification.proposal Any)
      (λ _. keep leader m k p i member ok below free (heeds q) (λ _. tie) (other_capped (λ e. let z = ap kind_number kind in omega (arith, z))))

  pub certificate-kept : (holds : Bool) → Keeps (on_certificate m.table.setting q p r holds (leader 1))
  certificate-kept holds =
      cond_both holds _ (drops q) Keeps (λ _. begins-kept r.value (offered q r r.vouch) r.vouch) (λ _. keep_drop leader m k p i member ok below free)

  -- ---- DISCLOSE

  module _ (kind : r.kind ≡ Disclose) where
    kind_1 : kind_number (record_at (used_of m) i).kind ≡ 1
    kind_1 = ap (λ (x : Record). kind_number x.kind) same_record ∙ ap kind_number kind

    number_0 : (record_at (used_of m) i).number ≡ 0
    number_0 = ap (λ (x : Record). x.number) same_record ∙ form.early (let z = ap kind_number kind in omega (arith, z))

    abbrev same : ℕ
    same = from_senders (asked p r (Some r.value)) r.sender (used_of m)

    abbrev total : ℕ
    total = from_senders (asked p r None) r.sender (used_of m)

    -- where no weak quorum discloses this value, none discloses any
    heard-few : same < weak_quorum_of c → (w : ℕ) → count_to (heard_of ws p w) 31 < weak_quorum_of c
    heard-few low w =
        let C : Wire → Type 0 = λ vs. count_to (heard_of vs p w) 31 < weak_quorum_of c in
        subst C (sym is)
        (elim (cases_eq w (record_at (used_of m) i).value) [
          | inl e ↦
              let D : ℕ → Type 0 = λ x. count_to (heard_of (set (used_of m) i (delivered p true (record_at (used_of m) i))) p x) 31 < weak_quorum_of c in
              let F : Record → Type 0 = λ x. from_senders (asked p x (Some x.value)) x.sender (used_of m) < weak_quorum_of c in
              subst D (sym e) (omega (arith, heard-counted (used_of m) i no_record inside p few kind_1 number_0, subst F (sym same_record) low))
          | inr n ↦ omega (arith, heard-of_others (used_of m) i no_record inside p few kind_1 number_0 w n, k.capped p member ok waits w)
        ])

    pub disclose_kept : Keeps (on_disclose m.table.setting q p r same total (leader 1))
    disclose_kept =
        let s = m.table.setting in
        let z = q.certification in
        cond_both (leb (weak_quorum_of c) same) _ _ Keeps (λ _. begins-kept r.value r.value Disclosed)
        (λ low.
        let few-same : same < weak_quorum_of c = leb-false (weak_quorum_of c) same low in
        cond_both (leb (disclosure_quorum_of c) total && not z.allowed) _ (heeds q) Keeps
        (λ e.
        let b = and_parts (leb (disclosure_quorum_of c) total) _ e in
        let F : Record → Type 0 = λ x. disclosure_quorum_of c ≤ from_senders (asked p x None) x.sender (used_of m) in
        let H : Wire → Type 0 = λ vs. disclosure_quorum_of c ≤ count_to (heard vs p) 31 in
        let many : disclosure_quorum_of c ≤ count_to (heard ws p) 31
        = subst H (sym is) (omega (arith, counted_heard (used_of m) i no_record inside p few kind_1 number_0, subst F (sym same_record) (leb-true (disclosure_quorum_of c) total b.0))) in
        let g = allow_ready s leader ws p q tie member (not-true _ b.1) (λ w. differ c ws p w many (heard-few few-same w)) in
        let u = with_certification (certification_of z.phase z.proposal z.offer z.vouch true) q in
        let a = to_all c p AllowAny 0 0 in
        keep leader m k p i member ok below free (acts_with u a) (sendable c leader ws p a g, λ _. allow_tied s leader ws p q tie member) (λ _. heard-few few-same))
        (λ _. keep leader m k p i member ok below free (heeds q) (λ _. tie) (λ _. heard-few few-same)))
