-- Every move keeps everything. Assumes nothing.
use Rattle.std.proofs.Common.{◌≡◌, ℕ, ◌+◌, ◌<◌, ◌≤◌, min, Bool, true, false, not, ◌&&◌, ltb, leb, length, Some, None, Ok, Err, Result, sym, refl, ap, ◌∙◌, arith}
use Rattle.std.proofs.lemmas.Bool.{cond_both, cond-false, or_parts, leb-false, ltb-false, not-false, false≢true}
use Rattle.refusals.specs.declared.causes.Refusal.{Refusal}
use Rattle.wire.specs.declared.kind.Kind.{Kind}
use Rattle.wire.specs.declared.kind.Kind.TheVariants.{Disclose, AllowAny, Certificate, EpochCompleted, EnterEpoch, ViewChange, Prepare, PrepareVote, Precommit, PrecommitVote, Commit, CommitVote, Decide}
use Rattle.wire.specs.declared.record.Record.{Record}
use Rattle.wire.specs.Kinds.{kind_number}
use Rattle.protocol.specs.declared.ballot.Ballot.TheVariants as ballot
use Rattle.protocol.specs.declared.process.Process.{Process}
use Rattle.protocol.specs.declared.step.Step.{Step}
use Rattle.protocol.specs.Processes.{idle, running}
use Rattle.protocol.specs.Steps.{drops}
use Rattle.protocol.specs.Moments.{Moment, moment, marked, received, record_at}
use Rattle.protocol.specs.Ranges.{process_fits}
use Rattle.protocol.specs.Plans.{seat, used_of, holding, heard_from, board_fits, crowded, full, is_faulty, known, roomy as gated, asked, best_backing, ruled_by, untimely, of_one_view, stale, undeliverable, deliver_plan}
use Rattle.agreement.specs.Wires.{Correct}
use Rattle.agreement.specs.Facts.{Formed}
use Rattle.safety.specs.Kept.{committee_of, Kept}
use Rattle.safety.proofs.Fitting.{Waits, waits_stand, size_is, seat-fits, record_formed}
use Rattle.safety.proofs.Keeping.{kept_done}
use Rattle.safety.proofs.Marking.{but_marked}
use Rattle.safety.proofs.Receiving.{keep_drop}
use Rattle.safety.proofs.Deliveries.{prepare_kept, precommit_kept, commit_kept, decide_kept, vote_kept, change_kept, completed_kept, entered_kept}
use Rattle.safety.proofs.Disclosures.{disclose_kept, allow_any_kept, certificate-kept}

-- two records are free
pub two_free : (m : Moment) → crowded m ≡ false → m.table.used + 2 ≤ length m.wire
two_free m h = let z = ltb-false (min (length m.wire) 65535) (m.table.used + 2) h in omega arith

-- a faulty process is not correct
pub not_correct : (m : Moment) (p : ℕ) → is_faulty m p ≡ true → Correct (committee_of m) p → ⊥
not_correct m p h e = false≢true (ap not (sym h) ∙ e)

pub correct : (m : Moment) (p : ℕ) → is_faulty m p ≡ false → Correct (committee_of m) p
correct m p h = ap not h

-- ---- deliver

module _ (leader : ℕ → ℕ) (m : Moment) (k : Kept leader m) (p i : ℕ) (led : (v : ℕ) → leader v < (committee_of m).n) (member : p < (committee_of m).n) where
  abbrev q : Process
  q = seat m.table p

  abbrev r : Record
  r = record_at m.wire i

  faulty_kept : is_faulty m p ≡ true → i < m.table.used → Kept leader (received (Ok (drops q)) p i m)
  faulty_kept bad below =
      let c = committee_of m in
      let never = not_correct m p bad in
      let small : p ≤ 30 = omega (arith, member, c.whole, c.high) in
      kept_done leader p (moment m.table (marked p i false m.wire) m.signed) q (but_marked leader p m i false k below small) member (λ h. absurd (never h)) None None
      (λ h. absurd (never h)) tt

  module _ (fits : process_fits (committee_of m).f q ≡ true) (form : Formed (committee_of m) r) (ok : Correct (committee_of m) p) (below : i < m.table.used)
      (free : m.table.used + 2 ≤ length m.wire) (timely : untimely r.kind q.certification.phase ≡ false)
      (near : (of_one_view r.kind && ltb q.core.view r.number) ≡ false) (fresh : stale q r ≡ false) where
    runs : (j : Kind) → r.kind ≡ j → leb (kind_number j) 3 ≡ false → running q.certification.phase ≡ true
    runs j e h =
        let s = q.certification.phase in
        not-false _ (sym (cond-false (leb (kind_number j) 3) (idle s) (not (running s)) h) ∙ ap (λ (x : Kind). untimely x s) (sym e) ∙ timely)

    waits : (j : Kind) → r.kind ≡ j → leb (kind_number j) 3 ≡ true → running q.certification.phase ≡ false
    waits j e h =
        let a = (or_parts (leb (kind_number r.kind) 3 && running q.certification.phase) _ fresh).0 in
        let b = ap (λ (x : Kind). leb (kind_number x) 3 && running q.certification.phase) (sym e) ∙ a in
        sym (ap (λ (x : Bool). x && running q.certification.phase) h) ∙ b

    here : (j : Kind) → r.kind ≡ j → of_one_view j ≡ true → r.number ≡ q.core.view
    here j e h =
        let up = ltb-false q.core.view r.number
        (sym (ap (λ (x : Bool). x && ltb q.core.view r.number) h) ∙ ap (λ (x : Kind). of_one_view x && ltb q.core.view r.number) (sym e) ∙ near) in
        let down = ltb-false r.number q.core.view
        (sym (ap (λ (x : Bool). x && ltb r.number q.core.view) h) ∙ ap (λ (x : Kind). of_one_view x && ltb r.number q.core.view) (sym e)
        ∙ (or_parts (leb (kind_number r.kind) 3 && running q.certification.phase) _ fresh).1) in
        omega arith

    late : (j : Kind) → r.kind ≡ j → 4 ≤ kind_number j → 1 ≤ r.number
    late j e h = form.late (let z = ap kind_number e in omega (arith, z))

    still : (w : running q.certification.phase ≡ false) → Waits q
    still w = waits_stand (committee_of m).f q fits w

    ruled-kept : (j : Kind) → r.kind ≡ j → Kept leader (received (Ok (ruled_by leader m p i j r)) p i m)
    ruled-kept Disclose e =
        let w = waits Disclose e refl in let s = still w in disclose_kept leader m k p i member ok below free (led 1) w s.view s.epoch s.spread form e
    ruled-kept AllowAny e =
        let w = waits AllowAny e refl in let s = still w in allow_any_kept leader m k p i member ok below free (led 1) w s.view s.epoch s.spread form e (heard_from m p r None)
    ruled-kept Certificate e =
        let w = waits Certificate e refl in let s = still w in certificate-kept leader m k p i member ok below free (led 1) w s.view s.epoch s.spread form (holding m r)
    ruled-kept EpochCompleted e = completed_kept leader m k p i member ok below free led (runs EpochCompleted e refl) form e
    ruled-kept EnterEpoch e = entered_kept leader m k p i member ok below free led (runs EnterEpoch e refl) form e
    ruled-kept ViewChange e = change_kept leader m k p i member ok below free led (runs ViewChange e refl) form (heard_from m p r None) (best_backing (asked p r None) i (used_of m)) (here ViewChange e refl) (late ViewChange e (omega arith))
    ruled-kept Prepare e = prepare_kept leader m k p i member ok below free led (runs Prepare e refl) form e (here Prepare e refl) (late Prepare e (omega arith))
    ruled-kept PrepareVote e =
        vote_kept leader m k p i member ok below free led (runs PrepareVote e refl) form ballot.Prepare (heard_from m p r (Some r.value)) (here PrepareVote e refl) (late PrepareVote e (omega arith))
    ruled-kept Precommit e = precommit_kept leader m k p i member ok below free led (runs Precommit e refl) form e (here Precommit e refl) (late Precommit e (omega arith))
    ruled-kept PrecommitVote e =
        vote_kept leader m k p i member ok below free led (runs PrecommitVote e refl) form ballot.Precommit (heard_from m p r (Some r.value)) (here PrecommitVote e refl) (late PrecommitVote e (omega arith))
    ruled-kept Commit e = commit_kept leader m k p i member ok below free led (runs Commit e refl) form e (here Commit e refl) (late Commit e (omega arith))
    ruled-kept CommitVote e =
        vote_kept leader m k p i member ok below free led (runs CommitVote e refl) form ballot.Commit (heard_from m p r (Some r.value)) (here CommitVote e refl) (late CommitVote e (omega arith))
    ruled-kept Decide e = decide_kept leader m k p i member ok below free led (runs Decide e refl) form e

-- the first causes that every move on a board meets
pub known_kept : (P : Result Step Refusal → Type 0) (n : ℕ) (m : Moment) (p : ℕ) (rest : Result Step Refusal) → ((e : Refusal) → P (Err e))
    → (board_fits n m ≡ true → p < (committee_of m).n → P rest) → P (known n m p rest)
known_kept P n m p rest refused goes =
    cond_both (not (board_fits n m)) _ _ P (λ _. refused _)
    (λ a. cond_both (leb (committee_of m).n p) _ _ P (λ _. refused _) (λ b. goes (not-false (board_fits n m) a) (leb-false (committee_of m).n p b)))

-- the last causes of a move that may append
pub roomy-kept : (P : Result Step Refusal → Type 0) (room : ℕ) (m : Moment) (rest : Result Step Refusal) → ((e : Refusal) → P (Err e))
    → (m.table.used + 2 ≤ length m.wire → P rest) → P (gated room m rest)
roomy-kept P room m rest refused goes =
    cond_both (crowded m) _ _ P (λ _. refused _) (λ a. cond_both (full room m) _ _ P (λ _. refused _) (λ _. goes (two_free m a)))

pub deliver_kept : (leader : ℕ → ℕ) (n room : ℕ) (m : Moment) (p i : ℕ) → Kept leader m → ((v : ℕ) → leader v < n) → Kept leader (received (deliver_plan leader n room m p i) p i m)
deliver_kept leader n room m p i k leads =
    let P : Result Step Refusal → Type 0 = λ x. Kept leader (received x p i m) in
    let q = seat m.table p in
    let r = record_at m.wire i in
    known_kept P n m p _ (λ _. k)
    (λ fits member.
    let led : (v : ℕ) → leader v < (committee_of m).n = λ v. omega (arith, leads v, size_is n m fits) in
    cond_both (undeliverable m p i) _ _ P (λ _. k)
    (λ there.
    let below : i < m.table.used = leb-false m.table.used i (or_parts (leb m.table.used i) _ there).0 in
    cond_both (is_faulty m p) _ _ P (λ bad. faulty_kept leader m k p i led member bad below)
    (λ good.
    let ok = correct m p good in
    cond_both (untimely r.kind q.certification.phase) _ _ P (λ _. k)
    (λ timely. cond_both (of_one_view r.kind && ltb q.core.view r.number) _ _ P (λ _. k)
    (λ near. roomy-kept P room m _ (λ _. k)
    (λ free. cond_both (stale q r) _ _ P (λ _. keep_drop leader m k p i member ok below free)
    (λ fresh. ruled-kept leader m k p i led member (seat-fits n m fits p member k.seats) (record_formed n m fits i below) ok below free timely near fresh r.kind refl)))))))
