-- The rules of the view core keep the ties, and what they send is lawful. Assumes nothing.
use Rattle.std.proofs.Common.{◌≡◌, ℕ, ◌<◌, ◌≤◌, ◌⊎◌, [], ◌∷◌, ◌++◌, refl, inl, inr, arith}
use Rattle.std.proofs.lemmas.Bool.{cases_eq}
use Rattle.committee.specs.declared.membership.Committee.{Committee}
use Rattle.wire.specs.declared.kind.Kind.TheVariants.{PrepareVote, PrecommitVote, CommitVote}
use Rattle.wire.specs.declared.record.Record.{Record}
use Rattle.wire.specs.Shares.{statement}
use Rattle.protocol.specs.declared.process.Process.{Process}
use Rattle.protocol.specs.Processes.{mark, with_core}
use Rattle.protocol.specs.Sending.{to_one}
use Rattle.protocol.specs.Voting.{with_step, with_prepared, with_locked}
use Rattle.agreement.specs.Wires.{Wire, Sent, sends}
use Rattle.agreement.specs.Facts.{Facts, Formed, Backed}
use Rattle.agreement.specs.Signing.{Quorum}
use Rattle.agreement.proofs.Elements.{any-gives}
use Rattle.agreement.proofs.Records.{sends-parts, sent_posted}
use Rattle.agreement.proofs.Growth.{below_longer}
use Rattle.safety.specs.Ties.{Tied}
use Rattle.safety.proofs.Sending.{past_own, told_own, locked_new, last_new, fresh}
use Rattle.safety.proofs.Pasts.{past_8, past_10, past_12}
use Rattle.safety.proofs.Addressing.{to_one_lem, not_by}
use Rattle.safety.proofs.Resting.{Ready, Rest, rest_of, rest_more, tie, advances_core}

module _ (c : Committee) (leader : ℕ → ℕ) (ws : Wire) (g : Facts c leader ws) (p : ℕ) (q : Process) (t : Tied c ws p q) (member : p < c.n) where
  -- the ties to synchronizer, view and decision, with a record more
  still : (r : Record) → Rest c (ws ++ (r ∷ [])) p q.synchronizer q.core.view q.core.decided
  still r = rest_more c ws (ws ++ (r ∷ [])) (below_longer ws (r ∷ [])) p q.synchronizer q.core.view q.core.decided (rest_of c ws p q t)

  late : (v x : ℕ) → Sent ws p 12 v x → 1 ≤ v
  late v x =
      any-gives (Formed c) (1 ≤ v) (sends p 12 v x) ws g.formed
      (λ r h e. let a = sends-parts p 12 v x r e in omega (arith, h.late (omega (arith, a.1)), a.2))

  -- ---- PREPARE is voted for: the lock lets it pass

  pub prepare_ready : (l v x b : ℕ) → l < c.n → v ≡ q.core.view → 1 ≤ v → q.core.step ≡ 0 → Backed c ws v x
      → (q.core.locked.view ≡ 0) ⊎ ((x ≡ q.core.locked.value) ⊎ ((q.core.locked.view < b) × (b < v) × Quorum c ws (statement 4 b x)))
      → Ready c leader ws p (to_one l p PrepareVote v x)
  prepare_ready l v x b led n one z back guard =
      record {
        formed = record { sender = member; early = λ e. absurd (omega arith); late = λ _. one; blank = λ e. absurd (omega (arith, e)) };
        sender = refl;
        new = refl;
        lawful = record {
          fresh = fresh c ws p 8 v q t (λ h. omega (arith, (h.prepared refl).1 n));
          addressed = to_one_lem c leader (to_one l p PrepareVote v x) l led refl (not_by 8 (λ e. omega arith) (λ e. omega arith) (λ e. omega arith) (λ e. omega arith));
          allow = λ e. absurd (omega arith);
          complete = λ e. absurd (omega arith);
          prepare = λ _. back;
          unlocked = λ _ w y a less.
              let low = t.last w y a in
              let pos = late w y a in
              let h = t.locked (omega arith) in
              let r = (t.past 12 q.core.locked.view (sent_posted ws p 12 q.core.locked.view q.core.locked.value h)).committed refl in
              let under : q.core.locked.view < v
              = elim (cases_eq q.core.locked.view q.core.view) [ inl e ↦ absurd (omega (arith, r.1 e)) | inr e ↦ omega (arith, r.0, e) ] in
              let last : (x ≡ q.core.locked.value) ⊎ ((j : ℕ) × (q.core.locked.view < j) × (j < v) × Quorum c ws (statement 4 j x))
              = elim guard [ inl e ↦ absurd (omega arith) | inr i ↦ elim i [ inl e ↦ inl e | inr k ↦ inr (b, k.0, k.1, k.2) ] ] in
              (q.core.locked.view, q.core.locked.value, low, under, h, last);
          precommit = λ e. absurd (omega arith);
          commit = λ e. absurd (omega arith);
          onward = λ e. absurd (omega arith);
        };
      }

  pub prepare_tied : (l v x : ℕ) → v ≡ q.core.view → q.core.step ≡ 0
      → Tied c (ws ++ (to_one l p PrepareVote v x ∷ [])) p (with_core (with_step 1 q.core) q)
  prepare_tied l v x n z =
      let u = with_core (with_step 1 q.core) q in
      let r = to_one l p PrepareVote v x in
      tie c ws (r ∷ []) p q u t (advances_core q (with_step 1 q.core) refl (omega arith) (omega arith))
      (past_8 u v (omega arith, λ _. omega arith), tt) (λ _. refl) ((λ e. absurd (omega arith)), tt) refl ((λ e. omega arith), tt) (still r)

  -- ---- PRECOMMIT is voted for

  pub precommit_ready : (l v x : ℕ) → l < c.n → v ≡ q.core.view → 1 ≤ v → q.core.step < 2 → Quorum c ws (statement 4 v x)
      → Ready c leader ws p (to_one l p PrecommitVote v x)
  precommit_ready l v x led n one z back =
      record {
        formed = record { sender = member; early = λ e. absurd (omega arith); late = λ _. one; blank = λ e. absurd (omega (arith, e)) };
        sender = refl;
        new = refl;
        lawful = record {
          fresh = fresh c ws p 10 v q t (λ h. omega (arith, (h.precommitted refl).1 n));
          addressed = to_one_lem c leader (to_one l p PrecommitVote v x) l led refl (not_by 10 (λ e. omega arith) (λ e. omega arith) (λ e. omega arith) (λ e. omega arith));
          allow = λ e. absurd (omega arith);
          complete = λ e. absurd (omega arith);
          prepare = λ e. absurd (omega arith);
          unlocked = λ e. absurd (omega arith);
          precommit = λ _. back;
          commit = λ e. absurd (omega arith);
          onward = λ e. absurd (omega arith);
        };
      }

  pub precommit_tied : (l v x : ℕ) → v ≡ q.core.view → q.core.step < 2
      → Tied c (ws ++ (to_one l p PrecommitVote v x ∷ [])) p (with_core (with_prepared (mark v x) q.core) q)
  precommit_tied l v x n z =
      let u = with_core (with_prepared (mark v x) q.core) q in
      let r = to_one l p PrecommitVote v x in
      tie c ws (r ∷ []) p q u t (advances_core q (with_prepared (mark v x) q.core) refl (omega arith) (omega arith))
      (past_10 u v (omega arith, λ _. omega arith), tt) (λ _. refl) ((λ e. absurd (omega arith)), tt) refl ((λ e. omega arith), tt) (still r)

  -- ---- COMMIT is voted for: the lock is taken

  pub commit_ready : (l v x : ℕ) → l < c.n → v ≡ q.core.view → 1 ≤ v → q.core.step < 3 → Quorum c ws (statement 5 v x)
      → Ready c leader ws p (to_one l p CommitVote v x)
  commit_ready l v x led n one z back =
      record {
        formed = record { sender = member; early = λ e. absurd (omega arith); late = λ _. one; blank = λ e. absurd (omega (arith, e)) };
        sender = refl;
        new = refl;
        lawful = record {
          fresh = fresh c ws p 12 v q t (λ h. omega (arith, (h.committed refl).1 n));
          addressed = to_one_lem c leader (to_one l p CommitVote v x) l led refl (not_by 12 (λ e. omega arith) (λ e. omega arith) (λ e. omega arith) (λ e. omega arith));
          allow = λ e. absurd (omega arith);
          complete = λ e. absurd (omega arith);
          prepare = λ e. absurd (omega arith);
          unlocked = λ e. absurd (omega arith);
          precommit = λ e. absurd (omega arith);
          commit = λ _. back;
          onward = λ _ w y a. omega (arith, ((t.past 8 w (sent_posted ws p 8 w y a)).prepared refl).0);
        };
      }

  pub commit_tied : (l v x : ℕ) → v ≡ q.core.view → q.core.step < 3
      → Tied c (ws ++ (to_one l p CommitVote v x ∷ [])) p (with_core (with_locked (mark v x) q.core) q)
  commit_tied l v x n z =
      let u = with_core (with_locked (mark v x) q.core) q in
      let r = to_one l p CommitVote v x in
      let rest = still r in
      record {
        past = past_own c ws (r ∷ []) p q u t (advances_core q (with_locked (mark v x) q.core) refl (omega arith) (omega arith))
            (past_12 u v (omega arith, λ _. omega arith), tt);
        told = told_own c ws (r ∷ []) p q u t (λ _. refl) ((λ e. absurd (omega arith)), tt);
        locked = locked_new c ws r q u t refl n refl refl;
        last = last_new c ws r q u t refl n refl refl;
        armed = rest.armed;
        spreading = rest.spreading;
        within = rest.within;
        reached = rest.reached;
        chosen = rest.chosen;
      }
