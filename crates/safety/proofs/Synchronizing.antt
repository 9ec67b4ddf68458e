-- The rules of the synchronizer keep the ties, and what they send is lawful. Assumes nothing.
use Rattle.std.proofs.Common.{◌≡◌, ℕ, ◌+◌, ◌-◌, ◌*◌, ◌<◌, ◌≤◌, true, ◌⊎◌, [], ◌∷◌, ◌++◌, sym, refl, ap, subst, inl, inr, append_assoc, mul-le-mul_right, add-mul, arith}
use Rattle.std.proofs.lemmas.Bool.{cases_lt}
use Rattle.counting.specs.Counts.{any}
use Rattle.committee.specs.declared.membership.Committee.{Committee}
use Rattle.wire.specs.declared.kind.Kind.TheVariants.{EpochCompleted, EnterEpoch}
use Rattle.wire.specs.Shares.{statement}
use Rattle.protocol.specs.declared.process.Process.{Process}
use Rattle.protocol.specs.declared.board.Setting.{Setting}
use Rattle.protocol.specs.Processes.{synchronizer_of, with_synchronizer}
use Rattle.protocol.specs.Sending.{to_all, view_change}
use Rattle.protocol.specs.Synchronizing.{entered, view_here, timer_off, spread_off, awaiting}
use Rattle.agreement.specs.Wires.{Wire, posts}
use Rattle.agreement.specs.Signing.{Quorum}
use Rattle.agreement.proofs.Elements.{any_last, any-longer}
use Rattle.agreement.proofs.Records.{posts-from}
use Rattle.agreement.proofs.Growth.{below_longer, quorum_more}
use Rattle.agreement.proofs.Words.{placed}
use Rattle.safety.specs.Ties.{Tied}
use Rattle.safety.proofs.Sending.{lawful_plain, fresh, fresh_behind}
use Rattle.safety.proofs.Pasts.{past_4, past_5, past_6}
use Rattle.safety.proofs.Addressing.{to_one_lem, to_all_lem, not_by, not_to}
use Rattle.safety.proofs.Resting.{Ready, rest_of, rest_more, tie}
use Rattle.safety.proofs.Leading.{tie_alone}

cases-le : (a b : ℕ) → (a ≤ b) ⊎ (b < a)
cases-le a b = elim (cases_lt b a) [ inl l ↦ inr l | inr l ↦ inl l ]

step_up : (e n : ℕ) → 1 ≤ e → (e - 1) * n + n ≡ e * n
step_up e n h = omega (arith, add-mul (e - 1) 1 n, ap (λ (x : ℕ). x * n) (let z : (e - 1) + 1 ≡ e = omega arith in z))

-- a tick moves the clock alone
pub tick_tied : (c : Committee) (ws : Wire) (p : ℕ) (q : Process) (k : ℕ) → Tied c ws p q
    → let y = q.synchronizer in Tied c ws p (with_synchronizer (synchronizer_of y.epoch y.place (y.clock + k) y.due y.spread) q)
tick_tied c ws p q k t =
    let y = q.synchronizer in
    let rest = rest_of c ws p q t in
    tie_alone c ws p q (with_synchronizer (synchronizer_of y.epoch y.place (y.clock + k) y.due y.spread) q) t
    (record { proposed = λ h. h; runs = λ h. h; allowed = λ h. h; epoch = inr (refl, λ h. h, λ h _. h); view = inr (refl, omega arith, omega arith) }) refl refl
    (record { armed = rest.armed; spreading = rest.spreading; within = rest.within; reached = rest.reached; chosen = rest.chosen })

module _ (s : Setting) (leader : ℕ → ℕ) (ws : Wire) (p : ℕ) (q : Process) (t : Tied s.committee ws p q) (member : p < s.committee.n) where
  abbrev c : Committee
  c = s.committee

  -- VIEW-CHANGE for a view that was not entered yet
  pub change_ready : (l v : ℕ) → l < c.n → 1 ≤ v → q.core.view < v → Ready c leader ws p (view_change l p v q.core)
  change_ready l v led one new =
      let r = view_change l p v q.core in
      record {
        formed = record { sender = member; early = λ e. absurd (omega arith); late = λ _. one; blank = λ e. absurd (omega (arith, e)) };
        sender = refl;
        new = refl;
        lawful = lawful_plain c leader ws r ((λ e. omega arith), (λ e. omega arith), (λ e. omega arith), (λ e. omega arith), (λ e. omega arith))
            (fresh c ws p 6 v q t (λ h. omega (arith, h.viewed refl)))
            (to_one_lem c leader r l led refl (not_by 6 (λ e. omega arith) (λ e. omega arith) (λ e. omega arith) (λ e. omega arith)));
      }

  -- ---- the view timer expires before the last place

  next_view : 1 ≤ q.synchronizer.due → view_here s q (q.synchronizer.place + 1) ≡ q.core.view + 1
  next_view h = let a = t.armed h in omega (arith, a.1)

  pub next_ready : (l : ℕ) → l < c.n → 1 ≤ q.synchronizer.due → Ready c leader ws p (view_change l p (view_here s q (q.synchronizer.place + 1)) q.core)
  next_ready l led h = change_ready l (view_here s q (q.synchronizer.place + 1)) led (omega (arith, next_view h)) (omega (arith, next_view h))

  pub next_tied : (l : ℕ) → 1 ≤ q.synchronizer.due → 1 ≤ q.synchronizer.epoch → q.synchronizer.place < c.f + 1
      → Tied c (ws ++ (view_change l p (view_here s q (q.synchronizer.place + 1)) q.core ∷ [])) p (entered s q (q.synchronizer.place + 1))
  next_tied l h one below =
      let v = view_here s q (q.synchronizer.place + 1) in
      let e = next_view h in
      let u = entered s q (q.synchronizer.place + 1) in
      let r = view_change l p v q.core in
      let a = t.armed h in
      let old = rest_of c ws p q t in
      tie c ws (r ∷ []) p q u t
      (record { proposed = λ i. i; runs = λ i. i; allowed = λ i. i; epoch = inr (refl, (λ i. i), λ i _. absurd (omega arith)); view = inl (omega (arith, e)) })
      (past_6 u v (omega arith), tt) (λ _. refl) ((λ i. absurd (omega arith)), tt) refl ((λ i. omega arith), tt)
      (record {
        armed = λ _. (
          a.0,
          refl,
          λ w i j k. elim (cases-le w q.core.view) [
            | inl m ↦ any-longer (posts p 6 w) ws (r ∷ []) (a.2 w i j m)
            | inr m ↦ any_last (posts p 6 w) ws r (posts-from p 6 w r refl refl (omega (arith, e)))
          ],
        );
        spreading = λ i. absurd (omega (arith, a.0));
        within =
            let top : (q.synchronizer.epoch - 1) * (c.f + 1) + (c.f + 1) ≡ q.synchronizer.epoch * (c.f + 1)
            = step_up q.synchronizer.epoch (c.f + 1) one in
            omega (arith, top);
        reached = λ i j k. quorum_more c ws (ws ++ (r ∷ [])) (below_longer ws (r ∷ [])) (statement 3 i 0) (old.reached i j k);
        chosen = λ i. let d = old.chosen i in (d.0, quorum_more c ws (ws ++ (r ∷ [])) (below_longer ws (r ∷ [])) (statement 6 d.0 q.core.decided) d.1);
      })

  -- ---- the view timer expires at the last place: the epoch is completed

  pub complete_ready : 1 ≤ q.synchronizer.due → 1 ≤ q.synchronizer.epoch → q.synchronizer.place ≡ c.f + 1
      → Ready c leader ws p (to_all c p EpochCompleted q.synchronizer.epoch 0)
  complete_ready h one place =
      let e = q.synchronizer.epoch in
      let r = to_all c p EpochCompleted e 0 in
      let a = t.armed h in
      record {
        formed = record { sender = member; early = λ i. absurd (omega arith); late = λ _. one; blank = λ _. refl };
        sender = refl;
        new = refl;
        lawful = record {
          fresh = fresh c ws p 4 e q t (λ i. omega (arith, ((i.completed refl).1 refl).0));
          addressed = to_all_lem c leader r refl (not_to 4 (λ i. omega arith) (λ i. omega arith) (λ i. omega arith) (λ i. omega arith))
              (λ i. absurd (not_by 4 (λ j. omega arith) (λ j. omega arith) (λ j. omega arith) (λ j. omega arith) i));
          allow = λ i. absurd (omega arith);
          complete = λ _ v l i. let w = placed c.f e v l i in a.2 v l i (omega (arith, w.1, w.2, a.1, place));
          prepare = λ i. absurd (omega arith);
          unlocked = λ i. absurd (omega arith);
          precommit = λ i. absurd (omega arith);
          commit = λ i. absurd (omega arith);
          onward = λ i. absurd (omega arith);
        };
      }

  pub complete_tied : 1 ≤ q.synchronizer.due → Tied c (ws ++ (to_all c p EpochCompleted q.synchronizer.epoch 0 ∷ [])) p (timer_off q)
  complete_tied h =
      let r = to_all c p EpochCompleted q.synchronizer.epoch 0 in
      let u = timer_off q in
      let a = t.armed h in
      let old = rest_more c ws (ws ++ (r ∷ [])) (below_longer ws (r ∷ [])) p q.synchronizer q.core.view q.core.decided (rest_of c ws p q t) in
      tie c ws (r ∷ []) p q u t
      (record { proposed = λ i. i; runs = λ i. i; allowed = λ i. i; epoch = inr (refl, (λ i. i), λ _ _. refl); view = inr (refl, omega arith, omega arith) })
      (past_4 u q.synchronizer.epoch (omega arith, λ _. (refl, a.0)), tt) (λ _. refl) ((λ i. absurd (omega arith)), tt) refl ((λ i. omega arith), tt)
      (record { armed = λ i. absurd (omega arith); spreading = old.spreading; within = old.within; reached = old.reached; chosen = old.chosen })

  -- ---- the spread timer expires: the epoch is entered

  pub enter_ready : 1 ≤ q.synchronizer.spread → 1 ≤ q.synchronizer.epoch → Ready c leader ws p (to_all c p EnterEpoch q.synchronizer.epoch 0)
  enter_ready h one =
      let e = q.synchronizer.epoch in
      let r = to_all c p EnterEpoch e 0 in
      record {
        formed = record { sender = member; early = λ i. absurd (omega arith); late = λ _. one; blank = λ _. refl };
        sender = refl;
        new = refl;
        lawful = lawful_plain c leader ws r ((λ i. omega arith), (λ i. omega arith), (λ i. omega arith), (λ i. omega arith), (λ i. omega arith))
            (fresh c ws p 5 e q t (λ i. omega (arith, (i.entered refl).1 refl)))
            (to_all_lem c leader r refl (not_to 5 (λ i. omega arith) (λ i. omega arith) (λ i. omega arith) (λ i. omega arith))
            (λ i. absurd (not_by 5 (λ j. omega arith) (λ j. omega arith) (λ j. omega arith) (λ j. omega arith) i)));
      }

  -- VIEW-CHANGE behind it
  pub first_ready : (l : ℕ) → l < c.n → 1 ≤ q.synchronizer.spread
      → Ready c leader (ws ++ (to_all c p EnterEpoch q.synchronizer.epoch 0 ∷ [])) p (view_change l p (view_here s q 1) q.core)
  first_ready l led h =
      let r = to_all c p EnterEpoch q.synchronizer.epoch 0 in
      let z = view_change l p (view_here s q 1) q.core in
      let ready = change_ready l (view_here s q 1) led (omega arith) (omega (arith, t.spreading h)) in
      record {
        formed = ready.formed;
        sender = refl;
        new = refl;
        lawful = lawful_plain c leader (ws ++ (r ∷ [])) z ((λ i. omega arith), (λ i. omega arith), (λ i. omega arith), (λ i. omega arith), (λ i. omega arith))
            (fresh_behind ws p 6 (view_here s q 1) r (λ i. omega arith) ready.lawful.fresh) ready.lawful.addressed;
      }

  pub enter_tied : (l : ℕ) → 1 ≤ q.synchronizer.spread → 1 ≤ q.synchronizer.epoch
      → Tied c ((ws ++ (to_all c p EnterEpoch q.synchronizer.epoch 0 ∷ [])) ++ (view_change l p (view_here s q 1) q.core ∷ [])) p (entered s (spread_off q) 1)
  enter_tied l h one =
      let e = q.synchronizer.epoch in
      let r = to_all c p EnterEpoch e 0 in
      let z = view_change l p (view_here s q 1) q.core in
      let u = entered s (spread_off q) 1 in
      let low = t.spreading h in
      let rs : Wire = r ∷ z ∷ [] in
      let old = rest_more c ws (ws ++ rs) (below_longer ws rs) p q.synchronizer q.core.view q.core.decided (rest_of c ws p q t) in
      let P : Wire → Type 0 = λ vs. Tied c vs p u in
      subst P (sym (append_assoc ws (r ∷ []) (z ∷ [])))
      (tie c ws rs p q u t
      (record { proposed = λ i. i; runs = λ i. i; allowed = λ i. i; epoch = inr (refl, (λ _. refl), λ _ i. absurd (omega arith)); view = inl (omega arith) })
      (past_5 u e (omega arith, λ _. refl), (past_6 u (view_here s q 1) (omega arith), tt)) (λ _. refl)
      ((λ i. absurd (omega arith)), ((λ i. absurd (omega arith)), tt)) refl ((λ i. omega arith), ((λ i. omega arith), tt))
      (record {
        armed = λ _. (
          refl,
          refl,
          λ v i j k.
              let w = placed c.f e v i j in
              let P : Wire → Type 0 = λ vs. any (posts p 6 v) vs ≡ true in
              subst P (append_assoc ws (r ∷ []) (z ∷ [])) (any_last (posts p 6 v) (ws ++ (r ∷ [])) z (posts-from p 6 v z refl refl (omega (arith, w.2)))),
        );
        spreading = λ i. absurd (omega arith);
        within = omega (arith, step_up e (c.f + 1) one);
        reached = old.reached;
        chosen = old.chosen;
      }))

  -- ---- an epoch is completed by a quorum: the process awaits the next

  pub await_tied : (e : ℕ) → q.synchronizer.epoch < e → ((k : ℕ) → 1 ≤ k → e ≡ k + 1 → Quorum c ws (statement 3 k 0)) → Tied c ws p (awaiting s q e)
  await_tied e up quorum =
      let rest = rest_of c ws p q t in
      let room : q.synchronizer.epoch * (c.f + 1) ≤ (e - 1) * (c.f + 1) = mul-le-mul_right (c.f + 1) (omega arith) in
      let more : (e - 1) * (c.f + 1) ≤ e * (c.f + 1) = mul-le-mul_right (c.f + 1) (omega arith) in
      tie_alone c ws p q (awaiting s q e) t
      (record { proposed = λ i. i; runs = λ i. i; allowed = λ i. i; epoch = inl up; view = inr (refl, omega arith, omega arith) }) refl refl
      (record {
        armed = λ i. absurd (omega arith);
        spreading = λ _. omega (arith, rest.within);
        within = omega (arith, rest.within);
        reached = quorum;
        chosen = rest.chosen;
      })
