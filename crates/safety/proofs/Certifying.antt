-- The rules of certification keep the ties, and what they send is lawful. Assumes nothing.
use Rattle.std.proofs.Common.{◌≡◌, ℕ, ◌<◌, true, false, [], ◌∷◌, ◌++◌, sym, refl, subst, inl, inr, append_assoc, arith}
use Rattle.std.proofs.lemmas.Bool.{both_ways, false≢true}
use Rattle.counting.specs.Counts.{any}
use Rattle.committee.specs.declared.membership.Committee.{Committee}
use Rattle.wire.specs.declared.kind.Kind.TheVariants.{Disclose, AllowAny}
use Rattle.wire.specs.declared.vouch.Vouch.{Vouch}
use Rattle.protocol.specs.declared.process.Phase.{Phase}
use Rattle.protocol.specs.declared.process.Phase.TheVariants.{Idle, Certifying, Running}
use Rattle.protocol.specs.declared.process.Process.{Process}
use Rattle.protocol.specs.declared.board.Setting.{Setting}
use Rattle.protocol.specs.Processes.{idle, running, certification_of, with_certification}
use Rattle.protocol.specs.Sending.{to_all, certificate, view_change}
use Rattle.protocol.specs.Certifying.{begun}
use Rattle.agreement.specs.Wires.{Wire, Correct, Sent, posts}
use Rattle.agreement.proofs.Elements.{any_last}
use Rattle.agreement.proofs.Records.{posts-from}
use Rattle.agreement.proofs.Growth.{below_longer}
use Rattle.safety.specs.Ties.{Tied}
use Rattle.safety.proofs.Sending.{lawful_plain, fresh, fresh_behind}
use Rattle.safety.proofs.Pasts.{past_1, past_2, past_3, past_6}
use Rattle.safety.proofs.Addressing.{to_all_lem, not_by, not_to}
use Rattle.safety.proofs.Resting.{Ready, rest_of, rest_more, tie}
use Rattle.safety.proofs.Synchronizing.{change_ready}

idle-rests : (s : Phase) → idle s ≡ true → running s ≡ true → ⊥
idle-rests Idle a b = false≢true b
idle-rests Certifying a b = false≢true a
idle-rests Running a b = false≢true a

module _ (s : Setting) (leader : ℕ → ℕ) (ws : Wire) (p : ℕ) (q : Process) (t : Tied s.committee ws p q) (member : p < s.committee.n) where
  abbrev c : Committee
  c = s.committee

  -- ---- propose

  abbrev proposing : ℕ → Process
  proposing x = let z = q.certification in with_certification (certification_of Certifying x z.offer z.vouch z.allowed) q

  pub propose_ready : (x : ℕ) → idle q.certification.phase ≡ true → Ready c leader ws p (to_all c p Disclose 0 x)
  propose_ready x still =
      let r = to_all c p Disclose 0 x in
      record {
        formed = record { sender = member; early = λ _. refl; late = λ e. absurd (omega arith); blank = λ e. absurd (omega (arith, e)) };
        sender = refl;
        new = refl;
        lawful = lawful_plain c leader ws r ((λ e. omega arith), (λ e. omega arith), (λ e. omega arith), (λ e. omega arith), (λ e. omega arith))
            (fresh c ws p 1 0 q t (λ h. both_ways _ (h.disclosed refl) still))
            (to_all_lem c leader r refl (not_to 1 (λ e. omega arith) (λ e. omega arith) (λ e. omega arith) (λ e. omega arith))
            (λ e. absurd (not_by 1 (λ i. omega arith) (λ i. omega arith) (λ i. omega arith) (λ i. omega arith) e)));
      }

  pub propose_tied : (x : ℕ) → idle q.certification.phase ≡ true → Tied c (ws ++ (to_all c p Disclose 0 x ∷ [])) p (proposing x)
  propose_tied x still =
      let r = to_all c p Disclose 0 x in
      tie c ws (r ∷ []) p q (proposing x) t
      (record {
        proposed = λ _. refl;
        runs = λ h. absurd (idle-rests _ still h);
        allowed = λ h. h;
        epoch = inr (refl, (λ h. h), λ h _. h);
        view = inr (refl, omega arith, omega arith);
      })
      (past_1 (proposing x) 0 refl, tt) (λ h. absurd (both_ways _ h still)) ((λ _. refl), tt) refl ((λ e. omega arith), tt)
      (rest_more c ws (ws ++ (r ∷ [])) (below_longer ws (r ∷ [])) p q.synchronizer q.core.view q.core.decided (rest_of c ws p q t))

  -- ---- ALLOW-ANY is sent

  abbrev allowing : Process
  allowing = let z = q.certification in with_certification (certification_of z.phase z.proposal z.offer z.vouch true) q

  pub allow_ready : q.certification.allowed ≡ false → ((w : ℕ) → ((o x : ℕ) → Correct c o → Sent ws o 1 0 x → x ≡ w) → ⊥)
      → Ready c leader ws p (to_all c p AllowAny 0 0)
  allow_ready new differ =
      let r = to_all c p AllowAny 0 0 in
      record {
        formed = record { sender = member; early = λ _. refl; late = λ e. absurd (omega arith); blank = λ _. refl };
        sender = refl;
        new = refl;
        lawful = record {
          fresh = fresh c ws p 2 0 q t (λ h. both_ways _ new (h.allowed refl));
          addressed = to_all_lem c leader r refl (not_to 2 (λ e. omega arith) (λ e. omega arith) (λ e. omega arith) (λ e. omega arith))
              (λ e. absurd (not_by 2 (λ i. omega arith) (λ i. omega arith) (λ i. omega arith) (λ i. omega arith) e));
          allow = λ _. differ;
          complete = λ e. absurd (omega arith);
          prepare = λ e. absurd (omega arith);
          unlocked = λ e. absurd (omega arith);
          precommit = λ e. absurd (omega arith);
          commit = λ e. absurd (omega arith);
          onward = λ e. absurd (omega arith);
        };
      }

  pub allow_tied : Tied c (ws ++ (to_all c p AllowAny 0 0 ∷ [])) p allowing
  allow_tied =
      let r = to_all c p AllowAny 0 0 in
      tie c ws (r ∷ []) p q allowing t
      (record { proposed = λ h. h; runs = λ h. h; allowed = λ _. refl; epoch = inr (refl, (λ h. h), λ h _. h); view = inr (refl, omega arith, omega arith) })
      (past_2 allowing 0 refl, tt) (λ _. refl) ((λ e. absurd (omega arith)), tt) refl ((λ e. omega arith), tt)
      (rest_more c ws (ws ++ (r ∷ [])) (below_longer ws (r ∷ [])) p q.synchronizer q.core.view q.core.decided (rest_of c ws p q t))

  -- ---- begin: a certificate is passed on, and view 1 entered

  pub certificate-ready : (x : ℕ) (w : Vouch) → running q.certification.phase ≡ false → Ready c leader ws p (certificate c p x w)
  certificate-ready x w waits =
      let r = certificate c p x w in
      record {
        formed = record { sender = member; early = λ _. refl; late = λ e. absurd (omega arith); blank = λ e. absurd (omega (arith, e)) };
        sender = refl;
        new = refl;
        lawful = lawful_plain c leader ws r ((λ e. omega arith), (λ e. omega arith), (λ e. omega arith), (λ e. omega arith), (λ e. omega arith))
            (fresh c ws p 3 0 q t (λ h. both_ways _ waits (h.certified refl)))
            (to_all_lem c leader r refl (not_to 3 (λ e. omega arith) (λ e. omega arith) (λ e. omega arith) (λ e. omega arith))
            (λ e. absurd (not_by 3 (λ i. omega arith) (λ i. omega arith) (λ i. omega arith) (λ i. omega arith) e)));
      }

  pub begin_ready : (x : ℕ) (w : Vouch) (l : ℕ) → l < c.n → q.core.view ≡ 0
      → Ready c leader (ws ++ (certificate c p x w ∷ [])) p (view_change l p 1 q.core)
  begin_ready x w l led zero =
      let r = certificate c p x w in
      let z = view_change l p 1 q.core in
      let ready = change_ready s leader ws p q t member l 1 led (omega arith) (omega arith) in
      record {
        formed = ready.formed;
        sender = refl;
        new = refl;
        lawful = lawful_plain c leader (ws ++ (r ∷ [])) z ((λ i. omega arith), (λ i. omega arith), (λ i. omega arith), (λ i. omega arith), (λ i. omega arith))
            (fresh_behind ws p 6 1 r (λ i. omega arith) ready.lawful.fresh) ready.lawful.addressed;
      }

  pub begin_tied : (x y : ℕ) (w : Vouch) (l : ℕ) → q.core.view ≡ 0 → q.synchronizer.epoch ≡ 0 → q.synchronizer.spread ≡ 0
      → Tied c ((ws ++ (certificate c p x w ∷ [])) ++ (view_change l p 1 q.core ∷ [])) p (begun s q y w)
  begin_tied x y w l view epoch spread =
      let r = certificate c p x w in
      let z = view_change l p 1 q.core in
      let u = begun s q y w in
      let rs : Wire = r ∷ z ∷ [] in
      let old = rest_more c ws (ws ++ rs) (below_longer ws rs) p q.synchronizer q.core.view q.core.decided (rest_of c ws p q t) in
      let P : Wire → Type 0 = λ vs. Tied c vs p u in
      subst P (sym (append_assoc ws (r ∷ []) (z ∷ [])))
      (tie c ws rs p q u t
      (record { proposed = λ _. refl; runs = λ _. refl; allowed = λ h. h; epoch = inl (omega arith); view = inl (omega arith) })
      (past_3 u 0 refl, (past_6 u 1 (omega arith), tt)) (λ _. refl)
      ((λ i. absurd (omega arith)), ((λ i. absurd (omega arith)), tt)) refl ((λ i. omega arith), ((λ i. omega arith), tt))
      (record {
        armed = λ _. (
          spread,
          omega arith,
          λ v i j k.
              let P : Wire → Type 0 = λ vs. any (posts p 6 v) vs ≡ true in
              subst P (append_assoc ws (r ∷ []) (z ∷ [])) (any_last (posts p 6 v) (ws ++ (r ∷ [])) z (posts-from p 6 v z refl refl (omega arith))),
        );
        spreading = λ i. absurd (omega arith);
        within = omega arith;
        reached = λ i j k. absurd (omega arith);
        chosen = old.chosen;
      }))
