-- What a leader sends is lawful, and leading, deciding and ticking keep the ties. Assumes nothing.
use Rattle.std.proofs.Common.{◌≡◌, ℕ, ◌+◌, ◌<◌, ◌≤◌, [], ◌∷◌, ◌++◌, sym, refl, subst, inl, inr, append-nil, arith}
use Rattle.committee.specs.declared.membership.Committee.{Committee}
use Rattle.committee.specs.Sets.{all}
use Rattle.wire.specs.declared.kind.Kind.{Kind}
use Rattle.wire.specs.declared.vouch.Vouch.{Vouch}
use Rattle.wire.specs.Kinds.{kind_number}
use Rattle.wire.specs.Shares.{statement}
use Rattle.protocol.specs.declared.process.Process.{Process}
use Rattle.protocol.specs.Processes.{with_core}
use Rattle.protocol.specs.Sending.{sent}
use Rattle.protocol.specs.Voting.{with_lead, with_decided}
use Rattle.agreement.specs.Wires.{Wire}
use Rattle.agreement.specs.Facts.{ByLeader}
use Rattle.agreement.specs.Signing.{Quorum}
use Rattle.agreement.proofs.Growth.{below_longer}
use Rattle.safety.specs.Ties.{Past, Advances, Tied}
use Rattle.safety.proofs.Sending.{lawful_plain, fresh}
use Rattle.safety.proofs.Addressing.{to_all_lem, not_to}
use Rattle.safety.proofs.Resting.{Ready, Rest, rest_of, rest_more, tie, advances_core}

by_late : (k : ℕ) → ByLeader k → 7 ≤ k
by_late k (inl e) = omega (arith, e)
by_late k (inr (inl e)) = omega (arith, e)
by_late k (inr (inr (inl e))) = omega (arith, e)
by_late k (inr (inr (inr e))) = omega (arith, e)

-- the kinds of a leader are odd
by_odd : (k : ℕ) → ByLeader k → (j : ℕ) × (k ≡ j + j + 1)
by_odd k (inl e) = (3, e)
by_odd k (inr (inl e)) = (4, e)
by_odd k (inr (inr (inl e))) = (5, e)
by_odd k (inr (inr (inr e))) = (6, e)

module _ (c : Committee) (leader : ℕ → ℕ) (ws : Wire) (p : ℕ) (q : Process) (t : Tied c ws p q) (member : p < c.n) where
  pub leader_ready : (k : Kind) (v x b : ℕ) (w : Vouch) → ByLeader (kind_number k) → p ≡ leader v → 1 ≤ v → (Past q (kind_number k) v → ⊥)
      → Ready c leader ws p (sent (all c.n) p k v x b w)
  leader_ready k v x b w by led one new =
      let r = sent (all c.n) p k v x b w in
      let seven = by_late (kind_number k) by in
      let odd = by_odd (kind_number k) by in
      record {
        formed = record {
          sender = member;
          early = λ e. absurd (omega arith);
          late = λ _. one;
          blank = λ e. absurd (elim e [ inl i ↦ omega arith | inr i ↦ omega arith ]);
        };
        sender = refl;
        new = refl;
        lawful = lawful_plain c leader ws r
            ((λ e. omega arith), (λ e. omega arith), (λ e. omega (arith, odd.1)), (λ e. omega (arith, odd.1)), (λ e. omega (arith, odd.1)))
            (fresh c ws p (kind_number k) v q t new)
            (to_all_lem c leader r refl
            (not_to (kind_number k) (λ e. omega arith) (λ e. omega (arith, odd.1)) (λ e. omega (arith, odd.1)) (λ e. omega (arith, odd.1))) (λ _. led));
      }

  pub leader_tied : (k : Kind) (v x b d y : ℕ) (w : Vouch) → ByLeader (kind_number k) → q.core.lead ≤ d
      → Past (with_core (with_lead d y q.core) q) (kind_number k) v
      → Tied c (ws ++ (sent (all c.n) p k v x b w ∷ [])) p (with_core (with_lead d y q.core) q)
  leader_tied k v x b d y w by up now =
      let u = with_core (with_lead d y q.core) q in
      let r = sent (all c.n) p k v x b w in
      let seven = by_late (kind_number k) by in
      let odd = by_odd (kind_number k) by in
      tie c ws (r ∷ []) p q u t (advances_core q (with_lead d y q.core) refl (omega arith) up)
      (now, tt) (λ _. refl) ((λ e. absurd (omega arith)), tt) refl ((λ e. omega (arith, odd.1)), tt)
      (rest_more c ws (ws ++ (r ∷ [])) (below_longer ws (r ∷ [])) p q.synchronizer q.core.view q.core.decided (rest_of c ws p q t))

-- ---- steps that send nothing

-- with no record, the ties need only the fields
pub tie_alone : (c : Committee) (ws : Wire) (p : ℕ) (q u : Process) → Tied c ws p q → Advances q u
    → u.certification.proposal ≡ q.certification.proposal → u.core.locked ≡ q.core.locked
    → Rest c ws p u.synchronizer u.core.view u.core.decided → Tied c ws p u
tie_alone c ws p q u t o same lock rest =
    let P : Wire → Type 0 = λ vs. Tied c vs p u in
    let R : Wire → Type 0 = λ vs. Rest c vs p u.synchronizer u.core.view u.core.decided in
    subst P (append-nil ws) (tie c ws [] p q u t o tt (λ _. same) tt lock tt (subst R (sym (append-nil ws)) rest))

pub decide_tied : (c : Committee) (ws : Wire) (p v x : ℕ) (q : Process) → Tied c ws p q → Quorum c ws (statement 6 v x)
    → Tied c ws p (with_core (with_decided x q.core) q)
decide_tied c ws p v x q t quorum =
    let rest = rest_of c ws p q t in
    tie_alone c ws p q (with_core (with_decided x q.core) q) t (advances_core q (with_decided x q.core) refl (omega arith) (omega arith)) refl refl
    (record { armed = rest.armed; spreading = rest.spreading; within = rest.within; reached = rest.reached; chosen = λ _. (v, quorum) })
