-- The ties last: as a process advances, as records are appended, and as a record is marked. Assumes nothing.
use Rattle.std.proofs.Common.{◌≡◌, ℕ, ◌<◌, ◌≤◌, ◌⊎◌, [], ◌∷◌, ◌++◌, length, get_or, set, sym, ◌∙◌, inl, inr, arith}
use Rattle.committee.specs.declared.membership.Committee.{Committee}
use Rattle.wire.specs.declared.record.Record.{Record}
use Rattle.wire.specs.Shares.{statement}
use Rattle.protocol.specs.declared.process.Process.{Process}
use Rattle.agreement.specs.Wires.{Wire, sends, posts}
use Rattle.agreement.specs.Facts.{Same}
use Rattle.agreement.proofs.Elements.{any-push_cases}
use Rattle.agreement.proofs.Records.{sends-parts, posts-parts}
use Rattle.agreement.proofs.Growth.{below_longer, below_set, quorum_more, set-sends, set-posts}
use Rattle.safety.specs.Ties.{Reached, Past, Advances, Tied}

-- ---- what a process may have sent, it may have sent later on

later-level : (m v w least a b : ℕ) → (v < w) ⊎ ((v ≡ w) × (a ≤ b)) → Reached m v least a → Reached m w least b
later-level m v w least a b (inl l) h = (omega (arith, h.0), λ e. absurd (omega (arith, h.0)))
later-level m v w least a b (inr s) h = (omega (arith, h.0, s.0), λ e. omega (arith, h.1 (omega (arith, s.0)), s.1))

module _ (q u : Process) (o : Advances q u) where
  steps_on : (q.core.view < u.core.view) ⊎ ((q.core.view ≡ u.core.view) × (q.core.step ≤ u.core.step))
  steps_on = elim o.view [ inl l ↦ inl l | inr s ↦ inr (s.0, s.1) ]

  leads-on : (q.core.view < u.core.view) ⊎ ((q.core.view ≡ u.core.view) × (q.core.lead ≤ u.core.lead))
  leads-on = elim o.view [ inl l ↦ inl l | inr s ↦ inr (s.0, s.2) ]

  pub past_keep : (k m : ℕ) → Past q k m → Past u k m
  past_keep k m a =
      let lead = λ (least : ℕ). later-level m q.core.view u.core.view least q.core.lead u.core.lead leads-on in
      let step = λ (least : ℕ). later-level m q.core.view u.core.view least q.core.step u.core.step steps_on in
      record {
        disclosed = λ e. o.proposed (a.disclosed e);
        allowed = λ e. o.allowed (a.allowed e);
        certified = λ e. o.runs (a.certified e);
        completed = λ e. (
          omega (arith, (a.completed e).0, o.epoch),
          λ i. elim o.epoch [
            | inl l ↦ absurd (omega (arith, (a.completed e).0))
            | inr h ↦ let b = (a.completed e).1 (omega (arith, h.0)) in (h.2 b.0 b.1, h.1 b.1)
          ],
        );
        entered = λ e. (
          omega (arith, (a.entered e).0, o.epoch),
          λ i. elim o.epoch [ inl l ↦ absurd (omega (arith, (a.entered e).0)) | inr h ↦ h.1 ((a.entered e).1 (omega (arith, h.0))) ],
        );
        viewed = λ e. omega (arith, a.viewed e, o.view);
        prepare = λ e. lead 1 (a.prepare e);
        prepared = λ e. step 1 (a.prepared e);
        precommit = λ e. lead 2 (a.precommit e);
        precommitted = λ e. step 2 (a.precommitted e);
        commit = λ e. lead 3 (a.commit e);
        committed = λ e. step 3 (a.committed e);
        decide = λ e. lead 4 (a.decide e);
      }

-- ---- another process's record changes nothing

pub tied_other : (c : Committee) (ws : Wire) (p : ℕ) (q : Process) (r : Record) → (r.sender ≡ p → ⊥) → Tied c ws p q → Tied c (ws ++ (r ∷ [])) p q
tied_other c ws p q r n t =
    let grown = below_longer ws (r ∷ []) in
    record {
      past = λ k m e. elim (any-push_cases (posts p k m) ws r e) [ inl i ↦ t.past k m i | inr i ↦ absurd (n (posts-parts p k m r i).0) ];
      told = λ x e. elim (any-push_cases (sends p 1 0 x) ws r e) [ inl i ↦ t.told x i | inr i ↦ absurd (n (sends-parts p 1 0 x r i).0) ];
      locked = λ h. grown.sent p 12 q.core.locked.view q.core.locked.value (t.locked h);
      last = λ v x e. elim (any-push_cases (sends p 12 v x) ws r e) [ inl i ↦ t.last v x i | inr i ↦ absurd (n (sends-parts p 12 v x r i).0) ];
      armed = λ h. let a = t.armed h in (a.0, a.1, λ v i j k. grown.entered p v (a.2 v i j k));
      spreading = t.spreading;
      within = t.within;
      reached = λ e l i. quorum_more c ws (ws ++ (r ∷ [])) grown (statement 3 e 0) (t.reached e l i);
      chosen = λ h. let d = t.chosen h in (d.0, quorum_more c ws (ws ++ (r ∷ [])) grown (statement 6 d.0 q.core.decided) d.1);
    }

-- ---- a record that is marked as got and heeded changes nothing

pub tied_set : (c : Committee) (ws : Wire) (p : ℕ) (q : Process) (i : ℕ) (r d : Record) → i < length ws → Same (get_or ws i d) r → Tied c ws p q → Tied c (set ws i r) p q
tied_set c ws p q i r d l s t =
    let there = below_set ws i r d l s in
    record {
      past = λ k m e. t.past k m (sym (set-posts ws i r d l s p k m) ∙ e);
      told = λ x e. t.told x (sym (set-sends ws i r d l s p 1 0 x) ∙ e);
      locked = λ h. there.sent p 12 q.core.locked.view q.core.locked.value (t.locked h);
      last = λ v x e. t.last v x (sym (set-sends ws i r d l s p 12 v x) ∙ e);
      armed = λ h. let a = t.armed h in (a.0, a.1, λ v j k n. there.entered p v (a.2 v j k n));
      spreading = t.spreading;
      within = t.within;
      reached = λ e n j. quorum_more c ws (set ws i r) there (statement 3 e 0) (t.reached e n j);
      chosen = λ h. let e = t.chosen h in (e.0, quorum_more c ws (set ws i r) there (statement 6 e.0 q.core.decided) e.1);
    }
