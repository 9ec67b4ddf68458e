-- What a process's own records do to its ties, and when they are lawful. Assumes nothing.
use Rattle.std.proofs.Common.{◌≡◌, ℕ, ◌≤◌, Bool, true, false, ◌⊎◌, List, [], ◌∷◌, ◌++◌, sym, refl, ◌∙◌, subst, subst₂, inl, inr, arith}
use Rattle.std.specs.List.{AllByRecursion}
use Rattle.std.proofs.lemmas.Bool.{or_cases}
use Rattle.counting.specs.Counts.{any}
use Rattle.counting.proofs.Any.{any_append}
use Rattle.committee.specs.declared.membership.Committee.{Committee}
use Rattle.wire.specs.declared.record.Record.{Record}
use Rattle.wire.specs.Kinds.{kind_number}
use Rattle.protocol.specs.declared.process.Process.{Process}
use Rattle.protocol.specs.declared.process.Mark.{Mark}
use Rattle.protocol.specs.Processes.{idle}
use Rattle.agreement.specs.Wires.{Wire, Sent, sends, posts}
use Rattle.agreement.specs.Facts.{Addressed, Lawful}
use Rattle.agreement.proofs.Elements.{any-gives, any-longer, any_last, any-push_cases, not_any}
use Rattle.agreement.proofs.Records.{sends-parts, posts-parts, sends-from, sent_posted}
use Rattle.safety.specs.Ties.{Past, Advances, Tied}
use Rattle.safety.proofs.Lasting.{past_keep}

-- some element of two lists in a row
any-either : {X : Type 0} (t : X → Bool) (xs ys : List X) → any t (xs ++ ys) ≡ true → (any t xs ≡ true) ⊎ (any t ys ≡ true)
any-either t xs ys e = or_cases (any t xs) (any t ys) (sym (any_append t xs ys) ∙ e)

-- ---- a process goes from the fields q to the fields u as it sends rs

module _ (c : Committee) (ws rs : Wire) (p : ℕ) (q u : Process) (t : Tied c ws p q) where
  pub past_own : Advances q u → AllByRecursion (λ r. Past u (kind_number r.kind) r.number) rs → (k m : ℕ) → any (posts p k m) (ws ++ rs) ≡ true → Past u k m
  past_own o now k m e =
      elim (any-either (posts p k m) ws rs e) [
        | inl i ↦ past_keep q u o k m (t.past k m i)
        | inr i ↦ any-gives (λ r. Past u (kind_number r.kind) r.number) (Past u k m) (posts p k m) rs now
            (λ r h j. let a = posts-parts p k m r j in subst₂ (Past u) a.1 a.2 h) i
      ]

  -- a proposal that stays, or the first one
  pub told_own : (idle q.certification.phase ≡ false → u.certification.proposal ≡ q.certification.proposal)
      → AllByRecursion (λ r. kind_number r.kind ≡ 1 → r.value ≡ u.certification.proposal) rs → (x : ℕ) → Sent (ws ++ rs) p 1 0 x → x ≡ u.certification.proposal
  told_own stays now x e =
      elim (any-either (sends p 1 0 x) ws rs e) [
        | inl i ↦ t.told x i ∙ sym (stays ((t.past 1 0 (sent_posted ws p 1 0 x i)).disclosed refl))
        | inr i ↦ any-gives (λ r. kind_number r.kind ≡ 1 → r.value ≡ u.certification.proposal) (x ≡ u.certification.proposal) (sends p 1 0 x) rs now
            (λ r h j. let a = sends-parts p 1 0 x r j in sym a.3 ∙ h a.1) i
      ]

  -- a lock that stays
  pub locked_own : u.core.locked ≡ q.core.locked → 1 ≤ u.core.locked.view → Sent (ws ++ rs) p 12 u.core.locked.view u.core.locked.value
  locked_own e h =
      let P : Mark → Type 0 = λ m. 1 ≤ m.view → Sent (ws ++ rs) p 12 m.view m.value in
      subst P (sym e) (λ l. any-longer (sends p 12 q.core.locked.view q.core.locked.value) ws rs (t.locked l)) h

  pub last_own : u.core.locked ≡ q.core.locked → AllByRecursion (λ r. kind_number r.kind ≡ 12 → ⊥) rs → (v x : ℕ) → Sent (ws ++ rs) p 12 v x → v ≤ u.core.locked.view
  last_own e none v x s =
      elim (any-either (sends p 12 v x) ws rs s) [
        | inl i ↦ let P : Mark → Type 0 = λ m. v ≤ m.view in subst P (sym e) (t.last v x i)
        | inr i ↦ any-gives (λ r. kind_number r.kind ≡ 12 → ⊥) (v ≤ u.core.locked.view) (sends p 12 v x) rs none
            (λ r h j. absurd (h (sends-parts p 12 v x r j).1)) i
      ]

-- a lock that is taken: r is the commit vote
module _ (c : Committee) (ws : Wire) (r : Record) (q u : Process) (t : Tied c ws r.sender q) (vote : kind_number r.kind ≡ 12) (view : r.number ≡ q.core.view)
    (lock-view : u.core.locked.view ≡ r.number) (lock-value : u.core.locked.value ≡ r.value) where
  pub locked_new : 1 ≤ u.core.locked.view → Sent (ws ++ (r ∷ [])) r.sender 12 u.core.locked.view u.core.locked.value
  locked_new h =
      any_last (sends r.sender 12 u.core.locked.view u.core.locked.value) ws r
      (sends-from r.sender 12 u.core.locked.view u.core.locked.value r refl vote (sym lock-view) (sym lock-value))

  pub last_new : (v x : ℕ) → Sent (ws ++ (r ∷ [])) r.sender 12 v x → v ≤ u.core.locked.view
  last_new v x s =
      elim (any-push_cases (sends r.sender 12 v x) ws r s) [
        | inl i ↦ omega (arith, ((t.past 12 v (sent_posted ws r.sender 12 v x i)).committed refl).0, view, lock-view)
        | inr i ↦ omega (arith, (sends-parts r.sender 12 v x r i).2, lock-view)
      ]

-- ---- records that owe nothing but to be new, and to go to whom they may

abbrev pub Plain : ℕ → Type 0
Plain k = (k ≡ 2 → ⊥) × (k ≡ 4 → ⊥) × (k ≡ 8 → ⊥) × (k ≡ 10 → ⊥) × (k ≡ 12 → ⊥)

pub lawful_plain : (c : Committee) (leader : ℕ → ℕ) (ws : Wire) (r : Record) → Plain (kind_number r.kind)
    → any (posts r.sender (kind_number r.kind) r.number) ws ≡ false → Addressed c leader r → Lawful c leader ws r
lawful_plain c leader ws r n new to =
    record {
      fresh = new;
      addressed = to;
      allow = λ e. absurd (n.0 e);
      complete = λ e. absurd (n.1 e);
      prepare = λ e. absurd (n.2 e);
      unlocked = λ e. absurd (n.2 e);
      precommit = λ e. absurd (n.3 e);
      commit = λ e. absurd (n.4 e);
      onward = λ e. absurd (n.4 e);
    }

-- a record is new where the process could not have sent it
pub fresh : (c : Committee) (ws : Wire) (p k m : ℕ) (q : Process) → Tied c ws p q → (Past q k m → ⊥) → any (posts p k m) ws ≡ false
fresh c ws p k m q t n = not_any (any (posts p k m) ws) (λ e. n (t.past k m e))

-- and stays so behind a record of another kind
pub fresh_behind : (ws : Wire) (p k m : ℕ) (r : Record) → (kind_number r.kind ≡ k → ⊥) → any (posts p k m) ws ≡ false → any (posts p k m) (ws ++ (r ∷ [])) ≡ false
fresh_behind ws p k m r n new =
    not_any (any (posts p k m) (ws ++ (r ∷ [])))
    (λ e. elim (any-push_cases (posts p k m) ws r e) [
      | inl i ↦ let z : ◌≡◌ {A = Bool} true false = sym i ∙ new in (let y : ◌≡◌ {A = ℕ} 0 1 = cc in omega arith)
      | inr i ↦ n (posts-parts p k m r i).1
    ])
