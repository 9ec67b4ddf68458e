-- The facts hold of the empty wire, and last as records are appended and marked. Assumes nothing.
use Rattle.std.proofs.Common.{◌≡◌, ℕ, ◌<◌, ◌≤◌, Bool, true, cond, ◌⊎◌, [], ◌∷◌, ◌++◌, length, get_or, set, count_by, sym, ap, ◌∙◌, subst, inl, inr, le_trans, arith}
use mathlib.Core.Path.{subst₃}
use Rattle.std.proofs.lemmas.List.Sums.{sum_by_push, sum_by-set}
use Rattle.std.proofs.ByRecursion.{All-push, All-set, All-get_or}
use Rattle.std.proofs.lemmas.Bool.{cases_Bool, cond-true, cond-false, false≢true}
use Rattle.counting.specs.Counts.{any}
use Rattle.counting.proofs.Sums.{sum-le}
use Rattle.committee.specs.declared.membership.Committee.{Committee}
use Rattle.committee.specs.declared.sets.ProcessSet.{ProcessSet}
use Rattle.committee.specs.Sets.{size}
use Rattle.committee.specs.Views.{epoch_of}
use Rattle.register.specs.declared.pair.Statement.{Statement}
use Rattle.wire.specs.declared.record.Record.{Record}
use Rattle.wire.specs.Kinds.{kind_number}
use Rattle.wire.specs.Shares.{statement}
use Rattle.agreement.specs.Wires.{Wire, Correct, Sent, Entered, sends, posts}
use Rattle.agreement.specs.Signing.{Signed, Quorum, Certified, signs, signers}
use Rattle.agreement.specs.Facts.{Facts, Formed, Addressed, Backed, Held, Lawful, ToLeader, ByLeader, Same}
use Rattle.agreement.proofs.Elements.{test_le, any-longer, any-push_cases, any_none, any-set}
use Rattle.agreement.proofs.Records.{sends-parts, posts-parts, same_sends, same_posts}
use Rattle.agreement.proofs.Shares.{same_signs}

-- ---- a wire that has all of another

-- what was sent, signed and entered on the one wire was on the other
pub record Below (ws vs : Wire) : Type 0 where
  pub sent : (p k m x : ℕ) → Sent ws p k m x → Sent vs p k m x
  pub signed : (p : ℕ) (s : Statement) → Signed ws p s → Signed vs p s
  pub entered : (p v : ℕ) → Entered ws p v → Entered vs p v

pub below_longer : (ws vs : Wire) → Below ws (ws ++ vs)
below_longer ws vs =
    record {
      sent = λ p k m x. any-longer (sends p k m x) ws vs;
      signed = λ p s. any-longer (signs p s) ws vs;
      entered = λ p v. any-longer (posts p 6 v) ws vs;
    }

module _ (c : Committee) (ws vs : Wire) (b : Below ws vs) where
  pub signers-more : (s : Statement) → signers ws s ≤ signers vs s
  signers-more s =
      sum-le (λ p. cond (any (signs p s) ws) 1 0) (λ p. cond (any (signs p s) vs) 1 0) 31
      (λ p _. test_le (any (signs p s) ws) (any (signs p s) vs) (b.signed p s))

  pub quorum_more : (s : Statement) → Quorum c ws s → Quorum c vs s
  quorum_more s h = le_trans h (signers-more s)

  pub certified_more : (x : ℕ) → Certified c ws x → Certified c vs x
  certified_more x (inl h) = inl (le_trans h (signers-more (statement 1 0 x)))
  certified_more x (inr h) = inr (le_trans h (signers-more (statement 2 0 0)))

  pub backed-more : (v x : ℕ) → Backed c ws v x → Backed c vs v x
  backed-more v x (inl h) = inl (certified_more x h)
  backed-more v x (inr h) = inr (h.0, h.1, h.2, quorum_more (statement 4 h.0 x) h.3)

  pub held_more : (p v u y : ℕ) → Held c ws p v u y → Held c vs p v u y
  held_more p v u y h =
      let last : (y ≡ h.1) ⊎ ((a : ℕ) × (h.0 < a) × (a < u) × Quorum c vs (statement 4 a y))
      = elim h.5 [ inl e ↦ inl e | inr q ↦ inr (q.0, q.1, q.2, quorum_more (statement 4 q.0 y) q.3) ] in
      (h.0, h.1, h.2, h.3, b.sent p 12 h.0 h.1 h.4, last)

-- ---- the empty wire

pub facts_none : (c : Committee) (leader : ℕ → ℕ) → Facts c leader []
unfolding any
facts_none c leader =
    record {
      formed = tt;
      prepared = λ p v x h s. absurd (false≢true s);
      precommitted = λ p v x h s. absurd (false≢true s);
      committed = λ p v x h s. absurd (false≢true s);
      locked = λ p v x u y h s _ _. absurd (false≢true s);
      allowed = λ p w h s _. absurd (false≢true s);
      through = λ p e v h s _ _. absurd (false≢true s);
      single = λ p k m h. omega arith;
      addressed = tt;
    }

-- ---- one more record

-- what a record's fields say, said of the sender, number and value that it has
sends-at : (P : ℕ → ℕ → ℕ → Type 0) (p k m x : ℕ) (r : Record) → sends p k m x r ≡ true
    → (kind_number r.kind ≡ k → P r.sender r.number r.value) → P p m x
sends-at P p k m x r e h = let a = sends-parts p k m x r e in subst₃ P a.0 a.2 a.3 (h a.1)

module _ (c : Committee) (leader : ℕ → ℕ) (ws : Wire) (r : Record) (g : Facts c leader ws) (form : Formed c r)
    (law : Correct c r.sender → Lawful c leader ws r) where
  abbrev vs : Wire
  vs = ws ++ (r ∷ [])

  below : Below ws vs
  below = below_longer ws (r ∷ [])

  prepared_push : (p v x : ℕ) → Correct c p → Sent vs p 8 v x → Backed c vs v x
  prepared_push p v x h s =
      backed-more c ws vs below v x
      (elim (any-push_cases (sends p 8 v x) ws r s) [
        | inl i ↦ g.prepared p v x h i
        | inr i ↦ sends-at (λ q m y. Correct c q → Backed c ws m y) p 8 v x r i (λ k d. (law d).prepare k) h
      ])

  precommitted_push : (p v x : ℕ) → Correct c p → Sent vs p 10 v x → Quorum c vs (statement 4 v x)
  precommitted_push p v x h s =
      quorum_more c ws vs below (statement 4 v x)
      (elim (any-push_cases (sends p 10 v x) ws r s) [
        | inl i ↦ g.precommitted p v x h i
        | inr i ↦ sends-at (λ q m y. Correct c q → Quorum c ws (statement 4 m y)) p 10 v x r i (λ k d. (law d).precommit k) h
      ])

  committed_push : (p v x : ℕ) → Correct c p → Sent vs p 12 v x → Quorum c vs (statement 5 v x)
  committed_push p v x h s =
      quorum_more c ws vs below (statement 5 v x)
      (elim (any-push_cases (sends p 12 v x) ws r s) [
        | inl i ↦ g.committed p v x h i
        | inr i ↦ sends-at (λ q m y. Correct c q → Quorum c ws (statement 5 m y)) p 12 v x r i (λ k d. (law d).commit k) h
      ])

  locked_push : (p v x u y : ℕ) → Correct c p → Sent vs p 12 v x → Sent vs p 8 u y → v < u → Held c vs p v u y
  locked_push p v x u y h s t l =
      elim (any-push_cases (sends p 12 v x) ws r s) [
        | inl i ↦ held_more c ws vs below p v u y
            (elim (any-push_cases (sends p 8 u y) ws r t) [
              | inl j ↦ g.locked p v x u y h i j l
              | inr j ↦ sends-at (λ q m z. Correct c q → Sent ws q 12 v x → v < m → Held c ws q v m z) p 8 u y r j (λ k d a b. (law d).unlocked k v x a b) h i l
            ])
        | inr i ↦ elim (any-push_cases (sends p 8 u y) ws r t) [
          | inl j ↦ absurd (omega (arith, sends-at (λ q m z. Correct c q → Sent ws q 8 u y → u ≤ m) p 12 v x r i (λ k d a. (law d).onward k u y a) h j))
          | inr j ↦ absurd (omega (arith, (sends-parts p 12 v x r i).1, (sends-parts p 8 u y r j).1))
        ]
      ]

  allowed_push : (p w : ℕ) → Correct c p → Sent vs p 2 0 0 → ((q x : ℕ) → Correct c q → Sent vs q 1 0 x → x ≡ w) → ⊥
  allowed_push p w h s all =
      let before : (q x : ℕ) → Correct c q → Sent ws q 1 0 x → x ≡ w = λ q x d a. all q x d (below.sent q 1 0 x a) in
      elim (any-push_cases (sends p 2 0 0) ws r s) [
        | inl i ↦ g.allowed p w h i before
        | inr i ↦ sends-at (λ q m y. Correct c q → ⊥) p 2 0 0 r i (λ k d. (law d).allow k w before) h
      ]

  through_push : (p e v : ℕ) → Correct c p → Sent vs p 4 e 0 → 1 ≤ v → epoch_of c.f v ≡ e → Entered vs p v
  through_push p e v h s a b =
      below.entered p v
      (elim (any-push_cases (sends p 4 e 0) ws r s) [
        | inl i ↦ g.through p e v h i a b
        | inr i ↦ sends-at (λ q m y. Correct c q → epoch_of c.f v ≡ m → Entered ws q v) p 4 e 0 r i (λ k d j. (law d).complete k v a j) h b
      ])

  single_push : (p k m : ℕ) → Correct c p → count_by (posts p k m) vs ≤ 1
  single_push p k m h =
      rw sum_by_push
      (elim (cases_Bool (posts p k m r)) [
        | inl e ↦
            let a = posts-parts p k m r e in
            let z : count_by (posts p k m) ws ≡ 0
            = subst₃ (λ q j n. Correct c q → count_by (posts q j n) ws ≡ 0) a.0 a.1 a.2
            (λ d. any_none (posts r.sender (kind_number r.kind) r.number) ws (law d).fresh) h in
            omega (arith, z, cond-true {A = ℕ} (posts p k m r) 1 0 e)
        | inr e ↦ omega (arith, cond-false {A = ℕ} (posts p k m r) 1 0 e, g.single p k m h)
      ])

  pub facts_push : Facts c leader (ws ++ (r ∷ []))
  facts_push =
      record {
        formed = All-push (Formed c) ws r g.formed form;
        prepared = prepared_push;
        precommitted = precommitted_push;
        committed = committed_push;
        locked = locked_push;
        allowed = allowed_push;
        through = through_push;
        single = single_push;
        addressed = All-push (λ q. Correct c q.sender → Addressed c leader q) ws r g.addressed (λ h. (law h).addressed);
      }

-- ---- a record of which only got and heeded change

module _ (ws : Wire) (i : ℕ) (q d : Record) (l : i < length ws) (s : Same (get_or ws i d) q) where
  pub set-sends : (p k m x : ℕ) → any (sends p k m x) (set ws i q) ≡ any (sends p k m x) ws
  set-sends p k m x = any-set (sends p k m x) ws i q d l (same_sends p k m x (get_or ws i d) q s)

  pub set-posts : (p k m : ℕ) → any (posts p k m) (set ws i q) ≡ any (posts p k m) ws
  set-posts p k m = any-set (posts p k m) ws i q d l (same_posts p k m (get_or ws i d) q s)

  pub set-signs : (p : ℕ) (t : Statement) → any (signs p t) (set ws i q) ≡ any (signs p t) ws
  set-signs p t = any-set (signs p t) ws i q d l (same_signs p t (get_or ws i d) q s)

  pub below_set : Below ws (set ws i q)
  below_set = record { sent = λ p k m x h. set-sends p k m x ∙ h; signed = λ p t h. set-signs p t ∙ h; entered = λ p v h. set-posts p 6 v ∙ h }

module _ (c : Committee) (leader : ℕ → ℕ) (ws : Wire) (i : ℕ) (q d : Record) (l : i < length ws) (s : Same (get_or ws i d) q) (g : Facts c leader ws) where
  abbrev us : Wire
  us = set ws i q

  there : Below ws us
  there = below_set ws i q d l s

  back : (p k m x : ℕ) → Sent us p k m x → Sent ws p k m x
  back p k m x h = sym (set-sends ws i q d l s p k m x) ∙ h

  same_kind : kind_number (get_or ws i d).kind ≡ kind_number q.kind
  same_kind = ap kind_number s.kind

  formed_same : Formed c q
  formed_same =
      let o = All-get_or (Formed c) ws i d l g.formed in
      record {
        sender = omega (arith, o.sender, s.sender);
        early = λ h. sym s.number ∙ o.early (omega (arith, same_kind));
        late = λ h. omega (arith, o.late (omega (arith, same_kind)), s.number);
        blank = λ h. sym s.value ∙ o.blank (subst (λ (k : ℕ). (k ≡ 2) ⊎ (k ≡ 4)) (sym same_kind) h);
      }

  addressed_same : Correct c q.sender → Addressed c leader q
  addressed_same h =
      let o = All-get_or (λ r. Correct c r.sender → Addressed c leader r) ws i d l g.addressed (subst (Correct c) (sym s.sender) h) in
      record {
        few = subst (λ (t : ProcessSet). size t ≤ c.n) s.to o.few;
        one = λ e. subst (λ (t : ProcessSet). size t ≡ 1) s.to (o.one (subst ToLeader (sym same_kind) e));
        led = λ e. sym s.sender ∙ o.led (subst ByLeader (sym same_kind) e) ∙ ap leader s.number;
      }

  single_same : (p k m : ℕ) → Correct c p → count_by (posts p k m) us ≤ 1
  single_same p k m h =
      omega (
        arith,
        g.single p k m h,
        sum_by-set (λ r. cond (posts p k m r) 1 0) ws i q d l,
        ap (λ (b : Bool). cond {A = ℕ} b 1 0) (same_posts p k m (get_or ws i d) q s),
      )

  pub facts_set : Facts c leader (set ws i q)
  facts_set =
      record {
        formed = All-set (Formed c) ws i q formed_same g.formed;
        prepared = λ p v x h e. backed-more c ws us there v x (g.prepared p v x h (back p 8 v x e));
        precommitted = λ p v x h e. quorum_more c ws us there (statement 4 v x) (g.precommitted p v x h (back p 10 v x e));
        committed = λ p v x h e. quorum_more c ws us there (statement 5 v x) (g.committed p v x h (back p 12 v x e));
        locked = λ p v x u y h e k n. held_more c ws us there p v u y (g.locked p v x u y h (back p 12 v x e) (back p 8 u y k) n);
        allowed = λ p w h e all. g.allowed p w h (back p 2 0 0 e) (λ r x b k. all r x b (there.sent r 1 0 x k));
        through = λ p e v h k a b. there.entered p v (g.through p e v h (back p 4 e 0 k) a b);
        single = single_same;
        addressed = All-set (λ r. Correct c r.sender → Addressed c leader r) ws i q addressed_same g.addressed;
      }
