-- From shares to the records that sign them. Assumes nothing.
use Rattle.std.proofs.Common.{◌≡◌, ℕ, ◌<◌, true, cond, ◌&&◌, eqb, ◌⊎◌, refl, ap, ◌∙◌, subst, inl, inr, lit<}
use Rattle.std.specs.List.{AllByRecursion}
use Rattle.std.proofs.lemmas.Bool.{and_parts, eqb-true, false≢true}
use Rattle.committee.specs.declared.membership.Committee.{Committee}
use Rattle.register.specs.declared.pair.Statement.{Statement}
use Rattle.register.specs.Pairs.{same_statement}
use Rattle.wire.specs.declared.kind.Kind.{Kind}
use Rattle.wire.specs.declared.kind.Kind.TheVariants.{Disclose, AllowAny, Certificate, EpochCompleted, EnterEpoch, ViewChange, Prepare, PrepareVote, Precommit, PrecommitVote, Commit, CommitVote, Decide}
use Rattle.wire.specs.declared.record.Record.{Record}
use Rattle.wire.specs.Kinds.{kind_number}
use Rattle.wire.specs.Shares.{statement, share_by, share_of}
use Rattle.agreement.specs.Wires.{Wire, Sent, sends}
use Rattle.agreement.specs.Signing.{Signed, signs, is_share}
use Rattle.agreement.specs.Facts.{Formed, Same}
use Rattle.agreement.proofs.Elements.{any-from, any-gives}
use Rattle.agreement.proofs.Records.{sends-from}

-- the number of the kind of record that signs statements whose first number is j
abbrev pub signing_kind : ℕ → ℕ
signing_kind j = cond (eqb j 1) 1 (cond (eqb j 2) 2 (cond (eqb j 3) 4 (cond (eqb j 4) 8 (cond (eqb j 5) 10 12))))

same_parts : (t s : Statement) → same_statement t s ≡ true → (t.kind ≡ s.kind) × (t.number ≡ s.number) × (t.value ≡ s.value)
same_parts t s e =
    let a = and_parts (eqb t.kind s.kind) _ e in
    let b = and_parts (eqb t.number s.number) (eqb t.value s.value) a.1 in
    (eqb-true t.kind s.kind a.0, eqb-true t.number s.number b.0, eqb-true t.value s.value b.1)

-- the statement that is signed has the number and the value of the record
share_parts : (k : Kind) (m x : ℕ) (s : Statement)
    → (kind_number k < 4 → m ≡ 0) → ((kind_number k ≡ 2) ⊎ (kind_number k ≡ 4) → x ≡ 0) → is_share (share_by k m x) s ≡ true
    → (kind_number k ≡ signing_kind s.kind) × (m ≡ s.number) × (x ≡ s.value)
share_parts Disclose m x s early blank e =
    let a = same_parts (statement 1 0 x) s e in (ap signing_kind a.0, early (lit< tt) ∙ a.1, a.2)
share_parts AllowAny m x s early blank e =
    let a = same_parts (statement 2 0 0) s e in (ap signing_kind a.0, early (lit< tt) ∙ a.1, blank (inl refl) ∙ a.2)
share_parts Certificate m x s early blank e = absurd (false≢true e)
share_parts EpochCompleted m x s early blank e =
    let a = same_parts (statement 3 m 0) s e in (ap signing_kind a.0, a.1, blank (inr refl) ∙ a.2)
share_parts EnterEpoch m x s early blank e = absurd (false≢true e)
share_parts ViewChange m x s early blank e = absurd (false≢true e)
share_parts Prepare m x s early blank e = absurd (false≢true e)
share_parts PrepareVote m x s early blank e = let a = same_parts (statement 4 m x) s e in (ap signing_kind a.0, a.1, a.2)
share_parts Precommit m x s early blank e = absurd (false≢true e)
share_parts PrecommitVote m x s early blank e = let a = same_parts (statement 5 m x) s e in (ap signing_kind a.0, a.1, a.2)
share_parts Commit m x s early blank e = absurd (false≢true e)
share_parts CommitVote m x s early blank e = let a = same_parts (statement 6 m x) s e in (ap signing_kind a.0, a.1, a.2)
share_parts Decide m x s early blank e = absurd (false≢true e)

pub signs-parts : (p : ℕ) (s : Statement) (r : Record) → signs p s r ≡ true → (r.sender ≡ p) × (is_share (share_of r) s ≡ true)
unfolding signs
signs-parts p s r e = let a = and_parts (eqb r.sender p) (is_share (share_of r) s) e in (eqb-true r.sender p a.0, a.1)

signs-sends : (c : Committee) (p : ℕ) (s : Statement) (r : Record) → Formed c r → signs p s r ≡ true → sends p (signing_kind s.kind) s.number s.value r ≡ true
signs-sends c p s r form e =
    let a = signs-parts p s r e in
    let b = share_parts r.kind r.number r.value s form.early form.blank a.1 in
    sends-from p (signing_kind s.kind) s.number s.value r a.0 b.0 b.1 b.2

module _ (c : Committee) (ws : Wire) (formed : AllByRecursion (Formed c) ws) (p : ℕ) (s : Statement) where
  -- who has signed a statement has sent a record of the kind that signs it
  pub signed_sent : Signed ws p s → Sent ws p (signing_kind s.kind) s.number s.value
  signed_sent = any-from (Formed c) (signs p s) (sends p (signing_kind s.kind) s.number s.value) ws formed (signs-sends c p s)

  -- and is of the committee
  pub signed_member : Signed ws p s → p < c.n
  signed_member =
      any-gives (Formed c) (p < c.n) (signs p s) ws formed (λ r form e. subst (λ (q : ℕ). q < c.n) (signs-parts p s r e).0 form.sender)

pub same_signs : (p : ℕ) (s : Statement) (r q : Record) → Same r q → signs p s r ≡ signs p s q
unfolding signs
same_signs p s r q h = λ i. eqb (h.sender i) p && is_share (share_by (h.kind i) (h.number i) (h.value i)) s
