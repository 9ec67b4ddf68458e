-- Carrying out a good step keeps everything. Assumes nothing.
use Rattle.std.proofs.Common.{◌≡◌, ℕ, ◌+◌, ◌<◌, ◌≢◌, [], ◌∷◌, ◌++◌, length, get_or, set, Some, None, Option, sym, refl, ap, ◌∙◌, subst, inl, inr, arith, length-set, get_or-set_other, get_or-set_same}
use Rattle.std.proofs.lemmas.Bool.{cases_eq}
use Rattle.counting.specs.Counts.{count_to}
use Rattle.committee.specs.declared.membership.Committee.{Committee}
use Rattle.committee.specs.Thresholds.{weak_quorum_of}
use Rattle.wire.specs.declared.record.Record.{Record}
use Rattle.protocol.specs.declared.process.Process.{Process}
use Rattle.protocol.specs.Processes.{blank_process}
use Rattle.protocol.specs.Moments.{Moment, moment, seated, appended, noted, with_share}
use Rattle.protocol.specs.Plans.{seat, used_of}
use Rattle.agreement.specs.Wires.{Wire, Correct, heard_of}
use Rattle.agreement.specs.Facts.{Facts}
use Rattle.agreement.proofs.Growth.{facts_push}
use Rattle.safety.specs.Ties.{Tied, Capped}
use Rattle.safety.specs.Kept.{committee_of, Matches, KeptBut, Kept, Sendable, Good, Room}
use Rattle.safety.proofs.Lasting.{tied_other}
use Rattle.safety.proofs.Appending.{used_more, matches_push, cap_push}

-- ---- one record more

module _ (leader : ℕ → ℕ) (p : ℕ) (m : Moment) (r : Record) (k : KeptBut leader p m) (g : Sendable (committee_of m) leader (used_of m) p r) (free : m.table.used < length m.wire) where
  pub used_append : used_of (appended r m) ≡ used_of m ++ (r ∷ [])
  used_append = used_more m.wire m.table.used r free

  pub but_append : KeptBut leader p (appended r m)
  but_append =
      let c = committee_of m in
      let e = sym used_append in
      let F : Wire → Type 0 = λ ws. Facts c leader ws in
      let M : Wire → Type 0 = λ ws. Matches (with_share r m.signed) ws in
      record {
        facts = subst F e (facts_push c leader (used_of m) r k.facts g.formed (λ h. g.lawful (subst (Correct c) g.sender h)));
        tied = λ o l h n.
            let T : Wire → Type 0 = λ ws. Tied c ws o (seat m.table o) in
            subst T e (tied_other c (used_of m) o (seat m.table o) r (λ i. n (sym i ∙ g.sender)) (k.tied o l h n));
        capped = λ o l h n rests w.
            let C : Wire → Type 0 = λ ws. count_to (heard_of ws o w) 31 < weak_quorum_of c in
            subst C e (omega (arith, cap_push c (used_of m) r o w g.new, k.capped o l h n rests w));
        signed = subst M e (matches_push m.signed (used_of m) r k.signed);
        used = omega (arith, length-set m.wire m.table.used r);
        seats = k.seats;
      }

-- ---- the process takes its new fields

pub but : (leader : ℕ → ℕ) (p : ℕ) (m : Moment) → Kept leader m → KeptBut leader p m
but leader p m k =
    record { facts = k.facts; tied = λ o l h _. k.tied o l h; capped = λ o l h _. k.capped o l h; signed = k.signed; used = k.used; seats = k.seats }

pub but_seated : (leader : ℕ → ℕ) (p : ℕ) (m : Moment) (u : Process) → KeptBut leader p m → KeptBut leader p (moment (seated p u m.table) m.wire m.signed)
but_seated leader p m u k =
    let other : (o : ℕ) → (o ≡ p → ⊥) → seat m.table o ≡ get_or (set m.table.processes p u) o blank_process
    = λ o n. let ne : o ≢ p = n in sym (rw get_or-set_other) in
    record {
      facts = k.facts;
      tied = λ o l h n. let T : Process → Type 0 = λ q. Tied (committee_of m) (used_of m) o q in subst T (other o n) (k.tied o l h n);
      capped = λ o l h n. let C : Process → Type 0 = λ q. Capped (committee_of m) (used_of m) o q in subst C (other o n) (k.capped o l h n);
      signed = k.signed;
      used = k.used;
      seats = length-set m.table.processes p u ∙ k.seats;
    }

-- ---- and its own ties come back

pub restore : (leader : ℕ → ℕ) (p : ℕ) (m : Moment) → KeptBut leader p m
    → (Correct (committee_of m) p → Tied (committee_of m) (used_of m) p (seat m.table p))
    → (Correct (committee_of m) p → Capped (committee_of m) (used_of m) p (seat m.table p)) → Kept leader m
restore leader p m k t d =
    record {
      facts = k.facts;
      tied = λ o l h. elim (cases_eq o p) [
        | inl e ↦ let T : ℕ → Type 0 = λ x. Correct (committee_of m) x → Tied (committee_of m) (used_of m) x (seat m.table x) in subst T (sym e) t h
        | inr n ↦ k.tied o l h n
      ];
      capped = λ o l h. elim (cases_eq o p) [
        | inl e ↦ let T : ℕ → Type 0 = λ x. Correct (committee_of m) x → Capped (committee_of m) (used_of m) x (seat m.table x) in subst T (sym e) d h
        | inr n ↦ k.capped o l h n
      ];
      signed = k.signed;
      used = k.used;
      seats = k.seats;
    }

-- ---- a whole step

pub capped_push : (c : Committee) (ws : Wire) (p : ℕ) (u : Process) (leader : ℕ → ℕ) (vs : Wire) (r : Record) → Sendable c leader vs p r → Capped c ws p u → Capped c (ws ++ (r ∷ [])) p u
capped_push c ws p u leader vs r g h rests w = omega (arith, cap_push c ws r p w g.new, h rests w)

module _ (leader : ℕ → ℕ) (p : ℕ) (m : Moment) (u : Process) (k : KeptBut leader p m) (member : p < (committee_of m).n) (cap : Correct (committee_of m) p → Capped (committee_of m) (used_of m) p u) where
  abbrev c : Committee
  c = committee_of m

  abbrev sat : Moment
  sat = moment (seated p u m.table) m.wire m.signed

  in_seat : u ≡ get_or (set m.table.processes p u) p blank_process
  in_seat = let lt : p < length m.table.processes = omega (arith, member, c.whole, c.high, k.seats) in sym (rw get_or-set_same)

  -- ties of the process at the end, on the wire that the used records have become
  back : (x : Moment) (vs : Wire) → KeptBut leader p x → committee_of x ≡ c → used_of x ≡ vs → seat x.table p ≡ u
      → (Correct c p → Tied c vs p u) → (Correct c p → Capped c vs p u) → Kept leader x
  back x vs rest same used field t d =
      restore leader p x rest
      (subst (λ (z : Committee). Correct z p → Tied z (used_of x) p (seat x.table p)) (sym same)
      (subst (λ (ws : Wire). Correct c p → Tied c ws p (seat x.table p)) (sym used) (subst (λ (q : Process). Correct c p → Tied c vs p q) (sym field) t)))
      (subst (λ (z : Committee). Correct z p → Capped z (used_of x) p (seat x.table p)) (sym same)
      (subst (λ (ws : Wire). Correct c p → Capped c ws p (seat x.table p)) (sym used) (subst (λ (q : Process). Correct c p → Capped c vs p q) (sym field) d)))

  pub kept_done : (first second : Option Record) → Good c leader (used_of m) p u first second → Room m first → Kept leader (noted second (noted first sat))
  kept_done None None good room = back sat (used_of m) (but_seated leader p m u k) refl refl (sym in_seat) good cap
  kept_done None (Some z) good room = absurd good
  kept_done (Some r) None good room =
      let seat-but = but_seated leader p m u k in
      let free : m.table.used < length m.wire = omega arith in
      back (appended r sat) (used_of m ++ (r ∷ [])) (but_append leader p sat r seat-but good.0 free) refl (used_append leader p sat r seat-but good.0 free) (sym in_seat)
      good.1 (λ h. capped_push c (used_of m) p u leader (used_of m) r good.0 (cap h))
  kept_done (Some r) (Some z) good room =
      let seat-but = but_seated leader p m u k in
      let free : m.table.used < length m.wire = omega arith in
      let one = but_append leader p sat r seat-but good.0 free in
      let e = used_append leader p sat r seat-but good.0 free in
      let S : Wire → Type 0 = λ ws. Sendable c leader ws p z in
      let sendable = subst S (sym e) good.1 in
      let free2 : m.table.used + 1 < length (set m.wire m.table.used r) = omega (arith, length-set m.wire m.table.used r) in
      back (appended z (appended r sat)) ((used_of m ++ (r ∷ [])) ++ (z ∷ []))
      (but_append leader p (appended r sat) z one sendable free2) refl
      (used_append leader p (appended r sat) z one sendable free2 ∙ ap (λ (ws : Wire). ws ++ (z ∷ [])) e) (sym in_seat)
      good.2 (λ h. capped_push c (used_of m ++ (r ∷ [])) p u leader (used_of m ++ (r ∷ [])) z good.1 (capped_push c (used_of m) p u leader (used_of m) r good.0 (cap h)))
