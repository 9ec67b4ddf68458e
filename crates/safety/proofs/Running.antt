-- Everything holds along every run, and with it the promises. Assumes nothing.
use Rattle.std.proofs.Common.{◌≡◌, ℕ, ◌+◌, ◌<◌, List, [], ◌∷◌, length, get_or, take, Result, sym, refl, ap, ◌∙◌, subst, arith}
use Rattle.std.proofs.lemmas.Simd.{length-replicate, get_or-replicate}
use Rattle.std.proofs.lemmas.Bool.{false≢true}
use Rattle.refusals.specs.declared.causes.Refusal.{Refusal}
use Rattle.counting.specs.Counts.{any, count_to}
use Rattle.counting.proofs.Sums.{count_none}
use Rattle.committee.specs.declared.membership.Committee.{Committee}
use Rattle.committee.specs.declared.rota.Rota.{Ghosts as RotaMeans}
use Rattle.committee.specs.Thresholds.{weak_quorum_of}
use Rattle.register.specs.declared.ledger.Register.{Ghosts as RegisterMeans}
use Rattle.register.specs.declared.pair.Pair.{Pair}
use Rattle.register.specs.Pairs.{has_pair}
use Rattle.protocol.specs.declared.process.Process.{Process}
use Rattle.protocol.specs.declared.step.Step.{Step}
use Rattle.protocol.specs.declared.step.Answer.{Answer}
use Rattle.protocol.specs.Processes.{blank_process}
use Rattle.protocol.specs.Moments.{Moment}
use Rattle.protocol.specs.Plans.{seat, used_of}
use Rattle.protocol.specs.Runs.{Sitting, moment_of, Makes, New, Move, Onward, Run}
use Rattle.protocol.specs.Runs.Move.{ticks, proposes, expires, delivers, injects}
use Rattle.protocol.specs.Runs.Onward.{here, then}
use Rattle.agreement.specs.Wires.{Wire, Correct, Sent, sends, heard_of}
use Rattle.agreement.specs.Facts.{Facts, Formed}
use Rattle.agreement.specs.Safety.{Safe}
use Rattle.agreement.proofs.Elements.{any-gives}
use Rattle.agreement.proofs.Records.{sends-parts, sent_posted}
use Rattle.agreement.proofs.Growth.{facts_none}
use Rattle.agreement.proofs.Safety.{agreement}
use Rattle.safety.specs.Ties.{Tied}
use Rattle.safety.specs.Kept.{committee_of, Matches, Kept}
use Rattle.safety.specs.Promises.{IsMember, HasDecided, HasProposed, EpochOrder, Agreement, Promise, Promises}
use Rattle.safety.proofs.Moves.{deliver_kept}
use Rattle.safety.proofs.Calls.{tick_kept, propose_kept, expire_kept, inject_kept}
use Rattle.safety.proofs.Deciding.{tick_leaves, propose_leaves, expire_leaves, deliver_leaves, inject_leaves, played-decided, received-decided}

-- ---- a new board and an empty register

tied_new : (c : Committee) (p : ℕ) → Tied c [] p blank_process
unfolding any
tied_new c p =
    record {
      past = λ k m e. absurd (false≢true e);
      told = λ x e. absurd (false≢true e);
      locked = λ h. absurd (omega arith);
      last = λ v x e. absurd (false≢true e);
      armed = λ h. absurd (omega arith);
      spreading = λ h. absurd (omega arith);
      within = omega arith;
      reached = λ e l i. absurd (omega arith);
      chosen = λ h. absurd (omega arith);
    }

heard-none : (p w : ℕ) → count_to (heard_of [] p w) 31 ≡ 0
unfolding any
heard-none p w = count_none 31

no_pairs : (xs : List Pair) → length xs ≡ 0 → Matches (record { has = has_pair xs; size = length xs }) []
unfolding any
no_pairs [] e p s = refl
no_pairs (x ∷ xs) e p s = absurd (omega arith)

module _ {R G : Type 0} (ρ : RotaMeans R) (γ : RegisterMeans G) (law : (r : R) (v : ℕ) → ρ.leader r v < ρ.size r) where
  abbrev leads : Sitting R G → ℕ → ℕ
  leads a = ρ.leader a.board.rota

  new_kept : (a : Sitting R G) → New ρ γ a → Kept (leads a) (moment_of γ a)
  new_kept a new =
      let m = moment_of γ a in
      let c = committee_of m in
      let empty : [] ≡ used_of m = sym (ap (λ (k : ℕ). take k a.wire) new.unused) in
      let blank : (p : ℕ) → p < c.n → blank_process ≡ seat m.table p
      = λ p l. sym (ap (λ (xs : List Process). get_or xs p blank_process) new.still ∙ get_or-replicate 31 p blank_process blank_process (omega (arith, l, c.whole, c.high))) in
      let F : Wire → Type 0 = λ ws. Facts c (leads a) ws in
      let M : Wire → Type 0 = λ ws. Matches m.signed ws in
      record {
        facts = subst F empty (facts_none c (leads a));
        tied = λ p l _.
            let T : Wire → Type 0 = λ ws. Tied c ws p (seat m.table p) in
            let Q : Process → Type 0 = λ q. Tied c [] p q in
            subst T empty (subst Q (blank p l) (tied_new c p));
        capped = λ p l _ _ w.
            let C : Wire → Type 0 = λ ws. count_to (heard_of ws p w) 31 < weak_quorum_of c in
            subst C empty (omega (arith, heard-none p w));
        signed = subst M empty (no_pairs (γ.pairs a.register) new.unsigned);
        used = omega (arith, new.unused);
        seats = ap length new.still ∙ length-replicate 31 blank_process;
      }

  -- ---- one move

  makes_kept : {plan : Result Step Refusal} {m : Moment} {r : Result Answer Refusal} (a b : Sitting R G) → Makes γ plan m a b r → Kept (leads a) m → Kept (leads b) (moment_of γ b)
  makes_kept a b x k =
      let L : R → Type 0 = λ y. Kept (ρ.leader y) (moment_of γ b) in
      subst L (sym x.same) (subst (Kept (leads a)) (sym x.after) k)

  move_kept : (a b : Sitting R G) → Move ρ γ a b → Kept (leads a) (moment_of γ a) → Kept (leads b) (moment_of γ b)
  move_kept a b (ticks p t r x) k = makes_kept a b x (tick_kept (leads a) _ (moment_of γ a) p t k)
  move_kept a b (proposes p y r x) k = makes_kept a b x (propose_kept (leads a) _ _ (moment_of γ a) p y k)
  move_kept a b (expires p t r x) k = makes_kept a b x (expire_kept (leads a) _ _ (moment_of γ a) p t k (law a.board.rota))
  move_kept a b (delivers i p r x) k = makes_kept a b x (deliver_kept (leads a) _ _ (moment_of γ a) p i k (law a.board.rota))
  move_kept a b (injects p d r x) k = makes_kept a b x (inject_kept (leads a) _ _ (moment_of γ a) p d k)

  onward_kept : (a b : Sitting R G) → Onward ρ γ a b → Kept (leads a) (moment_of γ a) → Kept (leads b) (moment_of γ b)
  onward_kept a b here k = k
  onward_kept a b (then {b = d} o x) k = move_kept d b x (onward_kept a d o k)

  run_kept : (b : Sitting R G) → Run ρ γ b → Kept (leads b) (moment_of γ b)
  run_kept b run = onward_kept run.start b run.onward (new_kept run.start run.new)

  -- ---- decisions stay

  makes_decided : {plan : Result Step Refusal} {m : Moment} {r : Result Answer Refusal} (a b : Sitting R G) (o x : ℕ) → Makes γ plan m a b r → HasDecided m.table o x → HasDecided b.board.table o x
  makes_decided a b o x y k =
      let D : Moment → Type 0 = λ m. HasDecided m.table o x in
      subst D (sym y.after) k

  move_decided : (a b : Sitting R G) (o x : ℕ) → Move ρ γ a b → Kept (leads a) (moment_of γ a) → o < 31 → HasDecided a.board.table o x → HasDecided b.board.table o x
  move_decided a b o x move kept short k = go move
    where
      m : Moment
      m = moment_of γ a

      lt : o < length m.table.processes
      lt = omega (arith, short, kept.seats)

      go : Move ρ γ a b → HasDecided b.board.table o x
      go (ticks p t r y) = makes_decided a b o x y (k.0, played-decided _ p o x m lt (tick_leaves _ m p t) k.0 k.1)
      go (proposes p z r y) = makes_decided a b o x y (k.0, played-decided _ p o x m lt (propose_leaves _ _ m p z) k.0 k.1)
      go (expires p t r y) = makes_decided a b o x y (k.0, played-decided _ p o x m lt (expire_leaves (leads a) _ _ m p t) k.0 k.1)
      go (delivers i p r y) = makes_decided a b o x y (k.0, received-decided _ p i o x m lt (deliver_leaves (leads a) _ _ m p i) k.0 k.1)
      go (injects p d r y) = makes_decided a b o x y (k.0, played-decided _ p o x m lt (inject_leaves _ _ m p d) k.0 k.1)

  onward_decided : (a b : Sitting R G) (o x : ℕ) → Onward ρ γ a b → Kept (leads a) (moment_of γ a) → o < 31 → HasDecided a.board.table o x → HasDecided b.board.table o x
  onward_decided a b o x here kept short k = k
  onward_decided a b o x (then {b = d} n y) kept short k = move_decided d b o x y (onward_kept a d n kept) short (onward_decided a d o x n kept short k)

  -- ---- the promises

  module _ (b : Sitting R G) (kept : Kept (leads b) (moment_of γ b)) where
    abbrev now : Moment
    now = moment_of γ b

    abbrev council : Committee
    council = committee_of now

    abbrev ws : Wire
    ws = used_of now

    safe : Safe council (leads b) ws
    safe = agreement council (leads b) ws kept.facts

    order : EpochOrder council now.table ws
    order p e is one at =
        let s = safe.epochs e ((kept.tied p is.0 is.1).reached e one at) in
        (s.0, s.1, λ o i. let z = s.2 o i in ((z.1, z.0), z.2, z.3))

    agreed : Agreement council now.table
    agreed p o x y ip io dp do' =
        let cp = (kept.tied p ip.0 ip.1).chosen (omega (arith, dp.0, dp.1)) in
        let co = (kept.tied o io.0 io.1).chosen (omega (arith, do'.0, do'.1)) in
        sym dp.1 ∙ safe.decided cp.0 co.0 _ _ cp.1 co.1 ∙ do'.1

    proposed : (o y : ℕ) → Correct council o → Sent ws o 1 0 y → IsMember council o × HasProposed now.table o y
    proposed o y right sent =
        let lt : o < council.n
        = any-gives (Formed council) (o < council.n) (sends o 1 0 y) ws kept.facts.formed (λ r formed e. omega (arith, formed.sender, (sends-parts o 1 0 y r e).0)) sent in
        let tied = kept.tied o lt right in
        ((lt, right), ((tied.past 1 0 (sent_posted ws o 1 0 y sent)).disclosed refl, sym (tied.told y sent)))

    shared : (w : ℕ) → ((o x : ℕ) → IsMember council o → HasProposed now.table o x → x ≡ w) → (p x : ℕ) → IsMember council p → HasDecided now.table p x → x ≡ w
    shared w all p x is d =
        let chosen = (kept.tied p is.0 is.1).chosen (omega (arith, d.0, d.1)) in
        sym d.1 ∙ safe.sound chosen.0 _ w (λ o y right sent. let z = proposed o y right sent in all o y z.0 z.1) chosen.1

    promise : Promise ρ γ b
    promise =
        record {
          order = order;
          agreement = agreed;
          unanimity = record {
            shared = shared;
            unproposed = λ none p x is d. let e = shared (x + 1) (λ o y io po. absurd (none o y io po)) p x is d in absurd (omega (arith, e));
          };
          words = record { certification = safe.first; epoch = safe.each };
          stable = λ d onward p x is k. onward_decided b d p x onward kept (omega (arith, is.0, council.whole, council.high)) k;
        }

  pub promises : Promises ρ γ
  promises b run = promise b (run_kept b run)
