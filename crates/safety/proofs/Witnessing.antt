-- Two runs, played on the definitions: one that decides, and one that reaches epoch 2. Assumes nothing.
use Rattle.std.proofs.Common.{◌≡◌, ℕ, ◌+◌, ◌%◌, Bool, true, false, cond, ◌&&◌, ◌||◌, eqb, List, [], ◌∷◌, ◌++◌, length, replicate, Some, None, Ok, Err, Option, Result, sym, refl, ap, ◌∙◌, ap₂, inl, inr, arith}
use mathlib.Core.Path.{fun_ext}
use Rattle.std.proofs.lemmas.Bool.{and_parts, eqb-true, false≢true, cases_Bool}
use Rattle.std.proofs.lemmas.List.{length_push}
use Rattle.refusals.specs.declared.causes.Refusal.{Refusal}
use Rattle.counting.specs.Counts.{any, sum_to}
use Rattle.counting.proofs.Booleans.{or_false}
use Rattle.register.specs.declared.pair.Statement.{Statement}
use Rattle.register.specs.declared.pair.Pair.{Pair}
use Rattle.register.specs.Pairs.{same_statement, has_pair}
use Rattle.register.specs.Rows.{pair_of}
use Rattle.register.specs.Signing.{has_push, same_is}
use Rattle.wire.specs.declared.record.Record.{Record}
use Rattle.wire.specs.Shares.{share_of}
use Rattle.protocol.specs.declared.step.Step.{Step}
use Rattle.protocol.specs.Processes.{blank_process}
use Rattle.protocol.specs.Steps.{is_heed}
use Rattle.protocol.specs.Moments.{Signed, Moment, moment, signed_of, with_pair, with_statement, noted, done, marked, played, received, told, no_record}
use Rattle.protocol.specs.Plans.{best_from, tick_plan, propose_plan, expire_plan, deliver_plan}
use Rattle.protocol.specs.Runs.{Sitting, sitting, moment_of, Makes, Move, Onward, New}
use Rattle.protocol.specs.Runs.Move.{ticks, proposes, expires, delivers}
use Rattle.protocol.specs.Runs.Onward.{here, then}
use Rattle.safety.specs.Witnesses.{in_turn, pairs_held, four, SomeDecide, SomeAdvance}

-- ---- a list of pairs as a register

abbrev put : ℕ → Statement → List Pair → List Pair
put p s xs = cond (has_pair xs p s) xs (xs ++ pair_of p s ∷ [])

abbrev signed_by : (ℕ → Statement → Bool) → ℕ → Signed
signed_by has size = record { has = has; size = size }

held-has : (xs : List Pair) (p q : ℕ) (s t : Statement) → has_pair xs p s ≡ true → has_pair xs q t ≡ (has_pair xs q t || (eqb p q && same_statement s t))
held-has xs p q s t held =
    elim (cases_Bool (eqb p q && same_statement s t)) [
      | inl e ↦
          let parts = and_parts (eqb p q) (same_statement s t) e in
          let is : has_pair xs q t ≡ true
          = sym (ap₂ (has_pair xs) (eqb-true p q parts.0) (same_is s t parts.1)) ∙ held in
          is ∙ sym (ap (λ (b : Bool). b || (eqb p q && same_statement s t)) is)
      | inr e ↦ sym (or_false (has_pair xs q t) (eqb p q && same_statement s t) e)
    ]

put-signed : (xs : List Pair) (p : ℕ) (s : Statement) → signed_of (put p s xs) ≡ with_pair p s (signed_of xs)
put-signed xs p s = by (has_pair xs p s) refl
  where
    by : (b : Bool) → has_pair xs p s ≡ b
        → signed_of (cond b xs (xs ++ pair_of p s ∷ [])) ≡ signed_by (λ q t. has_pair xs q t || (eqb p q && same_statement s t)) (length xs + cond b 0 1)
    by true e = ap₂ signed_by (fun_ext (λ q. fun_ext (λ t. held-has xs p q s t e))) (omega arith)
    by false e = ap₂ signed_by (fun_ext (λ q. fun_ext (λ t. has_push xs (pair_of p s) q t))) (length_push xs (pair_of p s))

abbrev put_share : Option Statement → ℕ → List Pair → List Pair
put_share None p xs = xs
put_share (Some s) p xs = put p s xs

share_signed : (o : Option Statement) (p : ℕ) (xs : List Pair) → signed_of (put_share o p xs) ≡ with_statement o p (signed_of xs)
share_signed None p xs = refl
share_signed (Some s) p xs = put-signed xs p s

abbrev put_record : Option Record → List Pair → List Pair
put_record None xs = xs
put_record (Some r) xs = put_share (share_of r) r.sender xs

noted-signed : (o : Option Record) (xs : List Pair) (m : Moment) → signed_of xs ≡ m.signed → signed_of (put_record o xs) ≡ (noted o m).signed
noted-signed None xs m e = e
noted-signed (Some r) xs m e = share_signed (share_of r) r.sender xs ∙ ap (with_statement (share_of r) r.sender) e

abbrev put_step : Result Step Refusal → List Pair → List Pair
put_step (Err e) xs = xs
put_step (Ok z) xs = put_record z.second (put_record z.first xs)

done-signed : (z : Step) (p : ℕ) (xs : List Pair) (m : Moment) → signed_of xs ≡ m.signed → signed_of (put_step (Ok z) xs) ≡ (done p z m).signed
done-signed z p xs m e = noted-signed z.second _ _ (noted-signed z.first xs _ e)

-- ---- a move played on it

abbrev Played : Type 0
Played = Sitting (Unit {0}) (List Pair)

abbrev left : Result Step Refusal → Moment → Played → Played
left plan m a = sitting (record { table = m.table; rota = a.board.rota }) m.wire (put_step plan a.register)

played-makes : (plan : Result Step Refusal) (p : ℕ) (a : Played)
    → let m = played plan p (moment_of pairs_held a) in Makes pairs_held plan m a (left plan m a) (told plan)
played-makes (Err e) p a = record { answer = refl; after = refl; same = refl; stays = λ _. refl }
played-makes (Ok z) p a =
    let m = done p z (moment_of pairs_held a) in
    record { answer = refl; after = ap (moment m.table m.wire) (done-signed z p a.register (moment_of pairs_held a) refl); same = refl; stays = λ e. absurd (false≢true (sym e)) }

received-makes : (plan : Result Step Refusal) (p i : ℕ) (a : Played)
    → let m = received plan p i (moment_of pairs_held a) in Makes pairs_held plan m a (left plan m a) (told plan)
received-makes (Err e) p i a = record { answer = refl; after = refl; same = refl; stays = λ _. refl }
received-makes (Ok z) p i a =
    let got = moment a.board.table (marked p i (is_heed z.answer) a.wire) (signed_of a.register) in
    let m = done p z got in
    record { answer = refl; after = ap (moment m.table m.wire) (done-signed z p a.register got refl); same = refl; stays = λ e. absurd (false≢true (sym e)) }

-- the moves that the two runs are made of
data Call : Type 0 where
  propose : ℕ → ℕ → Call
  tick : ℕ → ℕ → Call
  expire : ℕ → ℕ → Call
  deliver : ℕ → ℕ → Call

abbrev after : Call → Played → Played
after (propose p x) a = let m = moment_of pairs_held a in let plan = propose_plan 4 2048 m p x in left plan (played plan p m) a
after (tick p k) a = let m = moment_of pairs_held a in let plan = tick_plan 4 m p k in left plan (played plan p m) a
after (expire p t) a = let m = moment_of pairs_held a in let plan = expire_plan (λ v. v % 4) 4 2048 m p t in left plan (played plan p m) a
after (deliver i p) a = let m = moment_of pairs_held a in let plan = deliver_plan (λ v. v % 4) 4 2048 m p i in left plan (received plan p i m) a

move : (c : Call) (a : Played) → Move in_turn pairs_held a (after c a)
move (propose p x) a = proposes p x _ (played-makes _ p a)
move (tick p k) a = ticks p k _ (played-makes _ p a)
move (expire p t) a = expires p t _ (played-makes _ p a)
move (deliver i p) a = delivers i p _ (received-makes _ p i a)

unfoldable plays : List Call → Played → Played
plays [] a = a
plays (c ∷ cs) a = plays cs (after c a)

onward : (cs : List Call) (a b : Played) → Onward in_turn pairs_held a b → Onward in_turn pairs_held a (plays cs b)
unfolding plays
onward [] a b o = o
onward (c ∷ cs) a b o = onward cs a (after c b) (then o (move c b))

-- ---- the two runs

start : Played
start = sitting (record { table = record { setting = record { committee = four; delay = 10; overlap = 5 }; processes = replicate 31 blank_process; used = 0 }; rota = tt }) (replicate 32 no_record) []

new : New in_turn pairs_held start
unfolding start four
new = record { still = refl; unused = refl; timely = refl; fitting = refl; unsigned = refl }

-- three processes propose 7, and each begins with the disclosures of the first two
abbrev certifying : List Call
certifying = propose 0 7 ∷ propose 1 7 ∷ propose 2 7 ∷ deliver 0 0 ∷ deliver 1 0 ∷ deliver 0 1 ∷ deliver 1 1 ∷ deliver 0 2 ∷ deliver 1 2 ∷ []

-- process 1 leads view 1 to its decision
abbrev deciding : List Call
deciding = deliver 4 1 ∷ deliver 6 1 ∷ deliver 8 1 ∷ deliver 9 0 ∷ deliver 9 1 ∷ deliver 9 2 ∷ deliver 10 1 ∷ deliver 11 1 ∷ deliver 12 1 ∷ deliver 13 0 ∷ deliver 13 1 ∷ deliver 13 2 ∷ deliver 14 1 ∷ deliver 15 1 ∷ deliver 16 1 ∷ deliver 17 0 ∷ deliver 17 1 ∷ deliver 17 2 ∷ deliver 18 1 ∷ deliver 19 1 ∷ deliver 20 1 ∷ deliver 21 0 ∷ deliver 21 1 ∷ []

-- three processes let both views of epoch 1 expire, and process 0 hears of it
abbrev completing : List Call
completing = tick 0 25 ∷ expire 0 1 ∷ tick 0 25 ∷ expire 0 1 ∷ tick 1 25 ∷ expire 1 1 ∷ tick 1 25 ∷ expire 1 1 ∷ tick 2 25 ∷ expire 2 1 ∷ tick 2 25 ∷ expire 2 1 ∷ deliver 10 0 ∷ deliver 12 0 ∷ deliver 14 0 ∷ []

pub some_decide : SomeDecide
unfolding any sum_to best_from plays start four
some_decide =
    record {
      end = plays (certifying ++ deciding) start;
      run = record { start = start; new = new; onward = onward (certifying ++ deciding) start start here };
      one = 0;
      other = 1;
      value = 7;
      two = omega arith;
      members = ((omega arith, refl), (omega arith, refl));
      decided = ((omega arith, refl), (omega arith, refl));
    }

pub some_advance : SomeAdvance
unfolding any sum_to best_from plays start four
some_advance =
    record {
      end = plays (certifying ++ completing) start;
      run = record { start = start; new = new; onward = onward (certifying ++ completing) start start here };
      one = 0;
      member = (omega arith, refl);
      epoch = refl;
    }

-- the value that the first decides
pub decide_seven : some_decide.value ≡ 7
unfolding some_decide
decide_seven = refl
