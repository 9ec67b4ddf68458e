-- What each kind of record says of its sender's fields, kind by kind. Assumes nothing.
use Rattle.std.proofs.Common.{◌≡◌, ℕ, ◌≤◌, true, false, arith}
use Rattle.protocol.specs.declared.process.Process.{Process}
use Rattle.protocol.specs.Processes.{idle, running}
use Rattle.safety.specs.Ties.{Reached, Past}

module _ (q : Process) (m : ℕ) where
  pub past_1 : idle q.certification.phase ≡ false → Past q 1 m
  past_1 h =
      record {
        disclosed = λ _. h;
        allowed = λ e. absurd (omega arith);
        certified = λ e. absurd (omega arith);
        completed = λ e. absurd (omega arith);
        entered = λ e. absurd (omega arith);
        viewed = λ e. absurd (omega arith);
        prepare = λ e. absurd (omega arith);
        prepared = λ e. absurd (omega arith);
        precommit = λ e. absurd (omega arith);
        precommitted = λ e. absurd (omega arith);
        commit = λ e. absurd (omega arith);
        committed = λ e. absurd (omega arith);
        decide = λ e. absurd (omega arith);
      }

  pub past_2 : q.certification.allowed ≡ true → Past q 2 m
  past_2 h =
      record {
        disclosed = λ e. absurd (omega arith);
        allowed = λ _. h;
        certified = λ e. absurd (omega arith);
        completed = λ e. absurd (omega arith);
        entered = λ e. absurd (omega arith);
        viewed = λ e. absurd (omega arith);
        prepare = λ e. absurd (omega arith);
        prepared = λ e. absurd (omega arith);
        precommit = λ e. absurd (omega arith);
        precommitted = λ e. absurd (omega arith);
        commit = λ e. absurd (omega arith);
        committed = λ e. absurd (omega arith);
        decide = λ e. absurd (omega arith);
      }

  pub past_3 : running q.certification.phase ≡ true → Past q 3 m
  past_3 h =
      record {
        disclosed = λ e. absurd (omega arith);
        allowed = λ e. absurd (omega arith);
        certified = λ _. h;
        completed = λ e. absurd (omega arith);
        entered = λ e. absurd (omega arith);
        viewed = λ e. absurd (omega arith);
        prepare = λ e. absurd (omega arith);
        prepared = λ e. absurd (omega arith);
        precommit = λ e. absurd (omega arith);
        precommitted = λ e. absurd (omega arith);
        commit = λ e. absurd (omega arith);
        committed = λ e. absurd (omega arith);
        decide = λ e. absurd (omega arith);
      }

  pub past_4 : (m ≤ q.synchronizer.epoch) × (m ≡ q.synchronizer.epoch → (q.synchronizer.due ≡ 0) × (q.synchronizer.spread ≡ 0)) → Past q 4 m
  past_4 h =
      record {
        disclosed = λ e. absurd (omega arith);
        allowed = λ e. absurd (omega arith);
        certified = λ e. absurd (omega arith);
        completed = λ _. h;
        entered = λ e. absurd (omega arith);
        viewed = λ e. absurd (omega arith);
        prepare = λ e. absurd (omega arith);
        prepared = λ e. absurd (omega arith);
        precommit = λ e. absurd (omega arith);
        precommitted = λ e. absurd (omega arith);
        commit = λ e. absurd (omega arith);
        committed = λ e. absurd (omega arith);
        decide = λ e. absurd (omega arith);
      }

  pub past_5 : (m ≤ q.synchronizer.epoch) × (m ≡ q.synchronizer.epoch → q.synchronizer.spread ≡ 0) → Past q 5 m
  past_5 h =
      record {
        disclosed = λ e. absurd (omega arith);
        allowed = λ e. absurd (omega arith);
        certified = λ e. absurd (omega arith);
        completed = λ e. absurd (omega arith);
        entered = λ _. h;
        viewed = λ e. absurd (omega arith);
        prepare = λ e. absurd (omega arith);
        prepared = λ e. absurd (omega arith);
        precommit = λ e. absurd (omega arith);
        precommitted = λ e. absurd (omega arith);
        commit = λ e. absurd (omega arith);
        committed = λ e. absurd (omega arith);
        decide = λ e. absurd (omega arith);
      }

  pub past_6 : m ≤ q.core.view → Past q 6 m
  past_6 h =
      record {
        disclosed = λ e. absurd (omega arith);
        allowed = λ e. absurd (omega arith);
        certified = λ e. absurd (omega arith);
        completed = λ e. absurd (omega arith);
        entered = λ e. absurd (omega arith);
        viewed = λ _. h;
        prepare = λ e. absurd (omega arith);
        prepared = λ e. absurd (omega arith);
        precommit = λ e. absurd (omega arith);
        precommitted = λ e. absurd (omega arith);
        commit = λ e. absurd (omega arith);
        committed = λ e. absurd (omega arith);
        decide = λ e. absurd (omega arith);
      }

  pub past_7 : Reached m q.core.view 1 q.core.lead → Past q 7 m
  past_7 h =
      record {
        disclosed = λ e. absurd (omega arith);
        allowed = λ e. absurd (omega arith);
        certified = λ e. absurd (omega arith);
        completed = λ e. absurd (omega arith);
        entered = λ e. absurd (omega arith);
        viewed = λ e. absurd (omega arith);
        prepare = λ _. h;
        prepared = λ e. absurd (omega arith);
        precommit = λ e. absurd (omega arith);
        precommitted = λ e. absurd (omega arith);
        commit = λ e. absurd (omega arith);
        committed = λ e. absurd (omega arith);
        decide = λ e. absurd (omega arith);
      }

  pub past_8 : Reached m q.core.view 1 q.core.step → Past q 8 m
  past_8 h =
      record {
        disclosed = λ e. absurd (omega arith);
        allowed = λ e. absurd (omega arith);
        certified = λ e. absurd (omega arith);
        completed = λ e. absurd (omega arith);
        entered = λ e. absurd (omega arith);
        viewed = λ e. absurd (omega arith);
        prepare = λ e. absurd (omega arith);
        prepared = λ _. h;
        precommit = λ e. absurd (omega arith);
        precommitted = λ e. absurd (omega arith);
        commit = λ e. absurd (omega arith);
        committed = λ e. absurd (omega arith);
        decide = λ e. absurd (omega arith);
      }

  pub past_9 : Reached m q.core.view 2 q.core.lead → Past q 9 m
  past_9 h =
      record {
        disclosed = λ e. absurd (omega arith);
        allowed = λ e. absurd (omega arith);
        certified = λ e. absurd (omega arith);
        completed = λ e. absurd (omega arith);
        entered = λ e. absurd (omega arith);
        viewed = λ e. absurd (omega arith);
        prepare = λ e. absurd (omega arith);
        prepared = λ e. absurd (omega arith);
        precommit = λ _. h;
        precommitted = λ e. absurd (omega arith);
        commit = λ e. absurd (omega arith);
        committed = λ e. absurd (omega arith);
        decide = λ e. absurd (omega arith);
      }

  pub past_10 : Reached m q.core.view 2 q.core.step → Past q 10 m
  past_10 h =
      record {
        disclosed = λ e. absurd (omega arith);
        allowed = λ e. absurd (omega arith);
        certified = λ e. absurd (omega arith);
        completed = λ e. absurd (omega arith);
        entered = λ e. absurd (omega arith);
        viewed = λ e. absurd (omega arith);
        prepare = λ e. absurd (omega arith);
        prepared = λ e. absurd (omega arith);
        precommit = λ e. absurd (omega arith);
        precommitted = λ _. h;
        commit = λ e. absurd (omega arith);
        committed = λ e. absurd (omega arith);
        decide = λ e. absurd (omega arith);
      }

  pub past_11 : Reached m q.core.view 3 q.core.lead → Past q 11 m
  past_11 h =
      record {
        disclosed = λ e. absurd (omega arith);
        allowed = λ e. absurd (omega arith);
        certified = λ e. absurd (omega arith);
        completed = λ e. absurd (omega arith);
        entered = λ e. absurd (omega arith);
        viewed = λ e. absurd (omega arith);
        prepare = λ e. absurd (omega arith);
        prepared = λ e. absurd (omega arith);
        precommit = λ e. absurd (omega arith);
        precommitted = λ e. absurd (omega arith);
        commit = λ _. h;
        committed = λ e. absurd (omega arith);
        decide = λ e. absurd (omega arith);
      }

  pub past_12 : Reached m q.core.view 3 q.core.step → Past q 12 m
  past_12 h =
      record {
        disclosed = λ e. absurd (omega arith);
        allowed = λ e. absurd (omega arith);
        certified = λ e. absurd (omega arith);
        completed = λ e. absurd (omega arith);
        entered = λ e. absurd (omega arith);
        viewed = λ e. absurd (omega arith);
        prepare = λ e. absurd (omega arith);
        prepared = λ e. absurd (omega arith);
        precommit = λ e. absurd (omega arith);
        precommitted = λ e. absurd (omega arith);
        commit = λ e. absurd (omega arith);
        committed = λ _. h;
        decide = λ e. absurd (omega arith);
      }

  pub past_13 : Reached m q.core.view 4 q.core.lead → Past q 13 m
  past_13 h =
      record {
        disclosed = λ e. absurd (omega arith);
        allowed = λ e. absurd (omega arith);
        certified = λ e. absurd (omega arith);
        completed = λ e. absurd (omega arith);
        entered = λ e. absurd (omega arith);
        viewed = λ e. absurd (omega arith);
        prepare = λ e. absurd (omega arith);
        prepared = λ e. absurd (omega arith);
        precommit = λ e. absurd (omega arith);
        precommitted = λ e. absurd (omega arith);
        commit = λ e. absurd (omega arith);
        committed = λ e. absurd (omega arith);
        decide = λ _. h;
      }
