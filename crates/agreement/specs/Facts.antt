-- What stays true of a wire, whatever is appended to it. Assumes nothing.
--   Formed c r               the sender is of the committee; kinds 1 to 3 have no number and the others have one; kinds 2 and 4 have no value
--   ToLeader k, ByLeader k   the kinds that go to the leader of a view, and those that come from it
--   Addressed c leader r     the record goes to as many as its kind may
--   Backed c ws v x          the value x may be voted for in view v: it is certified, or prepared in an earlier view
--   Held c ws p v u y        the lock of process p, from view v on, lets it vote for the value y in view u
--   Facts c leader ws        what correct processes have sent; `leader` names the leader of each view
--   Lawful c leader ws r     what a correct process keeps to as it appends the record
--   Same r q                 the records agree in all that the facts speak of: they may differ in got, heeded, back and vouch
use Rattle.std.specs.Prelude.{◌≡◌, ℕ, ◌<◌, ◌≤◌, false, ◌⊎◌, count_by}
use Rattle.std.specs.List.{AllByRecursion}
use Rattle.counting.specs.Counts.{any}
use Rattle.committee.specs.declared.membership.Committee.{Committee}
use Rattle.committee.specs.Sets.{size}
use Rattle.committee.specs.Views.{epoch_of}
use Rattle.wire.specs.declared.record.Record.{Record}
use Rattle.wire.specs.Kinds.{kind_number}
use Rattle.wire.specs.Shares.{statement}
use Rattle.agreement.specs.Wires.{Wire, Correct, Sent, Entered, posts}
use Rattle.agreement.specs.Signing.{Quorum, Certified}

pub record Formed (c : Committee) (r : Record) : Type 0 where
  pub sender : r.sender < c.n
  pub early : kind_number r.kind < 4 → r.number ≡ 0
  pub late : 4 ≤ kind_number r.kind → 1 ≤ r.number
  pub blank : (kind_number r.kind ≡ 2) ⊎ (kind_number r.kind ≡ 4) → r.value ≡ 0

abbrev pub ToLeader : ℕ → Type 0
ToLeader k = (k ≡ 6) ⊎ ((k ≡ 8) ⊎ ((k ≡ 10) ⊎ (k ≡ 12)))

abbrev pub ByLeader : ℕ → Type 0
ByLeader k = (k ≡ 7) ⊎ ((k ≡ 9) ⊎ ((k ≡ 11) ⊎ (k ≡ 13)))

pub record Addressed (c : Committee) (leader : ℕ → ℕ) (r : Record) : Type 0 where
  pub few : size r.to ≤ c.n
  pub one : ToLeader (kind_number r.kind) → size r.to ≡ 1
  pub led : ByLeader (kind_number r.kind) → r.sender ≡ leader r.number

abbrev pub Backed : Committee → Wire → ℕ → ℕ → Type 0
Backed c ws v x = Certified c ws x ⊎ ((b : ℕ) × (1 ≤ b) × (b < v) × Quorum c ws (statement 4 b x))

-- y is the value of a commit vote of p since v, or was prepared after that vote
abbrev pub Held : Committee → Wire → ℕ → ℕ → ℕ → ℕ → Type 0
Held c ws p v u y =
    (w : ℕ) × (z : ℕ) × (v ≤ w) × (w < u) × Sent ws p 12 w z
    × ((y ≡ z) ⊎ ((b : ℕ) × (w < b) × (b < u) × Quorum c ws (statement 4 b y)))

pub record Facts (c : Committee) (leader : ℕ → ℕ) (ws : Wire) : Type 0 where
  pub formed : AllByRecursion (Formed c) ws
  -- each vote has what the rules ask for it
  pub prepared : (p v x : ℕ) → Correct c p → Sent ws p 8 v x → Backed c ws v x
  pub precommitted : (p v x : ℕ) → Correct c p → Sent ws p 10 v x → Quorum c ws (statement 4 v x)
  pub committed : (p v x : ℕ) → Correct c p → Sent ws p 12 v x → Quorum c ws (statement 5 v x)
  -- the lock: after a commit vote, a later vote to prepare is for the value of a last commit vote, or for one prepared since
  pub locked : (p v x u y : ℕ) → Correct c p → Sent ws p 12 v x → Sent ws p 8 u y → v < u → Held c ws p v u y
  -- ALLOW-ANY is sent only where correct processes have not all disclosed one value
  pub allowed : (p w : ℕ) → Correct c p → Sent ws p 2 0 0 → ((q x : ℕ) → Correct c q → Sent ws q 1 0 x → x ≡ w) → ⊥
  -- EPOCH-COMPLETED is sent after VIEW-CHANGE for each view of the epoch
  pub through : (p e v : ℕ) → Correct c p → Sent ws p 4 e 0 → 1 ≤ v → epoch_of c.f v ≡ e → Entered ws p v
  -- one record for each kind and number
  pub single : (p k m : ℕ) → Correct c p → count_by (posts p k m) ws ≤ 1
  pub addressed : AllByRecursion (λ r. Correct c r.sender → Addressed c leader r) ws

pub record Lawful (c : Committee) (leader : ℕ → ℕ) (ws : Wire) (r : Record) : Type 0 where
  pub fresh : any (posts r.sender (kind_number r.kind) r.number) ws ≡ false
  pub addressed : Addressed c leader r
  pub allow : kind_number r.kind ≡ 2 → (w : ℕ) → ((q x : ℕ) → Correct c q → Sent ws q 1 0 x → x ≡ w) → ⊥
  pub complete : kind_number r.kind ≡ 4 → (v : ℕ) → 1 ≤ v → epoch_of c.f v ≡ r.number → Entered ws r.sender v
  pub prepare : kind_number r.kind ≡ 8 → Backed c ws r.number r.value
  pub unlocked : kind_number r.kind ≡ 8
      → (v x : ℕ) → Sent ws r.sender 12 v x → v < r.number → Held c ws r.sender v r.number r.value
  pub precommit : kind_number r.kind ≡ 10 → Quorum c ws (statement 4 r.number r.value)
  pub commit : kind_number r.kind ≡ 12 → Quorum c ws (statement 5 r.number r.value)
  -- no commit vote for a view that a vote to prepare has left behind
  pub onward : kind_number r.kind ≡ 12 → (u y : ℕ) → Sent ws r.sender 8 u y → u ≤ r.number

pub record Same (r q : Record) : Type 0 where
  pub sender : r.sender ≡ q.sender
  pub kind : r.kind ≡ q.kind
  pub number : r.number ≡ q.number
  pub value : r.value ≡ q.value
  pub to : r.to ≡ q.to
