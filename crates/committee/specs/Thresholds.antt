-- How many processes a rule asks for, and what so many are good for. Assumes nothing.
--   quorum_of c              votes, view changes and completed epochs
--   weak_quorum_of c         enough that one of them is correct
--   disclosure_quorum_of c   disclosures after which ALLOW-ANY is sent
--   is_correct c p           process p is not in the faulty set
--   Members c t              each process that passes the test t is of the committee
--   QuorumsMeet c            two quorums share a correct process
--   OneCorrect c             a weak quorum has a correct process
--   ManyCorrect c            a quorum has a weak quorum of correct processes
-- A group of processes is a test on process numbers, and its size a count below 31, the largest committee.
use Rattle.std.specs.Prelude.{◌≡◌, ℕ, ◌+◌, ◌*◌, ◌<◌, ◌≤◌, Bool, true, not, ◌&&◌}
use Rattle.counting.specs.Counts.{count_to}
use Rattle.committee.specs.declared.membership.Committee.{Committee}
use Rattle.committee.specs.Sets.{contains}

abbrev pub quorum_of : Committee → ℕ
quorum_of c = 2 * c.f + 1

abbrev pub weak_quorum_of : Committee → ℕ
weak_quorum_of c = c.f + 1

abbrev pub disclosure_quorum_of : Committee → ℕ
disclosure_quorum_of c = 2 * c.f + 1

abbrev pub is_correct : Committee → ℕ → Bool
is_correct c p = not (contains c.faulty p)

abbrev pub Members : Committee → (ℕ → Bool) → Type 0
Members c t = (p : ℕ) → t p ≡ true → p < c.n

abbrev pub QuorumsMeet : Committee → Type 0
QuorumsMeet c =
    (a b : ℕ → Bool) → Members c a → Members c b → quorum_of c ≤ count_to a 31 → quorum_of c ≤ count_to b 31
    → (p : ℕ) × (is_correct c p ≡ true) × (a p ≡ true) × (b p ≡ true)

abbrev pub OneCorrect : Committee → Type 0
OneCorrect c = (a : ℕ → Bool) → weak_quorum_of c ≤ count_to a 31 → (p : ℕ) × (is_correct c p ≡ true) × (a p ≡ true)

abbrev pub ManyCorrect : Committee → Type 0
ManyCorrect c = (a : ℕ → Bool) → quorum_of c ≤ count_to a 31 → weak_quorum_of c ≤ count_to (λ p. a p && is_correct c p) 31
