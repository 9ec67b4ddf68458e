-- What one record more does to the used part of the wire, to what is signed, and to what was heard. Assumes nothing.
use Rattle.std.proofs.Common.{◌≡◌, ℕ, ◌+◌, ◌<◌, Bool, false, ◌&&◌, ◌||◌, eqb, [], ◌∷◌, ◌++◌, length, take, set, Some, None, Option, sym, refl, ap, ◌∙◌, add-one, take-suc-set}
use Rattle.std.proofs.lemmas.Bool.{and_left, and_right}
use Rattle.counting.specs.Counts.{count_to}
use Rattle.counting.proofs.Booleans.{or_false}
use Rattle.counting.proofs.Any.{any_push}
use Rattle.counting.proofs.Bits.{bit_at-none}
use Rattle.counting.proofs.Sums.{count_same}
use Rattle.committee.specs.declared.membership.Committee.{Committee}
use Rattle.committee.specs.declared.sets.ProcessSet.{ProcessSet}
use Rattle.committee.specs.Sets.{contains, of_bits}
use Rattle.register.specs.declared.pair.Statement.{Statement}
use Rattle.wire.specs.declared.record.Record.{Record}
use Rattle.wire.specs.Shares.{share_of}
use Rattle.protocol.specs.Moments.{Signed, with_statement, with_share}
use Rattle.agreement.specs.Wires.{Wire, sends, heard_of}
use Rattle.agreement.specs.Signing.{is_share, signs}
use Rattle.safety.specs.Kept.{Matches}

-- the record written behind the used ones is the last of them
pub used_more : (w : Wire) (n : ℕ) (r : Record) → n < length w → take (n + 1) (set w n r) ≡ take n w ++ (r ∷ [])
used_more w n r h = ap (λ (k : ℕ). take k (set w n r)) (add-one n) ∙ take-suc-set w n r h

-- ---- the register holds just what the records sign

share_more : (z : Signed) (p q : ℕ) (o : Option Statement) (t : Statement) → (with_statement o p z).has q t ≡ (z.has q t || (eqb p q && is_share o t))
share_more z p q None t = sym (or_false (z.has q t) false refl) ∙ ap (λ (b : Bool). z.has q t || b) (sym (and_right (eqb p q) false refl))
share_more z p q (Some s) t = refl

pub matches_push : (z : Signed) (ws : Wire) (r : Record) → Matches z ws → Matches (with_share r z) (ws ++ (r ∷ []))
unfolding signs
matches_push z ws r e q t =
    share_more z r.sender q (share_of r) t ∙ ap (λ (b : Bool). b || (eqb r.sender q && is_share (share_of r) t)) (e q t) ∙ sym (any_push (signs q t) ws r)

-- ---- a new record is heard by nobody

pub heard-push : (ws : Wire) (r : Record) (p w q : ℕ) → r.heeded ≡ of_bits 0 → heard_of (ws ++ (r ∷ [])) p w q ≡ heard_of ws p w q
heard-push ws r p w q new =
    any_push (λ x. contains x.heeded p && sends q 1 0 w x) ws r
    ∙ ap (λ (b : Bool). heard_of ws p w q || b) (and_left (contains r.heeded p) (sends q 1 0 w r) (ap (λ (s : ProcessSet). contains s p) new ∙ bit_at-none p))
    ∙ or_false (heard_of ws p w q) false refl

pub cap_push : (c : Committee) (ws : Wire) (r : Record) (p w : ℕ) → r.heeded ≡ of_bits 0 → count_to (heard_of (ws ++ (r ∷ [])) p w) 31 ≡ count_to (heard_of ws p w) 31
cap_push c ws r p w new = count_same (heard_of (ws ++ (r ∷ [])) p w) (heard_of ws p w) 31 (λ q _. heard-push ws r p w q new)
