-- One pair more at the end of a list of pairs. Assumes nothing.
use Rattle.std.specs.Prelude.{◌≡◌, ℕ, ◌+◌, ◌≤◌, Bool, true, false, cond, not, ◌||◌, List, [], ◌∷◌, ◌++◌, length, Decides, ◌==◌, refl}
use Rattle.std.proofs.Common.{sym, ap, ap₂, ◌∙◌, ⊎_elim, arith, rules}
use Rattle.std.proofs.lemmas.Bool.{or_parts, or_from, or_cases, and_parts, and_from, eqb-true, eq-eqb, not-true, not_from_false}
use Rattle.std.proofs.lemmas.List.{length_push}
use Rattle.std.proofs.lemmas.Bool.Decides.{nat_tests, same_from_decides, Decides-by_or}
use Rattle.std.proofs.lemmas.List.Elements.{contains_decides}
use Rattle.std.specs.List.{IsAnyAnswer}
use Rattle.counting.specs.Counts.{any}
use Rattle.counting.proofs.Any.{any_push}
use Rattle.register.specs.declared.pair.Statement.{Statement}
use Rattle.register.specs.declared.pair.Pair.{Pair}
use Rattle.register.specs.contracts.pair.PairPartialEq.TheImpl.{ghosts}
use Rattle.register.specs.Pairs.{same_statement, is_pair, has_pair, distinct_pairs, Low, Added}
use Rattle.register.specs.Rows.{pair_of}

pub has_push : (xs : List Pair) (x : Pair) (p : ℕ) (s : Statement) → has_pair (xs ++ x ∷ []) p s ≡ (has_pair xs p s || is_pair p s x)
has_push xs x p s = any_push (is_pair p s) xs x

eqb_swap : (a b : ℕ) → (a == b) ≡ (b == a)
eqb_swap a b = grind (arith, nat_tests)

pub same_swap : (s t : Statement) → same_statement s t ≡ same_statement t s
same_swap s t = simp (eqb_swap s.kind t.kind, eqb_swap s.number t.number, eqb_swap s.value t.value)

is_swap : (x y : Pair) → is_pair y.process y.statement x ≡ is_pair x.process x.statement y
is_swap x y = simp (eqb_swap x.process y.process, eqb_swap x.statement.kind y.statement.kind, eqb_swap x.statement.number y.statement.number, eqb_swap x.statement.value y.statement.value)

pub distinct_push : (xs : List Pair) (x : Pair) → has_pair xs x.process x.statement ≡ false → distinct_pairs xs ≡ true → distinct_pairs (xs ++ x ∷ []) ≡ true
unfolding distinct_pairs any
distinct_push [] x out h = refl
distinct_push (y ∷ ys) x out h =
    let parts = or_parts (is_pair x.process x.statement y) (has_pair ys x.process x.statement) out in
    let old = and_parts (not (has_pair ys y.process y.statement)) (distinct_pairs ys) h in
    and_from _ _
    (not_from_false _
    (has_push ys x y.process y.statement
    ∙ or_from (has_pair ys y.process y.statement) (is_pair y.process y.statement x) (not-true _ old.0) (is_swap x y ∙ parts.0)))
    (distinct_push ys x parts.1 old.1)

pub low_push : (xs : List Pair) (x : Pair) → x.process ≤ 30 → Low xs → Low (xs ++ x ∷ [])
low_push xs x small low p s h =
    ⊎_elim (λ e. low p s e) (λ e. omega (arith, eqb-true x.process p (and_parts (x.process == p) (same_statement x.statement s) e).0))
    (or_cases (has_pair xs p s) (is_pair p s x) (sym (has_push xs x p s) ∙ h))

-- a pair that is new goes in
pub added_push : (xs ys : List Pair) (x : Pair) → has_pair xs x.process x.statement ≡ false → ys ≡ xs ++ x ∷ [] → Added xs ys x
added_push xs ys x out e = record {
  members = λ q t. ap (λ (zs : List Pair). has_pair zs q t) e ∙ has_push xs x q t;
  count = ap length e ∙ length_push xs x ∙ ap (λ (b : Bool). length xs + cond b 0 1) (sym out);
}

abbrev made_of : ℕ → ℕ → ℕ → Statement
made_of k n v = record { kind = k; number = n; value = v }

-- the test on statements tells that they are one
pub same_is : (s t : Statement) → same_statement s t ≡ true → s ≡ t
same_is s t h =
    let a = and_parts (s.kind == t.kind) _ h in
    let b = and_parts (s.number == t.number) _ a.1 in
    ap (λ (k : ℕ). made_of k s.number s.value) (eqb-true _ _ a.0)
    ∙ ap (λ (n : ℕ). made_of t.kind n s.value) (eqb-true _ _ b.0)
    ∙ ap (λ (v : ℕ). made_of t.kind t.number v) (eqb-true _ _ b.1)

eqb_self : (a : ℕ) → (a == a) ≡ true
eqb_self a = eq-eqb a a refl

pub is_self : (x : Pair) → is_pair x.process x.statement x ≡ true
is_self x = simp (eqb_self x.process, eqb_self x.statement.kind, eqb_self x.statement.number, eqb_self x.statement.value)

is_decides : (x y : Pair) → Decides (is_pair x.process x.statement y) (y ≡ x)
is_decides x y = (
  λ h.
      let parts = and_parts (y.process == x.process) (same_statement y.statement x.statement) h in
      ap₂ pair_of (eqb-true _ _ parts.0) (same_is _ _ parts.1),
  λ e. ap (λ (z : Pair). is_pair x.process x.statement z) e ∙ is_self x,
)

-- what the derived `==` answers
derived_is : (y x : Pair) (r : Bool) → (r ≡ ghosts.eq y x) → r ≡ is_pair x.process x.statement y
derived_is y x r h = search rules

abbrev same_pair : Pair → Pair → Bool
same_pair y x = is_pair x.process x.statement y

each_is : (xs : List Pair) (x : Pair) (r : Bool) → IsAnyAnswer (λ y t. ghosts.eq y x ≡ t) xs r → IsAnyAnswer (λ y t. same_pair y x ≡ t) xs r
each_is xs x true h = (h.0, h.1, λ d. sym (derived_is _ x true (sym (h.2 d))))
each_is xs x false h = λ k d a b. sym (derived_is _ x false (sym (h k d a b)))

-- what `contains` answers
pub contains_has : (xs : List Pair) (x : Pair) (r : Bool) → IsAnyAnswer (λ y t. ghosts.eq y x ≡ t) xs r → r ≡ has_pair xs x.process x.statement
unfolding any
contains_has xs x r h =
    same_from_decides r (has_pair xs x.process x.statement) (contains_decides same_pair (λ y z. is_decides z y) xs x r (each_is xs x r h))
    (Decides-by_or (is_pair x.process x.statement) (λ y. y ≡ x) (λ ys. has_pair ys x.process x.statement) (is_decides x) refl (λ _ _. refl) xs)
