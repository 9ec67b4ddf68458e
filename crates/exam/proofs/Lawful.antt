-- A list of leaders is lawful just where a rota is made of it. Assumes nothing.
use Rattle.std.proofs.Common.{◌≡◌, ℕ, suc, ◌%◌, true, ◌&&◌, ltb, leb, List, [], ◌∷◌, length, get_or, Some, None, vec_items, vec_len, Option, sym, refl, ap, ◌∙◌, subst, inl, inr, arith, ap₂, lt-ltb, le-leb, MatchOption}
use Rattle.std.proofs.lemmas.Bool.{and_from, and_parts, leb-true, ltb-true, cases_Bool}
use Rattle.std.specs.List.{list_all}
use Rattle.counting.proofs.Every.{every-at}
use Rattle.committee.specs.Lists.{AllBelow, Listed}
use Rattle.committee.specs.declared.list_rota.ListRota.{ListRota}
use Rattle.committee.specs.declared.rota.Rota.{Ghosts as RotaMeans}
use Rattle.exam.specs.Schedules.{is_lawful}
use Rattle.exam.specs.Rotas.{Lists}

every-below : (n : ℕ) (xs : List ℕ) → AllBelow xs n → list_all (λ x. ltb x n) xs ≡ true
every-below n [] h = refl
every-below n (x ∷ xs) h = and_from (ltb x n) (list_all (λ y. ltb y n) xs) (lt-ltb x n (h 0 (omega arith))) (every-below n xs (λ k l. h (suc k) (omega arith)))

lawful : (n : ℕ) (xs : List ℕ) → Listed xs n → is_lawful n xs ≡ true
lawful n xs h =
    and_from (leb 1 (length xs) && leb (length xs) 31) (list_all (λ x. ltb x n) xs)
    (and_from (leb 1 (length xs)) (leb (length xs) 31) (le-leb 1 (length xs) h.0) (le-leb (length xs) 31 h.1)) (every-below n xs h.2)

listed : (n : ℕ) (xs : List ℕ) → is_lawful n xs ≡ true → Listed xs n
listed n xs e =
    let a = and_parts (leb 1 (length xs) && leb (length xs) 31) (list_all (λ x. ltb x n) xs) e in
    let b = and_parts (leb 1 (length xs)) (leb (length xs) 31) a.0 in
    (leb-true 1 (length xs) b.0, leb-true (length xs) 31 b.1, λ k l. ltb-true (get_or xs k 0) n (every-at (λ x. ltb x n) xs k 0 a.1 l))

-- what a list of leaders means
abbrev pub round : RotaMeans ListRota
round = record { size = λ r. r.n; leader = λ r v. get_or (vec_items r.entries) (v % vec_len r.entries) 0 }

pub lists : (n : ℕ) (xs ys : List ℕ) (o : Option ListRota) → ys ≡ xs → MatchOption o (Listed ys n → ⊥) (λ c. Listed ys n × (c.n ≡ n) × (vec_items c.entries ≡ ys)) → Lists round n xs o
lists n xs ys None e h = elim (cases_Bool (is_lawful n xs)) [ inl t ↦ absurd (h (subst (λ (zs : List ℕ). Listed zs n) (sym e) (listed n xs t))) | inr t ↦ t ]
lists n xs ys (Some c) e h =
    let items = h.2 ∙ e in
    let long : vec_len c.entries ≡ length xs = c.entries.ok.0 ∙ ap length items in
    (lawful n xs (subst (λ (zs : List ℕ). Listed zs n) e h.0), h.1, ap₂ (λ (zs : List ℕ) (k : ℕ). λ (v : ℕ). get_or zs (v % k) 0) items long)
