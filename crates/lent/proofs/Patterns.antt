-- Laws of triangles. Assumes nothing.
use Rattle.std.proofs.Common.{◌≡◌, ℕ, zero, suc, ◌+◌, ◌-◌, ◌*◌, ◌%◌, ◌^◌, ◌<◌, ◌≤◌, Bool, true, false, ◌&&◌, eqb, List, [], ◌∷◌, length, get_or, take, sym, refl, ap, ◌∙◌, zero-add, arith, length-drop, length-take, get_or-drop, get_or-take, eq-eqb, eqb-true}
use Rattle.rules.specs.Lists.{row, every, same}
use Rattle.rules.specs.Mesh.{pattern}
use Rattle.rules.proofs.ListLaws.{every_true, same_true}
use Rattle.lent.specs.Patterns.{goes_on}

-- ---- six words

pub same_pattern : (xs : List ℕ) (q : ℕ) → length xs ≡ 6
    → (eqb (get_or xs 0 0) (4 * q) && eqb (get_or xs 1 0) (4 * q + 1) && eqb (get_or xs 2 0) (4 * q + 2) && eqb (get_or xs 3 0) (4 * q + 3)
    && eqb (get_or xs 4 0) (4 * q + 2) && eqb (get_or xs 5 0) (4 * q + 1)) ≡ same xs (pattern q)
unfolding same
same_pattern (a ∷ b ∷ c ∷ d ∷ e ∷ f ∷ []) q h =
    regroup (eqb a (4 * q)) (eqb b (4 * q + 1)) (eqb c (4 * q + 2)) (eqb d (4 * q + 3)) (eqb e (4 * q + 2)) (eqb f (4 * q + 1))
  where
    regroup : (a b c d e f : Bool) → (a && b && c && d && e && f) ≡ (a && (b && (c && (d && (e && (f && true))))))
    regroup true true true true true true = refl
    regroup true true true true true false = refl
    regroup true true true true false f = refl
    regroup true true true false e f = refl
    regroup true true false d e f = refl
    regroup true false c d e f = refl
    regroup false b c d e f = refl
same_pattern [] q h = absurd (omega arith)
same_pattern (a ∷ []) q h = absurd (omega arith)
same_pattern (a ∷ b ∷ []) q h = absurd (omega arith)
same_pattern (a ∷ b ∷ c ∷ []) q h = absurd (omega arith)
same_pattern (a ∷ b ∷ c ∷ d ∷ []) q h = absurd (omega arith)
same_pattern (a ∷ b ∷ c ∷ d ∷ e ∷ []) q h = absurd (omega arith)
same_pattern (a ∷ b ∷ c ∷ d ∷ e ∷ f ∷ g ∷ xs) q h = absurd (omega arith)

-- ---- rows of six that go on from the first

below_four : (j : ℕ) → j < 6 → get_or (pattern 0) j 0 < 4
below_four zero h = omega arith
below_four (suc zero) h = omega arith
below_four (suc (suc zero)) h = omega arith
below_four (suc (suc (suc zero))) h = omega arith
below_four (suc (suc (suc (suc zero)))) h = omega arith
below_four (suc (suc (suc (suc (suc zero))))) h = omega arith
below_four (suc (suc (suc (suc (suc (suc j)))))) h = absurd (omega arith)

module _ (xs : List ℕ) (Q : ℕ) (room : 6 * Q ≤ length xs) (few : Q ≤ 2 ^ 30) (first : same (take 6 xs) (pattern 0) ≡ true) (rest : every (6 * Q - 6) (goes_on xs) ≡ true) where
  word_is : (q j : ℕ) → q < Q → j < 6 → get_or xs (6 * q + j) 0 ≡ 4 * q + get_or (pattern 0) j 0
  word_is zero j h l = rw (zero-add, zero-add) (sym (get_or-take 6 xs j 0 l) ∙ ap (λ (ys : List ℕ). get_or ys j 0) (same_true (take 6 xs) (pattern 0) first))
  word_is (suc q) j h l =
      let at : 6 * suc q + j ≡ 6 * q + j + 6 = omega arith in
      let next : get_or xs (6 * q + j + 6) 0 ≡ (get_or xs (6 * q + j) 0 + 4) % 2 ^ 32 = eqb-true _ _ (every_true (6 * Q - 6) (goes_on xs) rest (6 * q + j) (omega arith)) in
      rw at (omega (arith, word_is q j (omega arith) l, below_four j l))

  -- LAW: where the first row is right and each word goes on, each quad's triangles are the pattern
  pub patterned : (q : ℕ) → q < Q → same (row 6 xs q) (pattern q) ≡ true
  patterned q h =
      let is : (j w : ℕ) → j < 6 → 4 * q + get_or (pattern 0) j 0 ≡ w → eqb (get_or (row 6 xs q) j 0) w ≡ true =
      λ j w l e. eq-eqb (get_or (row 6 xs q) j 0) w (rw (get_or-take, get_or-drop) (word_is q j h l ∙ e)) in
      sym (same_pattern (row 6 xs q) q (simp (length-take, length-drop) (omega arith)))
      ∙ rw (is 0 (4 * q) (omega arith) (omega arith), is 1 (4 * q + 1) (omega arith) refl, is 2 (4 * q + 2) (omega arith) refl, is 3 (4 * q + 3) (omega arith) refl, is 4 (4 * q + 2) (omega arith) refl, is 5 (4 * q + 1) (omega arith) refl)
