-- Rows in a list that a mesh is laid out in: a draw, a removal, and the place that a removal frees. Assumes nothing.
use mathlib.Core.Path.{◌≡◌, refl, sym, ap, ◌∙◌, subst}
use mathlib.Core.Bool.{cond}
use mathlib.Core.List.{List, [], ◌∷◌, ◌++◌, append_assoc, append-nil}
use Prim.Native.Nat.{ℕ, suc, ◌+◌, ◌-◌, ◌*◌, ◌≤◌, ◌<◌, max}
use native.Mathlib.Omega.{arith}
use native.Mathlib.Decide.{dec_lt}
use lib.ListN.{length, take, drop, get_or, set, replicate, length-append, length-drop, length-replicate, take-append-drop, replicate-append-replicate}
use lib.Seq.{split_at, set_at, take_at, drop-append-add, get_or-append-add, drop-drop, length-take-le}
use borrow.Author.Tests.{leb-false}
use Rattle.rules.specs.Lists.{part}
use Rattle.rules.specs.Mesh.{Quad, rows, laid}
use Rattle.rules.specs.Update.{blank, shifts, remove_at}
use Rattle.rules.proofs.ListLaws.{All, all_append, split}
use Rattle.rules.proofs.Laying.{Sized, length-rows}
use Rattle.vav.specs.Rows.{put, zeros, freed}
use Rattle.vav.proofs.Laws.{part_mid, put_mid_lem}

-- ---- rows of quads, one list after the other
pub rows_append : (enc : ℕ → Quad → List ℕ) (i : ℕ) (a b : List Quad) → rows enc i (a ++ b) ≡ rows enc i a ++ rows enc (i + length a) b
rows_append enc i [] b = ap (λ (k : ℕ). rows enc k b) (omega arith)
rows_append enc i (x ∷ a) b =
    let e : suc i + length a ≡ i + suc (length a) = omega arith in
    rw (rows_append enc (suc i) a b, e) (sym (append_assoc (enc i x) (rows enc (suc i) a) (rows enc (i + suc (length a)) b)))

-- rows that depend on their place only
rows_of_places : (p : ℕ → List ℕ) (i : ℕ) (a b : List Quad) → length a ≡ length b → rows (λ q x. p q) i a ≡ rows (λ q x. p q) i b
rows_of_places p i [] [] e = refl
rows_of_places p i [] (y ∷ b) e = absurd (omega arith)
rows_of_places p i (x ∷ a) [] e = absurd (omega arith)
rows_of_places p i (x ∷ a) (y ∷ b) e = ap (λ (r : List ℕ). p i ++ r) (rows_of_places p (suc i) a b (omega arith))

-- rows that do not depend on their place
rows_anywhere : (e : Quad → List ℕ) (i j : ℕ) (m : List Quad) → rows (λ q x. e x) i m ≡ rows (λ q x. e x) j m
rows_anywhere e i j [] = refl
rows_anywhere e i j (x ∷ m) = ap (λ (r : List ℕ). e x ++ r) (rows_anywhere e (suc i) (suc j) m)

-- the last of some
ends : (x : Quad) (b : List Quad) → (c : List Quad) × (y : Quad) × (length c ≡ length b) × (x ∷ b ≡ c ++ (y ∷ []))
ends x [] = ([], x, refl, refl)
ends x (z ∷ b) = let r = ends z b in (x ∷ r.0, r.1, ap suc r.2, ap (λ (l : List Quad). x ∷ l) r.3)

all_parts : (P : Quad → Type 0) (a b : List Quad) → All P (a ++ b) → All P a × All P b
all_parts P [] b h = (tt, h)
all_parts P (x ∷ a) b h = let r = all_parts P a b h.1 in ((h.0, r.0), r.1)

-- ---- what lies past k rows: zeros up to the highest count reached, then what was there
module _ (s k highest : ℕ) (old : List ℕ) where
  abbrev past : List ℕ
  past = replicate (s * (highest - k)) 0 ++ drop (s * highest) old

-- one row less: a row of zeros more
past_less : (s k highest : ℕ) (old : List ℕ) → k < highest → zeros s ++ past s (suc k) highest old ≡ past s k highest old
past_less s k highest old h =
    let e : suc (highest - suc k) ≡ highest - k = omega arith in
    let f : s + s * (highest - suc k) ≡ s * (highest - k) = omega (arith, ap (λ (n : ℕ). s * n) e) in
    sym (append_assoc (zeros s) (replicate (s * (highest - suc k)) 0) (drop (s * highest) old))
    ∙ ap (λ (r : List ℕ). r ++ drop (s * highest) old)
    (replicate-append-replicate s (s * (highest - suc k)) 0 ∙ ap (λ (n : ℕ). replicate n 0) f)

-- one row more: the words that it takes
past_more : (s k highest : ℕ) (old : List ℕ) → k ≤ highest → s * suc k ≤ length old
    → (taken : List ℕ) × (length taken ≡ s) × (past s k highest old ≡ taken ++ past s (suc k) (max highest (suc k)) old)
past_more s k highest old h l = go (dec_lt k highest)
  where
    go : Dec (k < highest)
        → (taken : List ℕ) × (length taken ≡ s) × (past s k highest old ≡ taken ++ past s (suc k) (max highest (suc k)) old)
    go (yes d) =
        let e : max highest (suc k) ≡ highest = omega arith in
        (zeros s, length-replicate s 0, rw e (sym (past_less s k highest old d)))
    go (no d) =
        let e : max highest (suc k) ≡ suc k = omega arith in
        let f : s * (highest - k) ≡ 0 = let z : highest - k ≡ 0 = omega arith in rw z (omega arith) in
        let g : s * (suc k - suc k) ≡ 0 = let z : suc k - suc k ≡ 0 = omega arith in rw z (omega arith) in
        let w : s * highest + s ≡ s * suc k = let z : highest ≡ k = omega arith in rw z (omega arith) in
        let t : length (take s (drop (s * highest) old)) ≡ s =
        length-take-le s (drop (s * highest) old) (simp length-drop (omega arith)) in (
          take s (drop (s * highest) old),
          t,
          rw (e, f, g) (sym (take-append-drop s (drop (s * highest) old))
              ∙ ap (λ (r : List ℕ). take s (drop (s * highest) old) ++ r) (drop-drop s (s * highest) old ∙ ap (λ (n : ℕ). drop n old) w)),
        )

module _ (s : ℕ) (enc : ℕ → Quad → List ℕ) (highest : ℕ) (old : List ℕ) where
  -- a quad more: its row past those that are there
  rows_snoc : (m : List Quad) (x : Quad) (rest : List ℕ) → rows enc 0 (m ++ (x ∷ [])) ++ rest ≡ rows enc 0 m ++ (enc (length m) x ++ rest)
  rows_snoc m x rest =
      let e : 0 + length m ≡ length m = omega arith in
      rw (rows_append enc 0 m (x ∷ []), e, append-nil (enc (length m) x)) (append_assoc (rows enc 0 m) (enc (length m) x) rest)

  -- LAW: a row written past those of a mesh is a draw
  pub draw_laid : (m : List Quad) (x : Quad) → Sized s enc m → length (enc (length m) x) ≡ s → length m ≤ highest
      → s * suc (length m) ≤ length old
      → put (s * length m) (enc (length m) x) (laid s enc highest m old) ≡ laid s enc (max highest (suc (length m))) (m ++ (x ∷ [])) old
  unfolding laid
  draw_laid m x sized wide h l =
      let t = past_more s (length m) highest old h l in
      let n : length (m ++ (x ∷ [])) ≡ suc (length m) = length-append m (x ∷ []) ∙ omega arith in
      rw (t.2, n)
      (put_mid_lem (rows enc 0 m) t.0 (past s (suc (length m)) (max highest (suc (length m))) old) (s * length m) s
      (length-rows s enc 0 m sized) t.1 (enc (length m) x) wide
      ∙ sym (rows_snoc m x (past s (suc (length m)) (max highest (suc (length m))) old)))

  -- the last row zeroed
  pub last_laid : (m : List Quad) (x : Quad) → Sized s enc m → length (enc (length m) x) ≡ s → length m < highest
      → put (s * length m) (zeros s) (laid s enc highest (m ++ (x ∷ [])) old) ≡ laid s enc highest m old
  unfolding laid
  last_laid m x sized wide h =
      let n : length (m ++ (x ∷ [])) ≡ suc (length m) = length-append m (x ∷ []) ∙ omega arith in
      rw (n, rows_snoc m x (past s (suc (length m)) highest old))
      (put_mid_lem (rows enc 0 m) (enc (length m) x) (past s (suc (length m)) highest old) (s * length m) s
      (length-rows s enc 0 m sized) wide (zeros s) (length-replicate s 0)
      ∙ ap (λ (r : List ℕ). rows enc 0 m ++ r) (past_less s (length m) highest old h))

-- ---- rows that do not depend on their place
module _ (s : ℕ) (e : Quad → List ℕ) (highest : ℕ) (old : List ℕ) where
  abbrev IsWide : Quad → Type 0
  IsWide x = (i : ℕ) → length (e x) ≡ s

  abbrev Wide : List Quad → Type 0
  Wide = All IsWide

  abbrev lay : List Quad → List ℕ
  lay m = laid s (λ q x. e x) highest m old

  abbrev flat : List Quad → List ℕ
  flat m = rows (λ q x. e x) 0 m

  flat_append : (a b : List Quad) → flat (a ++ b) ≡ flat a ++ flat b
  flat_append a b = rows_append (λ q x. e x) 0 a b ∙ ap (λ (r : List ℕ). flat a ++ r) (rows_anywhere e (0 + length a) 0 b)

  three : (a b c : List Quad) (rest : List ℕ) → flat (a ++ (b ++ c)) ++ rest ≡ flat a ++ (flat b ++ (flat c ++ rest))
  three a b c rest =
      rw (flat_append a (b ++ c), flat_append b c, append_assoc (flat a) (flat b ++ flat c) rest, append_assoc (flat b) (flat c) rest)

  -- the rows of a stretch of quads, and other rows over them
  taken_laid : (a b c : List Quad) (at n : ℕ) → Wide a → Wide b → at ≡ s * length a → n ≡ s * length b
      → part at n (lay (a ++ (b ++ c))) ≡ flat b
  unfolding laid
  taken_laid a b c at n u v p r =
      let t = past s (length (a ++ (b ++ c))) highest old in
      rw (three a b c t)
      (part_mid (flat a) (flat b) (flat c ++ t) at n (length-rows s (λ q x. e x) 0 a u ∙ sym p) (length-rows s (λ q x. e x) 0 b v ∙ sym r))

  over_laid : (a b c d : List Quad) → Wide a → Wide b → Wide d → length d ≡ length b
      → put (s * length a) (flat d) (lay (a ++ (b ++ c))) ≡ lay (a ++ (d ++ c))
  unfolding laid
  over_laid a b c d u v w r =
      let l : length (a ++ (d ++ c)) ≡ length (a ++ (b ++ c)) = simp length-append (omega arith) in
      let t = past s (length (a ++ (b ++ c))) highest old in
      rw (l, three a b c t, three a d c t)
      (put_mid_lem (flat a) (flat b) (flat c ++ t) (s * length a) (s * length b) (length-rows s (λ q x. e x) 0 a u)
      (length-rows s (λ q x. e x) 0 b v) (flat d)
      (length-rows s (λ q x. e x) 0 d w ∙ ap (λ (k : ℕ). s * k) r))

  -- later rows shift down one
  shift_laid : (a : List Quad) (x : Quad) (b : List Quad) → Wide a → Wide (x ∷ b) → length (a ++ (x ∷ b)) ≤ highest
      → put (s * length (a ++ b)) (zeros s)
      (put (s * length a) (part (s * suc (length a)) (s * length b) (lay (a ++ (x ∷ b)))) (lay (a ++ (x ∷ b))))
      ≡ lay (a ++ b)
  shift_laid a x b u v h =
      let t = ends x b in
      let c = t.0 in
      let y = t.1 in
      let w = all_parts IsWide c (y ∷ []) (subst Wide t.3 v) in
      let n : length (a ++ (x ∷ [])) ≡ suc (length a) = simp length-append (omega arith) in
      let f : a ++ (x ∷ b) ≡ (a ++ (x ∷ [])) ++ (b ++ []) = rw append-nil (sym (append_assoc a (x ∷ []) b)) in
      let g : a ++ (x ∷ b) ≡ a ++ (c ++ (y ∷ [])) = ap (λ (r : List Quad). a ++ r) t.3 in
      let k : part (s * suc (length a)) (s * length b) (lay (a ++ (x ∷ b))) ≡ flat b =
      ap (λ (m : List Quad). part (s * suc (length a)) (s * length b) (lay m)) f
      ∙ taken_laid (a ++ (x ∷ [])) b [] (s * suc (length a)) (s * length b) (all_append IsWide a (x ∷ []) u (v.0, tt)) v.1
      (ap (λ (i : ℕ). s * i) (sym n)) refl in
      ap (put (s * length (a ++ b)) (zeros s))
      (rw (k, g) (over_laid a c (y ∷ []) b u w.0 v.1 (sym t.2)) ∙ ap lay (sym (append_assoc a b (y ∷ []))))
      ∙ last_laid s (λ q x. e x) highest old (a ++ b) y (all_append IsWide a b u v.1) (w.1.0 0)
      (simp length-append (omega (arith, length-append a (x ∷ b))))

  -- the last row takes the place
  swap_laid : (a : List Quad) (x : Quad) (b : List Quad) (z : Quad) → Wide a → Wide (x ∷ b) → Wide (z ∷ [])
      → length (a ++ (x ∷ (b ++ (z ∷ [])))) ≤ highest
      → put (s * length (a ++ (z ∷ b))) (zeros s)
      (put (s * length a) (part (s * length (a ++ (z ∷ b))) (s * 1) (lay (a ++ (x ∷ (b ++ (z ∷ [])))))) (lay (a ++ (x ∷ (b ++ (z ∷ []))))))
      ≡ lay (a ++ (z ∷ b))
  swap_laid a x b z u v w h =
      let n : length (a ++ (x ∷ b)) ≡ length (a ++ (z ∷ b)) = simp length-append in
      let f : a ++ (x ∷ (b ++ (z ∷ []))) ≡ (a ++ (x ∷ b)) ++ ((z ∷ []) ++ []) = sym (append_assoc a (x ∷ b) (z ∷ [])) in
      let k : part (s * length (a ++ (z ∷ b))) (s * 1) (lay (a ++ (x ∷ (b ++ (z ∷ []))))) ≡ flat (z ∷ []) =
      ap (λ (m : List Quad). part (s * length (a ++ (z ∷ b))) (s * 1) (lay m)) f
      ∙ taken_laid (a ++ (x ∷ b)) (z ∷ []) [] (s * length (a ++ (z ∷ b))) (s * 1) (all_append IsWide a (x ∷ b) u v) w
      (ap (λ (i : ℕ). s * i) (sym n)) refl in
      ap (put (s * length (a ++ (z ∷ b))) (zeros s))
      (rw k (over_laid a (x ∷ []) (b ++ (z ∷ [])) (z ∷ []) u (v.0, tt) w refl) ∙ ap lay (sym (append_assoc a (z ∷ b) (z ∷ []))))
      ∙ last_laid s (λ q x. e x) highest old (a ++ (z ∷ b)) z (all_append IsWide a (z ∷ b) u (w.0, v.1)) (w.0 0)
      (omega (arith, length-append a (z ∷ b), length-append a (x ∷ (b ++ (z ∷ []))), length-append b (z ∷ [])))

  -- the last of the quads of m takes the place past those of a
  abbrev Swapped : List Quad → List Quad → Type 0
  Swapped a m =
      put (s * (length m - 1)) (zeros s) (put (s * length a) (part (s * (length m - 1)) (s * (length m - (length m - 1))) (lay m)) (lay m))
      ≡ lay (take (length m - 1) (set m (length a) (get_or m (length m - 1) blank)))

  swapped : (a : List Quad) (x : Quad) (b : List Quad) (z : Quad) → Wide a → Wide (x ∷ (b ++ (z ∷ [])))
      → length (a ++ (x ∷ (b ++ (z ∷ [])))) ≤ highest
      → Swapped a (a ++ (x ∷ (b ++ (z ∷ []))))
  swapped a x b z u v h =
      let m = a ++ (x ∷ (b ++ (z ∷ []))) in
      let w = all_parts IsWide b (z ∷ []) v.1 in
      let f : m ≡ (a ++ (x ∷ b)) ++ (z ∷ []) = sym (append_assoc a (x ∷ b) (z ∷ [])) in
      let n : length m ≡ suc (length (a ++ (z ∷ b))) = simp length-append (omega arith) in
      let i : length m - 1 ≡ length (a ++ (z ∷ b)) = omega arith in
      let j : length m - length (a ++ (z ∷ b)) ≡ 1 = omega arith in
      let k : length (a ++ (z ∷ b)) ≡ length (a ++ (x ∷ b)) + 0 = simp length-append (omega arith) in
      let l : get_or m (length (a ++ (z ∷ b))) blank ≡ z =
      ap (λ (r : List Quad). get_or r (length (a ++ (z ∷ b))) blank) f
      ∙ ap (λ (r : ℕ). get_or ((a ++ (x ∷ b)) ++ (z ∷ [])) r blank) k ∙ get_or-append-add (a ++ (x ∷ b)) (z ∷ []) 0 blank in
      let o : set m (length a) z ≡ (a ++ (z ∷ b)) ++ (z ∷ []) =
      set_at a x (b ++ (z ∷ [])) z (length a) refl ∙ sym (append_assoc a (z ∷ b) (z ∷ [])) in
      rw (i, j, l, o, take_at (a ++ (z ∷ b)) (z ∷ []) (length (a ++ (z ∷ b))) refl) (swap_laid a x b z u (v.0, w.0) w.1 h)

  remove_parts : (a : List Quad) (x : Quad) (b : List Quad) → Wide a → Wide (x ∷ b) → length (a ++ (x ∷ b)) ≤ highest
      → freed s (length a) (length (a ++ (x ∷ b))) (lay (a ++ (x ∷ b))) ≡ lay (remove_at (length a) (a ++ (x ∷ b)))
  unfolding freed remove_at
  remove_parts a x b u v h =
      let m = a ++ (x ∷ b) in
      let Q = length m in
      let n : Q ≡ length a + suc (length b) = length-append a (x ∷ b) in
      split (λ t. put (s * (Q - 1)) (zeros s)
      (put (s * length a) (part (s * cond t (suc (length a)) (Q - 1)) (s * (Q - cond t (suc (length a)) (Q - 1))) (lay m)) (lay m))
      ≡ lay (cond t (take (length a) m ++ drop (suc (length a)) m) (take (Q - 1) (set m (length a) (get_or m (Q - 1) blank)))))
      (shifts Q (length a))
      (λ t. let i : Q - 1 ≡ length (a ++ b) = simp length-append (omega arith) in
      let j : Q - suc (length a) ≡ length b = omega arith in
      let k : suc (length a) ≡ length a + 1 = omega arith in
      let d : drop (suc (length a)) m ≡ b = ap (λ (r : ℕ). drop r m) k ∙ drop-append-add a (x ∷ b) 1 in
      rw (i, j, d, take_at a (x ∷ b) (length a) refl) (shift_laid a x b u v h))
      (λ t. let far = leb-false (Q - length a) 6 t in last b v h (omega arith))
    where
      last : (b : List Quad) → Wide (x ∷ b) → length (a ++ (x ∷ b)) ≤ highest → 0 < length b → Swapped a (a ++ (x ∷ b))
      last [] v h l = absurd (omega arith)
      last (y ∷ b) v h l =
          let t = ends y b in
          subst (λ (r : List Quad). Wide (x ∷ r) → length (a ++ (x ∷ r)) ≤ highest → Swapped a (a ++ (x ∷ r))) (sym t.3)
          (swapped a x t.0 t.1 u) v h

  -- LAW: a row freed is a removal
  pub remove_laid : (m : List Quad) (q : ℕ) → Sized s (λ q x. e x) m → q < length m → length m ≤ highest
      → freed s q (length m) (lay m) ≡ lay (remove_at q m)
  remove_laid m q sized l h =
      let f = split_at m q blank l in
      let n : length (take q m) ≡ q = length-take-le q m (omega arith) in
      let w = all_parts IsWide (take q m) (get_or m q blank ∷ drop (suc q) m) (subst Wide f sized) in
      subst (λ (k : ℕ). freed s k (length m) (lay m) ≡ lay (remove_at k m)) n
      (subst (λ (r : List Quad). length r ≤ highest
      → freed s (length (take q m)) (length r) (lay r) ≡ lay (remove_at (length (take q m)) r)) (sym f)
      (remove_parts (take q m) (get_or m q blank) (drop (suc q) m) w.0 w.1) h)
