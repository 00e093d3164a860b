-- Laws of room and of the parts of it that are lent. Assumes nothing.
use mathlib.Core.Path.{◌≡◌, refl, sym, ap, ◌∙◌}
use mathlib.Core.List.{List, ◌∷◌, ◌++◌}
use Prim.Native.Nat.{ℕ, zero, suc, ◌+◌, ◌-◌, ◌*◌, ◌≤◌}
use native.Mathlib.Omega.{arith}
use lib.ListN.{length, take, drop, replicate, length-replicate, length-append, length-drop}
use lib.Seq.{take_at, length-take-le}
use Rattle.rules.specs.Lists.{table, filled}
use Rattle.rules.specs.Update.{ENTRY_BYTES}
use Rattle.rules.specs.Cells.{cells}
use Rattle.rules.specs.Program.{word, size_in, grid_start, grid_in, room_in}
use Rattle.terms.specs.Loans.{lists_lent}
use Rattle.rules.proofs.ListLaws.{length-table}
use Rattle.workfile.specs.Work.{Good}
use Rattle.lines.specs.Written.{Wrote}
use Rattle.chunk.specs.Steps.{zeros}

-- ---- empty room

length-zeros : (n : ℕ) → length (zeros n) ≡ n
unfolding zeros
length-zeros n = length-replicate n 0

take-zeros : (n m : ℕ) → n ≤ m → take n (zeros m) ≡ replicate n 0
unfolding zeros
take-zeros n m h = go n m h
  where
    go : (n m : ℕ) → n ≤ m → take {A = ℕ} n (replicate m 0) ≡ replicate n 0
    go zero m h = refl
    go (suc n) zero h = absurd (omega arith)
    go (suc n) (suc m) h = ap (λ (l : List ℕ). 0 ∷ l) (go n m (omega arith))

module _ {room : List ℕ} (is : room ≡ zeros 3072) where
  room_long : length room ≡ 3072
  room_long = ap length is ∙ length-zeros 3072

  pub room_lent : (n : ℕ) → n ≤ 3072 → n ≡ length (take n room)
  room_lent n h = sym (length-take-le n room (omega (arith, room_long)))

  -- its first words
  pub room_first : {n k : ℕ} → n ≡ k → n ≤ 3072 → take n room ≡ replicate k 0
  room_first {n} {k} e h = rw (is, e) (take-zeros k 3072 (omega arith))

-- ---- how much is asked of it

module _ (file : List ℕ) where
  module _ (g : Good file) where
    -- the grid has as many bytes as cells
    grid_long : length (grid_in file) ≡ cells (size_in file)
    grid_long =
        length-take-le (cells (size_in file)) (drop (grid_start file) file)
        (rw length-drop (left (ENTRY_BYTES * word file 4) (grid_start file) (cells (size_in file)) (length file) g.fills g.least))
      where
        left : (log start n m : ℕ) → log + (start + n) ≡ m - 92 → 92 ≤ m → n ≤ m - start
        left log start n m e h = omega arith

    pub slots_are : {grid : List ℕ} → grid ≡ grid_in file → (6 * length grid ≡ 6 * cells (size_in file)) × (6 * length grid ≤ 3072)
    slots_are {grid} e = let p : length grid ≡ cells (size_in file) = ap length e ∙ grid_long in (ap (λ (k : ℕ). 6 * k) p, few p g.cells)
      where
        few : {n m : ℕ} → n ≡ m → m ≤ 512 → 6 * n ≤ 3072
        few e h = omega arith

-- what is lent of it is the room that the rules speak of
pub lists_room : (file : List ℕ) {p n u c t l s : List ℕ} {six : ℕ} → p ≡ zeros 3072 → n ≡ zeros 3072 → u ≡ zeros 3072 → c ≡ zeros 3072
    → t ≡ zeros 3072 → l ≡ zeros 3072 → s ≡ zeros 3072 → (six ≡ 6 * cells (size_in file)) × (six ≤ 3072)
    → lists_lent (take 1536 p) (take 1536 n) (take 1024 u) (take 2048 c) (take 768 t) (take 128 l) (take six s) ≡ room_in file
lists_room file p n u c t l s six =
    let ps = room_first p {k = 128 * 12} refl (omega arith) in
    let ns = room_first n {k = 128 * 12} refl (omega arith) in
    let us = room_first u {k = 128 * 8} refl (omega arith) in
    let cs = room_first c {k = 128 * 16} refl (omega arith) in
    let ts = room_first t {k = 128 * 6} refl (omega arith) in
    let ls = room_first l {k = 128} refl (omega arith) in
    let ss = room_first s six.0 six.1 in
    λ i. lists_lent (ps i) (ns i) (us i) (cs i) (ts i) (ls i) (ss i)

-- ---- the first words of what was written

pub first_filled : (v : ℕ → ℕ) (n m : ℕ) (xs out : List ℕ) → m ≡ n → out ≡ filled n v xs → take m out ≡ table n v
first_filled v n m xs out e w = rw (w, e) (take_at (table n v) (drop n xs) n (length-table v n))

pub first_wrote : {bytes xs out : List ℕ} {end : ℕ} → Wrote bytes 0 xs out end → take end out ≡ bytes
first_wrote {bytes} {xs} {out} {end} w =
    let e : end ≡ length bytes = omega (arith, w.end) in
    ap (take end) w.is ∙ take_at bytes (drop (0 + length bytes) xs) end (sym e)

pub part_inside : (a b : List ℕ) {n : ℕ} → length a ≡ n → n ≤ length (a ++ b)
part_inside a b e = omega (arith, length-append a b)

pub wrote_inside : {bytes xs out : List ℕ} {end : ℕ} → Wrote bytes 0 xs out end → end ≤ length out
wrote_inside {bytes} {xs} w = omega (arith, w.end, ap length w.is, length-append bytes (drop (0 + length bytes) xs))
