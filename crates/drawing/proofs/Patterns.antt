-- Patterns written one after the other, from a place on. Assumes nothing.
use mathlib.Core.Path.{◌≡◌, refl, sym, ap, ◌∙◌}
use mathlib.Core.List.{List, ◌++◌}
use Prim.Native.Nat.{ℕ, suc, ◌+◌, ◌-◌, ◌*◌, ◌≤◌, ◌<◌}
use native.Mathlib.Omega.{arith}
use lib.ListN.{length}
use Rattle.rules.specs.Lists.{each}
use Rattle.rules.specs.Mesh.{pattern}
use Rattle.rules.proofs.ListLaws.{length-each}
use Rattle.rules.proofs.Rows.{each_more}
use Rattle.vav.specs.Rows.{put}
use Rattle.vav.proofs.Laws.{length-put, put_none}
use Rattle.vav.proofs.Laws.{put_next}

-- the patterns of the places from `from` up to q are written
pub record Patterned (from q : ℕ) (old xs : List ℕ) : Type 0 where
  pub up : from ≤ q
  pub is : xs ≡ put (6 * from) (each (q - from) from pattern) old
  pub kept : length xs ≡ length old

pub length_patterns : (n from : ℕ) → length (each n from pattern) ≡ n * 6
length_patterns n from = length-each 6 n from pattern (λ q. refl)

pub start : (from : ℕ) (xs : List ℕ) → Patterned from from xs xs
unfolding each
start from xs =
    let z : from - from ≡ 0 = omega arith in
    record { up = omega arith; is = rw z (put_none (6 * from) xs); kept = refl }

pub next : {from q to : ℕ} {old xs out : List ℕ} → q < to → 6 * to ≤ length old → Patterned from q old xs → out ≡ put (6 * q) (pattern q) xs
    → Patterned from (q + 1) old out
next {from} {q} {to} {old} {xs} {out} h room p e =
    let u = p.up in
    let k = p.kept in
    let n : q + 1 - from ≡ suc (q - from) = omega arith in
    let at : from + (q - from) ≡ q = omega arith in
    let l : 6 * q ≡ 6 * from + length (each (q - from) from pattern) = omega (arith, length_patterns (q - from) from) in
    record {
      up = omega arith;
      is = e ∙ ap (put (6 * q) (pattern q)) p.is
          ∙ ap (λ (i : ℕ). put i (pattern q) (put (6 * from) (each (q - from) from pattern) old)) l
          ∙ put_next (6 * from) (each (q - from) from pattern) (pattern q) old (omega arith)
          ∙ ap (λ (r : List ℕ). put (6 * from) r old)
          (ap (λ (i : ℕ). each (q - from) from pattern ++ pattern i) (sym at) ∙ sym (each_more (q - from) from pattern) ∙ ap (λ (i : ℕ). each i from pattern) (sym n));
      kept = ap length e ∙ length-put (6 * q) (pattern q) xs (omega arith) ∙ k;
    }

-- none left to write
pub stop : {from q : ℕ} {old xs : List ℕ} (to : ℕ) → q - from ≡ to - from → Patterned from q old xs → xs ≡ put (6 * from) (each (to - from) from pattern) old
stop {from} {q} {old} to e p = p.is ∙ ap (λ (i : ℕ). put (6 * from) (each i from pattern) old) e
