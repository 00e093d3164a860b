-- `voxel_mesh::Cube::write` meets its contract: after n turns the first n faces are written. Assumes nothing.
use mathlib.Core.Path.{◌≡◌, sym, ap, ◌∙◌}
use mathlib.Core.List.{List, ◌++◌}
use Prim.Native.Nat.{ℕ, ◌*◌}
use native.Mathlib.Omega.{arith}
use lib.ListN.{length, drop}
use Rattle.rules.specs.Lists.{each, table}
use Rattle.rules.specs.Cube.{floats_of, cube_word, cube_words}
use Rattle.rules.proofs.Rows.{written, written_none, written_more}
use Rattle.rules.proofs.ListLaws.{length-each, length-table}
use Rattle.voxel_mesh.specs.Outcome.{shape_of}
use Rattle.voxel_mesh.proofs.Making.{grouped}
use Rattle.voxel_mesh.proofs.Cube.write.Invariants.{rows_of}
use Rattle.voxel_mesh.proofs.Cube.write.Goals as goal

wide : (floats n : ℕ) (word : ℕ → ℕ → ℕ) → n ≡ floats → (f : ℕ) → length (rows_of floats word f) ≡ 4 * n
wide floats n word e f = length-each floats 4 (4 * f) (λ v. table floats (word v)) (λ v. length-table (word v) floats) ∙ ap (λ (k : ℕ). 4 * k) (sym e)

pub loop-face-init : goal.loop-face-init
loop-face-init c = written_none _ _ (wide _ _ _ c.floats_of-words.ensures) _

pub loop-face-preserved : goal.loop-face-preserved
loop-face-preserved c =
    let l = c.loop-face in
    let s = c.args.self in
    let rows = rows_of (floats_of s.shape.coloured) (cube_word (shape_of s.shape s.texture.now)) in
    written_more (4 * c.floats_of-words.result) rows (wide _ _ _ c.floats_of-words.ensures) l.face c.args.out.now l.out _ l.invariant c.write_face.ensures

pub returns : goal.returns
unfolding cube_words
returns c =
    let s = c.args.self in
    let floats = floats_of s.shape.coloured in
    let words = 4 * c.floats_of-words.result in
    let p : ℕ → List ℕ = λ v. table floats (cube_word (shape_of s.shape s.texture.now) v) in
    let e : c.loop-face.face ≡ 6 = omega arith in
    let n : 6 * words ≡ 24 * floats = omega (arith, c.floats_of-words.ensures) in
    c.loop-face.invariant
    ∙ ap (λ (k : ℕ). written words (λ f. each 4 (4 * f) p) k c.args.out.now) e
    ∙ ap (λ (k : ℕ). each 6 0 (λ f. each 4 (4 * f) p) ++ drop k c.args.out.now) n
    ∙ ap (λ (r : List ℕ). r ++ drop (24 * floats) c.args.out.now) (grouped 4 6 0 p)
