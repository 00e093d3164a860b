-- `voxel_mesh::Cube::write_face` meets its contract: after i turns the first i vertices are written. Assumes nothing.
use mathlib.Core.Path.{◌≡◌, sym, ap, ◌∙◌}
use mathlib.Core.List.{List, [], ◌∷◌, ◌++◌, append-nil}
use Prim.Native.Nat.{ℕ, ◌+◌, ◌*◌, ◌/◌}
use native.Mathlib.Omega.{arith}
use native.Mathlib.Nat.{suc-mul, mul-le-mul_right}
use lib.ListN.{length, drop_of_length-le}
use Rattle.rules.specs.Lists.{each, table}
use Rattle.rules.specs.Cube.{cube_word}
use Rattle.rules.proofs.Rows.{written, written_none, written_more, length_lent}
use Rattle.rules.proofs.ListLaws.{each_same, length-table}
use Rattle.voxel_mesh.specs.Outcome.{shape_of}
use Rattle.voxel_mesh.specs.Parts.{Tiled, part_word}
use Rattle.voxel_mesh.proofs.Making.{part_is, each_from}
use Rattle.voxel_mesh.proofs.Cube.write_face.Goals as goal

pub loop-i-init : goal.loop-i-init
loop-i-init c = written_none _ _ (λ v. length-table _ _) _

pub loop-i-preserved : goal.loop-i-preserved
loop-i-preserved c =
    let l = c.loop-i in
    let s = c.args.self in
    let floats = c.floats_of-floats.result in
    let q = shape_of s.shape s.texture.now in
    let v = 4 * c.args.face + l.i in
    let tile = c.tile-tile.result in
    let face : v / 4 ≡ c.args.face = omega arith in
    let tiled : Tiled q (v / 4) tile = rw face c.tile-tile.ensures in
    let room : length c.args.out.now ≡ 4 * floats = c.requires.1 ∙ ap (λ (n : ℕ). 4 * n) (sym c.floats_of-floats.ensures) in
    let lent = length_lent (l.i * floats) floats l.out (omega (arith, room, l.auto.out, mul-le-mul_right floats c.loop-i-test.true, suc-mul l.i floats)) in
    let word : (k : ℕ) → part_word s.shape s.low s.high tile v k ≡ cube_word q v k = part_is s.shape s.texture.now s.low s.high tile v s.is_cornered tiled in
    written_more floats (λ k. table floats (cube_word q (4 * c.args.face + k))) (λ k. length-table (cube_word q (4 * c.args.face + k)) floats) l.i c.args.out.now
    l.out _ l.invariant
    (c.write_vertex.ensures ∙ ap (λ (n : ℕ). table n (part_word s.shape s.low s.high tile v)) lent
    ∙ each_same floats 0 (λ k. part_word s.shape s.low s.high tile v k ∷ []) (λ k. cube_word q v k ∷ []) (λ k _ _. ap (λ (x : ℕ). x ∷ []) (word k)))

pub returns : goal.returns
returns c =
    let s = c.args.self in
    let floats = c.floats_of-floats.result in
    let q = shape_of s.shape s.texture.now in
    let e : c.loop-i.i ≡ 4 = omega arith in
    let z : 4 * c.args.face + 0 ≡ 4 * c.args.face = omega arith in
    let p : ℕ → List ℕ = λ v. table floats (cube_word q v) in
    let room : length c.args.out.now ≡ 4 * floats = c.requires.1 ∙ ap (λ (n : ℕ). 4 * n) (sym c.floats_of-floats.ensures) in
    c.loop-i.invariant
    ∙ ap (λ (n : ℕ). written floats (λ k. p (4 * c.args.face + k)) n c.args.out.now) e
    ∙ ap (λ (r : List ℕ). each 4 0 (λ k. p (4 * c.args.face + k)) ++ r) (drop_of_length-le c.args.out.now {i = 4 * floats} (omega (arith, room)))
    ∙ append-nil (each 4 0 (λ k. p (4 * c.args.face + k)))
    ∙ each_from 4 0 (4 * c.args.face) p ∙ ap (λ (n : ℕ). each 4 n p) z
    ∙ ap (λ (n : ℕ). each 4 (4 * c.args.face) (λ v. table n (cube_word q v))) c.floats_of-floats.ensures
