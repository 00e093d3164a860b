-- `checking::check_mesh` meets its contract: each test is the first that refuses, or passes. Assumes nothing.
use mathlib.Core.Path.{◌≡◌, sym, ap, ◌∙◌}
use mathlib.Core.List.{List}
use Prim.Native.Nat.{ℕ, ◌*◌, ◌^◌, ◌<◌}
use native.Mathlib.Omega.{arith}
use lib.Dec.{ltb}
use lib.ListN.{length}
use Rattle.std.specs.Prelude.{Result, Ok}
use Rattle.rules.specs.Lists.{member}
use Rattle.rules.specs.Cells.{cells}
use Rattle.rules.specs.Mesh.{Lists}
use Rattle.rules.specs.Answers.{Verdict, fine, refuse_if, ◌then◌, BAD_LINKS, BAD_TRIANGLES}
use Rattle.rules.specs.Calls.{Scene, open_verdict, book_verdict}
use Rattle.rules.proofs.Sets.{set_of_lt}
use Rattle.answers.specs.declared.Refused.{Refused}
use Rattle.answers.specs.Verdicts.{verdict_of}
use Rattle.answers.proofs.Chains.{stops, goes, passes, then_assoc}
use Rattle.terms.specs.Loans.{lists_in}
use Rattle.terms.specs.Scenes.{scene_of}
use Rattle.lent.proofs.Linked.{few_linked}
use Rattle.checking.proofs.Checked.{Opened, opened, faces_told, comparable, quads_told}
use Rattle.checking.proofs.check_mesh.Goals as goal

-- what is known after each test that was passed
opens : (S : Scene) (outer g : List ℕ) (B : Lists) (Q : ℕ) {u : Unit {0}} (x : Result Unit Refused) → length B.vertices.positions < 2 ^ 64 → x ≡ Ok u
    → verdict_of x ≡ open_verdict S outer g B Q → Opened S outer g B Q
opens S outer g B Q x fits was k = opened S outer g B Q fits (sym (passes x _ was k))

books : (S : Scene) (B : Lists) (Q n : ℕ) {u v : Unit {0}} (x y : Result Unit Refused) → n ≡ cells S.size → x ≡ Ok u → verdict_of x ≡ BAD_LINKS n B Q
    → y ≡ Ok v → verdict_of y ≡ BAD_TRIANGLES B Q → book_verdict S B Q ≡ fine
books S B Q n x y e was k rested l = sym (goes x _ was (k ∙ ap (λ (m : ℕ). BAD_LINKS m B Q) e) (passes y _ rested l))

-- the links and the triangles are one test of the rules
after_books : (S : Scene) (B : Lists) (Q n : ℕ) {u v : Unit {0}} {r b : Verdict} (x y : Result Unit Refused) → n ≡ cells S.size → x ≡ Ok u → verdict_of x ≡ BAD_LINKS n B Q
    → y ≡ Ok v → verdict_of y ≡ BAD_TRIANGLES B Q → r ≡ b → r ≡ (book_verdict S B Q then b)
after_books S B Q n x y e was k rested l h = goes x _ was (k ∙ ap (λ (m : ℕ). BAD_LINKS m B Q) e) (goes y _ rested l h) ∙ sym (then_assoc _ _ _)

pub returns-in_err-open_verdict : goal.returns-in_err-open_verdict
returns-in_err-open_verdict c = stops _ _ _ _ c.in_err-open_verdict.was c.from_residual.ensures.1 (c.open_verdict.ensures (lists_in c.args.mesh) c.lengths_of.ensures)

pub cell_count-cells-requires : goal.cell_count-cells-requires
cell_count-cells-requires c =
    let a = c.args in
    let long = c.lengths_of.ensures in
    (opens (scene_of a.scene) _ _ (lists_in a.mesh) _ _ (omega (arith, long.positions)) c.in_ok-open_verdict.was (c.open_verdict.ensures (lists_in a.mesh) long)).input.within.sides

pub links_verdict-requires : goal.links_verdict-requires
links_verdict-requires c =
    let a = c.args in
    let long = c.lengths_of.ensures in
    rw c.cell_count-cells.ensures
    (opens (scene_of a.scene) _ _ (lists_in a.mesh) _ _ (omega (arith, long.positions)) c.in_ok-open_verdict.was (c.open_verdict.ensures (lists_in a.mesh) long)).lent

pub returns-in_err-links_verdict : goal.returns-in_err-links_verdict
returns-in_err-links_verdict c =
    let a = c.args in
    let B = lists_in a.mesh in
    goes _ _ c.in_ok-open_verdict.was (c.open_verdict.ensures B c.lengths_of.ensures)
    (stops _ _ _ _ c.in_err-links_verdict.was c.from_residual-in_err-links_verdict.ensures.1
    (c.links_verdict.ensures B.vertices B.triangles ∙ ap (λ (n : ℕ). BAD_LINKS n B a.count) c.cell_count-cells.ensures)
    ∙ sym (then_assoc _ _ _))

pub triangles_verdict-requires : goal.triangles_verdict-requires
triangles_verdict-requires c =
    let a = c.args in
    let S = scene_of a.scene in
    let B = lists_in a.mesh in
    let long = c.lengths_of.ensures in
    let o = opens S _ _ B _ _ (omega (arith, long.positions)) c.in_ok-open_verdict.was (c.open_verdict.ensures B long) in
    let linked = passes _ _ c.in_ok-links_verdict.was (c.links_verdict.ensures B.vertices B.triangles ∙ ap (λ (n : ℕ). BAD_LINKS n B a.count) c.cell_count-cells.ensures) in
    (o.room.triangles, omega (arith, few_linked (cells S.size) B a.count o.input.slotted (sym linked), o.input.within.most))

pub returns-in_err-triangles_verdict : goal.returns-in_err-triangles_verdict
returns-in_err-triangles_verdict c =
    let a = c.args in
    let B = lists_in a.mesh in
    goes _ _ c.in_ok-open_verdict.was (c.open_verdict.ensures B c.lengths_of.ensures)
    (goes _ _ c.in_ok-links_verdict.was (c.links_verdict.ensures B.vertices B.triangles ∙ ap (λ (n : ℕ). BAD_LINKS n B a.count) c.cell_count-cells.ensures)
    (stops _ _ _ _ c.in_err-triangles_verdict.was c.from_residual-in_err-triangles_verdict.ensures.1 (c.triangles_verdict.ensures B.vertices B.links B.slots))
    ∙ sym (then_assoc _ _ _))

pub outer_set-requires : goal.outer_set-requires
outer_set-requires c =
    let a = c.args in
    let long = c.lengths_of.ensures in
    (opens (scene_of a.scene) _ _ (lists_in a.mesh) _ _ (omega (arith, long.positions)) c.in_ok-open_verdict.was (c.open_verdict.ensures (lists_in a.mesh) long)).input.face

pub invariant_of-ground : goal.invariant_of-ground
invariant_of-ground c =
    let a = c.args in
    let long = c.lengths_of.ensures in
    let k = (opens (scene_of a.scene) _ _ (lists_in a.mesh) _ _ (omega (arith, long.positions)) c.in_ok-open_verdict.was (c.open_verdict.ensures (lists_in a.mesh) long)).input in
    record {
      whole = record { within = k.within; whole = k.whole; typed = λ i l. rw k.typed.covered (k.type i l) };
      both = k.typed.covered;
    }

pub lowest_wrong_face-face-requires : goal.lowest_wrong_face-face-requires
lowest_wrong_face-face-requires c =
    let a = c.args in
    let long = c.lengths_of.ensures in
    let k = (opens (scene_of a.scene) _ _ (lists_in a.mesh) _ _ (omega (arith, long.positions)) c.in_ok-open_verdict.was (c.open_verdict.ensures (lists_in a.mesh) long)).input in
    (k.slotted, k.typed.counted.few, rw c.outer_set.ensures (set_of_lt (λ f. member f a.outer.now)))

pub returns-in_err-refuse_if : goal.returns-in_err-refuse_if
returns-in_err-refuse_if c =
    let a = c.args in
    let S = scene_of a.scene in
    let B = lists_in a.mesh in
    let long = c.lengths_of.ensures in
    let o = opens S _ _ B _ _ (omega (arith, long.positions)) c.in_ok-open_verdict.was (c.open_verdict.ensures B long) in
    let n = c.cell_count-cells.ensures in
    let links = c.links_verdict.ensures B.vertices B.triangles in
    let triangles = c.triangles_verdict.ensures B.vertices B.links B.slots in
    let face = c.lowest_wrong_face-face.result in
    goes _ _ c.in_ok-open_verdict.was (c.open_verdict.ensures B long)
    (after_books S B a.count _ _ _ n c.in_ok-links_verdict.was links c.in_ok-triangles_verdict.was triangles
    (stops _ _ _ _ c.in_err-refuse_if.was c.from_residual-in_err-refuse_if.ensures.1
    (c.refuse_if.ensures ∙ ap (λ (m : ℕ). refuse_if (ltb face (6 * m)) 15 face) n
    ∙ faces_told S a.outer.now a.grid.now B a.count o (books S B a.count _ _ _ n c.in_ok-links_verdict.was links c.in_ok-triangles_verdict.was triangles) face
    (c.lowest_wrong_face-face.ensures a.outer.now c.outer_set.ensures))))

pub first_wrong_quad-quad-requires : goal.first_wrong_quad-quad-requires
first_wrong_quad-quad-requires c =
    let a = c.args in
    let S = scene_of a.scene in
    let B = lists_in a.mesh in
    let long = c.lengths_of.ensures in
    let o = opens S _ _ B _ _ (omega (arith, long.positions)) c.in_ok-open_verdict.was (c.open_verdict.ensures B long) in
    let n = c.cell_count-cells.ensures in
    let booked = books S B a.count _ _ _ n c.in_ok-links_verdict.was (c.links_verdict.ensures B.vertices B.triangles) c.in_ok-triangles_verdict.was (c.triangles_verdict.ensures B.vertices B.links B.slots) in
    let face = c.lowest_wrong_face-face.result in
    let faced = passes _ _ c.in_ok-refuse_if.was
    (c.refuse_if.ensures ∙ ap (λ (m : ℕ). refuse_if (ltb face (6 * m)) 15 face) n
    ∙ faces_told S a.outer.now a.grid.now B a.count o booked face (c.lowest_wrong_face-face.ensures a.outer.now c.outer_set.ensures)) in
    (comparable S a.outer.now a.grid.now B a.count o booked (sym faced), o.input.typed.d)

pub returns : goal.returns
returns c =
    let a = c.args in
    let S = scene_of a.scene in
    let B = lists_in a.mesh in
    let long = c.lengths_of.ensures in
    let o = opens S _ _ B _ _ (omega (arith, long.positions)) c.in_ok-open_verdict.was (c.open_verdict.ensures B long) in
    let n = c.cell_count-cells.ensures in
    let links = c.links_verdict.ensures B.vertices B.triangles in
    let triangles = c.triangles_verdict.ensures B.vertices B.links B.slots in
    let booked = books S B a.count _ _ _ n c.in_ok-links_verdict.was links c.in_ok-triangles_verdict.was triangles in
    let face = c.lowest_wrong_face-face.result in
    goes _ _ c.in_ok-open_verdict.was (c.open_verdict.ensures B long)
    (after_books S B a.count _ _ _ n c.in_ok-links_verdict.was links c.in_ok-triangles_verdict.was triangles
    (goes _ _ c.in_ok-refuse_if.was
    (c.refuse_if.ensures ∙ ap (λ (m : ℕ). refuse_if (ltb face (6 * m)) 15 face) n
    ∙ faces_told S a.outer.now a.grid.now B a.count o booked face (c.lowest_wrong_face-face.ensures a.outer.now c.outer_set.ensures))
    (c.refuse_if-2.ensures ∙ quads_told S a.outer.now a.grid.now B a.count o booked c.first_wrong_quad-quad.result c.first_wrong_quad-quad.ensures)))
