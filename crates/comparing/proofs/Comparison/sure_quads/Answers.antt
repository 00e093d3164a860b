-- `comparing::Comparison::sure_quads` meets its contract. Assumes nothing.
use mathlib.Core.Path.{◌≡◌, subst}
use mathlib.Core.Bool.{Bool, false}
use mathlib.Core.List.{List}
use Prim.Native.Nat.{ℕ}
use borrow.Author.Count.{below_more}
use Rattle.quads.specs.Words.{words_of}
use Rattle.terms.specs.Scenes.{scene_of}
use Rattle.terms.specs.Loans.{vertices_in}
use Rattle.comparing.specs.Quads.{other_quad, IsQuad}
use Rattle.comparing.proofs.Compared.{right_quad}
use Rattle.comparing.proofs.Comparison.sure_quads.Goals as goal

pub loop-q-preserved : goal.loop-q-preserved
loop-q-preserved c =
    let s = c.args.self.now in
    let S = scene_of s.scene in
    let vs = vertices_in s.lists in
    let q = c.loop-q.q in
    let e = c.registered.ensures in
    let is = c.is_quad.ensures c.if-not-is_quad.false in
    below_more (λ (k : ℕ). other_quad S s.grid.now vs s.lists.links.now k ≡ false) q c.loop-q.invariant
    (right_quad S s.grid.now vs s.lists.links.now q (subst (λ (ws : List ℕ). IsQuad s.scene.types.coloured vs q ws) e.1 is))
