use mathlib.Core.Path.{◌≡◌}
use mathlib.Core.Bool.{false}
use Prim.Native.Nat.{ℕ, ◌<◌}
use Rattle.terms.specs.Scenes.{scene_of}
use Rattle.terms.specs.Loans.{vertices_in}
use Rattle.comparing.specs.Quads.{other_quad}
use Rattle.comparing.proofs.Comparison.sure_quads.Given as goal

abbrev pub invariant-loop-q : goal.invariant-loop-q
invariant-loop-q l = let s = l.self in (q : ℕ) → q < l.q → other_quad (scene_of s.scene) s.grid.now (vertices_in s.lists) s.lists.links.now q ≡ false
