-- `types::Vertices::is_classed` meets its contract: the six words of a face are the corners that the rule names. Assumes nothing.
use Rattle.std.specs.Prelude as std
use Rattle.std.specs.Prelude.{Some, None, nat_eq}
use Rattle.std.specs.Option.{option_eq}
use Rattle.types.specs.Tests.{class_in}
use mathlib.Core.Path.{◌≡◌, refl, ap, ◌∙◌}
use mathlib.Core.Bool.{◌&&◌}
use mathlib.Core.Option.{Option}
use Prim.Native.Nat.{ℕ, ◌+◌, ◌*◌}
use lib.Dec.{lit<}
use Rattle.rules.specs.Types.{class_of, is_of, classed}
use Rattle.floats.specs.Triples.{triple_of}
use Rattle.voxel_mesh.proofs.Triangles.{word_of_face}
use Rattle.types.proofs.Vertices.is_classed.Goals as goal

is_face : (o : std.Option ℕ) (f : ℕ) → option_eq nat_eq o (Some f) ≡ is_of (class_in o) f
is_face None f = refl
is_face (Some n) f = refl

pub returns : goal.returns
unfolding classed
returns c =
    let f = c.args.face in
    let a : c.corner_of.result ≡ 4 * f =
    c.corner_of.ensures.0 ∙ word_of_face f 0 c.requires.0 (lit< tt) in
    let b : c.corner_of-2.result ≡ 4 * f + 1 =
    c.corner_of-2.ensures.0 ∙ word_of_face f 1 c.requires.0 (lit< tt) in
    let d : c.corner_of-3.result ≡ 4 * f + 3 = c.corner_of-3.ensures.0 ∙ word_of_face f 2 c.requires.0 (lit< tt) in
    let e : c.corner_of-4.result ≡ 4 * f + 2 =
    c.corner_of-4.ensures.0 ∙ word_of_face f 3 c.requires.0 (lit< tt) in
    let g : c.corner_of-5.result ≡ 4 * f + 3 =
    c.corner_of-5.ensures.0 ∙ word_of_face f 4 c.requires.0 (lit< tt) in
    let h : c.corner_of-6.result ≡ 4 * f + 1 = c.corner_of-6.ensures.0 ∙ word_of_face f 5 c.requires.0 (lit< tt) in
    let v = c.args in
    let class = class_of v.self.words.now v.self.floats (triple_of v.self.centre) in
    let x = c.eq.ensures ∙ is_face _ f ∙ ap (λ (o : Option ℕ). is_of o f) (c.class_of-first.ensures ∙ (λ i. class (a i) (b i) (d i))) in
    let y = c.eq-2.ensures ∙ is_face _ f ∙ ap (λ (o : Option ℕ). is_of o f) (c.class_of-second.ensures ∙ (λ i. class (e i) (g i) (h i))) in
    λ i. x i && y i
