-- Laws of cubes that are built in order. Assumes nothing.
use mathlib.Core.Path.{◌≡◌, refl, sym, ap, ◌∙◌, subst}
use mathlib.Core.Logic.{◌≢◌}
use mathlib.Core.List.{List, [], ◌++◌, append_assoc}
use Prim.Native.Nat.{ℕ, zero, suc, ◌+◌, ◌-◌, ◌*◌, ◌≤◌, ◌<◌}
use native.Mathlib.Nat.{mul-le-mul_left}
use native.Mathlib.Omega.{arith}
use lib.ListN.{length, take, drop, length-append, length-drop, length-replicate}
use lib.Seq.{drop-length, take_at, take_all, length-take-le}
use borrow.Rule.Slice.PartMut.{mid_of, post_of, put_mid, same_len_mid}
use Rattle.rules.specs.Cube.{Shape, floats_of, cube_words}
use Rattle.rules.specs.Answers.{Verdict, fine, refuse}
use Rattle.rules.specs.Calls.{Answer, CubeOutcome, cube_verdict, cube_by, generate_voxel_mesh, check_by}
use Rattle.rules.specs.Program.{type_count, coloured_in, shape_in, cube_room, cube_in, Built, stopped, built, build_one, build_from, scene_in, worked, lines_of, built_lines}
use Rattle.rules.proofs.Refusals.{Within, CUBE, cube_numbers, zero_fine}
use Rattle.std.specs.Prelude.{Result, Ok, Err}
use Rattle.answers.specs.declared.Refusal.{Refusal}
use Rattle.answers.specs.declared.Refusal.TheVariants.{BadFile, BadSize, BadTypes, BadNumber, BadAtlas, NotACube, BadFace, BadCell, ShortRoom, BadCount, BadLinks, BadTriangles, BadEntry, NoRoom, WrongSet, WrongVertex}
use Rattle.answers.specs.declared.Refused.{Refused}
use Rattle.answers.specs.Verdicts.{number_of, verdict_of}
use Rattle.voxel_mesh.specs.Outcome.{verdict_in}
use Rattle.working.specs.Steps.{built_by, built_of}

drop-whole : (n : ℕ) (xs : List ℕ) → length xs ≡ n → drop n xs ≡ []
drop-whole n xs e = rw (← e) (drop-length xs)

-- what stands in exact room plays no part
module _ (q : Shape) (X Y : List ℕ) (long : length X ≡ 24 * floats_of q.coloured) (same : length X ≡ length Y) where
  answer_as : (generate_voxel_mesh q X).answer ≡ (generate_voxel_mesh q Y).answer
  answer_as = go (cube_verdict q X) ∙ ap (λ (n : ℕ). (cube_by (verdict_in q n) q Y).answer) same
    where
      go : (v : Verdict) → (cube_by v q X).answer ≡ (cube_by v q Y).answer
      go fine = refl
      go (refuse n p) = refl

  out_as : (generate_voxel_mesh q X).answer.number ≡ 0 → (generate_voxel_mesh q X).out ≡ (generate_voxel_mesh q Y).out
  out_as e = go (cube_verdict q X) (cube_numbers q X) e ∙ ap (λ (n : ℕ). (cube_by (verdict_in q n) q Y).out) same
    where
      go : (v : Verdict) → Within CUBE v → (cube_by v q X).answer.number ≡ 0 → (cube_by v q X).out ≡ (cube_by v q Y).out
      go fine w e =
          ap (λ (l : List ℕ). cube_words q ++ l)
          (drop-whole (24 * floats_of q.coloured) X long ∙ sym (drop-whole (24 * floats_of q.coloured) Y (sym same ∙ long)))
      go (refuse n p) w e =
          let f = zero_fine CUBE refl (refuse n p) w e in
          let z : ◌≡◌ {A = ℕ} 0 1 = cc in absurd (omega arith)

-- one type: what the call left, and the rule's next step
module _ (file : List ℕ) (t : ℕ) (a : Answer) (X out : List ℕ) (long : length X ≡ 24 * floats_of (coloured_in file))
    (told : record { answer = a; out = out } ≡ generate_voxel_mesh (shape_in file t) X) where
  whole : length X ≡ length (cube_room file)
  whole = long ∙ sym (length-replicate (24 * floats_of (coloured_in file)) 0)

  answer_is : (cube_in file t).answer ≡ a
  answer_is = sym (ap (λ (o : CubeOutcome). o.answer) told ∙ answer_as (shape_in file t) X (cube_room file) long whole)

  out_is : a.number ≡ 0 → (cube_in file t).out ≡ out
  out_is e =
      sym (ap (λ (o : CubeOutcome). o.out) told
      ∙ out_as (shape_in file t) X (cube_room file) long whole (ap (λ (o : CubeOutcome). o.answer.number) (sym told) ∙ e))

  -- accepted: its words come after those before
  built_more : (n : ℕ) (before : List ℕ) → a.number ≡ 0 → build_from file t (suc n) before ≡ build_from file (suc t) n (before ++ out)
  unfolding build_from
  built_more n before e =
      ap (λ (k : ℕ). build_one (cube_in file t) k (build_from file (suc t) n (before ++ (cube_in file t).out)))
      (ap (λ (a : Answer). a.number) answer_is ∙ e)
      ∙ ap (λ (l : List ℕ). build_from file (suc t) n (before ++ l)) (out_is e)

  -- refused: no type is built after it
  built_stop : (n : ℕ) (before registry : List ℕ) → a.number ≢ 0 → built_of a registry ≡ build_from file t (suc n) before
  unfolding build_from
  built_stop n before registry h = go a.number h refl
    where
      go : (k : ℕ) → k ≢ 0 → a.number ≡ k → built_of a registry ≡ build_from file t (suc n) before
      go zero h e = absurd (h refl)
      go (suc k) h e =
          ap (λ (k : ℕ). built_by k a registry) e
          ∙ ap stopped (sym answer_is)
          ∙ ap (λ (k : ℕ). build_one (cube_in file t) k (build_from file (suc t) n (before ++ (cube_in file t).out)))
          (sym (ap (λ (a : Answer). a.number) answer_is ∙ e))

-- ---- type by type

-- the words of a cube
abbrev pub words : List ℕ → ℕ
words file = 24 * floats_of (coloured_in file)

-- the types below t are built into the registry's start
pub record Building (file : List ℕ) (t : ℕ) (registry : List ℕ) : Type 0 where
  pub most : t ≤ type_count file
  pub is : build_from file t (type_count file - t) (take (words file * t) registry) ≡ build_from file 0 (type_count file) []
  pub long : length registry ≡ words file * type_count file

pub building_none : (file registry : List ℕ) → length registry ≡ words file * type_count file → Building file 0 registry
building_none file registry long = record { most = omega arith; is = rw (none (words file), all (type_count file)); long = long }
  where
    none : (w : ℕ) → w * 0 ≡ 0
    none w = omega arith

    all : (n : ℕ) → n - 0 ≡ n
    all n = omega arith

module _ (file : List ℕ) (t : ℕ) (registry : List ℕ) (b : Building file t registry) where
  -- a type's stretch lies in the registry
  pub stretch_inside : t < type_count file → words file * t + words file ≤ length registry
  stretch_inside h = omega (arith, b.long, mul-le-mul_left {m = suc t} {n = type_count file} (words file) h)

  pub building_all : type_count file ≤ t → built registry ≡ build_from file 0 (type_count file) []
  unfolding build_from
  building_all h =
      let e : t ≡ type_count file = omega (arith, b.most) in
      ap built (sym (ap (λ (k : ℕ). take (words file * k) registry) e ∙ take_all (words file * type_count file) registry (omega (arith, b.long))))
      ∙ ap (λ (k : ℕ). build_from file t k (take (words file * t) registry)) (none t (type_count file) e)
      ∙ b.is
    where
      none : (t n : ℕ) → t ≡ n → 0 ≡ n - t
      none t n e = omega arith

  module _ (h : t < type_count file) (a : Answer) (X out : List ℕ) (long : length X ≡ words file)
      (told : record { answer = a; out = out } ≡ generate_voxel_mesh (shape_in file t) X) where
    left : type_count file - t ≡ suc (type_count file - suc t)
    left = omega arith

    pub building_stop : (after : List ℕ) → a.number ≢ 0 → built_of a after ≡ build_from file 0 (type_count file) []
    building_stop after n =
        built_stop file t a X out long told (type_count file - suc t) (take (words file * t) registry) after n
        ∙ ap (λ (k : ℕ). build_from file t k (take (words file * t) registry)) (sym left)
        ∙ b.is

    -- the cube is back in its stretch
    pub building_more : (rest : List ℕ) → length out ≡ words file → length (take (words file * t) registry ++ (out ++ rest)) ≡ length registry
        → a.number ≡ 0 → Building file (t + 1) (take (words file * t) registry ++ (out ++ rest))
    building_more rest sized whole e =
        record {
          most = omega arith;
          is =
              rw (next t)
              (ap (build_from file (suc t) (type_count file - suc t)) start
              ∙ sym (built_more file t a X out long told (type_count file - suc t) (take (words file * t) registry) e)
              ∙ ap (λ (k : ℕ). build_from file t k (take (words file * t) registry)) (sym left)
              ∙ b.is);
          long = whole ∙ b.long;
        }
      where
        next : (k : ℕ) → k + 1 ≡ suc k
        next k = omega arith

        front_long : length (take (words file * t) registry ++ out) ≡ words file * suc t
        front_long =
            length-append (take (words file * t) registry) out
            ∙ omega (arith, length-take-le (words file * t) registry (omega (arith, stretch_inside h)), sized)

        start : take (words file * suc t) (take (words file * t) registry ++ (out ++ rest)) ≡ take (words file * t) registry ++ out
        start =
            ap (take (words file * suc t)) (sym (append_assoc (take (words file * t) registry) out rest))
            ∙ take_at (take (words file * t) registry ++ out) rest (words file * suc t) front_long

-- ---- a turn: a stretch of w words is lent to the cube call, and comes back as `out`

stretch_long : (a w : ℕ) (xs : List ℕ) → a + w ≤ length xs → length (mid_of a (a + w - a) xs) ≡ w
stretch_long a w xs h = let f : a + w - a ≡ w = omega arith in rw f (length-take-le w (drop a xs) (rw length-drop (omega arith)))

module _ (file : List ℕ) (t : ℕ) (registry : List ℕ) (b : Building file t registry) (h : t < type_count file) (a : Answer) (out : List ℕ) where
  abbrev stretch : ℕ → List ℕ
  stretch w = mid_of (w * t) (w * t + w - w * t) registry

  -- what the call told, and how much came back
  abbrev Turn : ℕ → Type 0
  Turn w = (record { answer = a; out = out } ≡ generate_voxel_mesh (shape_in file t) (stretch w)) × (length out ≡ length (stretch w))

  lent_long : length (stretch (words file)) ≡ words file
  lent_long = stretch_long (words file * t) (words file) registry (stretch_inside file t registry b h)

  pub turn_stop : (w : ℕ) → w ≡ words file → Turn w → (after : List ℕ) → a.number ≢ 0 → built_of a after ≡ build_from file 0 (type_count file) []
  turn_stop w e u after n =
      building_stop file t registry b h a (stretch (words file)) out lent_long (rw e at u.0) after n

  pub turn_more : (w : ℕ) → w ≡ words file → Turn w → a.number ≡ 0
      → Building file (t + 1) (put_mid (w * t) (w * t + w - w * t) registry out)
  turn_more w e = subst (λ (w : ℕ). Turn w → a.number ≡ 0 → Building file (t + 1) (put_mid (w * t) (w * t + w - w * t) registry out)) (sym e) more
    where
      more : Turn (words file) → a.number ≡ 0
          → Building file (t + 1) (put_mid (words file * t) (words file * t + words file - words file * t) registry out)
      more u n =
          building_more file t registry b h a (stretch (words file)) out lent_long u.0
          (post_of (words file * t) (words file * t + words file - words file * t) registry) (u.1 ∙ lent_long)
          (same_len_mid (words file * t) (words file * t + words file - words file * t) registry out u.1) n

-- ---- what a cube call answers by its number

-- no refusal's number is 0
pub some_number : (why : Refusal) → number_of why ≡ 0 → ⊥
some_number BadFile e = omega arith
some_number BadSize e = omega arith
some_number BadTypes e = omega arith
some_number BadNumber e = omega arith
some_number BadAtlas e = omega arith
some_number NotACube e = omega arith
some_number BadFace e = omega arith
some_number BadCell e = omega arith
some_number ShortRoom e = omega arith
some_number BadCount e = omega arith
some_number BadLinks e = omega arith
some_number BadTriangles e = omega arith
some_number BadEntry e = omega arith
some_number NoRoom e = omega arith
some_number WrongSet e = omega arith
some_number WrongVertex e = omega arith

pub refused_number : (x : Result Unit Refused) {e : Refused} → x ≡ Err e → (check_by (verdict_of x)).number ≢ 0
refused_number x {e} was z = some_number e.why (rw was at z)

pub done_number : (x : Result Unit Refused) {u : Unit {0}} → x ≡ Ok u → (check_by (verdict_of x)).number ≡ 0
done_number x was = rw was refl

-- ---- what is printed of them

pub built_lines_lem : (file : List ℕ) (a : Answer) (cubes : List ℕ) {b : Built} → built_of a cubes ≡ b → a.number ≡ 0
    → lines_of (scene_in file cubes) (worked file (scene_in file cubes)) ≡ built_lines file b
built_lines_lem file a cubes e h = ap (λ (k : ℕ). built_lines file (built_by k a cubes)) (sym h) ∙ ap (built_lines file) e
