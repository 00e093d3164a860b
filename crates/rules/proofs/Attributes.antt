-- The attributes of vertices: taken apart and put together again, by one law over where an attribute starts and how many floats it has. Assumes nothing.
use mathlib.Core.Path.{◌≡◌, refl, sym, ap, ◌∙◌}
use mathlib.Core.Bool.{Bool, true, false, cond, not, ◌||◌, true≢false}
use mathlib.Core.List.{List, [], ◌∷◌, ◌++◌, append-nil, append_assoc}
use Prim.Native.Nat.{ℕ, zero, suc, ◌+◌, ◌-◌, ◌*◌, ◌≤◌, ◌<◌}
use native.Mathlib.Nat.{zero-add, suc-add, mul-le-mul_left}
use native.Mathlib.Omega.{arith}
use lib.ListN.{length, take, drop, length-append, length-drop}
use lib.Seq.{take-add, take_at, take-nil, take_all, take-take, drop-drop, drop-append-add, length-take-le}
use Rattle.rules.specs.Lists.{each, part, row, same}
use Rattle.rules.specs.Cube.{floats_of}
use Rattle.rules.proofs.ListLaws.{each_same, same_true, same_refl, not_true, or_false}
use Rattle.rules.specs.Mesh.{Attribute, position, normal, uv, colour, attribute_in, Vertices, vertices_of, HasList, of_positions, of_normals, of_uvs, of_colours, each_list, vertex_in, quad_in}

-- ---- parts of a list
pub length_part : (at n : ℕ) (xs : List ℕ) → at + n ≤ length xs → length (part at n xs) ≡ n
length_part at n xs h = length-take-le n (drop at xs) (rw length-drop (omega arith))

pub part-append : (at b c : ℕ) (xs : List ℕ) → part at b xs ++ part (at + b) c xs ≡ part at (b + c) xs
part-append at b c xs = sym (take-add b c (drop at xs) ∙ rw (drop-drop b at xs))

-- a part that starts past x
pub part_past : (x r : List ℕ) (k j n : ℕ) → length x ≡ k → part (k + j) n (x ++ r) ≡ part j n r
part_past x r k j n e = rw (← e) (ap (take n) (drop-append-add x r j))

drop-take : (b m : ℕ) (xs : List ℕ) → drop b (take (b + m) xs) ≡ take m (drop b xs)
drop-take zero m xs = ap (λ (k : ℕ). take k xs) (zero-add m)
drop-take (suc b) m [] = ap (drop (suc b)) (take-nil (suc b + m)) ∙ sym (take-nil m)
drop-take (suc b) m (x ∷ xs) = ap (λ (k : ℕ). drop (suc b) (take k (x ∷ xs))) (suc-add b m) ∙ drop-take b m xs

-- a part of a part
pub part_part : (at n b c : ℕ) (xs : List ℕ) → b + c ≤ n → part b c (part at n xs) ≡ part (at + b) c xs
part_part at n b c xs h =
    let e : n ≡ b + (n - b) = omega arith in
    ap (λ (k : ℕ). take c (drop b (take k (drop at xs)))) e
    ∙ ap (take c) (drop-take b (n - b) (drop at xs))
    ∙ take-take c (n - b) (drop b (drop at xs)) (omega arith)
    ∙ ap (take c) (drop-drop b at xs)

-- ---- rows, one after the other

-- v rows of a list from row j + i on are one part of it
pub each_rows : (w j v i : ℕ) (xs : List ℕ) → each v i (λ k. row w xs (j + k)) ≡ part (w * (j + i)) (w * v) xs
unfolding each
each_rows w j zero i xs = let z : w * 0 ≡ 0 = omega arith in rw z
each_rows w j (suc v) i xs =
    let a : w * (j + suc i) ≡ w * (j + i) + w = omega arith in
    let b : w * suc v ≡ w + w * v = omega arith in
    rw b (ap (λ (r : List ℕ). row w xs (j + i) ++ r) (each_rows w j v (suc i) xs ∙ ap (λ (k : ℕ). part k (w * v) xs) a)
    ∙ part-append (w * (j + i)) w (w * v) xs)

-- row j of pieces of w words
pub row_of_each : (w : ℕ) (p : ℕ → List ℕ) (v i j : ℕ) → ((k : ℕ) → k < v → length (p (i + k)) ≡ w) → j < v → row w (each v i p) j ≡ p (i + j)
unfolding each
row_of_each w p zero i j h l = absurd (none j l)
  where
    none : (j : ℕ) → j < 0 → ⊥
    none j l = omega arith
row_of_each w p (suc v) i zero h l =
    let z : w * 0 ≡ 0 = omega arith in
    let e : i + 0 ≡ i = omega arith in
    rw (z, e) (take_at (p i) (each v (suc i) p) w (rw e at (h 0 (omega arith))))
row_of_each w p (suc v) i (suc j) h l =
    let e : i + 0 ≡ i = omega arith in
    let z : w * suc j ≡ w + w * j = omega arith in
    let s : suc i + j ≡ i + suc j = omega arith in
    rw z (part_past (p i) (each v (suc i) p) w (w * j) w (rw e at (h 0 (omega arith)))
    ∙ row_of_each w p v (suc i) j (λ k b. let t : suc i + k ≡ i + suc k = omega arith in rw t (h (suc k) (omega arith))) (omega arith)
    ∙ ap p s)

pub length_pieces : (w : ℕ) (p : ℕ → List ℕ) (v i : ℕ) → ((k : ℕ) → k < v → length (p (i + k)) ≡ w) → length (each v i p) ≡ w * v
unfolding each
length_pieces w p zero i h = omega arith
length_pieces w p (suc v) i h =
    let e : i + 0 ≡ i = omega arith in
    let a : length (p i) ≡ w = rw e at (h 0 (omega arith)) in
    let b = length_pieces w p v (suc i) (λ k l. let t : suc i + k ≡ i + suc k = omega arith in rw t (h (suc k) (omega arith))) in
    length-append (p i) (each v (suc i) p) ∙ omega arith

-- ---- an attribute of v vertices of n floats
module _ (n : ℕ) (a : Attribute) (inside : a.start + a.width ≤ n) (v : ℕ) (xs : List ℕ) (long : n * v ≤ length xs) where
  piece : (i : ℕ) → i < v → length (part (n * i + a.start) a.width xs) ≡ a.width
  piece i h =
      let m : n * (i + 1) ≤ n * v = mul-le-mul_left n (omega arith) in
      length_part (n * i + a.start) a.width xs (omega arith)

  pub length_attribute : length (attribute_in n a v xs) ≡ a.width * v
  unfolding attribute_in
  length_attribute =
      length_pieces a.width (λ i. part (n * i + a.start) a.width xs) v 0 (λ k h. let e : 0 + k ≡ k = omega arith in rw e (piece k h))

  pub row_attribute : (i : ℕ) → i < v → row a.width (attribute_in n a v xs) i ≡ part (n * i + a.start) a.width xs
  unfolding attribute_in
  row_attribute i h =
      let e : 0 + i ≡ i = omega arith in
      row_of_each a.width (λ k. part (n * k + a.start) a.width xs) v 0 i (λ k l. let z : 0 + k ≡ k = omega arith in rw z (piece k l)) h
      ∙ ap (λ (k : ℕ). part (n * k + a.start) a.width xs) e

-- of pieces of n floats
pub attribute_each : (n : ℕ) (a : Attribute) → a.start + a.width ≤ n → (v : ℕ) (p : ℕ → List ℕ) → ((k : ℕ) → k < v → length (p k) ≡ n)
    → attribute_in n a v (each v 0 p) ≡ each v 0 (λ i. part a.start a.width (p i))
unfolding attribute_in
attribute_each n a inside v p wide =
    each_same v 0 (λ i. part (n * i + a.start) a.width (each v 0 p)) (λ i. part a.start a.width (p i)) (λ i _ l. one i (omega arith))
  where
    one : (i : ℕ) → i < v → part (n * i + a.start) a.width (each v 0 p) ≡ part a.start a.width (p i)
    one i l =
        let e : 0 + i ≡ i = omega arith in
        sym (part_part (n * i) n a.start a.width (each v 0 p) inside)
        ∙ ap (part a.start a.width) (row_of_each n p v 0 i (λ k h. let z : 0 + k ≡ k = omega arith in rw z (wide k h)) l ∙ ap p e)

three_parts : (at : ℕ) (xs r : List ℕ) → part at 3 xs ++ (part (at + 3) 3 xs ++ (part (at + 6) 2 xs ++ r)) ≡ part at 8 xs ++ r
three_parts at xs r =
    let e : at + 3 + 3 ≡ at + 6 = omega arith in
    let two : part (at + 3) 3 xs ++ part (at + 6) 2 xs ≡ part (at + 3) 5 xs =
    ap (λ (k : ℕ). part (at + 3) 3 xs ++ part k 2 xs) (sym e) ∙ part-append (at + 3) 3 2 xs in
    ap (λ (y : List ℕ). part at 3 xs ++ y) (sym (append_assoc (part (at + 3) 3 xs) (part (at + 6) 2 xs) r) ∙ ap (λ (y : List ℕ). y ++ r) two)
    ∙ sym (append_assoc (part at 3 xs) (part (at + 3) 5 xs) r)
    ∙ ap (λ (y : List ℕ). y ++ r) (part-append at 3 5 xs)

-- ---- each attribute that vertices have
module _ (tint : Bool) (vs : Vertices) where
  pub inside_of : (a : Attribute) (xs : List ℕ) → HasList tint vs a xs → a.start + a.width ≤ floats_of tint
  inside_of _ _ of_positions = go tint
    where
      go : (b : Bool) → 3 ≤ floats_of b
      go true = omega arith
      go false = omega arith
  inside_of _ _ of_normals = go tint
    where
      go : (b : Bool) → 6 ≤ floats_of b
      go true = omega arith
      go false = omega arith
  inside_of _ _ of_uvs = go tint
    where
      go : (b : Bool) → 8 ≤ floats_of b
      go true = omega arith
      go false = omega arith
  inside_of _ _ (of_colours e) = rw e (omega arith)

  -- what is said of each of them is said of their lists together
  pub each_list_lem : (f g : Attribute → List ℕ → List ℕ) → ((a : Attribute) (xs : List ℕ) → HasList tint vs a xs → f a xs ≡ g a xs)
      → each_list tint f vs ≡ each_list tint g vs
  each_list_lem f g h =
      let p = h position vs.positions of_positions in
      let n = h normal vs.normals of_normals in
      let u = h uv vs.uvs of_uvs in
      let c = colours tint refl in
      λ i. record { positions = p i; normals = n i; uvs = u i; colours = c i }
    where
      colours : (b : Bool) → tint ≡ b → cond b (f colour vs.colours) vs.colours ≡ cond b (g colour vs.colours) vs.colours
      colours true e = h colour vs.colours (of_colours e)
      colours false e = refl

  -- lists that become so, one by one
  pub lists_are : (f : Attribute → List ℕ → List ℕ) {ps ns us cs : List ℕ} → ps ≡ f position vs.positions → ns ≡ f normal vs.normals → us ≡ f uv vs.uvs
      → cs ≡ cond tint (f colour vs.colours) vs.colours → vertices_of ps ns us cs ≡ each_list tint f vs
  lists_are f p n u c = λ i. vertices_of (p i) (n i) (u i) (c i)

  pub with_colour : (f : Attribute → List ℕ → List ℕ) {cs : List ℕ} → tint ≡ true → cs ≡ f colour vs.colours → cs ≡ cond tint (f colour vs.colours) vs.colours
  with_colour f e h = h ∙ ap (λ (b : Bool). cond b (f colour vs.colours) vs.colours) (sym e)

  pub without_colour : (f : Attribute → List ℕ → List ℕ) → tint ≡ false → vs.colours ≡ cond tint (f colour vs.colours) vs.colours
  without_colour f e = ap (λ (b : Bool). cond b (f colour vs.colours) vs.colours) (sym e)

  -- one after the other
  pub each_again : (f g : Attribute → List ℕ → List ℕ) → each_list tint f (each_list tint g vs) ≡ each_list tint (λ a xs. f a (g a xs)) vs
  each_again f g = let c = colours tint in λ i. record { positions = f position (g position vs.positions); normals = f normal (g normal vs.normals); uvs = f uv (g uv vs.uvs); colours = c i }
    where
      colours : (b : Bool) → cond b (f colour (cond b (g colour vs.colours) vs.colours)) (cond b (g colour vs.colours) vs.colours) ≡ cond b (f colour (g colour vs.colours)) vs.colours
      colours true = refl
      colours false = refl

  pub each_stays : each_list tint (λ a xs. xs) vs ≡ vs
  each_stays = let c = colours tint in λ i. record { positions = vs.positions; normals = vs.normals; uvs = vs.uvs; colours = c i }
    where
      colours : (b : Bool) → cond b vs.colours vs.colours ≡ vs.colours
      colours true = refl
      colours false = refl

  -- a list of those that become something
  pub of_each : (f : Attribute → List ℕ → List ℕ) (a : Attribute) (ys : List ℕ) → HasList tint (each_list tint f vs) a ys
      → (xs : List ℕ) × HasList tint vs a xs × (ys ≡ f a xs)
  of_each f _ _ of_positions = (vs.positions, of_positions, refl)
  of_each f _ _ of_normals = (vs.normals, of_normals, refl)
  of_each f _ _ of_uvs = (vs.uvs, of_uvs, refl)
  of_each f _ _ (of_colours e) = (vs.colours, of_colours e, rw e)

  -- vertex v has, from where the attribute starts, the attribute's row
  module _ (v : ℕ) (long : (a : Attribute) (xs : List ℕ) → HasList tint vs a xs → a.width * (v + 1) ≤ length xs) where
    three : length (row 3 vs.positions v) ≡ 3
    three = length_part (3 * v) 3 vs.positions (let l = long position vs.positions of_positions in omega arith)

    six : length (row 3 vs.normals v) ≡ 3
    six = length_part (3 * v) 3 vs.normals (let l = long normal vs.normals of_normals in omega arith)

    eight : length (row 2 vs.uvs v) ≡ 2
    eight = length_part (2 * v) 2 vs.uvs (let l = long uv vs.uvs of_uvs in omega arith)

    pub length_vertex : length (vertex_in tint vs v) ≡ floats_of tint
    unfolding vertex_in
    length_vertex = simp (length-append, three, six, eight) (rest tint refl)
      where
        rest : (b : Bool) → tint ≡ b → 3 + (3 + (2 + length (cond b (row 4 vs.colours v) []))) ≡ floats_of b
        rest true e =
            let c = length_part (4 * v) 4 vs.colours (let l = long colour vs.colours (of_colours e) in omega arith) in
            omega arith
        rest false e = omega arith

    pub part_vertex : (a : Attribute) (xs : List ℕ) → HasList tint vs a xs → part a.start a.width (vertex_in tint vs v) ≡ row a.width xs v
    unfolding vertex_in
    part_vertex _ _ of_positions = take_at (row 3 vs.positions v) _ 3 three
    part_vertex _ _ of_normals = part_past (row 3 vs.positions v) _ 3 0 3 three ∙ take_at (row 3 vs.normals v) _ 3 six
    part_vertex _ _ of_uvs =
        part_past (row 3 vs.positions v) _ 3 3 2 three ∙ part_past (row 3 vs.normals v) _ 3 0 2 six ∙ take_at (row 2 vs.uvs v) _ 2 eight
    part_vertex _ _ (of_colours e) =
        part_past (row 3 vs.positions v) _ 3 5 4 three ∙ part_past (row 3 vs.normals v) _ 3 2 4 six ∙ part_past (row 2 vs.uvs v) _ 2 0 4 eight
        ∙ rw e (take-take 4 4 (drop (4 * v) vs.colours) (omega arith))

  -- quad q lies in each list
  abbrev pub Lies : ℕ → Type 0
  Lies q = (a : Attribute) (xs : List ℕ) → HasList tint vs a xs → 4 * a.width * (q + 1) ≤ length xs

  pub lies : (Q : ℕ) → ((a : Attribute) (xs : List ℕ) → HasList tint vs a xs → 4 * a.width * Q ≤ length xs) → (q : ℕ) → q < Q → Lies q
  lies Q long q l a xs k = let m : 4 * a.width * (q + 1) ≤ 4 * a.width * Q = mul-le-mul_left (4 * a.width) (omega arith) in let z = long a xs k in omega arith

  four_lie : (q : ℕ) → Lies q → (i : ℕ) → i < 4 → (b : Attribute) (ys : List ℕ) → HasList tint vs b ys → b.width * (4 * q + i + 1) ≤ length ys
  four_lie q long i l b ys k =
      let m : b.width * (4 * q + i + 1) ≤ b.width * (4 * (q + 1)) = mul-le-mul_left b.width (omega arith) in
      let e : b.width * (4 * (q + 1)) ≡ 4 * b.width * (q + 1) = omega arith in
      let z = long b ys k in omega arith

  whole : (q : ℕ) → Lies q → (k : ℕ) → k < 4 → length (vertex_in tint vs (4 * q + k)) ≡ floats_of tint
  whole q long k l = length_vertex (4 * q + k) (four_lie q long k l)

  pub length_quad : (q : ℕ) → Lies q → length (quad_in tint vs q) ≡ 4 * floats_of tint
  unfolding quad_in
  length_quad q long = length_pieces (floats_of tint) (λ k. vertex_in tint vs (4 * q + k)) 4 0 (λ k l. let e : 0 + k ≡ k = omega arith in rw e (whole q long k l)) ∙ omega arith

  -- LAW: a quad that is put together has each attribute's row as its attribute
  pub attribute_quad : (q : ℕ) → Lies q
      → (a : Attribute) (xs : List ℕ) → HasList tint vs a xs → attribute_in (floats_of tint) a 4 (quad_in tint vs q) ≡ row (4 * a.width) xs q
  unfolding quad_in
  attribute_quad q long a xs h =
      attribute_each (floats_of tint) a (inside_of a xs h) 4 (λ k. vertex_in tint vs (4 * q + k)) (whole q long)
      ∙ each_same 4 0 (λ i. part a.start a.width (vertex_in tint vs (4 * q + i))) (λ i. row a.width xs (4 * q + i))
      (λ i _ l. part_vertex (4 * q + i) (four_lie q long i (omega arith)) a xs h)
      ∙ each_rows a.width (4 * q) 4 0 xs
      ∙ let s : a.width * (4 * q + 0) ≡ 4 * a.width * q = omega arith in
      let t : a.width * 4 ≡ 4 * a.width = omega arith in
      rw (s, t)

  -- LAW: and a quad whose attributes are the rows is what is put together
  pub quad_of_attributes : (q : ℕ) (ws : List ℕ) → length ws ≡ 4 * floats_of tint
      → ((a : Attribute) (xs : List ℕ) → HasList tint vs a xs → row (4 * a.width) xs q ≡ attribute_in (floats_of tint) a 4 ws) → quad_in tint vs q ≡ ws
  unfolding quad_in vertex_in
  quad_of_attributes q ws len h =
      each_same 4 0 (λ i. vertex_in tint vs (4 * q + i)) (λ i. row (floats_of tint) ws (0 + i)) (λ i _ l. vertex i (omega arith))
      ∙ each_rows (floats_of tint) 0 4 0 ws
      ∙ let s : floats_of tint * (0 + 0) ≡ 0 = omega arith in
      rw s (take_all (floats_of tint * 4) ws (omega arith))
    where
      piece_of : (i : ℕ) → i < 4 → (a : Attribute) (xs : List ℕ) → HasList tint vs a xs
          → row a.width xs (4 * q + i) ≡ part (floats_of tint * i + a.start) a.width ws
      piece_of i l a xs k =
          let e : a.width * (4 * q + i) ≡ 4 * a.width * q + a.width * i = omega arith in
          let m : a.width * (i + 1) ≤ a.width * 4 = mul-le-mul_left a.width (omega arith) in
          ap (λ (j : ℕ). part j a.width xs) e
          ∙ sym (part_part (4 * a.width * q) (4 * a.width) (a.width * i) a.width xs (omega arith))
          ∙ ap (λ (r : List ℕ). row a.width r i) (h a xs k)
          ∙ row_attribute (floats_of tint) a (inside_of a xs k) 4 ws (omega arith) i l

      joined : (i : ℕ) (b : Bool) → part (floats_of tint * i) 8 ws ++ cond b (part (floats_of tint * i + 8) 4 ws) [] ≡ part (floats_of tint * i) (floats_of b) ws
      joined i true = part-append (floats_of tint * i) 8 4 ws
      joined i false = append-nil (part (floats_of tint * i) 8 ws)

      last : (i : ℕ) → i < 4 → (b : Bool) → tint ≡ b → cond b (row 4 vs.colours (4 * q + i)) [] ≡ cond b (part (floats_of tint * i + 8) 4 ws) []
      last i l true e = piece_of i l colour vs.colours (of_colours e)
      last i l false e = refl

      vertex : (i : ℕ) → i < 4 → vertex_in tint vs (4 * q + i) ≡ row (floats_of tint) ws (0 + i)
      vertex i l =
          let e : 0 + i ≡ i = omega arith in
          let z : floats_of tint * i + 0 ≡ floats_of tint * i = omega arith in
          rw (e, piece_of i l position vs.positions of_positions, piece_of i l normal vs.normals of_normals, piece_of i l uv vs.uvs of_uvs, last i l tint refl, z)
          (three_parts (floats_of tint * i) ws (cond tint (part (floats_of tint * i + 8) 4 ws) []) ∙ joined i tint)

  -- LAW: a quad differs from the words it should have exactly if an attribute of it does
  pub quad_differs : (q : ℕ) → Lies q → (ws : List ℕ) → length ws ≡ 4 * floats_of tint →
      let other : Attribute → List ℕ → Bool = λ a xs. not (same (row (4 * a.width) xs q) (attribute_in (floats_of tint) a 4 ws)) in
      let others = other position vs.positions || other normal vs.normals || other uv vs.uvs in
      cond tint (others || other colour vs.colours) others ≡ not (same (quad_in tint vs q) ws)
  quad_differs q long ws len = go (same (quad_in tint vs q) ws) refl
    where
      other : Attribute → List ℕ → Bool
      other a xs = not (same (row (4 * a.width) xs q) (attribute_in (floats_of tint) a 4 ws))

      others : Bool
      others = other position vs.positions || other normal vs.normals || other uv vs.uvs

      alike : quad_in tint vs q ≡ ws → (a : Attribute) (xs : List ℕ) → HasList tint vs a xs → other a xs ≡ false
      alike e a xs l =
          ap not (ap (λ (r : List ℕ). same r (attribute_in (floats_of tint) a 4 ws)) (sym (attribute_quad q long a xs l) ∙ ap (attribute_in (floats_of tint) a 4) e)
          ∙ same_refl (attribute_in (floats_of tint) a 4 ws))

      rows_are : (a : Attribute) (xs : List ℕ) → other a xs ≡ false → row (4 * a.width) xs q ≡ attribute_in (floats_of tint) a 4 ws
      rows_are a xs e = same_true (row (4 * a.width) xs q) (attribute_in (floats_of tint) a 4 ws) (not_true _ e)

      first : (b : Bool) → cond b (others || other colour vs.colours) others ≡ false → others ≡ false
      first true e = (or_false others (other colour vs.colours) e).0
      first false e = e

      last : (b : Bool) → b ≡ true → cond b (others || other colour vs.colours) others ≡ false → other colour vs.colours ≡ false
      last true t e = (or_false others (other colour vs.colours) e).1
      last false t e = absurd (true≢false (sym t))

      -- none differs, so the quad is what it should be
      none : cond tint (others || other colour vs.colours) others ≡ false → (a : Attribute) (xs : List ℕ) → HasList tint vs a xs → other a xs ≡ false
      none e _ _ of_positions = (or_false (other position vs.positions) _ (or_false (other position vs.positions || other normal vs.normals) _ (first tint e)).0).0
      none e _ _ of_normals = (or_false (other position vs.positions) _ (or_false (other position vs.positions || other normal vs.normals) _ (first tint e)).0).1
      none e _ _ of_uvs = (or_false (other position vs.positions || other normal vs.normals) _ (first tint e)).1
      none e _ _ (of_colours t) = last tint t e

      all_alike : quad_in tint vs q ≡ ws → (b : Bool) → tint ≡ b → cond b (others || other colour vs.colours) others ≡ false
      all_alike e true t =
          rw (alike e position vs.positions of_positions, alike e normal vs.normals of_normals, alike e uv vs.uvs of_uvs, alike e colour vs.colours (of_colours t))
      all_alike e false t = rw (alike e position vs.positions of_positions, alike e normal vs.normals of_normals, alike e uv vs.uvs of_uvs)

      go : (s : Bool) → same (quad_in tint vs q) ws ≡ s → cond tint (others || other colour vs.colours) others ≡ not s
      go true e = all_alike (same_true (quad_in tint vs q) ws e) tint refl
      go false e =
          settle (cond tint (others || other colour vs.colours) others)
          (λ f. true≢false (sym (same_refl ws) ∙ ap (λ (r : List ℕ). same r ws) (sym (quad_of_attributes q ws len (λ a xs l. rows_are a xs (none f a xs l)))) ∙ e))
        where
          settle : (b : Bool) → (b ≡ false → ⊥) → b ≡ true
          settle true h = refl
          settle false h = absurd (h refl)
