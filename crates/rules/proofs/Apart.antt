-- LAWS of 02, Q-8: every call on one list for each attribute gives, attribute by attribute, what it gave on one list of vertices. Said once for all
-- attributes, over where an attribute starts, how many floats it has, and how many a vertex has. Assumes nothing.
use mathlib.Core.Path.{◌≡◌, refl, sym, ap, subst, ◌∙◌}
use mathlib.Core.Bool.{Bool, true, false, cond}
use mathlib.Core.List.{List, [], ◌∷◌, ◌++◌}
use Prim.Native.Nat.{ℕ, zero, suc, ◌+◌, ◌-◌, ◌*◌, ◌/◌, ◌≤◌, ◌<◌, min}
use native.Mathlib.Nat.{mul-le-mul_left}
use native.Mathlib.Omega.{arith}
use lib.ListN.{length, get_or, take, drop, replicate, length-drop, length-replicate, take-append-drop, replicate-append-replicate}
use lib.Seq.{take_at, drop_at, take-append-le, drop-append-le, length-take-le}
use lib.Dec.{ltb}
use borrow.Author.Tests.{ltb-false}
use Rattle.rules.specs.Lists.{each, part, row, table}
use Rattle.rules.specs.Cells.{cells, key_in}
use Rattle.rules.specs.Cube.{floats_of}
use Rattle.rules.specs.Mesh.{Quad, Attribute, position, normal, uv, colour, attribute_in, HasList, of_positions, of_normals, of_uvs, of_colours, Lists, rows, laid, attribute_laid, layout, decoded}
use Rattle.rules.specs.Update.{Tested, Course}
use Rattle.rules.specs.Answers.{Verdict, fine, refuse, ◌then◌, refuse_if, BAD_SIZE, SHORT_SLOTS, room_of, BAD_COUNT, bad_link, BAD_LINKS, BAD_ENTRY, WRONG_SET, wrong_vertex, WRONG_VERTEX}
use Rattle.rules.specs.Calls.{answered, Scene, world, span, faces, room, types_verdict, fresh_mesh, input_verdict, mesh_verdict_in, mesh_verdict, meshed_by, mesh_grid, lent_verdict, update_verdict_in, update_verdict, course_in, course, course_answer, update_by, update_mesh, open_verdict_in, open_verdict, book_verdict, face_verdict_of, face_verdict, check_by, check_mesh}
use Rattle.rules.specs.Together.{Together, others, room_together, quad_together, layout_together, meshed_together_by, mesh_together, course_together, updated_together_by, update_together, check_together, apart, outcome_apart}
use Rattle.rules.proofs.ListLaws.{All, all_kept, each_same, each_split, each_on, lowest_cong}
use Rattle.rules.proofs.Attributes.{length_part, part_past, part_part, each_rows, length_attribute, row_attribute, inside_of, quad_of_attributes}
use Rattle.rules.proofs.Laying.{length-rows, length-laid, Sized}
use Rattle.rules.proofs.Checking.{then_fine, if_fine}
use Rattle.rules.proofs.Courses.{Sane}
use Rattle.rules.proofs.Demands.{fresh_sane, ran_sane}

-- ---- an attribute of vertices, of lists one after the other

each_two : (u v : ℕ) (p : ℕ → List ℕ) → each (u + v) 0 p ≡ each u 0 p ++ each v 0 (λ k. p (u + k))
each_two u v p =
    let e : 0 + u ≡ u + 0 = omega arith in
    each_split u v 0 p ∙ rw e (ap (λ (r : List ℕ). each u 0 p ++ r) (each_on u v 0 p))

part_zeros : (at n m : ℕ) → at + n ≤ m → part at n (replicate m 0) ≡ replicate n 0
part_zeros at n m h =
    let e : m ≡ at + (n + (m - at - n)) = omega arith in
    ap (λ (k : ℕ). part at n (replicate k 0)) e
    ∙ ap (part at n) (sym (replicate-append-replicate at (n + (m - at - n)) 0) ∙ ap (λ (r : List ℕ). replicate at 0 ++ r) (sym (replicate-append-replicate n (m - at - n) 0)))
    ∙ ap (take n) (drop_at (replicate at 0) (replicate n 0 ++ replicate (m - at - n) 0) at (length-replicate at 0))
    ∙ take_at (replicate n 0) (replicate (m - at - n) 0) n (length-replicate n 0)

each_zeros : (w v i : ℕ) → each {A = ℕ} v i (λ k. replicate w 0) ≡ replicate (w * v) 0
unfolding each
each_zeros w zero i = let z : w * 0 ≡ 0 = omega arith in rw z
each_zeros w (suc v) i =
    let s : w * suc v ≡ w + w * v = omega arith in
    rw s (ap (λ (r : List ℕ). replicate w 0 ++ r) (each_zeros w v (suc i)) ∙ replicate-append-replicate w (w * v) 0)

words_sized : (n : ℕ) (m : List Quad) → All (λ x. length x.words ≡ 4 * n) m → Sized (4 * n) (λ q x. x.words) m
words_sized n [] h = tt
words_sized n (x ∷ m) h = (λ i. h.0, words_sized n m h.1)

module _ (n : ℕ) (a : Attribute) (inside : a.start + a.width ≤ n) where
  pub attribute_append : (u v : ℕ) (xs ys : List ℕ) → length xs ≡ n * u → attribute_in n a (u + v) (xs ++ ys) ≡ attribute_in n a u xs ++ attribute_in n a v ys
  unfolding attribute_in
  attribute_append u v xs ys len =
      each_two u v (λ i. part (n * i + a.start) a.width (xs ++ ys))
      ∙ ap (λ (r : List ℕ). r ++ each v 0 (λ k. part (n * (u + k) + a.start) a.width (xs ++ ys)))
      (each_same u 0 (λ i. part (n * i + a.start) a.width (xs ++ ys)) (λ i. part (n * i + a.start) a.width xs) (λ i _ l. first i (omega arith)))
      ∙ ap (λ (r : List ℕ). each u 0 (λ i. part (n * i + a.start) a.width xs) ++ r)
      (each_same v 0 (λ k. part (n * (u + k) + a.start) a.width (xs ++ ys)) (λ k. part (n * k + a.start) a.width ys) (λ k _ l. second k))
    where
      second : (k : ℕ) → part (n * (u + k) + a.start) a.width (xs ++ ys) ≡ part (n * k + a.start) a.width ys
      second k =
          let e : n * (u + k) + a.start ≡ n * u + (n * k + a.start) = omega arith in
          rw e (part_past xs ys (n * u) (n * k + a.start) a.width len)

      first : (i : ℕ) → i < u → part (n * i + a.start) a.width (xs ++ ys) ≡ part (n * i + a.start) a.width xs
      first i l =
          let m : n * (i + 1) ≤ n * u = mul-le-mul_left n (omega arith) in
          let f : n * i + a.start ≤ length xs = omega arith in
          ap (take a.width) (drop-append-le (n * i + a.start) xs ys f)
          ∙ take-append-le a.width (drop (n * i + a.start) xs) ys (rw length-drop (omega arith))

  -- zeros stay zeros
  attribute_zeros : (v : ℕ) → attribute_in n a v (replicate (n * v) 0) ≡ replicate (a.width * v) 0
  unfolding attribute_in
  attribute_zeros v =
      each_same v 0 (λ i. part (n * i + a.start) a.width (replicate (n * v) 0)) (λ i. replicate a.width 0)
      (λ i _ l. let m : n * (i + 1) ≤ n * v = mul-le-mul_left n (omega arith) in part_zeros (n * i + a.start) a.width (n * v) (omega arith))
      ∙ each_zeros a.width v 0

  -- of what is left past u vertices
  attribute_drop : (u v : ℕ) (xs : List ℕ) → n * u ≤ length xs → attribute_in n a v (drop (n * u) xs) ≡ drop (a.width * u) (attribute_in n a (u + v) xs)
  attribute_drop u v xs h =
      let len : length (take (n * u) xs) ≡ n * u = length-take-le (n * u) xs h in
      sym (ap (λ (ys : List ℕ). drop (a.width * u) (attribute_in n a (u + v) ys)) (sym (take-append-drop (n * u) xs))
      ∙ ap (drop (a.width * u)) (attribute_append u v (take (n * u) xs) (drop (n * u) xs) len)
      ∙ drop_at (attribute_in n a u (take (n * u) xs)) (attribute_in n a v (drop (n * u) xs)) (a.width * u)
      (length_attribute n a inside u (take (n * u) xs) (omega arith)))

  -- of the quads of a mesh, one after the other
  attribute_rows : (i : ℕ) (m : List Quad) → All (λ x. length x.words ≡ 4 * n) m
      → attribute_in n a (4 * length m) (rows (λ q x. x.words) i m) ≡ rows (λ q x. attribute_in n a 4 x.words) i m
  unfolding attribute_in each
  attribute_rows i [] h = refl
  attribute_rows i (x ∷ m) h =
      let e : 4 * suc (length m) ≡ 4 + 4 * length m = omega arith in
      ap (λ (k : ℕ). attribute_in n a k (x.words ++ rows (λ q x. x.words) (suc i) m)) e
      ∙ attribute_append 4 (4 * length m) x.words (rows (λ q x. x.words) (suc i) m) (omega (arith, h.0))
      ∙ ap (λ (r : List ℕ). attribute_in n a 4 x.words ++ r) (attribute_rows (suc i) m h.1)

  -- of row q of a list of quads
  attribute_row : (v : ℕ) (xs : List ℕ) (q : ℕ) → n * v ≤ length xs → 4 * (q + 1) ≤ v
      → row (4 * a.width) (attribute_in n a v xs) q ≡ attribute_in n a 4 (row (4 * n) xs q)
  unfolding attribute_in
  attribute_row v xs q long l =
      let s : a.width * (4 * q + 0) ≡ 4 * a.width * q = omega arith in
      let t : a.width * 4 ≡ 4 * a.width = omega arith in
      sym (each_rows a.width (4 * q) 4 0 (attribute_in n a v xs) ∙ rw (s, t))
      ∙ each_same 4 0 (λ i. row a.width (attribute_in n a v xs) (4 * q + i)) (λ i. part (n * i + a.start) a.width (row (4 * n) xs q)) (λ i _ b. one i (omega arith))
    where
      one : (i : ℕ) → i < 4 → row a.width (attribute_in n a v xs) (4 * q + i) ≡ part (n * i + a.start) a.width (row (4 * n) xs q)
      one i b =
          let m : n * (i + 1) ≤ n * 4 = mul-le-mul_left n (omega arith) in
          let e : n * (4 * q + i) + a.start ≡ 4 * n * q + (n * i + a.start) = omega arith in
          row_attribute n a inside v xs long (4 * q + i) (omega arith)
          ∙ ap (λ (k : ℕ). part k a.width xs) e
          ∙ sym (part_part (4 * n * q) (4 * n) (n * i + a.start) a.width xs (omega arith))

  -- LAW: an attribute of a mesh that is laid out over a list is the mesh's attribute laid out over the list's
  pub attribute_laid_lem : (highest : ℕ) (m : List Quad) (v : ℕ) (xs : List ℕ) → All (λ x. length x.words ≡ 4 * n) m → length m ≤ highest → 4 * highest ≤ v
      → n * v ≤ length xs
      → attribute_in n a v (laid (4 * n) (λ q x. x.words) highest m xs) ≡ laid (4 * a.width) (λ q x. attribute_in n a 4 x.words) highest m (attribute_in n a v xs)
  unfolding laid
  attribute_laid_lem highest m v xs sized low fits long =
      let k = 4 * (highest - length m) in
      let r = v - 4 * highest in
      let e : v ≡ 4 * length m + (k + r) = omega arith in
      let d : v ≡ 4 * highest + r = omega arith in
      let z : 4 * n * (highest - length m) ≡ n * k = omega arith in
      let o : 4 * n * highest ≡ n * (4 * highest) = omega arith in
      let y : 4 * a.width * (highest - length m) ≡ a.width * k = omega arith in
      let p : 4 * a.width * highest ≡ a.width * (4 * highest) = omega arith in
      let g : n * (4 * highest) ≤ length xs = omega (arith, mul-le-mul_left n fits) in
      rw (z, o, y, p)
      (ap (λ (j : ℕ). attribute_in n a j (rows (λ q x. x.words) 0 m ++ (replicate (n * k) 0 ++ drop (n * (4 * highest)) xs))) e
      ∙ attribute_append (4 * length m) (k + r) (rows (λ q x. x.words) 0 m) (replicate (n * k) 0 ++ drop (n * (4 * highest)) xs)
      (length-rows (4 * n) (λ q x. x.words) 0 m (words_sized n m sized) ∙ omega arith)
      ∙ ap (λ (t : List ℕ). t ++ attribute_in n a (k + r) (replicate (n * k) 0 ++ drop (n * (4 * highest)) xs)) (attribute_rows 0 m sized)
      ∙ ap (λ (t : List ℕ). rows (λ q x. attribute_in n a 4 x.words) 0 m ++ t)
      (attribute_append k r (replicate (n * k) 0) (drop (n * (4 * highest)) xs) (length-replicate (n * k) 0)
      ∙ ap (λ (t : List ℕ). t ++ attribute_in n a r (drop (n * (4 * highest)) xs)) (attribute_zeros k)
      ∙ ap (λ (t : List ℕ). replicate (a.width * k) 0 ++ t)
      (attribute_drop (4 * highest) r xs g ∙ ap (λ (j : ℕ). drop (a.width * (4 * highest)) (attribute_in n a j xs)) (sym d))))

-- ---- the calls
module _ (S : Scene) (spare : List ℕ) (B : Together) where
  abbrev tint : Bool
  tint = S.types.coloured

  abbrev n : ℕ
  n = floats_of tint

  -- the whole vertices of the list
  abbrev v : ℕ
  v = length B.vertices / n

  abbrev here : Lists
  here = apart S spare B

  -- the parts, by attribute
  list_apart : (a : Attribute) (xs : List ℕ) → HasList tint here.vertices a xs → xs ≡ attribute_in n a v B.vertices
  list_apart _ _ of_positions = refl
  list_apart _ _ of_normals = refl
  list_apart _ _ of_uvs = refl
  list_apart _ _ (of_colours e) = rw e

  vertices_fit : n * v ≤ length B.vertices
  vertices_fit = go tint
    where
      go : (b : Bool) → floats_of b * (length B.vertices / floats_of b) ≤ length B.vertices
      go true = omega arith
      go false = omega arith

  -- LAW: the room is the same
  pub room_apart : room S (apart S spare B) ≡ room_together S B
  unfolding room_of room_together
  room_apart =
      rw (len position (inside_of tint here.vertices position _ of_positions), len normal (inside_of tint here.vertices normal _ of_normals), len uv (inside_of tint here.vertices uv _ of_uvs))
      (least tint (length B.vertices) (length B.triangles / 6) (length B.links) _ (λ e. rw e (colours e)))
    where
      len : (a : Attribute) → a.start + a.width ≤ n → length (attribute_in n a v B.vertices) ≡ a.width * v
      len a i = length_attribute n a i v B.vertices vertices_fit

      colours : tint ≡ true → length (attribute_in 12 colour (length B.vertices / 12) B.vertices) ≡ 4 * (length B.vertices / 12)
      colours e = rw e at (len colour (rw e (omega arith)))

      least : (b : Bool) (words triangles links colours : ℕ) → (b ≡ true → colours ≡ 4 * (words / floats_of b)) →
          let whole = words / floats_of b in
          let others = min (3 * whole / 12) (min (3 * whole / 12) (min (2 * whole / 8) (min triangles links))) in
          cond b (min (colours / 16) others) others ≡ min (words / (4 * floats_of b)) (min triangles links)
      least true words triangles links colours h = let e = h refl in omega arith
      least false words triangles links colours h = omega arith

  -- the quads that are read are the same
  quad_apart : (q : ℕ) → q < room_together S B → decoded tint (apart S spare B) q ≡ quad_together S B q
  unfolding room_together
  quad_apart q l =
      let k : 4 * (q + 1) ≤ v = within tint l in
      let words = quad_of_attributes tint here.vertices q (row (4 * n) B.vertices q) (whole tint l)
      (λ a xs h. ap (λ (ys : List ℕ). row (4 * a.width) ys q) (list_apart a xs h) ∙ attribute_row n a (inside_of tint here.vertices a xs h) v B.vertices q vertices_fit k) in
      ap (λ (ws : List ℕ). record { key = key_in (get_or B.links q 0); words = ws }) words
    where
      within : (b : Bool) → q < min (length B.vertices / (4 * floats_of b)) (min (length B.triangles / 6) (length B.links)) → 4 * (q + 1) ≤ length B.vertices / floats_of b
      within true h = omega arith
      within false h = omega arith

      whole : (b : Bool) → q < min (length B.vertices / (4 * floats_of b)) (min (length B.triangles / 6) (length B.links))
          → length (row (4 * floats_of b) B.vertices q) ≡ 4 * floats_of b
      whole true h = length_part (48 * q) 48 B.vertices (omega arith)
      whole false h = length_part (32 * q) 32 B.vertices (omega arith)

  -- LAW: what is laid out over the parts is the parts of what is laid out
  pub layout_apart : (highest : ℕ) (m : List Quad) → Sane (faces S) (span S) (room_together S B) m highest
      → layout (faces S) tint highest m (apart S spare B) ≡ apart S spare (layout_together S highest m B)
  unfolding room_together
  layout_apart highest m sane =
      let same = length-laid (4 * n) (λ q x. x.words) highest m B.vertices (words_sized n m sized) sane.reached (fits tint sane.within) in
      let p = one position (inside_of tint here.vertices position _ of_positions) in
      let o = one normal (inside_of tint here.vertices normal _ of_normals) in
      let u = one uv (inside_of tint here.vertices uv _ of_uvs) in
      let c = colours tint refl in
      rw same
      (λ i. record {
        vertices = record { positions = p i; normals = o i; uvs = u i; colours = c i };
        triangles = after.triangles;
        links = after.links;
        slots = after.slots;
      })
    where
      after : Lists
      after = layout (faces S) tint highest m (apart S spare B)

      fits : (b : Bool) → highest ≤ min (length B.vertices / (4 * floats_of b)) (min (length B.triangles / 6) (length B.links)) → 4 * floats_of b * highest ≤ length B.vertices
      fits true h = omega arith
      fits false h = omega arith

      within : (b : Bool) → highest ≤ min (length B.vertices / (4 * floats_of b)) (min (length B.triangles / 6) (length B.links)) → 4 * highest ≤ length B.vertices / floats_of b
      within true h = omega arith
      within false h = omega arith

      sized : All (λ x. length x.words ≡ 4 * n) m
      sized = all_kept (λ x f. f.1) m sane.fits

      one : (a : Attribute) → a.start + a.width ≤ n
          → attribute_laid tint highest m a (attribute_in n a v B.vertices) ≡ attribute_in n a v (laid (4 * n) (λ q x. x.words) highest m B.vertices)
      one a i = sym (attribute_laid_lem n a i highest m v B.vertices sized sane.reached (within tint sane.within) vertices_fit)

      colours : (b : Bool) → tint ≡ b
          → cond b (attribute_laid tint highest m colour (cond b (attribute_in n colour v B.vertices) spare)) (cond b (attribute_in n colour v B.vertices) spare)
          ≡ cond b (attribute_in n colour v (laid (4 * n) (λ q x. x.words) highest m B.vertices)) spare
      colours true e = one colour (rw e (omega arith))
      colours false e = refl

  -- the other lists are looked at alike
  book_apart : (Q : ℕ) → book_verdict S (apart S spare B) Q ≡ book_verdict S (others B) Q
  unfolding BAD_LINKS bad_link
  book_apart Q = refl

  quads_apart : (Q : ℕ) → Q ≤ room_together S B → table Q (decoded tint (apart S spare B)) ≡ table Q (quad_together S B)
  quads_apart Q l =
      each_same Q 0 (λ q. decoded tint (apart S spare B) q ∷ []) (λ q. quad_together S B q ∷ [])
      (λ q _ h. ap (λ (x : Quad). x ∷ []) (quad_apart q (omega arith)))

  -- LAW: a fresh mesh
  pub mesh_apart : (outer g : List ℕ) (culling : Bool) → mesh_grid S outer g culling (apart S spare B) ≡ outcome_apart S spare (mesh_together S outer g culling B)
  mesh_apart outer g culling = rw (← told) (go (mesh_verdict S outer g culling (apart S spare B)) refl)
    where
      fresh : List Quad
      fresh = fresh_mesh S outer g culling

      told : mesh_verdict S outer g culling (apart S spare B) ≡ mesh_verdict_in (room_together S B) S outer g culling (others B)
      told = ap (λ (r : ℕ). mesh_verdict_in r S outer g culling (others B)) room_apart

      go : (w : Verdict) → mesh_verdict S outer g culling (apart S spare B) ≡ w
          → meshed_by w S fresh (apart S spare B) ≡ outcome_apart S spare (meshed_together_by w S fresh B)
      go fine e =
          let l = layout_apart (length fresh) fresh (rw room_apart at (fresh_sane S outer g culling (apart S spare B) e)) in
          λ i. record { answer = answered (length fresh) 0; lists = l i }
      go (refuse k p) e = refl

  -- LAW: an update
  pub update_apart : (tested : Tested) (log : List ℕ) (Q : ℕ) → update_mesh tested S log (apart S spare B) Q ≡ outcome_apart S spare (update_together tested S log B Q)
  update_apart tested log Q = rw (← told) (go (update_verdict S log (apart S spare B) Q) refl)
    where
      told : update_verdict S log (apart S spare B) Q ≡ update_verdict_in (room_together S B) S log (others B) Q
      told =
          ap (λ (r : ℕ). BAD_SIZE S.size then types_verdict S then (SHORT_SLOTS S.size (others B) then BAD_COUNT r Q then book_verdict S (apart S spare B) Q) then BAD_ENTRY (cells S.size) (length S.types.kinds) log) room_apart
          ∙ ap (λ (w : Verdict). BAD_SIZE S.size then types_verdict S then (SHORT_SLOTS S.size (others B) then BAD_COUNT (room_together S B) Q then w) then BAD_ENTRY (cells S.size) (length S.types.kinds) log) (book_apart Q)

      go : (w : Verdict) → update_verdict S log (apart S spare B) Q ≡ w
          → update_by w S (course tested S log (apart S spare B) Q) (apart S spare B) ≡ outcome_apart S spare (updated_together_by w S (course_together tested S log B Q) B)
      go fine e =
          let a = (then_fine (BAD_SIZE S.size) _ e).1 in
          let b = (then_fine (types_verdict S) _ a).1 in
          let c = (then_fine (lent_verdict S (apart S spare B) Q) (BAD_ENTRY (cells S.size) (length S.types.kinds) log) b).0 in
          let d = (then_fine (SHORT_SLOTS S.size (apart S spare B)) _ c).1 in
          let f = (then_fine (BAD_COUNT (room S (apart S spare B)) Q) (book_verdict S (apart S spare B) Q) d).0 in
          let counted : Q ≤ room_together S B = rw room_apart at (ltb-false (room S (apart S spare B)) Q (if_fine _ 10 0 f)) in
          let same : course tested S log (apart S spare B) Q ≡ course_together tested S log B Q =
          ap (λ (r : ℕ). course_in r tested S log (table Q (decoded tint (apart S spare B))) Q) room_apart
          ∙ ap (λ (m : List Quad). course_in (room_together S B) tested S log m Q) (quads_apart Q counted) in
          let ran = course_together tested S log B Q in
          let l = layout_apart ran.highest ran.quads (subst (λ (r : ℕ). Sane (faces S) (span S) r ran.quads ran.highest) room_apart
          (subst (λ (c : Course). Sane (faces S) (span S) (room S (apart S spare B)) c.quads c.highest) same (ran_sane tested S log (apart S spare B) Q e))) in
          ap (λ (c : Course). update_by fine S c (apart S spare B)) same ∙ (λ i. record { answer = course_answer ran ran.full; lists = l i })
      go (refuse k p) e = refl

  -- LAW: a check
  pub check_apart : (outer g : List ℕ) (Q : ℕ) → check_mesh S outer g (apart S spare B) Q ≡ check_together S outer g B Q
  unfolding ◌then◌
  check_apart outer g Q =
      ap check_by (go (open_verdict S outer g (apart S spare B) Q) refl
      ∙ ap (λ (r : ℕ). open_verdict_in r S outer g (others B) Q then book_verdict S (apart S spare B) Q then face_verdict_of (quad_together S B) S outer g Q) room_apart
      ∙ ap (λ (w : Verdict). open_verdict_in (room_together S B) S outer g (others B) Q then w then face_verdict_of (quad_together S B) S outer g Q) (book_apart Q))
    where
      faces_same : Q ≤ room_together S B → face_verdict S outer g (apart S spare B) Q ≡ face_verdict_of (quad_together S B) S outer g Q
      faces_same l =
          ap (λ (m : List Quad). WRONG_SET (world S) outer g m then WRONG_VERTEX (world S) g (decoded tint (apart S spare B)) Q) (quads_apart Q l)
          ∙ ap (λ (k : ℕ). WRONG_SET (world S) outer g (table Q (quad_together S B)) then refuse_if (ltb k Q) 16 k)
          (lowest_cong Q (λ q. wrong_vertex (world S) g (decoded tint (apart S spare B) q)) (λ q. wrong_vertex (world S) g (quad_together S B q))
          (λ q h. ap (wrong_vertex (world S) g) (quad_apart q (omega arith))))

      go : (w : Verdict) → open_verdict S outer g (apart S spare B) Q ≡ w
          → (w then book_verdict S (apart S spare B) Q then face_verdict S outer g (apart S spare B) Q)
          ≡ (w then book_verdict S (apart S spare B) Q then face_verdict_of (quad_together S B) S outer g Q)
      go fine e =
          let c = (then_fine (input_verdict S outer g (apart S spare B)) (BAD_COUNT (room S (apart S spare B)) Q) e).1 in
          let counted : Q ≤ room_together S B = rw room_apart at (ltb-false (room S (apart S spare B)) Q (if_fine _ 10 0 c)) in
          ap (λ (w : Verdict). book_verdict S (apart S spare B) Q then w) (faces_same counted)
      go (refuse k p) e = refl
