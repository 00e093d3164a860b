-- What is known once the quads are counted and have room, and a row more. Assumes nothing.
use mathlib.Core.Path.{◌≡◌, refl, sym, ap, ◌∙◌, subst}
use mathlib.Core.Bool.{Bool}
use mathlib.Core.List.{List}
use Prim.Native.Nat.{ℕ, ◌+◌, ◌≤◌, ◌<◌}
use native.Mathlib.Decide.{dec_lt}
use native.Mathlib.Omega.{arith}
use lib.ListN.{length, get_or, take}
use lib.Seq.{get_or-take, length-take-le}
use Rattle.rules.specs.Cells.{cells, coordinates}
use Rattle.rules.specs.Mesh.{Vertices, Lists}
use Rattle.rules.specs.Calls.{Scene, room, fresh_mesh}
use Rattle.rules.proofs.ListLaws.{All, all_at}
use Rattle.rules.proofs.Demands.{room_for}
use Rattle.util.specs.Grid.{cords_of, Starts}
use Rattle.util.proofs.Rows.{row_end}
use Rattle.culling.specs.Culling.{world_of, outer_set}
use Rattle.drawing.specs.Written.{side_of, Long, Side}
use Rattle.drawing.proofs.Lengths.{Alike, alike_long}
use Rattle.drawing.proofs.Sides.{InRow}
use Rattle.lent.specs.Scenes.{Admitted}
use Rattle.listing.specs.Fresh.{set_at, faces_of, RowOf, sets_from, asked, keys_of, Roomy, Entered}
use Rattle.listing.proofs.Sets.{set_below}
use Rattle.listing.proofs.Rows.{asked_le, asked_few, asked_on}
use Rattle.listing.proofs.Keys.{row_keys, row_asked}
use Rattle.meshem.proofs.Drawn.{found_asked}
use Rattle.meshem.proofs.Turns.{found_sides, all_in_row, all_sides}

-- by a mode, and a set of outer faces, Q quads are counted
pub record Begun (S : Scene) (outer g : List ℕ) (B : Lists) (culling by : Bool) (set Q : ℕ) : Type 0 where
  pub known : Admitted S outer g B
  pub mode : by ≡ culling
  pub named_by : set ≡ outer_set outer
  pub counted : Q ≡ asked (set_at by (world_of S.size S.types.kinds S.types.covers) (faces_of set) g) 0 (cells S.size)
  pub fits : Q ≤ room S B

module _ {S : Scene} {outer g : List ℕ} {B : Lists} {culling by : Bool} {set Q : ℕ} (b : Begun S outer g B culling by set Q) where
  abbrev pub sets : ℕ → ℕ
  sets = set_at by (world_of S.size S.types.kinds S.types.covers) (faces_of set) g

  pub few : Q ≤ 6291456
  few = omega (arith, b.counted, asked_few sets (cells S.size) 0, b.known.within.most)

  pub quads_are : Q ≡ length (fresh_mesh S outer g culling)
  quads_are = b.counted ∙ found_asked S outer g culling by set b.mode b.named_by

  -- the quads of the cells before c have room
  module _ (c : ℕ) (h : c ≤ cells S.size) where
    below : asked sets 0 c ≤ Q
    below = omega (arith, b.counted, asked_le sets c (cells S.size) 0 h)

    pub vertices_room : Long S.types.coloured (asked sets 0 c) B.vertices
    vertices_room = (room_for S B (asked sets 0 c) (omega (arith, below, b.fits))).vertices

    pub links_room : asked sets 0 c ≤ length B.links
    links_room = (room_for S B (asked sets 0 c) (omega (arith, below, b.fits))).links

  -- a row starts where quads are left
  pub starts : (c : ℕ) → c ≤ cells S.size → asked sets 0 c < Q → c < cells S.size
  starts c h l = go (dec_lt c (cells S.size))
    where
      go : Dec (c < cells S.size) → c < cells S.size
      go (yes p) = p
      go (no p) = let e : c ≡ cells S.size = omega arith in absurd (omega (arith, b.counted, ap (asked sets 0) e))

-- a row that starts at cell c, whose quads start at `base`, and its side sets
pub record Turn (S : Scene) (outer g : List ℕ) (B : Lists) (culling by : Bool) (set Q c y z base : ℕ) (list : List ℕ) : Type 0 where
  pub begun : Begun S outer g B culling by set Q
  pub starts : Starts S.size c y z
  pub here : base ≡ asked (sets begun) 0 c
  pub long : S.size.w ≤ length list
  pub shown : RowOf (sets begun) c S.size.w list

pub turn_of : {S : Scene} {outer g : List ℕ} {B : Lists} {culling by : Bool} {set Q c y z base : ℕ} {list : List ℕ} (b : Begun S outer g B culling by set Q) → c ≤ cells S.size
    → cords_of 0 y z ≡ coordinates S.size c → base ≡ asked (sets b) 0 c → base < Q → length list ≡ 1024 → RowOf (sets b) c S.size.w list
    → Turn S outer g B culling by set Q c y z base list
turn_of {c = c} b within at here left long shown =
    record {
      begun = b;
      starts = record { inside = starts b c within (omega arith); cords = at };
      here = here;
      long = omega (arith, long, b.known.within.sides.widest);
      shown = shown;
    }

module _ {S : Scene} {outer g : List ℕ} {B : Lists} {culling by : Bool} {set Q c y z base : ℕ} {list : List ℕ} (t : Turn S outer g B culling by set Q c y z base list) where
  abbrev w : ℕ
  w = S.size.w

  abbrev pub keys : List ℕ
  keys = keys_of (sets_from c (take w list)) c (length (take w list))

  pub in_grid : c + w ≤ cells S.size
  in_grid = row_end S.size t.begun.known.within t.starts

  pub wide : length (take w list) ≡ w
  wide = length-take-le w list t.long

  counts : asked (sets_from c (take w list)) c (length (take w list)) ≡ asked (sets t.begun) c w
  counts = row_asked (sets t.begun) c w list t.long t.shown

  pub keys_are : keys ≡ keys_of (sets t.begun) c w
  keys_are = row_keys (sets t.begun) c w list t.long t.shown

  -- the place after them
  after_is : base + asked (sets t.begun) c w ≡ asked (sets t.begun) 0 (c + w)
  after_is = omega (arith, t.here, asked_on (sets t.begun) c w)

  few_after : base + asked (sets t.begun) c w ≤ 6291456
  few_after = omega (arith, after_is, below t.begun (c + w) in_grid, few t.begun)

  -- each face is in the row, and can be drawn
  can_be_drawn : All (λ k. InRow g c k × Side S c (side_of g c k)) keys
  can_be_drawn =
      let k = t.begun.known in
      subst (All (λ k. InRow g c k × Side S c (side_of g c k))) (sym keys_are)
      (found_sides S by set g (record { within = k.within; whole = k.whole; typed = k.type }) k.typed c w refl in_grid)

  pub row_is : All (InRow g c) keys
  row_is = all_in_row S g c keys can_be_drawn

  pub roomy : {L K N : ℕ} → L ≡ length B.links → K ≡ length B.slots → N ≡ 6144 → Roomy c base (take w list) L K N
  roomy l k n =
      let known = t.begun.known in
      record {
        cells = omega (arith, wide, in_grid, known.within.most);
        width = omega (arith, wide, known.within.sides.widest);
        set = λ x h. let i : x < w = omega (arith, wide) in rw (get_or-take w list x 0 i, t.shown x i) (set_below _ _ _ _ _);
        links = omega (arith, counts, after_is, links_room t.begun (c + w) in_grid);
        few = omega (arith, counts, few_after);
        slots = omega (arith, wide, in_grid, known.slotted);
        sides = omega (arith, wide, known.within.sides.widest);
      }

  -- they are listed
  module _ {ls ss ts ls₁ ss₁ ts₁ : List ℕ} {n : ℕ} (is : n ≡ asked (sets_from c (take w list)) c (length (take w list))) (long : length ts ≡ 6144)
      (entered : Entered base (side_of g c) keys ls ss ts ls₁ ss₁ ts₁ 0 n) where
    pub asked_is : n ≡ asked (sets t.begun) c w
    asked_is = is ∙ counts

    pub listed_in : n ≤ length ts₁
    listed_in = omega (arith, asked_is, asked_few (sets t.begun) w c, entered.kept, t.begun.known.within.sides.widest)

    pub listed : length (take n ts₁) ≡ n
    listed = length-take-le n ts₁ listed_in

    pub listed_sides : (i : ℕ) → i < length (take n ts₁) → Side S c (get_or (take n ts₁) i 0)
    listed_sides i h =
        all_at (Side S c) (take n ts₁) i 0 (subst (All (Side S c)) (sym entered.sides) (all_sides S g c keys can_be_drawn)) h

    -- the place after them has room
    pub listed_few : base + length (take n ts₁) ≤ 6291456
    listed_few = omega (arith, listed, asked_is, few_after)

    pub listed_room : {vs : Vertices} → Alike vs B.vertices → Long S.types.coloured (base + length (take n ts₁)) vs
    listed_room {vs} alike =
        let e : base + length (take n ts₁) ≡ asked (sets t.begun) 0 (c + w) = omega (arith, listed, asked_is, after_is) in
        subst (λ (m : ℕ). Long S.types.coloured m vs) (sym e) (alike_long S.types.coloured B.vertices vs _ alike (vertices_room t.begun (c + w) in_grid))
