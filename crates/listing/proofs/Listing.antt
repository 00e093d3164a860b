-- Faces into the index and into a list, face after face of a cell and cell after cell of a row. Assumes nothing.
use mathlib.Core.Path.{◌≡◌, refl, sym, ap, ◌∙◌, subst}
use mathlib.Core.Bool.{Bool, true, false}
use mathlib.Core.List.{List, [], ◌∷◌, ◌++◌, map, map-append, append-nil, append_assoc}
use Prim.Native.Nat.{ℕ, ◌+◌, ◌-◌, ◌*◌, ◌/◌, ◌%◌, ◌≤◌, ◌<◌}
use native.Mathlib.Nat.{add-zero}
use native.Mathlib.Numerals.{add-one}
use native.Mathlib.Omega.{arith}
use lib.Bits.{bit_and}
use lib.Count.{count_trailing_zeros}
use lib.ListN.{length, get_or, take, length-set}
use lib.ListN as list
use lib.Seq.{take-suc-set}
use Rattle.rules.specs.Lists.{each, only, count}
use Rattle.rules.specs.Cells.{key_of, link_word, first_vertex, has, rank, quads_of}
use Rattle.rules.proofs.ListLaws.{none_each, each_split, count_each}
use Rattle.rules.proofs.Rows.{each_more}
use Rattle.face.proofs.Lowest.{Rest, rest_start, rest_none, rest_below, rest_from, rest_at, rest_skip, rest_next}
use Rattle.vav.specs.Rows.{put}
use Rattle.vav.proofs.Laws.{put_none, put_one}
use Rattle.drawing.specs.Written.{rows_of, link_row, named, side_of}
use Rattle.drawing.proofs.Turns.{rows_then, kept_rows, named_then, kept_named}
use Rattle.listing.specs.Fresh.{sets_from, asked, cell_keys, keys_of, Entered}
use Rattle.listing.proofs.Sets.{count_next, rank_most, rank_below}
use Rattle.listing.proofs.Rows.{asked_step, asked_le, asked_few}
use Rattle.listing.proofs.Keys.{length_keys, keys_none, keys_more, map-cell}

-- ---- faces after those that are there
pub none_after : (base : ℕ) (word : ℕ → ℕ) (ls ss ts : List ℕ) (m : ℕ) → Entered base word [] ls ss ts ls ss ts m m
none_after base word ls ss ts m = record { links = put_none (1 * (base + m)) ls; slots = refl; sides = sym (append-nil (take m ts)); kept = refl }

pub then_after : {base m n p : ℕ} {word : ℕ → ℕ} (a b : List ℕ) {ls₀ ss₀ ts₀ ls ss ts ls₁ ss₁ ts₁ : List ℕ} → base + m ≤ length ls₀ → n ≡ m + length a
    → Entered base word a ls₀ ss₀ ts₀ ls ss ts m n → Entered base word b ls ss ts ls₁ ss₁ ts₁ n p → Entered base word (a ++ b) ls₀ ss₀ ts₀ ls₁ ss₁ ts₁ m p
then_after {base} {m} {n} {p} {word} a b {ls₀} {ss₀} {ts₀} room e u v =
    let at : base + n ≡ base + m + length a = omega arith in
    record {
      links = v.links ∙ ap (put (1 * (base + n)) (rows_of link_row b)) u.links ∙ rows_then 1 link_row (λ k. refl) (base + m) (base + n) a b ls₀ at (omega arith);
      slots = v.slots ∙ (λ i. named (at i) b (u.slots i)) ∙ named_then (base + m) a b ss₀;
      sides = v.sides ∙ ap (λ (r : List ℕ). r ++ map word b) u.sides ∙ append_assoc (take m ts₀) (map word a) (map word b)
          ∙ ap (λ (r : List ℕ). take m ts₀ ++ r) (sym (map-append word a b));
      kept = v.kept ∙ u.kept;
    }

-- the lists keep their lengths
pub kept_after : {base m n : ℕ} {word : ℕ → ℕ} {keys ls₀ ss₀ ts₀ ls ss ts : List ℕ} → Entered base word keys ls₀ ss₀ ts₀ ls ss ts m n → base + m + length keys ≤ length ls₀
    → (length ls ≡ length ls₀) × (length ss ≡ length ss₀)
kept_after {base} {m} {keys = keys} {ls₀ = ls₀} {ss₀ = ss₀} u h =
    (ap length u.links ∙ kept_rows 1 link_row (λ k. refl) (base + m) keys ls₀ (omega arith), ap length u.slots ∙ kept_named (base + m) keys ss₀)

-- ---- the faces of a cell
module _ (cell set : ℕ) where
  abbrev row : ℕ → List ℕ
  row i = only (has set i) (key_of cell i)

  -- those below f
  abbrev pub below : ℕ → List ℕ
  below f = each f 0 (λ i. only (has set i) (key_of cell i))

  length-below : (f : ℕ) → length (below f) ≡ rank set f
  unfolding count
  length-below f =
      let z : 0 + f ≡ f = omega arith in
      omega (arith, count_each (has set) (key_of cell) f 0, ap (rank set) z)

  skipped : (f z : ℕ) → f ≤ z → ((k : ℕ) → f ≤ k → k < z → has set k ≡ false) → below z ≡ below f
  skipped f z h none =
      let e : z ≡ f + (z - f) = omega arith in
      ap (λ (n : ℕ). each n 0 row) e ∙ each_split f (z - f) 0 row
      ∙ ap (λ (r : List ℕ). each f 0 row ++ r) (none_each (z - f) (0 + f) row (λ k a b. ap (λ (t : Bool). only t (key_of cell k)) (none k (omega arith) (omega arith))))
      ∙ append-nil (each f 0 row)

  one_more : (z : ℕ) → has set z ≡ true → below (z + 1) ≡ below z ++ (key_of cell z ∷ [])
  one_more z h =
      ap (λ (n : ℕ). each n 0 row) (add-one z) ∙ each_more z 0 row
      ∙ ap (λ (i : ℕ). each z 0 row ++ row i) (let e : 0 + z ≡ z = omega arith in e) ∙ ap (λ (t : Bool). each z 0 row ++ only t (key_of cell z)) h

  module _ (side base n : ℕ) (ls₀ ss₀ ts₀ : List ℕ) where
    abbrev pub word : ℕ → ℕ
    word k = side + 1024 * (k % 6)

    -- the faces below f are there, and the others are left
    pub record Indexed (ls ss ts : List ℕ) (next rest : ℕ) : Type 0 where
      pub f : ℕ
      pub left : Rest 8 6 set f rest
      pub count : next ≡ n + rank set f
      pub are : Entered base word (below f) ls₀ ss₀ ts₀ ls ss ts n next
      pub most : f ≤ 6

    pub begin : set < 64 → Indexed ls₀ ss₀ ts₀ n set
    unfolding each count
    begin h = record { f = 0; left = rest_start (omega arith) h; count = sym (add-zero n); are = none_after base word ls₀ ss₀ ts₀ n; most = omega arith }

    module _ (room : base + n + quads_of set ≤ length ls₀) {ls ss ts : List ℕ} {next rest : ℕ} (x : Indexed ls ss ts next rest) where
      -- the lists keep their lengths
      pub index_kept : (length ls ≡ length ls₀) × (length ss ≡ length ss₀)
      index_kept = kept_after x.are (omega (arith, room, length-below x.f, rank_most set x.f x.most))

    module _ (room : base + n + quads_of set ≤ length ls₀) {ls ss ts : List ℕ} {next rest : ℕ} (x : Indexed ls ss ts next rest) (d : rest ≡ 0 → ⊥) {z : ℕ} (e : z ≡ count_trailing_zeros 8 rest) where
      pub index_below : z < 6
      index_below = rest_below x.left d e

      pub index_room : rank set z + 1 ≤ quads_of set
      index_room = rank_below set z (rest_at x.left d e) index_below

      -- the place of the next face
      pub index_place : next ≡ n + rank set z
      index_place =
          let s = skipped x.f z (rest_from x.left d e) (rest_skip x.left d e) in
          omega (arith, x.count, length-below z, length-below x.f, ap length s)

      pub index_next : {ls₁ ss₁ ts₁ : List ℕ} {at : ℕ} → at ≡ next → at < length ts → base + at < length ls → ls₁ ≡ list.set ls (base + at) (link_word cell z)
          → ss₁ ≡ list.set ss (key_of cell z) (first_vertex (base + at)) → ts₁ ≡ list.set ts at (side + 1024 * z) → Indexed ls₁ ss₁ ts₁ (at + 1) (bit_and rest (rest - 1))
      index_next {ls₁} {ss₁} {ts₁} {at} p long low l s t =
          let k = key_of cell z in
          let b = index_below in
          let c : k / 6 ≡ cell = omega arith in
          let g : k % 6 ≡ z = omega arith in
          let low-f = x.count in
          let one : Entered base word (k ∷ []) ls ss ts ls₁ ss₁ ts₁ next (at + 1) =
          record {
            links = l ∙ put_one (base + at) (link_word cell z) ls low ∙ (λ i. put (1 * (base + p i)) (link_word (sym c i) (sym g i) ∷ []) ls);
            slots = s ∙ ap (λ (q : ℕ). list.set ss k (first_vertex (base + q))) p;
            sides = ap (take (at + 1)) t ∙ ap (λ (q : ℕ). take q (list.set ts at (side + 1024 * z))) (add-one at) ∙ take-suc-set ts at (side + 1024 * z) long
                ∙ (λ i. take (p i) ts ++ ((side + 1024 * sym g i) ∷ []));
            kept = ap length t ∙ length-set ts at (side + 1024 * z);
          } in
          let all = ap (λ (r : List ℕ). r ++ (k ∷ [])) (sym (skipped x.f z (rest_from x.left d e) (rest_skip x.left d e))) ∙ sym (one_more z (rest_at x.left d e)) in
          record {
            f = z + 1;
            left = rest_next x.left d e;
            count = omega (arith, p, index_place, ap (rank set) (add-one z), count_next (has set) z (rest_at x.left d e));
            are = subst (λ (ks : List ℕ). Entered base word ks ls₀ ss₀ ts₀ ls₁ ss₁ ts₁ n (at + 1)) all
                (then_after (below x.f) (k ∷ []) (omega arith) (omega (arith, x.count, length-below x.f)) x.are one);
            most = omega arith;
          }

    pub end : {ls ss ts : List ℕ} {next rest : ℕ} → rest ≡ 0 → Indexed ls ss ts next rest
        → (next ≡ n + quads_of set) × Entered base word (cell_keys set cell) ls₀ ss₀ ts₀ ls ss ts n next
    end {ls} {ss} {ts} {next} e x =
        let all = skipped x.f 6 x.most (λ k a b. rest_none x.left e k a b) in (
          omega (arith, x.count, length-below x.f, length-below 6, ap length all),
          subst (λ (ks : List ℕ). Entered base word ks ls₀ ss₀ ts₀ ls ss ts n next) (sym all) x.are,
        )

-- ---- the cells of a row
module _ (first base : ℕ) (sets g ls₀ ss₀ ts₀ : List ℕ) where
  abbrev from : ℕ → ℕ
  from = sets_from first sets

  -- the faces of the first x are entered, n of them
  pub record RowEntered (ls ss ts : List ℕ) (n x : ℕ) : Type 0 where
    pub count : n ≡ asked (sets_from first sets) first x
    pub are : Entered base (side_of g first) (keys_of (sets_from first sets) first x) ls₀ ss₀ ts₀ ls ss ts 0 n

  pub row_begin : RowEntered ls₀ ss₀ ts₀ 0 0
  unfolding asked
  row_begin =
      record {
        count = refl;
        are = subst (λ (ks : List ℕ). Entered base (side_of g first) ks ls₀ ss₀ ts₀ ls₀ ss₀ ts₀ 0 0) (sym (keys_none from first)) (none_after base (side_of g first) ls₀ ss₀ ts₀ 0);
      }

  module _ {ls ss ts : List ℕ} {n x : ℕ} (r : RowEntered ls ss ts n x) where
    -- the lists keep their lengths
    pub row_kept : x ≤ length sets → base + asked from first (length sets) ≤ length ls₀ → (length ls ≡ length ls₀) × (length ss ≡ length ss₀)
    row_kept h room = kept_after r.are (omega (arith, room, length_keys from x first, asked_le from x (length sets) first h))

    -- and there is room for the next cell
    pub row_room : x < length sets → (n + quads_of (get_or sets x 0) ≤ asked from first (length sets)) × (n + quads_of (get_or sets x 0) ≤ 6 * length sets)
    row_room h =
        let here : get_or sets x 0 ≡ from (first + x) = ap (λ (i : ℕ). get_or sets i 0) (omega arith) in
        let a : n + quads_of (get_or sets x 0) ≤ asked from first (length sets) =
        omega (arith, r.count, asked_step from x first, asked_le from (x + 1) (length sets) first (omega arith), ap quads_of here) in
        (a, omega (arith, asked_few from (length sets) first))

    -- a cell more
    pub row_next : {ls₁ ss₁ ts₁ : List ℕ} {m side : ℕ} → base ≤ length ls₀ → side ≡ 6144 * get_or g (first + x) 0 + x → m ≡ n + quads_of (get_or sets x 0)
        → Entered base (λ k. side + 1024 * (k % 6)) (cell_keys (get_or sets x 0) (first + x)) ls ss ts ls₁ ss₁ ts₁ n m → RowEntered ls₁ ss₁ ts₁ m (x + 1)
    row_next {ls₁} {ss₁} {ts₁} {m} {side} room s p u =
        let set = get_or sets x 0 in
        let cell = first + x in
        let here : set ≡ from cell = ap (λ (i : ℕ). get_or sets i 0) (omega arith) in
        let words = map-cell (λ k. side + 1024 * (k % 6)) (side_of g first) set cell
        (λ i l. let c : key_of cell i / 6 ≡ first + x = omega arith in
        let y : key_of cell i / 6 - first ≡ x = omega arith in
        ap (λ (w : ℕ). w + 1024 * (key_of cell i % 6)) (s ∙ (λ j. 6144 * get_or g (sym c j) 0 + sym y j))) in
        record {
          count = p ∙ omega (arith, r.count, asked_step from x first, ap quads_of here);
          are = subst (λ (ks : List ℕ). Entered base (side_of g first) ks ls₀ ss₀ ts₀ ls₁ ss₁ ts₁ 0 m)
              (ap (λ (k : ℕ). keys_of from first x ++ cell_keys k cell) here ∙ sym (keys_more from x first))
              (then_after (keys_of from first x) (cell_keys set cell) (omega arith) (omega (arith, r.count, length_keys from x first)) r.are
              (record { links = u.links; slots = u.slots; sides = u.sides ∙ ap (λ (w : List ℕ). take n ts ++ w) words; kept = u.kept }));
        }

    pub row_end : x ≡ length sets → (n ≡ asked from first (length sets)) × Entered base (side_of g first) (keys_of from first (length sets)) ls₀ ss₀ ts₀ ls ss ts 0 n
    row_end e = (r.count ∙ ap (asked from first) e, subst (λ (i : ℕ). Entered base (side_of g first) (keys_of from first i) ls₀ ss₀ ts₀ ls ss ts 0 n) e r.are)
