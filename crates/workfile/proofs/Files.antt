-- Laws of the file's tests: counts that are capped, and what a file that is not bad is known to be. Assumes nothing.
use mathlib.Core.Path.{◌≡◌, refl, sym, ap, ◌∙◌}
use mathlib.Core.Bool.{Bool, true, false, not, ◌&&◌, ◌||◌}
use mathlib.Core.List.{List}
use Prim.Native.Nat.{ℕ, ◌+◌, ◌*◌, ◌≤◌, ◌<◌}
use native.Mathlib.Omega.{arith}
use lib.ListN.{length}
use lib.Dec.{eqb, ltb}
use borrow.Author.Tests.{eqb-true, ne_eqb, ltb-true, ltb-false, lt-ltb, le-ltb}
use Rattle.rules.specs.Update.{ENTRY_BYTES}
use Rattle.rules.specs.Cells.{cells}
use Rattle.rules.specs.Program.{body, word, type_count, size_in, grid_start, log_start, adjoining, bad_file}
use Rattle.rules.proofs.ListLaws.{not_true, and_true, or_false}
use Rattle.floats.specs.declared.Triple.{Triple}
use Rattle.util.specs.declared.Dimensions.{Dimensions}
use Rattle.workfile.specs.declared.Work.{Work}
use Rattle.workfile.specs.Work.{Good, capped, triple_at, dims_in, work_in}

-- ---- capped counts

pub capped_under : (n : ℕ) → n < 4294967296 → capped n ≡ n
unfolding capped
capped_under n h = rw (lt-ltb n 4294967296 h)

pub capped_over : (n : ℕ) → 4294967296 ≤ n → capped n ≡ 4294967296
unfolding capped
capped_over n h = rw (le-ltb n 4294967296 h)

-- a test that holds of a count below the cap as above it
capped_test : (test : ℕ → Bool) → ((n : ℕ) → 4294967296 ≤ n → test n ≡ test 4294967296) → (n : ℕ) → test (capped n) ≡ test n
capped_test test past n = go (ltb n 4294967296) refl
  where
    go : (b : Bool) → ltb n 4294967296 ≡ b → test (capped n) ≡ test n
    go true e = ap test (capped_under n (ltb-true n 4294967296 e))
    go false e = ap test (capped_over n (ltb-false n 4294967296 e)) ∙ sym (past n (ltb-false n 4294967296 e))

pub capped_many : (n : ℕ) → ltb 512 (capped n) ≡ ltb 512 n
capped_many = capped_test (ltb 512) (λ n h. lt-ltb 512 n (omega arith))

pub capped_none : (n : ℕ) → eqb (capped n) 0 ≡ eqb n 0
capped_none = capped_test (λ n. eqb n 0) (λ n h. ne_eqb n 0 (λ e. omega arith))

capped-sum : (a b n to : ℕ) → to < 4294967296 → eqb (a + (b + capped n)) to ≡ eqb (a + (b + n)) to
capped-sum a b n to l =
    capped_test (λ m. eqb (a + (b + m)) to)
    (λ m h. ne_eqb (a + (b + m)) to (λ e. omega arith) ∙ sym (ne_eqb (a + (b + 4294967296)) to (λ e. omega arith))) n

-- the tests of the parts, as the words are read and the cells are counted
pub adjoining_read : (file : List ℕ) {back0 back1 back2 types entries count : ℕ} → length file ≤ 8192 → types ≡ word file 3
    → count ≡ capped (cells (size_in file)) → back0 ≡ word file 0 → back1 ≡ word file 1 → back2 ≡ word file 2 → entries ≡ word file 4
    → (eqb back0 (body file) && eqb (back1 + 74 * types) (body file) && eqb (back2 + (74 * types + count)) (body file)
    && eqb (ENTRY_BYTES * entries + (74 * types + count)) (body file)) ≡ adjoining file
adjoining_read file h t n a b c e =
    let m = cells (size_in file) in
    let far : body file < 4294967296 = omega arith in
    rw (t, n, a, b, c, e, capped-sum (word file 2) (grid_start file) m (body file) far, capped-sum (ENTRY_BYTES * word file 4) (grid_start file) m (body file) far)

pub few : {n : ℕ} → n ≤ 512 → n < 4294967296
few h = omega arith

-- ---- the whole test

pub too_short : (file : List ℕ) → length file < 92 → bad_file file ≡ true
unfolding bad_file
too_short file h = rw (lt-ltb (length file) 92 h)

pub too_long : (file : List ℕ) → 92 ≤ length file → 8192 < length file → bad_file file ≡ true
unfolding bad_file
too_long file h l = rw (le-ltb (length file) 92 h, lt-ltb 8192 (length file) l)

-- the tests of the trailer, as the words are read and the cells are counted
pub trailer_read : (file : List ℕ) {types count last flag algorithm outer : ℕ} {parts : Bool} → 92 ≤ length file → length file ≤ 8192
    → types ≡ word file 3 → count ≡ capped (cells (size_in file)) → last ≡ word file 22 → parts ≡ adjoining file → flag ≡ word file 19
    → algorithm ≡ word file 9 → outer ≡ word file 8
    → (not (eqb last 92) || not parts || ltb 1 flag || ltb 1 algorithm || ltb 63 outer || ltb 8 types || ltb 512 count || eqb types 0
    || eqb count 0) ≡ bad_file file
unfolding bad_file
trailer_read file h l t n a p f g o =
    rw (t, n, a, p, f, g, o, capped_many (cells (size_in file)), capped_none (cells (size_in file)), le-ltb (length file) 92 h, le-ltb 8192 (length file) l)

-- ---- a file that is not bad

filled : (file : List ℕ) → adjoining file ≡ true → ENTRY_BYTES * word file 4 + log_start file ≡ body file
filled file e =
    eqb-true _ _
    (and_true
    (eqb (word file 0) (body file) && eqb (word file 1 + grid_start file) (body file) && eqb (word file 2 + log_start file) (body file))
    (eqb (ENTRY_BYTES * word file 4 + log_start file) (body file)) e).1

pub good : (file : List ℕ) → bad_file file ≡ false → Good file
unfolding bad_file
good file e =
    let no_cells = or_false _ _ e in
    let no-types = or_false _ _ no_cells.0 in
    let many-cells = or_false _ _ no-types.0 in
    let many-types = or_false _ _ many-cells.0 in
    let outer = or_false _ _ many-types.0 in
    let algorithm = or_false _ _ outer.0 in
    let flag = or_false _ _ algorithm.0 in
    let parts = or_false _ _ flag.0 in
    let trailer = or_false _ _ parts.0 in
    let size = or_false _ _ trailer.0 in
    record {
      least = ltb-false _ _ size.0;
      most = ltb-false _ _ size.1;
      fills = filled file (not_true (adjoining file) parts.1);
      outer = ltb-false _ _ outer.1;
      types = ltb-false _ _ many-types.1;
      cells = ltb-false _ _ many-cells.1;
    }

-- the struct, as the words are read and the cells are counted
pub work_read : (file : List ℕ) → Good file → {types count entries outer algorithm wide tall padding flag colour alpha : ℕ} {dims : Dimensions} {d centre : Triple}
    → types ≡ word file 3 → count ≡ capped (cells (size_in file)) → dims ≡ dims_in file → d ≡ triple_at file 10 → centre ≡ triple_at file 13
    → entries ≡ word file 4 → outer ≡ word file 8 → algorithm ≡ word file 9 → wide ≡ word file 16 → tall ≡ word file 17
    → padding ≡ word file 18 → flag ≡ word file 19 → colour ≡ word file 20 → alpha ≡ word file 21
    → ◌≡◌ {A = Work} record {
      types = types;
      entries = entries;
      dims = dims;
      outer = outer;
      culling = eqb algorithm 1;
      d = d;
      centre = centre;
      atlas_width = wide;
      atlas_height = tall;
      padding = padding;
      coloured = eqb flag 1;
      colour = colour;
      alpha = alpha;
      grid_start = 74 * types;
      log_start = 74 * types + count;
    } (work_in file)
work_read file g t n s d c e o a w h p f l k =
    let m : capped (cells (size_in file)) ≡ cells (size_in file) = capped_under (cells (size_in file)) (few g.cells) in
    rw (t, n, m, s, d, c, e, o, a, w, h, p, f, l, k)

pub types_are : (file : List ℕ) → Good file → {work : Work} → work ≡ work_in file → work.types ≡ type_count file
types_are file g e = ap (λ (w : Work). w.types) e
