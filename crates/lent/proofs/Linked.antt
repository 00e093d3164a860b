-- Laws of links and slots. Assumes nothing.
use Rattle.std.proofs.Common.{◌≡◌, ℕ, ◌+◌, ◌*◌, ◌<◌, ◌≤◌, Bool, true, false, cond, not, ◌||◌, eqb, ltb, leb, length, get_or, refl, add-one, arith, ltb-false, eqb-true, leb-false}
use mir.Val.{bool_byte}
use Rattle.rules.specs.Lists.{table, count}
use Rattle.rules.specs.Cells.{code_in, cell_in, first_vertex}
use Rattle.rules.specs.Mesh.{Lists, NONE}
use Rattle.rules.specs.Answers.{fine, refuse_if, refuse_lowest, slot_at, bad_link, slots_filled, BAD_LINKS}
use Rattle.rules.specs.Check.{linked}
use Rattle.rules.proofs.ListLaws.{or_false, not_true, within, length-table}
use Rattle.rules.proofs.Index.{full_le}
use Rattle.rules.proofs.Checking.{then_fine, lowest_fine, names_of}

-- ---- filled slots, one by one

pub filled_none : (B : Lists) → slots_filled 0 B ≡ 0
unfolding count
filled_none B = refl

-- one slot more is filled, or empty
pub filled_more : (B : Lists) (k : ℕ) → k < length B.slots → slots_filled (k + 1) B + bool_byte (eqb (get_or B.slots k 0) NONE) ≡ slots_filled k B + 1
unfolding count
filled_more B k h = rw (add-one, within B.slots k 0 NONE) (one (eqb (slot_at B k) NONE) (slots_filled k B))
  where
    one : (b : Bool) (n : ℕ) → n + cond (not b) 1 0 + bool_byte b ≡ n + 1
    one true n = omega arith
    one false n = omega arith

-- ---- links that pass

module _ (n : ℕ) (B : Lists) (Q : ℕ) where
  link_is : (q : ℕ) → bad_link n B q ≡ false
      → (code_in (get_or B.links q 0) ≤ 5) × (cell_in (get_or B.links q 0) < n) × (slot_at B (linked B q) ≡ first_vertex q)
  unfolding bad_link
  link_is q e =
      let word = get_or B.links q 0 in
      let all = or_false (ltb 5 (code_in word) || leb n (cell_in word)) (not (eqb (slot_at B (linked B q)) (first_vertex q))) e in
      let both = or_false (ltb 5 (code_in word)) (leb n (cell_in word)) all.0 in (
        ltb-false 5 (code_in word) both.0,
        leb-false n (cell_in word) both.1,
        eqb-true (slot_at B (linked B q)) (first_vertex q) (not_true _ all.1),
      )

  -- LAW: quads whose links pass are no more than six a cell
  pub few_linked : 6 * n ≤ length B.slots → BAD_LINKS n B Q ≡ fine → Q ≤ 6 * n
  unfolding BAD_LINKS
  few_linked room e =
      let good = lowest_fine 11 Q (bad_link n B) (then_fine (refuse_lowest 11 Q (bad_link n B)) (refuse_if (ltb Q (slots_filled (6 * n) B)) 11 Q) e).0 in
      let names = names_of n B Q room (λ q h. (link_is q (good q h)).0) (λ q h. (link_is q (good q h)).1) (λ q h. (link_is q (good q h)).2) in
      omega (arith, length-table (linked B) Q, full_le (table Q (linked B)) (6 * n) B.slots names)
