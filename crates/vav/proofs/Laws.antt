-- Laws of `put`, `part` and `freed`. Assumes nothing.
use mathlib.Core.Path.{◌≡◌, refl, sym, ap, ◌∙◌}
use Prim.Native.Nat.{ℕ, zero, suc, ◌+◌, ◌-◌, ◌*◌, ◌≤◌, ◌<◌}
use mathlib.Core.Bool.{cond}
use mathlib.Core.List.{List, [], ◌∷◌, ◌++◌, append_assoc, append-nil}
use native.Mathlib.Numerals.{add-one}
use native.Mathlib.Nat.{add-zero, mul-le-mul_left}
use native.Mathlib.Omega.{arith}
use native.Mathlib.Decide.{dec_lt}
use lib.ListN.{length, take, drop, get_or, set, length-append, length-take, length-drop, get_or-append, take-append-drop, drop_of_length-le}
use lib.Seq.{ext_get_or, sets, sets-eq, take_at, drop_at, drop-append-add, take-suc, drop-cons, get_or-drop, get_or-take, set_at, set_split, get_or-append-add, drop-drop}
use borrow.Author.Tests.{leb-false}
use borrow.Rule.Slice.PartMut.{put_mid}
use Rattle.rules.specs.Lists.{part}
use Rattle.rules.specs.Update.{shifts}
use Rattle.rules.proofs.ListLaws.{split}
pub use Rattle.rules.proofs.Attributes.{length_part}
use Rattle.vav.specs.Rows.{put, four, source_of}

pub part_at : (at n : ℕ) (xs : List ℕ) (k : ℕ) → k < n → get_or (part at n xs) k 0 ≡ get_or xs (at + k) 0
part_at at n xs k h = rw (get_or-take n (drop at xs) k 0 h, get_or-drop)

-- a part from `at` to `at + n`, as it is lent
pub part_lent : (at n : ℕ) (xs : List ℕ) → part at (at + n - at) xs ≡ part at n xs
part_lent at n xs = let e : at + n - at ≡ n = omega arith in ap (λ (k : ℕ). part at k xs) e

pub take_more : (n : ℕ) (xs : List ℕ) → n < length xs → take (n + 1) xs ≡ take n xs ++ (get_or xs n 0 ∷ [])
take_more n xs h = rw (add-one, take-suc xs n 0 h)

-- four words, one by one
pub four_at : (xs : List ℕ) (j k : ℕ) → k < 4 → get_or (four xs j) k 0 ≡ get_or xs (j + k) 0
four_at xs j zero h = ap (λ (i : ℕ). get_or xs i 0) (sym (add-zero j))
four_at xs j (suc zero) h = refl
four_at xs j (suc (suc zero)) h = refl
four_at xs j (suc (suc (suc zero))) h = refl
four_at xs j (suc (suc (suc (suc k)))) h = absurd (omega arith)

-- one word more
pub part_more : (at n : ℕ) (xs : List ℕ) → at + n < length xs → part at (n + 1) xs ≡ part at n xs ++ (get_or xs (at + n) 0 ∷ [])
part_more at n xs h =
    let k : n < length (drop at xs) = simp length-drop (omega arith) in
    rw (take_more n (drop at xs) k, get_or-drop)

-- ---- put
module _ (at : ℕ) (ys xs : List ℕ) where
  pub length-put : at + length ys ≤ length xs → length (put at ys xs) ≡ length xs
  unfolding put
  length-put h = simp (length-append, length-take, length-drop) (omega arith)

  -- what is read before, within and past what was put
  pub put_before : (k : ℕ) → at ≤ length xs → k < at → get_or (put at ys xs) k 0 ≡ get_or xs k 0
  unfolding put
  put_before k h l =
      let m : k < length (take at xs) = simp length-take (omega arith) in
      rw (get_or-append (take at xs) (ys ++ drop (at + length ys) xs) 0 k m, get_or-take at xs k 0 l)

  pub put_within : (k : ℕ) → at ≤ length xs → k < length ys → get_or (put at ys xs) (at + k) 0 ≡ get_or ys k 0
  unfolding put
  put_within k h l =
      let e : at + k ≡ length (take at xs) + k = simp length-take (omega arith) in
      rw (e, get_or-append-add (take at xs) (ys ++ drop (at + length ys) xs) k 0, get_or-append ys (drop (at + length ys) xs) 0 k l)

  pub put_past : (k : ℕ) → at ≤ length xs → at + length ys ≤ k → get_or (put at ys xs) k 0 ≡ get_or xs k 0
  unfolding put
  put_past k h l =
      let e : k ≡ length (take at xs) + (length ys + (k - at - length ys)) = simp length-take (omega arith) in
      let f : at + length ys + (k - at - length ys) ≡ k = omega arith in
      ap (λ (z : ℕ). get_or (take at xs ++ (ys ++ drop (at + length ys) xs)) z 0) e
      ∙ get_or-append-add (take at xs) (ys ++ drop (at + length ys) xs) (length ys + (k - at - length ys)) 0
      ∙ get_or-append-add ys (drop (at + length ys) xs) (k - at - length ys) 0
      ∙ get_or-drop (at + length ys) xs (k - at - length ys) 0
      ∙ ap (λ (z : ℕ). get_or xs z 0) f

  -- a word written just past what was put
  pub put_more : (y : ℕ) → at + length ys < length xs → set (put at ys xs) (at + length ys) y ≡ put at (ys ++ (y ∷ [])) xs
  unfolding put
  put_more y h =
      let p : length (take at xs ++ ys) ≡ at + length ys = simp (length-append, length-take) (omega arith) in
      let e : at + length (ys ++ (y ∷ [])) ≡ suc (at + length ys) = simp length-append (omega arith) in
      rw (← append_assoc, drop-cons xs (at + length ys) 0)
      (set_at (take at xs ++ ys) (get_or xs (at + length ys) 0) (drop (suc (at + length ys)) xs) y (at + length ys) p
      ∙ rw e (simp append_assoc))

pub put_none : (at : ℕ) (xs : List ℕ) → xs ≡ put at [] xs
unfolding put
put_none at xs = sym (rw add-zero (take-append-drop at xs))

-- a row of one word
pub put_one : (q w : ℕ) (xs : List ℕ) → q < length xs → set xs q w ≡ put (1 * q) (w ∷ []) xs
unfolding put
put_one q w xs h =
    let e : 1 * q ≡ q = omega arith in
    rw (e, add-one) (set_split xs q w h)

-- one word more is written, of which i are there already
pub write_more : (at i : ℕ) (ys : List ℕ) (y : ℕ) (xs : List ℕ) → length ys ≡ i → at + i < length xs
    → set (put at ys xs) (at + i) y ≡ put at (ys ++ (y ∷ [])) xs
write_more at i ys y xs e h =
    ap (λ (k : ℕ). set (put at ys xs) (at + k) y) (sym e) ∙ put_more at ys xs y (omega arith)

-- one word more is copied down
pub copy_more : (from to i : ℕ) (xs : List ℕ) → to ≤ from → from + i < length xs
    → set (put to (part from i xs) xs) (to + i) (get_or (put to (part from i xs) xs) (from + i) 0) ≡ put to (part from (i + 1) xs) xs
copy_more from to i xs h l =
    let e : length (part from i xs) ≡ i = length_part from i xs (omega arith) in
    rw (put_past to (part from i xs) xs (from + i) (omega arith) (omega arith))
    (write_more to i (part from i xs) (get_or xs (from + i) 0) xs e (omega arith)
    ∙ ap (λ (ys : List ℕ). put to ys xs) (sym (part_more from i xs l)))

-- a stretch of a list in three pieces, and what is put over it
module _ (pre mid post : List ℕ) (at n : ℕ) (l : length pre ≡ at) (m : length mid ≡ n) where
  pub part_mid : part at n (pre ++ (mid ++ post)) ≡ mid
  part_mid = rw (drop_at pre (mid ++ post) at l) (take_at mid post n m)

  pub put_mid_lem : (ys : List ℕ) → length ys ≡ n → put at ys (pre ++ (mid ++ post)) ≡ pre ++ (ys ++ post)
  unfolding put
  put_mid_lem ys e =
      let d : drop (at + length ys) (pre ++ (mid ++ post)) ≡ post =
      ap (λ (k : ℕ). drop (k + length ys) (pre ++ (mid ++ post))) (sym l)
      ∙ drop-append-add pre (mid ++ post) (length ys) ∙ drop_at mid post (length ys) (m ∙ sym e) in
      rw (d, take_at pre (mid ++ post) at l)

-- ---- words written over a list, one after the other

-- word after word
pub stored : (at : ℕ) (ys xs : List ℕ) → at + length ys ≤ length xs → sets xs at ys ≡ put at ys xs
unfolding put
stored at ys xs h = sets-eq ys xs at h ∙ append_assoc (take at xs) ys (drop (at + length ys) xs)

-- a list where another one ends
pub put_next : (at : ℕ) (ys zs xs : List ℕ) → at ≤ length xs → put (at + length ys) zs (put at ys xs) ≡ put at (ys ++ zs) xs
unfolding put
put_next at ys zs xs h =
    let front = take at xs ++ ys in
    let rest = drop (at + length ys) xs in
    let l : length front ≡ at + length ys = simp (length-append, length-take) (omega arith) in
    let e : at + length ys + length zs ≡ at + length (ys ++ zs) = simp length-append (omega arith) in
    let d : drop (at + length ys + length zs) (front ++ rest) ≡ drop (at + length (ys ++ zs)) xs =
    ap (λ (k : ℕ). drop (k + length zs) (front ++ rest)) (sym l) ∙ drop-append-add front rest (length zs)
    ∙ drop-drop (length zs) (at + length ys) xs ∙ ap (λ (k : ℕ). drop k xs) e in
    ap (λ (r : List ℕ). take (at + length ys) r ++ (zs ++ drop (at + length ys + length zs) r)) (sym (append_assoc (take at xs) ys rest))
    ∙ rw (take_at front rest (at + length ys) l, d) (simp append_assoc)

-- a whole list over another
pub put_whole : (ys xs : List ℕ) → length ys ≡ length xs → put 0 ys xs ≡ ys
unfolding put
put_whole ys xs e = rw (drop_of_length-le xs {i = 0 + length ys} (omega arith)) (append-nil ys)

-- a part from a to a + k that was lent, came back as ys, and is known to be zs
pub lent : (a k : ℕ) (xs ys zs : List ℕ) → ys ≡ zs → length zs ≡ k → put_mid a (a + k - a) xs ys ≡ put a zs xs
unfolding put
lent a k xs ys zs e l =
    let f : a + k - a ≡ k = omega arith in
    ap (λ (j : ℕ). put_mid a j xs ys) f ∙ ap (put_mid a k xs) e
    ∙ ap (λ (r : List ℕ). take a xs ++ (zs ++ r)) (drop-drop k a xs ∙ ap (λ (n : ℕ). drop (a + n) xs) (sym l))

-- ---- freed

-- the first row that moves is past q, and at most Q
pub source_bounds : (q Q : ℕ) → q < Q → (q < source_of q Q) × (source_of q Q ≤ Q)
source_bounds q Q h =
    split (λ b. shifts Q q ≡ b → (q < cond b (suc q) (Q - 1)) × (cond b (suc q) (Q - 1) ≤ Q)) (shifts Q q)
    (λ s e. (omega arith, omega arith)) (λ s e. (omega (arith, leb-false (Q - q) 6 e), omega arith)) refl

-- the stretches of a removal, in words, where `from` is the first row that moves
pub record Spans (n q Q from : ℕ) : Type 0 where
  pub below : from ≤ Q
  pub up : n * q + n ≤ n * from
  pub whole : n * from + n * (Q - from) ≡ n * Q
  pub last : n * (Q - 1) + n ≡ n * Q
  pub room : n * q + n * (Q - from) ≤ n * (Q - 1)

pub spans : (n q Q from : ℕ) → q < Q → from ≡ source_of q Q → Spans n q Q from
spans n q Q from h e =
    let b = source_bounds q Q h in
    let u : suc q ≤ from = omega arith in
    let w : from + (Q - from) ≡ Q = omega arith in
    let l : suc (Q - 1) ≡ Q = omega arith in
    let r : q + (Q - from) ≤ Q - 1 = omega arith in
    record {
      below = omega arith;
      up = omega (arith, mul-le-mul_left n u);
      whole = omega (arith, ap (λ (k : ℕ). n * k) w);
      last = omega (arith, ap (λ (k : ℕ). n * k) l);
      room = omega (arith, mul-le-mul_left n r);
    }

-- ---- a list that is right up to a place, whatever comes after
pub record Begun (whole : List ℕ) (j : ℕ) (xs : List ℕ) : Type 0 where
  pub is : (k : ℕ) → k < j → get_or xs k 0 ≡ get_or whole k 0
  pub long : length xs ≡ length whole

module _ (whole : List ℕ) where
  pub none_begun : (xs : List ℕ) → length xs ≡ length whole → Begun whole 0 xs
  none_begun xs e = record { is = λ k h. absurd (omega arith); long = e }

  -- the next m words of a list
  pub begun_on : {j m : ℕ} {xs : List ℕ} → Begun whole j xs → ((k : ℕ) → k < m → get_or xs (j + k) 0 ≡ get_or whole (j + k) 0) → Begun whole (j + m) xs
  begun_on {j} {m} {xs} b next = record { is = λ k h. go k h (dec_lt k j); long = b.long }
    where
      go : (k : ℕ) → k < j + m → Dec (k < j) → get_or xs k 0 ≡ get_or whole k 0
      go k h (yes l) = b.is k l
      go k h (no l) =
          let e : j + (k - j) ≡ k = omega arith in
          rw e at (next (k - j) (omega arith))

  -- m words and more are written, of which the first m are right
  pub begun_more : {j m : ℕ} {xs zs : List ℕ} (ys : List ℕ) → Begun whole j xs → j + length ys ≤ length whole → m ≤ length ys
      → ((k : ℕ) → k < m → get_or ys k 0 ≡ get_or whole (j + k) 0) → zs ≡ put j ys xs → Begun whole (j + m) zs
  begun_more {j} {m} {xs} {zs} ys b fits enough right e =
      let l : j ≤ length xs = omega (arith, b.long) in
      let kept : length zs ≡ length whole = ap length e ∙ length-put j ys xs (omega (arith, b.long)) ∙ b.long in
      begun_on (record { is = λ k h. ap (λ (r : List ℕ). get_or r k 0) e ∙ put_before j ys xs k l h ∙ b.is k h; long = kept })
      (λ k h. ap (λ (r : List ℕ). get_or r (j + k) 0) e ∙ put_within j ys xs k l (omega arith) ∙ right k h)

  pub begun_all : {j : ℕ} {xs : List ℕ} → length whole ≤ j → Begun whole j xs → xs ≡ whole
  begun_all {j} {xs} h b = ext_get_or 0 xs whole b.long (λ k l. b.is k (omega (arith, b.long)))
