-- Laws of side sets. Assumes nothing.
use mathlib.Core.Path.{◌≡◌, refl, sym, ap, ◌∙◌}
use mathlib.Core.Bool.{Bool, true, false, cond, not, ◌&&◌}
use mathlib.Core.List.{List, [], ◌∷◌, ◌++◌}
use mathlib.Core.Option.{Option, none, some}
use Prim.Native.Nat.{ℕ, zero, suc, ◌+◌, ◌*◌, ◌%◌, ◌^◌, ◌≤◌, ◌<◌}
use native.Mathlib.Numerals.{add-one}
use native.Mathlib.Omega.{arith}
use lib.Bits.{bit_or}
use lib.Dec.{eqb, eqb→eq}
use lib.ListN.{length, get_or, take}
use lib.Seq.{take-suc}
use Rattle.rules.specs.Lists.{every, member}
use Rattle.rules.specs.Cells.{opposite, neighbour, has, set_of}
use Rattle.rules.specs.Mesh.{World, type_at, is_normal_cube, shown, drawn}
use Rattle.rules.proofs.ListLaws.{member-append}
use Rattle.rules.proofs.Searches.{every_at}
use Rattle.rules.proofs.Sets.{set_of_lt, has-set_of}
use Rattle.culling.specs.Culling.{world_of, outer_set}

pub set_of_cong : (p q : ℕ → Bool) → ((f : ℕ) → f < 6 → p f ≡ q f) → set_of p ≡ set_of q
set_of_cong p q e = rw (e 0 (omega arith), e 1 (omega arith), e 2 (omega arith), e 3 (omega arith), e 4 (omega arith), e 5 (omega arith))

-- a set that is kept or dropped whole
pub only_if : (b : Bool) (p : ℕ → Bool) → cond b (set_of p) 0 ≡ set_of (λ f. b && p f)
only_if true p = refl
only_if false p = refl

-- ---- a face added to a set

abbrev with : ℕ → ℕ → ℕ → Bool
with s k f = cond (has s f) true (eqb f k)

-- LAW: by one test over the 64 sets and the six faces
pub or_face : (s k : ℕ) → s < 64 → k < 6 → bit_or s (2 ^ k) ≡ set_of (with s k)
unfolding every
or_face s k S K =
    eqb→eq (bit_or s (2 ^ k)) (set_of (with s k))
    (every_at 6 (λ k. eqb (bit_or s (2 ^ k)) (set_of (with s k)))
    (every_at 64 (λ s. every 6 (λ k. eqb (bit_or s (2 ^ k)) (set_of (with s k)))) tt s S) k K)

-- a face's bit in a byte
pub shifted : (k : ℕ) → k ≤ 5 → 1 * 2 ^ k % 256 ≡ 2 ^ k
shifted zero h = refl
shifted (suc zero) h = refl
shifted (suc (suc zero)) h = refl
shifted (suc (suc (suc zero))) h = refl
shifted (suc (suc (suc (suc zero)))) h = refl
shifted (suc (suc (suc (suc (suc zero))))) h = refl
shifted (suc (suc (suc (suc (suc (suc k)))))) h = absurd (omega arith)

-- ---- the outer list, face by face

pub outer_none : (outer : List ℕ) → 0 ≡ outer_set (take 0 outer)
outer_none outer = refl

pub outer_more : (outer : List ℕ) (i s : ℕ) → i < length outer → get_or outer i 0 ≤ 5 → s ≡ outer_set (take i outer)
    → bit_or s (2 ^ get_or outer i 0) ≡ outer_set (take (i + 1) outer)
outer_more outer i s h small e =
    let k = get_or outer i 0 in
    let before : ℕ → Bool = λ f. member f (take i outer) in
    rw (e, or_face (set_of before) k (set_of_lt before) (omega arith), add-one, take-suc outer i 0 h)
    (set_of_cong (with (set_of before) k) (λ f. member f (take i outer ++ (k ∷ [])))
    (λ f l. rw (has-set_of before f l) (sym (member-append f (take i outer) (k ∷ []) ∙ last f k (before f)))))
  where
    last : (f k : ℕ) (b : Bool) → cond b true (member f (k ∷ [])) ≡ cond b true (eqb f k)
    last f k true = refl
    last f k false = go (eqb f k)
      where
        go : (t : Bool) → cond t true false ≡ t
        go true = refl
        go false = refl

-- ---- of a world, sizes, kinds and covering sets decide

pub shown_by : (A B : World) (outer g : List ℕ) (f : ℕ) (n : Option ℕ) → A.covers ≡ B.covers → shown A outer g f n ≡ shown B outer g f n
shown_by A B outer g f none e = refl
shown_by A B outer g f (some n) e = ap (λ (covers : List ℕ). not (has (get_or covers (type_at g n) 0) (opposite f))) e

pub drawn_by : (W : World) (outer g : List ℕ) (c f : ℕ) → drawn (world_of W.size W.kinds W.covers) outer g c f ≡ drawn W outer g c f
drawn_by W outer g c f =
    ap (λ (b : Bool). is_normal_cube W (type_at g c) && b) (shown_by (world_of W.size W.kinds W.covers) W outer g f (neighbour W.size c f) refl)
