-- Laws of bytes written into a buffer, one piece after the other. Assumes nothing.
use mathlib.Core.Path.{◌≡◌, refl, sym, ap, ◌∙◌}
use mathlib.Core.List.{List, [], ◌∷◌, ◌++◌, append_assoc}
use Prim.Native.Nat.{ℕ, suc, ◌+◌, ◌≤◌, ◌<◌}
use native.Mathlib.Nat.{add-zero}
use native.Mathlib.Numerals.{add-one}
use native.Mathlib.Omega.{arith}
use lib.ListN.{length, set, take, drop, length-append, length-take, length-drop, length-set, take-append-drop}
use lib.Seq.{take_at, take-set-le, drop-cons, drop-drop, drop-append-add, drop-set-lt, set_split, get_or-set_same}
use Rattle.lines.specs.Written.{put, Wrote, Room}

pub length-put : (at : ℕ) (ys xs : List ℕ) → at + length ys ≤ length xs → length (put at ys xs) ≡ length xs
length-put at ys xs h = simp (length-append, length-take, length-drop) (omega arith)

pub put_none : (at : ℕ) (xs : List ℕ) → xs ≡ put at [] xs
put_none at xs = sym (rw add-zero (take-append-drop at xs))

pub put_one : (at y : ℕ) (xs : List ℕ) → at < length xs → set xs at y ≡ put at (y ∷ []) xs
put_one at y xs h = rw add-one (set_split xs at y h)

-- one piece after the other
pub put_put : (at : ℕ) (a b xs : List ℕ) → at + length a ≤ length xs → put (at + length a) b (put at a xs) ≡ put at (a ++ b) xs
put_put at a b xs h =
    ap (put (at + length a) b) (sym (append_assoc (take at xs) a rest))
    ∙ ap (λ (l : List ℕ). l ++ (b ++ drop (at + length a + length b) (front ++ rest))) (take_at front rest (at + length a) long)
    ∙ ap (λ (l : List ℕ). front ++ (b ++ l)) past
    ∙ simp append_assoc
  where
    front : List ℕ
    front = take at xs ++ a

    rest : List ℕ
    rest = drop (at + length a) xs

    long : length front ≡ at + length a
    long = simp (length-append, length-take) (omega arith)

    sum : at + length a + length b ≡ at + length (a ++ b)
    sum = simp length-append (omega arith)

    past : drop (at + length a + length b) (front ++ rest) ≡ drop (at + length (a ++ b)) xs
    past =
        ap (λ (k : ℕ). drop (k + length b) (front ++ rest)) (sym long)
        ∙ drop-append-add front rest (length b)
        ∙ drop-drop (length b) (at + length a) xs
        ∙ ap (λ (k : ℕ). drop k xs) sum

-- a byte that is written before what stands in front of it
pub put_last : (at y i : ℕ) (ys xs : List ℕ) → i ≡ at + length ys → i < length xs → put at ys (set xs i y) ≡ put at (ys ++ (y ∷ [])) xs
put_last at y i ys xs e h =
    ap (λ (l : List ℕ). l ++ (ys ++ drop (at + length ys) (set xs i y))) (take-set-le at xs i y (omega arith))
    ∙ ap (λ (l : List ℕ). take at xs ++ (ys ++ l)) past
    ∙ simp append_assoc
  where
    next : suc i ≡ at + length (ys ++ (y ∷ []))
    next = simp length-append (omega arith)

    past : drop (at + length ys) (set xs i y) ≡ (y ∷ []) ++ drop (at + length (ys ++ (y ∷ []))) xs
    past =
        ap (λ (k : ℕ). drop k (set xs i y)) (sym e)
        ∙ drop-cons (set xs i y) i 0 (simp length-set h)
        ∙ ap (λ (z : ℕ). z ∷ drop (suc i) (set xs i y)) (get_or-set_same xs i y 0 h)
        ∙ ap (λ (l : List ℕ). y ∷ l) (drop-set-lt (suc i) xs i y (omega arith))
        ∙ ap (λ (k : ℕ). y ∷ drop k xs) next

-- ---- what a call wrote

pub wrote_none : (at : ℕ) (xs : List ℕ) → Wrote [] at xs xs at
wrote_none at xs = record { is = put_none at xs; end = sym (add-zero at) }

pub wrote_one : (at y : ℕ) (xs : List ℕ) → at < length xs → Wrote (y ∷ []) at xs (set xs at y) (at + 1)
wrote_one at y xs h = record { is = put_one at y xs h; end = refl }

pub wrote_as : {a b xs ys : List ℕ} {at next : ℕ} → a ≡ b → Wrote a at xs ys next → Wrote b at xs ys next
wrote_as {xs = xs} {ys = ys} {at = at} {next = next} e w = rw e at w

pub room_as : {a b xs : List ℕ} {at : ℕ} → a ≡ b → Room b at xs → Room a at xs
room_as e r = record { fits = rw e r.fits }

pub wrote_length : {a xs ys : List ℕ} {at next : ℕ} → Wrote a at xs ys next → Room a at xs → length ys ≡ length xs
wrote_length {a = a} {xs = xs} {at = at} w r = ap length w.is ∙ length-put at a xs r.fits

pub end_inside : {a xs ys : List ℕ} {at next : ℕ} → Wrote a at xs ys next → Room a at xs → next ≤ length ys
end_inside w r = omega (arith, wrote_length w r, w.end, r.fits)

pub room_first : (a b : List ℕ) {xs : List ℕ} {at : ℕ} → Room (a ++ b) at xs → Room a at xs
room_first a b r = record { fits = omega (arith, length-append a b, r.fits) }

pub room_next : (a b : List ℕ) {xs ys : List ℕ} {at next : ℕ} → Room (a ++ b) at xs → Wrote a at xs ys next → Room b next ys
room_next a b r w = record { fits = omega (arith, length-append a b, wrote_length w (room_first a b r), w.end, r.fits) }

pub wrote_then : (a b : List ℕ) {xs ys zs : List ℕ} {at next last : ℕ} → Room (a ++ b) at xs → Wrote a at xs ys next → Wrote b next ys zs last
    → Wrote (a ++ b) at xs zs last
wrote_then a b {xs} {ys} {zs} {at} {next} {last} r v w =
    record {
      is = w.is ∙ ap (λ (k : ℕ). put k b ys) v.end ∙ ap (put (at + length a) b) v.is ∙ put_put at a b xs (room_first a b r).fits;
      end = simp length-append (omega (arith, w.end, v.end));
    }

-- ---- bytes that are written in three pieces
pub record Three (bytes : List ℕ) : Type 0 where
  pub one : List ℕ
  pub two : List ℕ
  pub three : List ℕ
  pub are : one ++ two ++ three ≡ bytes

module _ {bytes : List ℕ} (p : Three bytes) {xs : List ℕ} {at : ℕ} (r : Room bytes at xs) where
  all : Room (p.one ++ p.two ++ p.three) at xs
  all = room_as p.are r

  pub room_one : Room p.one at xs
  room_one = room_first p.one p.two (room_first (p.one ++ p.two) p.three all)

  module _ {ys : List ℕ} {next : ℕ} (w : Wrote p.one at xs ys next) where
    pub room_two : Room p.two next ys
    room_two = room_next p.one p.two (room_first (p.one ++ p.two) p.three all) w

    module _ {zs : List ℕ} {last : ℕ} (v : Wrote p.two next ys zs last) where
      both : Wrote (p.one ++ p.two) at xs zs last
      both = wrote_then p.one p.two (room_first (p.one ++ p.two) p.three all) w v

      pub room_three : Room p.three last zs
      room_three = room_next (p.one ++ p.two) p.three all both

      pub wrote_three : {after : List ℕ} {end : ℕ} → Wrote p.three last zs after end → Wrote bytes at xs after end
      wrote_three u = wrote_as p.are (wrote_then (p.one ++ p.two) p.three all both u)
