-- Laws of the lines: their pieces, what is left of them, and how long they are. Assumes nothing.
use mathlib.Core.Path.{◌≡◌, refl, sym, ap, ◌∙◌}
use mathlib.Core.Bool.{Bool, true, false}
use mathlib.Core.List.{List, [], ◌∷◌, ◌++◌, append_assoc}
use Prim.Native.Nat.{ℕ, zero, suc, ◌+◌, ◌*◌, ◌/◌, ◌%◌, ◌≤◌, ◌<◌}
use native.Mathlib.Nat.{zero-add}
use native.Mathlib.Numerals.{add-one}
use native.Mathlib.Omega.{arith}
use lib.ListN.{length, get_or, take, drop, length-append}
use lib.Seq.{drop-cons, drop-length}
use Rattle.rules.specs.Lists.{each, only}
use Rattle.rules.specs.Cells.{has, key_in}
use Rattle.rules.specs.Mesh.{Quad, Lists, decoded, decode}
use Rattle.rules.specs.Calls.{Answer, answered, refused}
use Rattle.rules.specs.Program.{QUADS, MOVED, REFUSED, AT, decimal, quad_lines, mesh_lines, refused_line}
use Rattle.rules.proofs.ListLaws.{All}
use Rattle.lines.specs.Written.{Wrote, Room, quad_line, linked_quad, quads_of}
use Rattle.rules.proofs.Rows.{each_more}
use Rattle.lines.proofs.Writing.{Three, wrote_none, wrote_then, wrote_as, room_as, room_first, room_next}
use Rattle.lines.proofs.Decimals.{length_digits, length-decimal}

-- ---- a line by its pieces

-- two named numbers and the end of the line
abbrev pub named_pieces : (a b c d : List ℕ) → Three (a ++ b ++ c ++ d ++ (10 ∷ []))
named_pieces a b c d =
    record {
      one = a ++ b;
      two = c ++ d;
      three = 10 ∷ [];
      are = ap (λ (l : List ℕ). l ++ (10 ∷ [])) (sym (append_assoc (a ++ b) c d));
    }

abbrev pub head_pieces : (quads moved : ℕ) → Three (mesh_lines (answered quads moved) [])
head_pieces quads moved = named_pieces QUADS (decimal quads) MOVED (decimal moved)

abbrev pub refused_pieces : (number place : ℕ) → Three (refused_line (refused number place))
refused_pieces number place = named_pieces REFUSED (decimal number) AT (decimal place)

-- three numbers, each with the byte that ends it
pub quad_pieces_lem : (n c f : ℕ) → (decimal n ++ (32 ∷ [])) ++ (decimal c ++ (32 ∷ [])) ++ (decimal f ++ (10 ∷ [])) ≡ quad_line n c f
unfolding quad_line
quad_pieces_lem n c f = simp append_assoc

abbrev pub quad_pieces : (n c f : ℕ) → Three (quad_line n c f)
quad_pieces n c f =
    record { one = decimal n ++ (32 ∷ []); two = decimal c ++ (32 ∷ []); three = decimal f ++ (10 ∷ []); are = quad_pieces_lem n c f }

-- the head, then the quads
pub mesh_pieces : (a : Answer) (m : List Quad) → mesh_lines a [] ++ quad_lines 0 m ≡ mesh_lines a m
mesh_pieces a m = append_assoc (QUADS ++ decimal a.quads ++ MOVED ++ decimal a.moved) (10 ∷ []) (quad_lines 0 m)

-- a quad, then the others
quad_first : (i : ℕ) (q : Quad) (m : List Quad) → quad_line i (q.key / 6) (q.key % 6) ++ quad_lines (suc i) m ≡ quad_lines i (q ∷ m)
unfolding quad_line
quad_first i q m = append_assoc (decimal i ++ (32 ∷ decimal (q.key / 6)) ++ (32 ∷ decimal (q.key % 6))) (10 ∷ []) (quad_lines (suc i) m)

-- ---- quads are written in order: what is left is written where the last one ended
abbrev lines_from : ℕ → List ℕ → List ℕ
lines_from i links = quad_lines i (quads_of (drop i links))

pub record Begun (links : List ℕ) (at : ℕ) (before now : List ℕ) (next i : ℕ) : Type 0 where
  pub most : i ≤ length links
  pub room : Room (lines_from i links) next now
  pub then : (after : List ℕ) (last : ℕ) → Wrote (lines_from i links) next now after last → Wrote (quad_lines 0 (quads_of links)) at before after last

pub begun_none : (links : List ℕ) (at : ℕ) (before : List ℕ) → Room (quad_lines 0 (quads_of links)) at before → Begun links at before before at 0
begun_none links at before r = record { most = omega arith; room = r; then = λ after last w. w }

module _ {links : List ℕ} {at : ℕ} {before now : List ℕ} {next i : ℕ} (b : Begun links at before now next i) where
  abbrev line : List ℕ
  line = quad_line i (key_in (get_or links i 0) / 6) (key_in (get_or links i 0) % 6)

  lines_more : i < length links → lines_from i links ≡ line ++ lines_from (i + 1) links
  lines_more h =
      ap (λ (l : List ℕ). quad_lines i (quads_of l)) (drop-cons links i 0 h)
      ∙ sym (quad_first i (linked_quad (get_or links i 0)) (quads_of (drop (suc i) links)))
      ∙ rw add-one refl

  pub begun_room : i < length links → Room line next now
  begun_room h = room_first line (lines_from (i + 1) links) (room_as (sym (lines_more h)) b.room)

  pub begun_more : {after : List ℕ} {last : ℕ} → i < length links → Wrote line next now after last → Begun links at before after last (i + 1)
  begun_more h w =
      let r : Room (line ++ lines_from (i + 1) links) next now = room_as (sym (lines_more h)) b.room in
      record {
        most = omega arith;
        room = room_next line (lines_from (i + 1) links) r w;
        then = λ after last v. b.then after last (wrote_as (sym (lines_more h)) (wrote_then line (lines_from (i + 1) links) r w v));
      }

  pub begun_all : length links ≤ i → Wrote (quad_lines 0 (quads_of links)) at before now next
  begun_all h =
      let e : i ≡ length links = omega (arith, b.most) in
      b.then now next (wrote_as (sym (ap (λ (k : ℕ). quad_lines i (quads_of (drop k links))) e ∙ ap (λ (l : List ℕ). quad_lines i (quads_of l)) (drop-length links))) (wrote_none next now))

-- ---- the head, then the quads
module _ (quads moved : ℕ) (links : List ℕ) {xs : List ℕ} {at : ℕ} (r : Room (mesh_lines (answered quads moved) (quads_of links)) at xs) where
  abbrev head : List ℕ
  head = mesh_lines (answered quads moved) []

  abbrev rest : List ℕ
  rest = quad_lines 0 (quads_of links)

  both : Room (head ++ rest) at xs
  both = room_as (mesh_pieces (answered quads moved) (quads_of links)) r

  pub head_room : Room head at xs
  head_room = room_first head rest both

  pub quads_room : {ys : List ℕ} {next : ℕ} → Wrote head at xs ys next → Room rest next ys
  quads_room w = room_next head rest both w

  pub lines_written : {ys zs : List ℕ} {next last : ℕ} → Wrote head at xs ys next → Wrote rest next ys zs last
      → Wrote (mesh_lines (answered quads moved) (quads_of links)) at xs zs last
  lines_written w v = wrote_as (mesh_pieces (answered quads moved) (quads_of links)) (wrote_then head rest both w v)

-- ---- how long the lines are

-- three digits, and one for the face
line_short : (i cell face : ℕ) → i < 1000 → cell < 1000 → face < 10 → length (quad_line i cell face) ≤ 10
unfolding quad_line
line_short i cell face h l k =
    simp length-append (omega (arith, length_digits 20 2 i h, length_digits 20 2 cell l, length_digits 20 0 face k))

quads_short : (i : ℕ) (m : List Quad) → i + length m ≤ 1000 → All (λ q. q.key < 6000) m → length (quad_lines i m) ≤ 10 * length m
quads_short i [] h k = omega arith
quads_short i (q ∷ m) h k =
    let line = line_short i (q.key / 6) (q.key % 6) (omega arith) (omega (arith, k.0)) (omega arith) in
    rw (sym (quad_first i q m)) (simp length-append (omega (arith, line, quads_short (suc i) m (omega arith) k.1)))

-- 128 quads of at most 512 cells
pub lines_short : (a : Answer) (m : List Quad) → length m ≤ 128 → All (λ q. q.key < 6000) m → a.quads < 1000
    → length (mesh_lines a m) ≤ 1317
lines_short a m h k q =
    simp length-append (omega (arith, length_digits 20 2 a.quads q, length-decimal a.moved, quads_short 0 m (omega arith) k))

pub refused_short : (number place : ℕ) → length (refused_line (refused number place)) ≤ 53
refused_short number place = simp length-append (omega (arith, length-decimal number, length-decimal place))

pub lines_room : (a : Answer) (m : List Quad) {out : List ℕ} → length m ≤ 128 → All (λ q. q.key < 6000) m → a.quads < 1000
    → 1317 ≤ length out → Room (mesh_lines a m) 0 out
lines_room a m h k q l = record { fits = omega (arith, lines_short a m h k q) }

pub refused_room : (number place : ℕ) {out : List ℕ} → 53 ≤ length out → Room (refused_line (refused number place)) 0 out
refused_room number place k = record { fits = omega (arith, refused_short number place) }

-- ---- lines show the keys alone: those of the quads that four lists hold are those of the links
keys_shown : (tint : Bool) (B : Lists) (n k i : ℕ) → k + n ≤ length B.links
    → quad_lines i (each n k (λ q. decoded tint B q ∷ [])) ≡ quad_lines i (quads_of (take n (drop k B.links)))
unfolding each
keys_shown tint B zero k i h = refl
keys_shown tint B (suc n) k i h =
    rw (drop-cons B.links k 0 (omega arith))
    (ap (λ (r : List ℕ). decimal i ++ (32 ∷ decimal (key_in (get_or B.links k 0) / 6)) ++ (32 ∷ decimal (key_in (get_or B.links k 0) % 6)) ++ (10 ∷ r))
    (keys_shown tint B n (suc k) (suc i) (omega arith)))

pub lines_decoded : (a : Answer) (tint : Bool) (Q : ℕ) (B : Lists) → Q ≤ length B.links → mesh_lines a (decode tint Q B) ≡ mesh_lines a (quads_of (take Q B.links))
lines_decoded a tint Q B h = ap (λ (r : List ℕ). QUADS ++ decimal a.quads ++ MOVED ++ decimal a.moved ++ (10 ∷ r)) (keys_shown tint B Q 0 0 (omega arith))

-- ---- the faces of a set

abbrev pub faces_below : ℕ → ℕ → List ℕ
faces_below set n = each n 0 (λ f. only (has set f) f)

pub faces_more : (set n : ℕ) → faces_below set (n + 1) ≡ faces_below set n ++ only (has set n) n
faces_more set n = rw (add-one, each_more n 0 (λ f. only (has set f) f), zero-add n)

length-only : (b : Bool) (x : ℕ) → length (only b x) ≤ 1
length-only true x = omega arith
length-only false x = omega arith

pub faces_few : (set n : ℕ) → length (faces_below set n) ≤ n
unfolding each
faces_few set zero = omega arith
faces_few set (suc n) =
    rw (each_more n 0 (λ f. only (has set f) f), zero-add n)
    (simp length-append (omega (arith, faces_few set n, length-only (has set n) n)))

pub faces_none : (set : ℕ) (xs : List ℕ) → Wrote (faces_below set 0) 0 xs xs 0
unfolding each
faces_none set xs = wrote_none 0 xs

pub faces_room : (set n : ℕ) (xs : List ℕ) → n ≤ 6 → 6 ≤ length xs → Room (faces_below set n) 0 xs
faces_room set n xs h l = record { fits = omega (arith, faces_few set n) }

pub faces_next : (set n : ℕ) (xs : List ℕ) → n < 6 → 6 ≤ length xs → Room (faces_below set n ++ only (has set n) n) 0 xs
faces_next set n xs h l = room_as (sym (faces_more set n)) (faces_room set (n + 1) xs (omega arith) l)
