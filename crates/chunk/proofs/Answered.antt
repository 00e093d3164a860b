-- What the contract of `answer_file` comes to. Assumes nothing.
use mathlib.Core.Path.{◌≡◌, sym, ◌∙◌}
use mathlib.Core.List.{List}
use Prim.Native.Nat.{ℕ, ◌≤◌, ◌<◌}
use native.Mathlib.Omega.{arith}
use lib.ListN.{length, take}
use lib.Seq.{length-take-le}
use Rattle.rules.specs.Program.{printed}
use Rattle.lines.specs.Written.{Wrote}
use Rattle.workfile.proofs.Files.{too_long}
use Rattle.chunk.proofs.Rooms.{first_wrote, wrote_inside}
use Rattle.chunk.proofs.Printing.{bad_printed}

-- the bytes up to the number returned are those that are printed
pub answer_printed : (file : List ℕ) {before after : List ℕ} {end : ℕ} → Wrote (printed file) 0 before after end
    → (take end after ≡ printed file) × (end ≤ length after)
answer_printed file w = (first_wrote w, wrote_inside w)

-- one outcome is possible
pub one_answer : (file before : List ℕ) {a b : List ℕ} {m n : ℕ} → Wrote (printed file) 0 before a m → Wrote (printed file) 0 before b n
    → (a ≡ b) × (m ≡ n)
one_answer file before v w = (v.is ∙ sym w.is, v.end ∙ sym w.end)

-- a file that is too long is known by its first 8,193 bytes, which is all that the program reads of it
pub cut_printed : (file : List ℕ) → 8192 < length file → printed (take 8193 file) ≡ printed file
cut_printed file h =
    let e = length-take-le 8193 file h in
    sym (bad_printed (take 8193 file) (too_long (take 8193 file) (omega arith) (omega arith))) ∙ bad_printed file (too_long file (omega arith) h)
