-- Which entries of a log find room, and how many an answer tells were done. Definitions only.
use Rattle.std.specs.Prelude.{ℕ, ◌+◌, ◌-◌, ◌/◌, ◌≤◌, ◌<◌, max, List, length, Ok, Err}
use Rattle.rules.specs.Mesh.{Quad, Lists, decode}
use Rattle.rules.specs.Update.{ENTRY_BYTES, Tested, first_half, second_half, work, entry_at, run, ops, needed, hidden_there, drawn_missing, mesh_after}
use Rattle.rules.specs.Calls.{Scene, world, room}
use Rattle.answers.specs.declared.Refusal.TheVariants.{NoRoom}
use Rattle.terms.specs.declared.Count.{Count}
use Rattle.demands.specs.Promised.{Updated, stopped_for}

-- the mesh that the entries before entry k left
abbrev pub mesh_before : Tested → Scene → List ℕ → Lists → ℕ → ℕ → List Quad
mesh_before tested S log B Q k = mesh_after (λ j. work tested (world S) (entry_at log j)) 0 k (decode S.types.coloured Q B)

-- what entry k needs: Q, less its own removed quads, plus the new ones it draws, on that mesh
abbrev pub needed_at : Tested → Scene → List ℕ → Lists → ℕ → ℕ → ℕ
needed_at tested S log B Q k = needed (work tested (world S) (entry_at log k)) (mesh_before tested S log B Q k)

-- what Sides needs: Q, less the hidden sides that have a quad, plus the drawn ones that have none (02, Q-6)
abbrev pub sides_need : Tested → Scene → List ℕ → Lists → ℕ → ℕ → ℕ
sides_need tested S log B Q k =
    let m = mesh_before tested S log B Q k in
    length m - hidden_there (entry_at log k) m + drawn_missing (world S) (entry_at log k) m

-- what Replaced needs: the larger of the needs of its halves, Broken with the former type and then Added with the new one (02, Q-7)
abbrev pub replaced_need : Tested → Scene → List ℕ → Lists → ℕ → ℕ → ℕ
replaced_need tested S log B Q k =
    let m = mesh_before tested S log B Q k in
    let first = work tested (world S) (first_half (entry_at log k)) in
    let second = work tested (world S) (second_half (entry_at log k)) in
    max (needed first m) (needed second (run (ops first) m))

abbrev pub FindsRoom : Tested → Scene → List ℕ → Lists → ℕ → ℕ → Type 0
FindsRoom tested S log B Q k = needed_at tested S log B Q k ≤ room S B

-- entry k, which needs this many, is the first that does not
pub record FirstWithout (tested : Tested) (S : Scene) (log : List ℕ) (B : Lists) (Q k need : ℕ) : Type 0 where
  pub in_log : k < length log / ENTRY_BYTES
  pub before : (j : ℕ) → j < k → FindsRoom tested S log B Q j
  pub without : room S B < need

-- an answer tells that the first k entries of a log were done, all or those before one out of room, with this count
pub data Did (log : List ℕ) : Updated → ℕ → Count → Type 0 where
  all_done : (count : Count) → Did log (Ok count) (length log / ENTRY_BYTES) count
  stopped_at : (k : ℕ) (count : Count) → Did log (Err (stopped_for NoRoom k count)) k count
