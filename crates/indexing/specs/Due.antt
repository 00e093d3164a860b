-- What of a work changes something, by the slots. Definitions only.
use Rattle.std.specs.Prelude.{ℕ, zero, suc, ◌+◌, ◌*◌, ◌≤◌, ◌<◌, ◌≡◌, Bool, not, ◌&&◌, ◌||◌, List, length, get_or, eqb, leb}
use Rattle.rules.specs.Cells.{UNIT, has, set_of, key_of, quads_of}
use Rattle.rules.specs.Mesh.{NONE}
use Rattle.works.specs.declared.Work.{Work}
use Rattle.works.specs.Sets.{sets, key_met}

-- a face that has no quad, as one that the grid does not have
abbrev pub is_bare : List ℕ → ℕ → Bool
is_bare slots k = eqb (get_or slots k NONE) NONE

-- a facing side that the grid has
abbrev pub is_met : List ℕ → ℕ → Bool
is_met keys f = not (eqb (key_met keys 1 f) NONE)

-- of a work w at cell c: an own quad that is there goes
abbrev pub goes : List ℕ → ℕ → Work → ℕ → Bool
goes slots c w f = has w.own f && not (is_bare slots (key_of c f))

-- a facing side that is not there comes
abbrev pub comes : List ℕ → List ℕ → Work → ℕ → Bool
comes slots keys w f = has w.shown f && (is_bare slots (key_met keys 1 f) && is_met keys f)

-- an own side is drawn that has gone, or is not there; a facing one goes that is there, or has come
abbrev pub due_at : List ℕ → List ℕ → ℕ → Work → ℕ → ℕ → Bool
due_at slots keys c w zero f = goes slots c w f
due_at slots keys c w (suc zero) f = comes slots keys w f
due_at slots keys c w (suc (suc zero)) f = has w.drawn f && (goes slots c w f || is_bare slots (key_of c f))
due_at slots keys c w (suc (suc (suc j))) f = has w.hidden f && (not (is_bare slots (key_met keys 1 f)) || comes slots keys w f)

abbrev pub due_of : List ℕ → List ℕ → ℕ → Work → Work
due_of slots keys c w = let at = due_at slots keys c w in sets (set_of (at 0)) (set_of (at 1)) (set_of (at 2)) (set_of (at 3))

-- Q, less the own quads that go, plus those that come, is within the room
abbrev pub fits_in : Work → ℕ → ℕ → Bool
fits_in d Q room = leb (Q + quads_of d.shown + quads_of d.drawn) (room + quads_of d.own)

-- the facing sides that the grid has, have slots
pub record Gridded (keys slots : List ℕ) : Type 0 where
  pub small : length slots ≤ 6 * UNIT
  pub near : (f : ℕ) → f < 6 → (key_met keys 1 f ≡ NONE → ⊥) → key_met keys 1 f < length slots
