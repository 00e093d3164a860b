-- Culling by rows: the side set of a cell by bytes alone. Definitions only.
use Rattle.std.specs.Prelude.{ℕ, zero, suc, ◌+◌, ◌-◌, ◌<◌, ◌≡◌, Bool, cond, not, List, ltb, leb, get_or}
use Rattle.std.proofs.Math.Option.{Option, none, some}
use Rattle.rules.specs.Cells.{Size, cells, neighbour, has, set_of}
use Rattle.util.specs.Grid.{size_of}
use Rattle.row_sets.specs.declared.look.Look.{Look}
use Rattle.row_sets.specs.declared.Codes.{Codes}
use Rattle.row_sets.specs.declared.around.Around.{Around}
use Rattle.row_sets.specs.Plainly.{Plain}

-- ---- the side set by bytes

abbrev pub code_of : Codes → ℕ → ℕ
code_of codes zero = codes.up
code_of codes (suc zero) = codes.down
code_of codes (suc (suc zero)) = codes.right
code_of codes (suc (suc (suc zero))) = codes.left
code_of codes (suc (suc (suc (suc zero)))) = codes.back
code_of codes (suc (suc (suc (suc (suc f))))) = codes.forward

-- of a full type, the kept sides that are beside no full type, and the others that are not in the outer set
unfoldable pub plain_set : ℕ → ℕ → ℕ → ℕ → (ℕ → ℕ) → ℕ
plain_set full keep outer own beside = cond (leb full own) (set_of (λ f. cond (has keep f) (ltb (beside f) full) (not (has outer f)))) 0

abbrev pub plain_shown : ℕ → ℕ → List ℕ → ℕ → Option ℕ → Bool
plain_shown full outer g f none = not (has outer f)
plain_shown full outer g f (some n) = ltb (get_or g n 0) full

-- the rule of culling where every code is plain
unfoldable pub plain_at : Size → ℕ → ℕ → List ℕ → ℕ → ℕ
plain_at size full outer g c = cond (leb full (get_or g c 0)) (set_of (λ f. plain_shown full outer g f (neighbour size c f))) 0

-- where the neighbours in the row of its cell at x are; some cell where there is none
pub record Beside (s : Size) (rows : Around) (x right left : ℕ) : Type 0 where
  pub wide : x < s.w
  pub on : x + 1 < s.w → right ≡ rows.at + x + 1
  pub off : 0 < x → left ≡ rows.at + x - 1
  pub right_in : right < cells s
  pub left_in : left < cells s

-- the codes of a row and of their neighbours are plain
abbrev pub PlainAround : Look → Around → Type 0
PlainAround look rows =
    let s = size_of look.ground.dims in
    let g = look.ground.grid.now in
    (x : ℕ) → x < s.w → Plain look.clear look.full (get_or g (rows.at + x) 0)
    × ((f n : ℕ) → f < 6 → neighbour s (rows.at + x) f ≡ some n → Plain look.clear look.full (get_or g n 0))

-- the rule of culling for the row's cell at x, and for each of them
abbrev pub plain_in : Look → Around → ℕ → ℕ
plain_in look rows x = plain_at (size_of look.ground.dims) look.full look.outer look.ground.grid.now (rows.at + x)

abbrev pub PlainRow : Look → Around → List ℕ → Type 0
PlainRow look rows sets = (x : ℕ) → x < look.ground.dims.width → get_or sets x 0 ≡ plain_in look rows x
