-- Two blocks of a file that changed places (document 02, A2): "put two neighbour blocks in the wrong order".
use Rattle.std.specs.Prelude.{◌≡◌, ℕ, ◌+◌, ◌*◌, ◌/◌, ◌<◌, List, length, ◌≢◌, slice_index}

-- t is s with its blocks b and c exchanged
pub record Exchanged (s t : List ℕ) (b c : ℕ) : Type 0 where
  pub long : length t ≡ length s
  pub first : (i : ℕ) → i < 512 → slice_index t (512 * b + i) ≡ slice_index s (512 * c + i)
  pub second : (i : ℕ) → i < 512 → slice_index t (512 * c + i) ≡ slice_index s (512 * b + i)
  pub rest : (i : ℕ) → (i / 512 ≢ b) → (i / 512 ≢ c) → slice_index t i ≡ slice_index s i
