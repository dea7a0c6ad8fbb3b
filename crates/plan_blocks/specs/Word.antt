-- Bytes and words (document 01, "Plan blocks": "512 bytes, little-endian").
use Rattle.std.specs.Prelude.{ℕ, ◌+◌, ◌*◌, ◌/◌, ◌%◌, ◌^◌, List, slice_index, slice_set}
use Rattle.lists.specs.Fill.{table}

-- how many words there are: sums of words wrap here
abbrev pub wrap : ℕ
wrap = 2 ^ 32

-- word w of a file: four bytes, the lowest first
unfoldable pub word : List ℕ → ℕ → ℕ
word s w =
    slice_index s (4 * w) + 256 * slice_index s (4 * w + 1) + 65536 * slice_index s (4 * w + 2) + 16777216 * slice_index s (4 * w + 3)

-- byte i of a word, the lowest first
unfoldable pub byte_of : ℕ → ℕ → ℕ
byte_of x i = x / 256 ^ i % 256

-- a file with x as its word w
unfoldable pub put_word : List ℕ → ℕ → ℕ → List ℕ
put_word s w x =
    slice_set (slice_set (slice_set (slice_set s (4 * w) (byte_of x 0)) (4 * w + 1) (byte_of x 1)) (4 * w + 2) (byte_of x 2)) (4 * w + 3) (byte_of x 3)

-- the file whose words are f 0, f 1, .. f (m - 1)
unfoldable pub bytes : ℕ → (ℕ → ℕ) → List ℕ
bytes m f = table (4 * m) (λ i. byte_of (f (i / 4)) (i % 4))
