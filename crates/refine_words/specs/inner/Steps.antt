-- What the functions promise each other that put a text together, byte after byte, in a lent list.
use Rattle.std.specs.Prelude.{◌≡◌, List, ◌++◌, ℕ, ◌+◌, ◌≤◌, length, take, drop}

-- xs with the text in its places from `at` on
unfoldable pub pasted : ℕ → List ℕ → List ℕ → List ℕ
pasted at text xs = take at xs ++ text ++ drop (at + length text) xs

-- What a function promises that adds a text of at most so many bytes at place `at` of the bytes before it: the bytes after it, and the place past the text.
pub record Put (text : List ℕ) (most at : ℕ) (before after : List ℕ) (end : ℕ) : Type 0 where
  pub bytes : after ≡ pasted at text before
  pub ends : end ≡ at + length text
  pub few : length text ≤ most
