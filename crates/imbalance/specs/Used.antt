-- What of a ceiling's settings is used (document 01, "Ceiling"; document 02, A4).
use Rattle.std.specs.Prelude.{◌≡◌, ℕ, ◌<◌, slice_index}
use Rattle.imbalance.specs.declared.Ceiling.{Ceiling}

-- "What the choice does not use is not looked at": two callers ask by the same choice, with the same whole number where that is used, with the same e where that is, and with the same number for each part where those are
pub record SameUsed (a b : Ceiling) : Type 0 where
  pub choices : a.choice ≡ b.choice
  pub wholes : a.choice ≡ 1 → a.whole ≡ b.whole
  pub imbalances : a.choice ≡ 2 → a.imbalance ≡ b.imbalance
  pub numbers : a.choice ≡ 3 → (t : ℕ) → t < 16 → slice_index a.each t ≡ slice_index b.each t

-- one caller asks for sixteen numbers, which are all the whole number that the other asks for
pub record SameNumber (a b : Ceiling) : Type 0 where
  pub by_part : a.choice ≡ 3
  pub by_whole : b.choice ≡ 1
  pub numbers : (t : ℕ) → t < 16 → slice_index a.each t ≡ b.whole
