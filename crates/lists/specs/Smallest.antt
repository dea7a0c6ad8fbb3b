-- "The smallest number that applies is given; 0 only if none does" (document 01, "Numbers a call gives back").
use Rattle.std.specs.Prelude.{◌≡◌, List, ℕ, ◌<◌, get_or}

-- what is always kept: a number that stands for no rule of a call asks nothing
abbrev pub NoRule : Type 0
NoRule = Unit {0}

-- the rule behind number k: a call's rules are a list with one place for each number from 0 on, and past its end there are none
abbrev pub RuleOf : List (Type 0) → ℕ → Type 0
RuleOf rules k = get_or rules k NoRule

-- k is the number of a call with these rules
pub record Smallest (rules : List (Type 0)) (k : ℕ) : Type 0 where
  -- "0 only if none does": 0 says that every rule is kept
  pub kept : k ≡ 0 → (i : ℕ) → RuleOf rules i
  -- and a call that keeps every rule gets 0
  pub done : ((i : ℕ) → RuleOf rules i) → k ≡ 0
  -- any other number is that of a rule that is broken
  pub broken : (k ≡ 0 → ⊥) → RuleOf rules k → ⊥
  -- "the smallest": every rule with a smaller number is kept
  pub smallest : (i : ℕ) → i < k → RuleOf rules i
