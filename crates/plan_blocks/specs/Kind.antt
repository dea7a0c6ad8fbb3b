-- The kinds of blocks and their numbers (document 01, "Plan blocks": "Blocks stand by kind, 1, 2, 3").
use Rattle.std.specs.Prelude.{ℕ}
use Rattle.plan_blocks.specs.declared.layout.BlockKind.{BlockKind}
use Rattle.plan_blocks.specs.declared.layout.BlockKind.TheVariants.{Header, Vertices, Arcs}

-- what the first byte of a block of this kind holds
abbrev pub kind_number : BlockKind → ℕ
kind_number Header = 1
kind_number Vertices = 2
kind_number Arcs = 3
