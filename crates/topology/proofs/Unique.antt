-- Any two results that meet the promise of a stand-alone cut at the same inputs are equal. Assumes nothing.
use mathlib.Core.Path.{◌≡◌, sym, ◌∙◌}
use mathlib.Core.List.{List}
use Prim.Native.Nat.{ℕ}
use Rattle.topology.specs.Graph.{Graph}
use Rattle.topology.specs.Number.{edge_cut_answer, lambda_cut_answer}
use Rattle.topology.specs.declared.CutAnswer.{CutAnswer}

pub edge-cut-unique : (g : Graph) (labels : List ℕ) (r r' : CutAnswer) → r ≡ edge_cut_answer g labels → r' ≡ edge_cut_answer g labels → r ≡ r'
edge-cut-unique g labels r r' a b = a ∙ sym b

pub lambda-cut-unique : (g : Graph) (weights labels : List ℕ) (r r' : CutAnswer) → r ≡ lambda_cut_answer g weights labels → r' ≡ lambda_cut_answer g weights labels → r ≡ r'
lambda-cut-unique g weights labels r r' a b = a ∙ sym b
