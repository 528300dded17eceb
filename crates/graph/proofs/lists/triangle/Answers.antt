use Rattle.graph.proofs.Memory.{triangle_half, half_small}
use native.Mathlib.Omega.{arith}
use Rattle.graph.proofs.lists.triangle.Goals as goal

pub returns : goal.returns
returns c = let e = half_small c.args.b c.requires in let f = triangle_half c.args.b in (f, omega arith)
