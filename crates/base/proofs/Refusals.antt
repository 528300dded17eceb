-- No row has the number of the one that was struck.
use native.Mathlib.Omega.{arith}
use Rattle.base.specs.Refusals.{NumberUnused}
use Rattle.base.specs.declared.refusal.Refusal.TheVariants.{Length, Version, Range, Order, Mask, NotValid, NotCondensed, OtherRound, Signer, Known, Reference, Previous, Malformed1b, Malformed2a, Full, Argument}

pub number_unused : NumberUnused
number_unused Length e = absurd (omega arith)
number_unused Version e = absurd (omega arith)
number_unused Range e = absurd (omega arith)
number_unused Order e = absurd (omega arith)
number_unused Mask e = absurd (omega arith)
number_unused NotValid e = absurd (omega arith)
number_unused NotCondensed e = absurd (omega arith)
number_unused OtherRound e = absurd (omega arith)
number_unused Signer e = absurd (omega arith)
number_unused Known e = absurd (omega arith)
number_unused Reference e = absurd (omega arith)
number_unused Previous e = absurd (omega arith)
number_unused Malformed1b e = absurd (omega arith)
number_unused Malformed2a e = absurd (omega arith)
number_unused Full e = absurd (omega arith)
number_unused Argument e = absurd (omega arith)
