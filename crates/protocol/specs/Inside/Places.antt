-- The definitions at a place of a table: what is worked out for each held message.
use Rattle.std.specs.Prelude.{Bool, List, ℕ}
use Rattle.graph.specs.LearnerGraph.{LearnerGraph}
use Rattle.protocol.specs.Message.{is1b, is2a, ballot, value, caught}
use Rattle.protocol.specs.Learners.{con, buried, fresh, lrns}
use Rattle.protocol.specs.WellFormed.{formed1b, repeats, formed2a}
use Rattle.protocol.specs.Report.{decides, Verdict, report}
use Rattle.protocol.specs.Table.{Table, tree, messages}

module _ (t : Table) where
  abbrev pub is1b_at : ℕ → Bool
  is1b_at i = is1b (tree t i)

  abbrev pub is2a_at : ℕ → Bool
  is2a_at i = is2a (tree t i)

  abbrev pub ballot_at : ℕ → ℕ
  ballot_at i = ballot (tree t i)

  abbrev pub value_at : ℕ → ℕ
  value_at i = value (tree t i)

  -- Caught is read from Tran of the place, not from all that is held.
  abbrev pub caught_at : ℕ → ℕ → Bool
  caught_at i p = caught (tree t i) p

  abbrev pub formed1b_at : ℕ → Bool
  formed1b_at i = formed1b (tree t i)

  module _ (G : LearnerGraph) where
    abbrev pub con_at : ℕ → ℕ → ℕ → Bool
    con_at a i b = con G a (tree t i) b

    abbrev pub buried_at : ℕ → ℕ → ℕ → Bool
    buried_at b j i = buried G b (tree t j) (tree t i)

    abbrev pub fresh_at : ℕ → ℕ → Bool
    fresh_at a i = fresh G a (tree t i)

    abbrev pub lrns_at : ℕ → ℕ → Bool
    lrns_at i a = lrns G (tree t i) a

    abbrev pub repeats_at : ℕ → Bool
    repeats_at i = repeats G (tree t i)

    abbrev pub formed2a_at : ℕ → Bool
    formed2a_at i = formed2a G (tree t i)

    -- ks are the known places
    abbrev pub decides_at : List ℕ → ℕ → ℕ → Bool
    decides_at ks a x = decides G (messages t ks) a x

    abbrev pub report_at : List ℕ → ℕ → Verdict
    report_at ks a = report G (messages t ks) a
