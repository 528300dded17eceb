-- The laws of single calls that the laws of lists of calls stand on: what an opening gives, what a delivery does that is not refused, and
-- that a refused one leaves the round.
use mathlib.Core.Path.{◌≡◌}
use mathlib.Core.Option.{none}
use mathlib.Core.List.{List}
use Prim.Native.Nat.{ℕ, ◌<◌}
use lib.Dec.{T}
use Rattle.std.specs.Prelude.{Ok, Err}
use Rattle.graphfile.specs.Arrays.{reading_of}
use Rattle.base.specs.declared.refusal.Refusal.{Refusal}
use Rattle.protocol.specs.Ids.{Id}
use Rattle.protocol.specs.Equations.{Peopled}
use Rattle.protocol.specs.Theorems.{SoundGraph}
use Rattle.round.specs.Round.{Round}
use Rattle.round.specs.Holdings.{graph_of, named}
use Rattle.round.specs.Handed.{fits}
use Rattle.round.specs.Delivery.{delivered, replied}
use Rattle.round.specs.Premises.{Starts, Typed}
use Rattle.round.proofs.Step.{StepLaw}

-- a freshly opened round: the graph of the file, sound and with an acceptor in every listed quorum; nothing held and nothing sent
pub record Fresh (file : List ℕ) (r : Round) : Type 0 where
  pub typed : Typed r
  pub fitting : T (fits r)
  pub graph : reading_of file ≡ Ok r.graph
  pub sound : SoundGraph (graph_of r)
  pub peopled : (a : ℕ) → a < r.graph.learners → Peopled (graph_of r) a
  pub empty : r.held ≡ 0
  pub unsent : named r r.last ≡ none

abbrev pub OpeningLaw : Type 0
OpeningLaw = (file : List ℕ) (house bay own : ℕ) (r : Round) → Starts file house bay own r → Fresh file r

pub record CallLaws : Type 0 where
  pub opening : OpeningLaw
  pub step : StepLaw
  pub refusal : (H : List ℕ → Id) (r : Round) (b buffer : List ℕ) (e : Refusal) → (delivered H r b buffer).outcome ≡ Err e
      → ((delivered H r b buffer).round ≡ r) × (replied H r b buffer ≡ buffer)
