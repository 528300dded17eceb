-- A round that was just opened: it holds nothing, passes row 17, and has the graph as it was read.
use mathlib.Core.Path.{◌≡◌, refl, sym, subst, ◌∙◌}
use mathlib.Core.Bool.{Bool, true, false}
use mathlib.Core.Option.{none}
use mathlib.Core.List.{List, []}
use Prim.Native.Nat.{ℕ, ◌*◌, ◌≤◌, ◌<◌}
use native.Mathlib.Omega.{arith}
use lib.Dec.{T}
use lib.ListN.{length-replicate}
use Rattle.std.specs.Prelude.{Result, Ok, Err}
use Rattle.base.specs.Tests.{pick, filter, below}
use Rattle.base.specs.declared.refusal.Refusal.{Refusal}
use Rattle.base.specs.declared.refusal.Refusal.TheVariants.{Argument}
use Rattle.message.specs.Layout.{id_len}
use Rattle.graph.specs.declared.Graph.{Graph}
use Rattle.graphfile.specs.Arrays.{reading_of}
use Rattle.protocol.specs.Table.{tabulate}
use Rattle.round.specs.Round.{Round}
use Rattle.round.specs.Limits.{max_held, no_place, listening, own_allowed}
use Rattle.round.specs.Holdings.{named, table_of, known_places}
use Rattle.round.specs.Handed.{graph_fits, own_fits, fits}
use Rattle.round.specs.Opening.{empty_round, refused_opening, opened_with, opened}
use Rattle.round.specs.Premises.{Starts, Typed}
use Rattle.round.proofs.Fitting.{Fitting, fits_in, place_none}
use Rattle.round.proofs.Answers.{opened_number}
use Rattle.round.proofs.GraphFits.{zeros_at, accepted_fits, own_fits_lem}

-- what an opening that is not refused gives
pub record Opens (file : List ℕ) (house bay own : ℕ) (r : Round) : Type 0 where
  pub graph : Graph
  pub accepted : reading_of file ≡ Ok graph
  pub round : r ≡ empty_round graph house bay own no_place
  pub own_fits' : T (own_allowed own graph.acceptors)

opens_pick : (g : Graph) (house bay own : ℕ) (b : Bool) → (pick b (record { answer = Ok tt; round = empty_round g house bay own no_place }) (refused_opening Argument)).answer ≡ Ok tt
    → T b × ((pick b (record { answer = Ok tt; round = empty_round g house bay own no_place }) (refused_opening Argument)).round ≡ empty_round g house bay own no_place)
opens_pick g house bay own true e = (tt, refl)
opens_pick g house bay own false e = let z : ◌≡◌ {A = ℕ} 0 1 = cc in absurd (omega arith)

opens_with : (x : Result Graph Refusal) (house bay own : ℕ) → (opened_with x house bay own).answer ≡ Ok tt
    → (g : Graph) × (x ≡ Ok g) × T (own_allowed own g.acceptors) × ((opened_with x house bay own).round ≡ empty_round g house bay own no_place)
opens_with (Ok g) house bay own e = let (t, q) = opens_pick g house bay own (own_allowed own g.acceptors) e in (g, refl, t, q)
opens_with (Err x) house bay own e = let z : ◌≡◌ {A = ℕ} 0 1 = cc in absurd (omega arith)

pub opens : (file : List ℕ) (house bay own : ℕ) (r : Round) → Starts file house bay own r → Opens file house bay own r
unfolding opened
opens file house bay own r s =
    let (g, a, t, e) = opens_with (reading_of file) house bay own (opened_number (opened file house bay own).answer s.opens) in
    record { graph = g; accepted = a; round = s.gives ∙ e; own_fits' = t }

-- its own number is none or an acceptor's, so it is no larger than what stands for none
pub opened_own : (file : List ℕ) (house bay own : ℕ) (r : Round) → Starts file house bay own r → own ≤ listening
opened_own file house bay own r s = let o = opens file house bay own r s in own_fits_lem o.graph (accepted_fits file o.graph o.accepted) own o.own_fits'

-- ---- a round that holds nothing
module _ (g : Graph) (house bay own : ℕ) where
  abbrev r : Round
  r = empty_round g house bay own no_place

  empty_typed : house < 65536 → bay < 65536 → Typed r
  empty_typed h b =
      record {
        house_fits = h;
        bay_fits = b;
        ids_size = length-replicate {A = ℕ} (id_len * max_held) 0;
        kinds_size = length-replicate {A = ℕ} max_held 0;
        signers_size = length-replicate {A = ℕ} max_held 0;
        ballots_size = length-replicate {A = ℕ} max_held 0;
        previous_size = length-replicate {A = ℕ} max_held 0;
        counts_size = length-replicate {A = ℕ} max_held 0;
        references_size = length-replicate {A = ℕ} (max_held * max_held) 0;
        known_size = length-replicate {A = ℕ} max_held 0;
        recent_size = length-replicate {A = ℕ} max_held 0;
        id_bytes = λ i. omega (arith, zeros_at (id_len * max_held) i);
      }

  empty_own : T (own_allowed own g.acceptors) → T (own_fits r)
  unfolding own_fits
  empty_own h = h

  empty_fitting : T (graph_fits g) → T (own_allowed own g.acceptors) → Fitting r
  empty_fitting w h =
      record {
        graph = w;
        own = empty_own h;
        most = omega arith;
        last = place_none r no_place refl;
        counts = λ p l. absurd (omega arith);
        previous = λ p l. absurd (omega arith);
        back = λ p l. absurd (omega arith);
      }

  empty_table : table_of r ≡ []
  unfolding tabulate
  empty_table = refl

  empty_known : known_places r ≡ []
  unfolding filter below
  empty_known = refl

-- ---- THE LAW OF AN OPENING
pub record OpenedRound (file : List ℕ) (house bay own : ℕ) (r : Round) : Type 0 where
  pub typed : Typed r
  pub fitting : T (fits r)
  pub held : r.held ≡ 0
  pub table : table_of r ≡ []
  pub known : known_places r ≡ []
  pub last : named r r.last ≡ none
  pub accepted : reading_of file ≡ Ok r.graph
  pub own' : r.own ≡ own

pub opened_round : (file : List ℕ) (house bay own : ℕ) (r : Round) → Starts file house bay own r → OpenedRound file house bay own r
opened_round file house bay own r s =
    let o = opens file house bay own r s in
    let g = o.graph in
    subst (OpenedRound file house bay own) (sym o.round)
    (record {
      typed = empty_typed g house bay own s.house_fits s.bay_fits;
      fitting = fits_in (empty_round g house bay own no_place) (empty_fitting g house bay own (accepted_fits file g o.accepted) o.own_fits');
      held = refl;
      table = empty_table g house bay own;
      known = empty_known g house bay own;
      last = refl;
      accepted = o.accepted;
      own' = refl;
    })
