-- What row 17 leaves of a round is what the pass asks of it.
use mathlib.Core.Path.{◌≡◌, sym, subst}
use mathlib.Core.Logic.{◌⊎◌, inl, inr}
use mathlib.Core.Bool.{false, ◌&&◌}
use mathlib.Core.List.{List}
use Prim.Native.Nat.{ℕ, ◌≤◌, ◌<◌}
use native.Mathlib.Omega.{arith}
use lib.Dec.{T, ltb, leb, ltb→lt}
use lib.ListN.{length, get_or}
use Rattle.base.specs.Tests.{◌∈◌, all}
use Rattle.base.proofs.Tests.{and_r, or_out, all_out}
use Rattle.graph.specs.declared.Graph.{Graph}
use Rattle.graph.specs.Limits.{mask_bits}
use Rattle.round.specs.Round.{Round}
use Rattle.round.specs.Holdings.{is_proposal_at, references_at}
use Rattle.round.specs.Handed.{refers_back, fits}
use Rattle.round.proofs.Fitting.{Fitting, fits_out, place_cases}
use Rattle.round.proofs.GraphFits.{acceptors_fit, learners_fit}
use Rattle.roundbytes.specs.Layout.{round_len, round_in}
use Rattle.meaning.specs.Inside.Records.{Fit}
use Rattle.meaning.specs.Inside.Lent.{Given}

module _ (r : Round) where
  -- an acceptor message refers to earlier places
  back_in : (p : ℕ) → T (refers_back r p) → is_proposal_at r p ≡ false → (j : ℕ) → j ∈ references_at r p → j < p
  unfolding refers_back
  back_in p h e j m =
      step (or_out (is_proposal_at r p) (leb 1 (get_or r.counts p 0) && all (λ j. ltb j p) (references_at r p)) h)
    where
      step : T (is_proposal_at r p) ⊎ T (leb 1 (get_or r.counts p 0) && all (λ j. ltb j p) (references_at r p)) → j < p
      step (inl t) = absurd (subst T e t)
      step (inr t) = ltb→lt j p (all_out (λ (i : ℕ). ltb i p) m (and_r (leb 1 (get_or r.counts p 0)) (all (λ i. ltb i p) (references_at r p)) t))

  pub fit_of : Fitting r → Fit r.held r
  fit_of f =
      record {
        held = f.most;
        count = f.counts;
        named = λ p l. place_cases r (get_or r.previous p 0) (f.previous p l);
        back = λ p l e j m. back_in p (f.back p l) e j m;
      }

pub given_of : (s : List ℕ) (graph : Graph) → round_len ≤ length s → graph ≡ (round_in s).graph → T (fits (round_in s)) → Given s graph
given_of s graph long same passed =
    let f = fits_out (round_in s) passed in
    record {
      graphed =
          record {
            long = long;
            same = same;
            acceptors = subst (λ (g : Graph). g.acceptors ≤ mask_bits) (sym same) (let a = acceptors_fit (round_in s).graph f.graph in omega arith);
          };
      learners = learners_fit (round_in s).graph f.graph;
      fit = fit_of (round_in s) f;
    }
