-- The demands over lists of calls, with nothing left open: the laws of single calls put into the theorems that stand on them.
use mathlib.Core.Path.{◌≡◌}
use mathlib.Core.List.{List}
use Prim.Native.Nat.{ℕ}
use Rattle.std.specs.Prelude.{Ok}
use Rattle.digest.specs.Sha256.{sha256}
use Rattle.graph.specs.declared.Graph.{Graph}
use Rattle.graph.specs.Memory.{view_of}
use Rattle.graphfile.specs.Arrays.{reading_of}
use Rattle.graphfile.proofs.Accepted.{accepted_is_sound, undirected_symmetric}
use Rattle.graphfile.proofs.Peopled.{accepted_peopled}
use Rattle.protocol.specs.Theorems.{SoundGraph}
use Rattle.round.specs.Neighbours.{SameCaughtOverLists, OneCaughtList}
use Rattle.round.specs.Votes.{FewReplies}
use Rattle.round.specs.Demands.{AgreementOverLists, ChainOfReplies, DemandThree, ReachedFits, KnownBeneath, ValidityOverLists}
use Rattle.round.proofs.CallLaws.{OpeningLaw, CallLaws}
use Rattle.round.proofs.JustOpened.{opened_round}
use Rattle.round.proofs.OneDelivery.{step}
use Rattle.round.proofs.Sha256.{sha256_is_id_rule}
use Rattle.round.proofs.OneCall.{refused_leaves_all_lem}
use Rattle.round.proofs.Agreement as agreement
use Rattle.round.proofs.Chain as chain
use Rattle.round.proofs.Known as known
use Rattle.round.proofs.Validity as validity
use Rattle.round.proofs.November as november
use Rattle.round.proofs.Votes as votes

-- the graph of an accepted file
sound_file : (file : List ℕ) (g : Graph) → reading_of file ≡ Ok g → SoundGraph (view_of g)
sound_file file g e =
    let S = accepted_is_sound file g e in
    record { is_valid = S.is_valid; is_condensed = S.is_condensed; undirected = undirected_symmetric (view_of g) S.undirected }

opening : OpeningLaw
opening file house bay own r starts =
    let O = opened_round file house bay own r starts in
    record {
      typed = O.typed;
      fitting = O.fitting;
      graph = O.accepted;
      sound = sound_file file r.graph O.accepted;
      peopled = λ a l q m. accepted_peopled file r.graph O.accepted a q l m;
      empty = O.held;
      unsent = O.last;
    }

pub call_laws : CallLaws
call_laws = record { opening = opening; step = step; refusal = refused_leaves_all_lem }

-- DEMAND 3, AGREEMENT
pub agreement_over_lists : AgreementOverLists
agreement_over_lists = agreement.agreement_over_lists call_laws

-- DEMAND 3, THE CHAIN
pub chain_of_replies : ChainOfReplies
chain_of_replies = chain.chain_of_replies call_laws

-- DEMAND 3, of the calls as they run
pub demand_three : DemandThree
demand_three = (agreement_over_lists sha256 sha256_is_id_rule, chain_of_replies sha256 sha256_is_id_rule)

pub reached_fits : ReachedFits
reached_fits = known.reached_fits call_laws

pub known_beneath : KnownBeneath
known_beneath = known.known_beneath call_laws

pub validity_over_lists : ValidityOverLists
validity_over_lists = validity.validity_over_lists call_laws

pub same_caught_over_lists : SameCaughtOverLists
same_caught_over_lists = november.same_caught_over_lists call_laws

pub one_caught_list : OneCaughtList
one_caught_list = november.one_caught_list call_laws

pub few_replies : FewReplies
few_replies = votes.few_replies call_laws
