-- Demand 3, agreement over two lists of calls: the known messages of both last rounds are one lawful set of messages, and every report of
-- the lists is a report over some of them.
use mathlib.Core.Path.{◌≡◌, refl, sym, ap, ◌∙◌}
use mathlib.Core.Logic.{◌⊎◌, inl, inr}
use mathlib.Core.List.Memᴰ
use mathlib.Core.List.{List, ◌++◌}
use Prim.Native.Nat.{ℕ, ◌<◌}
use lib.Dec.{not_T}
use Rattle.std.specs.Prelude.{Result, Ok}
use Rattle.base.specs.declared.refusal.Refusal.{Refusal}
use Rattle.graph.specs.declared.Graph.{Graph}
use Rattle.base.specs.Tests.{◌∈◌}
use Rattle.base.specs.Ballots.{value_of}
use Rattle.graph.specs.LearnerGraph.{LearnerGraph}
use Rattle.graph.specs.Memory.{view_of}
use Rattle.protocol.specs.Ids.{Id}
use Rattle.protocol.specs.Message.{Message, caught_in}
use Rattle.protocol.specs.Report.{Verdict, decided, split}
use Rattle.protocol.specs.Table.{messages}
use Rattle.protocol.specs.Theorems.{SoundGraph, Lawful, Entangled, Within}
use Rattle.protocol.proofs.Agreement.{entangled_turned, entangled_self}
use Rattle.protocol.proofs.Tables.{messages_out, lawful}
use Rattle.round.specs.Round.{Round}
use Rattle.round.specs.Holdings.{graph_of, table_of, known_places}
use Rattle.round.specs.Answers.{decided_state, split_state, Page}
use Rattle.round.specs.Lists.{Call, run, last_round, accepted, written, pages}
use Rattle.round.specs.Premises.{IdRule, Starts}
use Rattle.round.specs.Demands.{SafeEdge, NoCollision, OneValue, AgreementOverLists}
use Rattle.round.proofs.CallLaws.{CallLaws}
use Rattle.round.proofs.TwoLists.{Both, first_list, second_list, first_free, second_free}
use Rattle.round.proofs.Reached.{Reached}
use Rattle.round.proofs.Known.{accepted_places, heard, known_apart, reached_last}
use Rattle.round.proofs.Equivocation.{Read, heard_read, caught_equivocates}
use Rattle.round.proofs.Reporting.{Reports, decided_over, split_over, one_value_lem, not_split}

module _ (laws : CallLaws) (H : List ℕ → Id) (rule : IdRule H) (file : List ℕ) (house bay ownA ownB : ℕ) (rA rB : Round)
    (startsA : Starts file house bay ownA rA) (startsB : Starts file house bay ownB rB) (a b : ℕ) (la : a < rA.graph.learners) (lb : b < rA.graph.learners) (lA lB : List Call)
    (edge : SafeEdge (graph_of rA) (accepted (run H rA lA) ++ accepted (run H rB lB)) a b)
    (free : NoCollision H ((accepted (run H rA lA) ++ accepted (run H rB lB)) ++ (written (run H rA lA) ++ written (run H rB lB)))) where
  -- what was accepted and written, by A and by B
  abbrev AA : List (List ℕ)
  AA = accepted (run H rA lA)

  abbrev WA : List (List ℕ)
  WA = written (run H rA lA)

  abbrev AB : List (List ℕ)
  AB = accepted (run H rB lB)

  abbrev Wb : List (List ℕ)
  Wb = written (run H rB lB)

  free_a : NoCollision H (AA ++ WA)
  free_a = first_free AA AB WA Wb free

  free_b : NoCollision H (AB ++ Wb)
  free_b = second_free AA AB WA Wb free

  -- the last rounds, and their known messages
  abbrev end_a : Round
  end_a = last_round H rA lA

  abbrev end_b : Round
  end_b = last_round H rB lB

  reached_a : Reached H AA WA end_a
  reached_a = (reached_last laws rule startsA lA).0

  reached_b : Reached H AB Wb end_b
  reached_b = (reached_last laws rule startsB lB).0

  abbrev M : List Message
  M = messages (table_of end_a) (known_places end_a) ++ messages (table_of end_b) (known_places end_b)

  law : Lawful M
  law = lawful (table_of end_a) (table_of end_b) (known_places end_a) (known_places end_b) (accepted_places reached_a free_a) (accepted_places reached_b free_b)
      (known_apart reached_a reached_a in_a in_a free) (known_apart reached_a reached_b in_a in_b free) (known_apart reached_b reached_b in_b in_b free)
    where
      in_a : Within (AA ++ WA) (Both AA AB WA Wb)
      in_a = first_list AA AB WA Wb

      in_b : Within (AB ++ Wb) (Both AA AB WA Wb)
      in_b = second_list AA AB WA Wb

  read : (x : Message) → x ∈ M → Read H (AA ++ AB) x
  read x m = step (Memᴰ.append_cases (messages (table_of end_a) (known_places end_a)) m)
    where
      step : (x ∈ messages (table_of end_a) (known_places end_a)) ⊎ (x ∈ messages (table_of end_b) (known_places end_b)) → Read H (AA ++ AB) x
      step (inl i) = let (p, k, e) = messages_out (table_of end_a) (known_places end_a) x i in heard_read (λ n j. Memᴰ.append_left AB j) (heard reached_a free_a p k) x e
      step (inr i) = let (p, k, e) = messages_out (table_of end_b) (known_places end_b) x i in heard_read (λ n j. Memᴰ.append_right AA j) (heard reached_b free_b p k) x e

  tied : Entangled (graph_of rA) M a b
  tied = record {
    safe = edge.safe;
    is_safe_set = edge.is_safe_set;
    honest = λ p l t. not_T (caught_in M p) (λ c. edge.honest p l t (caught_equivocates M read p c));
  }

  -- the reports of the lists
  abbrev InAll : ℕ → Verdict → Type 0
  InAll c v = Reports (graph_of rA) M c v

  one_graph : graph_of rB ≡ graph_of rA
  one_graph =
      let e : ◌≡◌ {A = Result Graph Refusal} (Ok rB.graph) (Ok rA.graph) = sym (laws.opening file house bay ownB rB startsB).graph ∙ (laws.opening file house bay ownA rA startsA).graph in
      let same : rB.graph ≡ rA.graph = cc in
      ap view_of same

  in_mA : Within (messages (table_of end_a) (known_places end_a)) M
  in_mA m i = Memᴰ.append_left (messages (table_of end_b) (known_places end_b)) i

  in_mB : Within (messages (table_of end_b) (known_places end_b)) M
  in_mB m i = Memᴰ.append_right (messages (table_of end_a) (known_places end_a)) i

  either_decided : (p : Page) → p ∈ pages a (run H rA lA) ++ pages b (run H rB lB) → p.state ≡ decided_state → InAll a (decided p.least) ⊎ InAll b (decided p.least)
  either_decided p i d = step (Memᴰ.append_cases (pages a (run H rA lA)) i)
    where
      step : (p ∈ pages a (run H rA lA)) ⊎ (p ∈ pages b (run H rB lB)) → InAll a (decided p.least) ⊎ InAll b (decided p.least)
      step (inl j) = inl (decided_over laws rule startsA lA a (graph_of rA) refl M in_mA p j d)
      step (inr j) = inr (decided_over laws rule startsB lB b (graph_of rA) one_graph M in_mB p j d)

  either_split : (p : Page) → p ∈ pages a (run H rA lA) ++ pages b (run H rB lB) → p.state ≡ split_state → InAll a (split p.least p.other) ⊎ InAll b (split p.least p.other)
  either_split p i d = step (Memᴰ.append_cases (pages a (run H rA lA)) i)
    where
      step : (p ∈ pages a (run H rA lA)) ⊎ (p ∈ pages b (run H rB lB)) → InAll a (split p.least p.other) ⊎ InAll b (split p.least p.other)
      step (inl j) = inl (split_over laws rule startsA lA a (graph_of rA) refl M in_mA p j d)
      step (inr j) = inr (split_over laws rule startsB lB b (graph_of rA) one_graph M in_mB p j d)

  one_value_over_lists : OneValue (pages a (run H rA lA) ++ pages b (run H rB lB))
  one_value_over_lists = record {
    values = λ p q i j d e. values p.least q.least (either_decided p i d) (either_decided q j e);
    whole = λ p i d. whole p.least p.other (either_split p i d);
  }
    where
      G : LearnerGraph
      G = graph_of rA

      sound : SoundGraph G
      sound = (laws.opening file house bay ownA rA startsA).sound

      turned : Entangled G M b a
      turned = entangled_turned G sound M a b tied

      values : (x y : ℕ) → InAll a (decided x) ⊎ InAll b (decided x) → InAll a (decided y) ⊎ InAll b (decided y) → value_of x ≡ value_of y
      values x y (inl i) (inl j) = one_value_lem G sound M law a a la la (entangled_self G sound M a b la lb tied) x y i j
      values x y (inl i) (inr j) = one_value_lem G sound M law a b la lb tied x y i j
      values x y (inr i) (inl j) = one_value_lem G sound M law b a lb la turned x y i j
      values x y (inr i) (inr j) = one_value_lem G sound M law b b lb lb (entangled_self G sound M b a lb la turned) x y i j

      whole : (x y : ℕ) → InAll a (split x y) ⊎ InAll b (split x y) → ⊥
      whole x y (inl i) = not_split G sound M law a b la lb tied x y i
      whole x y (inr i) = not_split G sound M law b a lb la turned x y i

-- AGREEMENT OVER LISTS
pub agreement_over_lists : CallLaws → AgreementOverLists
agreement_over_lists laws H rule file house bay ownA ownB rA rB startsA startsB a b la lb lA lB edge free =
    one_value_over_lists laws H rule file house bay ownA ownB rA rB startsA startsB a b la lb lA lB edge free
