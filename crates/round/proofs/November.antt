-- Every held message of a round reached by calls is chained, so both texts catch the same acceptors in each of them, and in a message that two rounds
-- hold.
use mathlib.Core.Path.{◌≡◌, sym, ap, ◌∙◌}
use mathlib.Core.List.{List, ◌++◌}
use Rattle.base.proofs.Tests.{below_in}
use Rattle.protocol.specs.Ids.{Id}
use Rattle.protocol.specs.Message.{Message, caught}
use Rattle.protocol.specs.Table.{tree}
use Rattle.protocol.proofs.Table.{tree_id}
use Rattle.protocol.proofs.Tables.{same_tree}
use Rattle.protocol.proofs.November.{same_caught_at}
use Prim.Native.Nat.{ℕ}
use Rattle.round.specs.Round.{Round}
use Rattle.round.specs.Holdings.{table_of}
use Rattle.round.specs.Lists.{Call, run, last_round, accepted, written}
use Rattle.round.specs.Premises.{IdRule, Starts}
use Rattle.round.specs.Neighbours.{SameCaughtIn, SameCaughtOverLists, OneCaughtList}
use Rattle.round.specs.Demands.{NoCollision}
use Rattle.round.proofs.CallLaws.{CallLaws}
use Rattle.round.proofs.Records.{table_id}
use Rattle.round.proofs.Known.{held_places, held_apart, reached_last}
use Rattle.round.proofs.HeldChained.{places_chained, places_apart}
use Rattle.round.proofs.TwoLists.{first_list, second_list, first_free, second_free}

module _ (laws : CallLaws) {H : List ℕ → Id} (rule : IdRule H) {file : List ℕ} {house bay own : ℕ} {r : Round} (starts : Starts file house bay own r) (l : List Call)
    (free : NoCollision H (accepted (run H r l) ++ written (run H r l))) where
  same_caught_in : SameCaughtIn (last_round H r l)
  same_caught_in p a i =
      let s = last_round H r l in
      same_caught_at (table_of s) (held_places s) (places_chained laws rule starts l free) (places_apart laws rule starts l free) p (below_in s.held i) a

-- BOTH TEXTS CATCH THE SAME ACCEPTORS
pub same_caught_over_lists : CallLaws → SameCaughtOverLists
same_caught_over_lists laws H rule file house bay own r starts l free = same_caught_in laws rule starts l free

-- AND IN TWO ROUNDS: the message that both hold is the same one
pub one_caught_list : CallLaws → OneCaughtList
one_caught_list laws H rule fileA fileB house bay ownA ownB rA rB startsA startsB lA lB free p q i j e a =
    same_caught_in laws rule startsA lA free_a p a i ∙ ap (λ (m : Message). caught m a) one
  where
    AA : List (List ℕ)
    AA = accepted (run H rA lA)

    AB : List (List ℕ)
    AB = accepted (run H rB lB)

    WA : List (List ℕ)
    WA = written (run H rA lA)

    Wb : List (List ℕ)
    Wb = written (run H rB lB)

    end_a : Round
    end_a = last_round H rA lA

    end_b : Round
    end_b = last_round H rB lB

    free_a : NoCollision H (AA ++ WA)
    free_a = first_free AA AB WA Wb free

    free_b : NoCollision H (AB ++ Wb)
    free_b = second_free AA AB WA Wb free

    one : tree (table_of end_a) p ≡ tree (table_of end_b) q
    one = same_tree (table_of end_a) (table_of end_b) (held_places end_a) (held_places end_b)
        (places_chained laws rule startsA lA free_a) (places_chained laws rule startsB lB free_b)
        (held_apart (reached_last laws rule startsA lA).0 (reached_last laws rule startsB lB).0 (first_list AA AB WA Wb) (second_list AA AB WA Wb) free)
        p q (below_in end_a.held i) (below_in end_b.held j)
        (tree_id (table_of end_a) p ∙ table_id end_a p i ∙ e ∙ sym (table_id end_b q j) ∙ sym (tree_id (table_of end_b) q))
