-- Caught of the November text and Caught of the report catch the same acceptors. Where two messages catch by the one, their chains part at two that
-- catch by the other (proofs/Chain). And of two different messages with the same previous id, or both with none, neither is on the other's chain: it
-- would stand below the message that both name, and so below one that is beneath it.
use mathlib.Core.Path.{◌≡◌, sym, ap, ◌∙◌}
use mathlib.Core.Logic.{◌↔◌, ◌≢◌}
use mathlib.Core.Bool.{not}
use mathlib.Core.List.Memᴰ
use mathlib.Core.List.{List, ◌++◌}
use Prim.Native.Nat.{ℕ}
use native.Mathlib.Omega.{arith}
use lib.Dec.{T, eqb, eqb→eq}
use Rattle.base.specs.Tests.{◌∈◌}
use Rattle.base.proofs.Tests.{and_l, and_r, and_in, eq→eqb, same_test}
use Rattle.protocol.specs.Message.{Message, id_of, signer, previous, references, is_acceptor, tran, caught}
use Rattle.protocol.specs.Table.{Table, tree, messages}
use Rattle.protocol.specs.Inside.Places.{caught_at}
use Rattle.protocol.specs.Theorems.{Chained, ChainedAt, NoCollision}
use Rattle.protocol.specs.November.{in_prev_tran, unconnected, caught_november, SameCaught}
use Rattle.protocol.proofs.Message.{pairs_law, tran_closed, reference_beneath, beneath_closed}
use Rattle.protocol.proofs.Ballot.{height_beneath}
use Rattle.protocol.proofs.Caught.{caught_law}
use Rattle.protocol.proofs.Chain.{refers, parent, not_on, forked}
use Rattle.protocol.proofs.Tables.{messages_in, chained_set}
use Rattle.protocol.proofs.PrevTran.{On, here, down, on_tran}

-- ---- definition 12 of the November text in words
abbrev Unconnected : Message → Message → Type 0
Unconnected m n = T (is_acceptor m) × T (is_acceptor n) × (signer m ≡ signer n) × T (not (in_prev_tran m n)) × T (not (in_prev_tran n m))

unconnected_law : (m n : Message) → T (unconnected m n) ↔ Unconnected m n
unfolding unconnected
unconnected_law m n = (
  λ h. (search (and_l, and_r), search (and_l, and_r), eqb→eq _ _ (search (and_l, and_r)), search (and_l, and_r), search (and_l, and_r)),
  λ (a, b, c, d, e). let c' : T (eqb (signer m) (signer n)) = eq→eqb c in search and_in,
)

caught_november_law : (x : Message) (p : ℕ) → T (caught_november x p) ↔ ((m n : Message) × (m ∈ tran x) × (n ∈ tran x) × Unconnected m n × (signer m ≡ p))
unfolding caught_november
caught_november_law x p = (
  λ h. let (m, n, i, j, c, e) = (pairs_law unconnected (tran x) p).0 h in (m, n, i, j, (unconnected_law m n).0 c, e),
  λ (m, n, i, j, d, e). (pairs_law unconnected (tran x) p).1 (m, n, i, j, (unconnected_law m n).1 d, e),
)

-- ---- of two different messages with the same previous id, or both with none, neither is on the other's chain
apart_chains : (M : List Message) → Chained M → (x y : Message) → x ∈ M → y ∈ M → id_of x ≢ id_of y → previous x ≡ previous y → On x y → ⊥
apart_chains M law x y i j d e (here q) = d (ap id_of q)
apart_chains M law x y i j d e (down u k f q) =
    let l : u ∈ references x = (parent M law x u i (refers M law y u j k) (e ∙ f)).0 in
    omega (arith, height_beneath x (beneath_closed x (reference_beneath x l) (on_tran q)))

-- ---- BOTH TEXTS CATCH THE SAME ACCEPTORS
pub same_caught : SameCaught
same_caught M law x h p = same_test (caught_november x p) (caught x p) to from
  where
    inner : Chained (tran x)
    inner = record {
      closed = tran_closed x;
      links = λ m k. law.links m (law.closed x m h k);
      apart = λ m n k l e. law.apart m n (law.closed x m h k) (law.closed x n h l) e;
    }

    to : T (caught_november x p) → T (caught x p)
    to t =
        let (m, n, i, j, (a, b, s, c, d), e) = (caught_november_law x p).0 t in
        (caught_law x p).1 (forked (tran x) inner p m n
        (record { inside = i; accepts = a; signed = e }) (record { inside = j; accepts = b; signed = sym s ∙ e })
        ((not_on (tran x) inner n m j i).0 d) ((not_on (tran x) inner m n i j).0 c))

    from : T (caught x p) → T (caught_november x p)
    from t =
        let (m, n, i, j, (a, b, s, ne, e), f) = (caught_law x p).0 t in
        let c = (not_on (tran x) inner m n i j).1 (apart_chains (tran x) inner m n i j ne e) in
        let d = (not_on (tran x) inner n m j i).1 (apart_chains (tran x) inner n m j i (λ q. ne (sym q)) (sym e)) in
        (caught_november_law x p).1 (m, n, i, j, (a, b, s, c, d), f)

-- the same at places of a table (`chained_set` is of two tables; both are t here)
pub same_caught_at : (t : Table) (ks : List ℕ) → ChainedAt t ks → NoCollision t ks t ks → (i : ℕ) → i ∈ ks → (p : ℕ) → caught_november (tree t i) p ≡ caught_at t i p
same_caught_at t ks law free i k p =
    same_caught (messages t ks ++ messages t ks) (chained_set t t ks ks law law free free free) (tree t i) (Memᴰ.append_left (messages t ks) (messages_in t ks i k)) p
