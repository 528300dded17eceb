-- Definition 11 in words: two different acceptor messages of one signer, with the same previous id or both with none.
use mathlib.Core.Path.{◌≡◌}
use mathlib.Core.Logic.{◌↔◌, ◌≢◌}
use mathlib.Core.Bool.{not}
use mathlib.Core.List.{List}
use Prim.Native.Nat.{ℕ}
use lib.Dec.{T, eqb, eqb→eq, T_not, not_T}
use Rattle.base.specs.Tests.{◌∈◌}
use Rattle.base.proofs.Tests.{and_l, and_r, and_in, eq→eqb}
use Rattle.protocol.specs.Ids.{same_id, same_previous}
use Rattle.protocol.specs.Message.{Message, id_of, signer, previous, is_acceptor, tran, forks, caught_in, caught}
use Rattle.protocol.proofs.Ids.{same_id_law, same_previous_law}
use Rattle.protocol.proofs.Message.{pairs_law}

abbrev pub Forks : Message → Message → Type 0
Forks x y = T (is_acceptor x) × T (is_acceptor y) × (signer x ≡ signer y) × (id_of x ≢ id_of y) × (previous x ≡ previous y)

pub forks_law : (x y : Message) → T (forks x y) ↔ Forks x y
unfolding forks
forks_law x y = (to, from)
  where
    to : T (forks x y) → Forks x y
    to h = (
      search (and_l, and_r),
      search (and_l, and_r),
      eqb→eq _ _ (search (and_l, and_r)),
      λ e. T_not (same_id (id_of x) (id_of y)) (search (and_l, and_r)) ((same_id_law (id_of x) (id_of y)).1 e),
      (same_previous_law (previous x) (previous y)).0 (search (and_l, and_r)),
    )

    from : Forks x y → T (forks x y)
    from (a, b, c, d, e) =
        let c' : T (eqb (signer x) (signer y)) = eq→eqb c in
        let d' : T (not (same_id (id_of x) (id_of y))) = not_T (same_id (id_of x) (id_of y)) (λ t. d ((same_id_law (id_of x) (id_of y)).0 t)) in
        let e' : T (same_previous (previous x) (previous y)) = (same_previous_law (previous x) (previous y)).1 e in
        search and_in

abbrev pub CaughtIn : List Message → ℕ → Type 0
CaughtIn l p = (x : Message) × (y : Message) × (x ∈ l) × (y ∈ l) × Forks x y × (signer x ≡ p)

pub caught_in_law : (l : List Message) (p : ℕ) → T (caught_in l p) ↔ CaughtIn l p
unfolding caught_in
caught_in_law l p = (
  λ h. let (x, y, i, j, c, e) = (pairs_law forks l p).0 h in (x, y, i, j, (forks_law x y).0 c, e),
  λ (x, y, i, j, f, e). (pairs_law forks l p).1 (x, y, i, j, (forks_law x y).1 f, e),
)

-- p is in Caught(m)
pub caught_law : (m : Message) (p : ℕ) → T (caught m p) ↔ CaughtIn (tran m) p
unfolding caught
caught_law m p = caught_in_law (tran m) p
