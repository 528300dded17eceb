-- A round that passes row 17 has an ordered table, and in it each acceptor message has a reference.
use mathlib.Core.Path.{◌≡◌, refl, sym, subst}
use mathlib.Core.Logic.{◌⊎◌, inl, inr}
use mathlib.Core.Bool.{Bool, true, false, not}
use mathlib.Core.Option.{Option}
use mathlib.Core.List.Memᴰ
use mathlib.Core.List.{List, [], ◌∷◌}
use Prim.Native.Nat.{ℕ, ◌*◌, ◌<◌}
use native.Mathlib.Omega.{arith}
use lib.Dec.{T, ltb, ltb→lt, nltb→le}
use lib.ListN.{length, get_or}
use Rattle.base.specs.Tests.{◌∈◌, pick}
use Rattle.base.proofs.Tests.{dec_T}
use Rattle.base.proofs.Bytes.{part_length}
use Rattle.protocol.specs.Ids.{Id}
use Rattle.protocol.specs.Table.{Held, offers, says, at, places, Ordered}
use Rattle.protocol.proofs.Table.{at_past, nothing_past}
use Rattle.round.specs.Round.{Round}
use Rattle.round.specs.Limits.{max_held}
use Rattle.round.specs.Holdings.{id_at, is_proposal_at, signer_at, previous_at, references_at, table_of}
use Rattle.round.specs.Premises.{Typed}
use Rattle.round.proofs.Fitting.{Fitting, back_out}
use Rattle.round.proofs.Records.{at_table}
use Rattle.round.proofs.Canonical.{table_size}

-- ---- the table is ordered
pick_places : (b : Bool) (i : Id) (s x : ℕ) (o : Option Id) (l : List ℕ) (j : ℕ) → j ∈ places (pick b (offers i s x) (says i s o l)) → T (not b) × (j ∈ l)
unfolding places
pick_places true i s x o l j m = elim m [ ]
pick_places false i s x o l j m = (tt, m)

pub ordered_table : (r : Round) → Fitting r → Ordered (table_of r)
ordered_table r fit i j m = step (dec_T (ltb i r.held))
  where
    back : i < r.held → j < i
    back l =
        let (t, k) = pick_places (is_proposal_at r i) (id_at r i) (signer_at r i) (get_or r.ballots i 0) (previous_at r i) (references_at r i) j
        (subst (λ (h : Held). j ∈ places h) (at_table r i l) m) in
        (back_out r i (fit.back i l) t).1 j k

    step : T (ltb i r.held) ⊎ T (not (ltb i r.held)) → j < i
    step (inl t) = back (ltb→lt i r.held t)
    step (inr t) = absurd (nothing_past (subst (λ (h : Held). j ∈ places h) (at_past (table_of r) i (omega (arith, table_size r, nltb→le i r.held t))) m))

-- ---- an acceptor message has a reference
pick_says : (b : Bool) (i : Id) (s x : ℕ) (o : Option Id) (l : List ℕ) {j : ℕ} → T (not b) → j ∈ l → j ∈ places (pick b (offers i s x) (says i s o l))
unfolding places
pick_says true i s x o l t m = absurd t
pick_says false i s x o l t m = m

some_in : (l : List ℕ) → 0 < length l → (j : ℕ) × (j ∈ l)
some_in [] h = absurd (omega arith)
some_in (j ∷ l) h = (j, Memᴰ.head refl)

module _ (r : Round) (typed : Typed r) (fit : Fitting r) (p : ℕ) (l : p < r.held) (t : T (not (is_proposal_at r p))) where
  -- the place that it names is there to be read
  pub refers : (j : ℕ) × (j ∈ places (at (table_of r) p))
  refers =
      let size = typed.references_size in
      let most = fit.most in
      let few = fit.counts p l in
      let one = (back_out r p (fit.back p l) t).0 in
      let long : length (references_at r p) ≡ get_or r.counts p 0 = part_length (get_or r.counts p 0) r.references (max_held * p) (omega arith) in
      let (j, m) = some_in (references_at r p) (omega arith) in (
        j,
        subst (λ (h : Held). j ∈ places h) (sym (at_table r p l))
            (pick_says (is_proposal_at r p) (id_at r p) (signer_at r p) (get_or r.ballots p 0) (previous_at r p) (references_at r p) t m),
      )
