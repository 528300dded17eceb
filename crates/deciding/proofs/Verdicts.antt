-- The report from the notes is the report of the definitions.
use mathlib.Core.Path.{◌≡◌, refl, sym, ap, subst, ◌∙◌}
use mathlib.Core.Bool.{Bool, true, false, ◌&&◌}
use mathlib.Core.List.{List}
use Prim.Native.Nat.{ℕ, zero, suc, ◌≤◌, ◌<◌}
use native.Mathlib.Decide.{dec_lt, ℕ_discrete}
use native.Mathlib.Omega.{arith}
use lib.Dec.{T, eqb, ltb, ltb→lt, lt→ltb}
use lib.ListN.{length, get_or}
use Rattle.base.specs.Tests.{pick, any, filter, below}
use Rattle.base.proofs.Tests.{neqb→ne, ne→neqb, and_in, and_l, and_r, any_cong, any_filter, filter_in, filter_out, below_in, below_out}
use Rattle.base.specs.Ballots.{value_of}
use Rattle.graph.specs.LearnerGraph.{LearnerGraph, is_quorum}
use Rattle.graph.proofs.LearnerGraph.{quorum_cong}
use Rattle.protocol.specs.Report.{undecided, decided, split}
use Rattle.protocol.specs.Table.{Table, at, held_signer}
use Rattle.protocol.specs.Inside.Places.{is2a_at, ballot_at, lrns_at, decides_at, report_at}
use Rattle.protocol.proofs.PlacesLearners.{decides_at_lem, DecidingAt, report_at_lem}
use Rattle.std.proofs.Common.{Option, None, Some}
use Rattle.round.specs.Round.{Round}
use Rattle.round.specs.declared.Report.TheVariants.{Undecided, Decided, Split}
use Rattle.round.specs.Holdings.{graph_of, signer_at, is_known}
use Rattle.round.specs.Report.{told}
use Rattle.notes.specs.Inside.Layout.{WordNotes, ByteNotes, second_form}
use Rattle.meaning.specs.Inside.Notes.{AllNoted}
use Rattle.deciding.specs.Inside.Deciding.{is_known2a, is_voter, voters_for, is_other, is_deciding, is_under, lowered, least_of}

-- ---- the least of the numbers that pass
record LeastIs (test : ℕ → Bool) (f : ℕ → ℕ) (n : ℕ) (r : Option ℕ) : Type 0 where
  nowhere : r ≡ None → (j : ℕ) → j < n → T (test j) → ⊥
  somewhere : (y : ℕ) → r ≡ Some y → (j : ℕ) × (j < n) × T (test j) × (f j ≡ y)
  lowest : (y : ℕ) → r ≡ Some y → (j : ℕ) → j < n → T (test j) → y ≤ f j

module _ (test : ℕ → Bool) (f : ℕ → ℕ) (n : ℕ) where
  or_n : (P : ℕ → Type 0) → ((j : ℕ) → j < n → P j) → P n → (j : ℕ) → j < suc n → P j
  or_n P old new j l = step (dec_lt j n)
    where
      step : Dec (j < n) → P j
      step (yes a) = old j a
      step (no a) = let e : n ≡ j = omega arith in subst P e new

  more : (p : Option ℕ) → LeastIs test f n p → (c : Bool) → (test n && is_under (f n) p) ≡ c → LeastIs test f (suc n) (pick c (Some (f n)) p)
  more None h true e =
      record {
        nowhere = λ z. absurd (cc);
        somewhere = λ y z. (n, omega arith, and_l (test n) true (subst T (sym e) tt), cc);
        lowest = λ y z. let q : f n ≡ y = cc in or_n (λ j. T (test j) → y ≤ f j) (λ j l k. absurd (h.nowhere refl j l k)) (λ k. omega arith);
      }
  more (Some b) h true e =
      let t : T (test n && ltb (f n) b) = subst T (sym e) tt in
      let g = ltb→lt (f n) b (and_r (test n) (ltb (f n) b) t) in
      record {
        nowhere = λ z. absurd (cc);
        somewhere = λ y z. (n, omega arith, and_l (test n) (ltb (f n) b) t, cc);
        lowest = λ y z. let q : f n ≡ y = cc in or_n (λ j. T (test j) → y ≤ f j) (λ j l k. let w = h.lowest b refl j l k in omega arith) (λ k. omega arith);
      }
  more None h false e =
      record {
        nowhere = λ z. or_n (λ j. T (test j) → ⊥) (h.nowhere z) (λ k. subst T e (and_in (test n) true k tt));
        somewhere = λ y z. absurd (cc);
        lowest = λ y z. absurd (cc);
      }
  more (Some b) h false e =
      record {
        nowhere = λ z. absurd (cc);
        somewhere = λ y z. let (j, l, k, d) = h.somewhere y z in (j, omega arith, k, d);
        lowest = λ y z. let q : b ≡ y = cc in or_n (λ j. T (test j) → y ≤ f j) (h.lowest y z) (λ k. above y q k (dec_lt (f n) b));
      }
    where
      above : (y : ℕ) → b ≡ y → T (test n) → Dec (f n < b) → y ≤ f n
      above y q k (yes l) = absurd (subst T e (and_in (test n) (ltb (f n) b) k (lt→ltb (f n) b l)))
      above y q k (no l) = omega arith

least_is : (test : ℕ → Bool) (f : ℕ → ℕ) (n : ℕ) → LeastIs test f n (least_of test f n)
unfolding least_of lowered
least_is test f zero = record { nowhere = λ e j l. absurd (omega arith); somewhere = λ y e. absurd (cc); lowest = λ y e. absurd (cc) }
least_is test f (suc n) = more test f n (least_of test f n) (least_is test f n) (test n && is_under (f n) (least_of test f n)) refl

front : (r a b c d : Bool) → (r && a && b && c && d) ≡ (r && (a && b && c && d))
front true a b c d = refl
front false a b c d = refl

module _ (t : Table) (rn : Round) (wn : WordNotes) (bn : ByteNotes)
    (kn : AllNoted (graph_of rn) t rn wn bn) (a : ℕ) (size : length t ≡ rn.held) (la : a < (graph_of rn).learners) where
  abbrev G : LearnerGraph
  G = graph_of rn

  abbrev n : ℕ
  n = rn.held

  abbrev ks : List ℕ
  ks = filter (is_known rn) (below n)

  abbrev D : ℕ → Type 0
  D = DecidingAt t G ks a

  decides_told : (x : ℕ) → is_quorum G a (voters_for rn wn bn a x) ≡ decides_at t G ks a x
  decides_told x =
      quorum_cong G a (voters_for rn wn bn a x) (λ p. any (λ j. is2a_at t j && eqb (ballot_at t j) x && lrns_at t G j a && eqb (held_signer (at t j)) p) ks)
      (λ p l. any_cong _ _ (below n) (λ j m. step j p (let g = below_out n m in omega arith))
      ∙ sym (any_filter (λ j. is2a_at t j && eqb (ballot_at t j) x && lrns_at t G j a && eqb (held_signer (at t j)) p) (is_known rn) (below n)))
      ∙ sym (decides_at_lem t G ks a x)
    where
      step : (j p : ℕ) → j < length t → (is_voter rn wn bn a x j && eqb (signer_at rn j) p)
          ≡ (is_known rn j && (is2a_at t j && eqb (ballot_at t j) x && lrns_at t G j a && eqb (held_signer (at t j)) p))
      step j p l =
          (λ e. is_known rn j && (kn.noted j l).second e && eqb ((kn.noted j l).ballot e) x && (kn.noted j l).learning a la e && eqb (kn.signer j l e) p)
          ∙ front (is_known rn j) (is2a_at t j) (eqb (ballot_at t j) x) (lrns_at t G j a) (eqb (held_signer (at t j)) p)

  module _ (but : Option ℕ) where
    abbrev test : ℕ → Bool
    test = is_deciding rn wn bn a but

    abbrev top : ℕ → ℕ
    top j = get_or wn.tops j 0

    test_in : (j : ℕ) → j < n → T (test j) → D (top j) × T (is_other (top j) but)
    test_in j l h =
        let A = is_known2a rn bn j in
        let Q = is_quorum G a (voters_for rn wn bn a (top j)) in
        let O = is_other (top j) but in
        let k : T (A && Q) = and_l (A && Q) O h in
        let w : T A = and_l A Q k in
        let q : T Q = and_r A Q k in
        let lt : j < length t = omega arith in
        let two : T (is2a_at t j) = subst T (kn.noted j lt).second (and_r (is_known rn j) (eqb (get_or bn.forms j 0) second_form) w) in (
          (subst T (decides_told (top j)) q, (j, filter_in (is_known rn) (below_in n l) (and_l (is_known rn j) (eqb (get_or bn.forms j 0) second_form) w), two, sym (kn.noted j lt).ballot)),
          and_r (A && Q) O h,
        )

    test_out : (x : ℕ) → D x → T (is_other x but) → (j : ℕ) × (j < n) × T (test j) × (top j ≡ x)
    test_out x (d, (j, m, two, e)) o =
        let (mb, k) = filter_out (is_known rn) (below n) m in
        let l : j < n = below_out n mb in
        let lt : j < length t = omega arith in
        let ex : top j ≡ x = (kn.noted j lt).ballot ∙ e in
        let f : T (eqb (get_or bn.forms j 0) second_form) = subst T (sym (kn.noted j lt).second) two in
        let A = is_known2a rn bn j in
        let Q = is_quorum G a (voters_for rn wn bn a (top j)) in
        let q : T Q = subst T (sym (decides_told (top j))) (subst (λ (y : ℕ). T (decides_at t G ks a y)) (sym ex) d) in
        let other : T (is_other (top j) but) = subst (λ (y : ℕ). T (is_other y but)) (sym ex) o in (
          j,
          l,
          and_in (A && Q) (is_other (top j) but) (and_in A Q (and_in (is_known rn j) (eqb (get_or bn.forms j 0) second_form) k f) q) other,
          ex,
        )

    -- what the least ballot found says
    none_left : least_of test top n ≡ None → (x : ℕ) → D x → T (is_other x but) → ⊥
    none_left e x d o = let (j, l, h, q) = test_out x d o in (least_is test top n).nowhere e j l h

    found_one : (y : ℕ) → least_of test top n ≡ Some y → D y × T (is_other y but)
    found_one y e =
        let (j, l, h, q) = (least_is test top n).somewhere y e in
        subst (λ (x : ℕ). D x × T (is_other x but)) q (test_in j l h)

    found_least : (y : ℕ) → least_of test top n ≡ Some y → (x : ℕ) → D x → T (is_other x but) → y ≤ x
    found_least y e x d o = let (j, l, h, q) = test_out x d o in subst (λ (z : ℕ). y ≤ z) q ((least_is test top n).lowest y e j l h)

  -- ---- the three answers
  abbrev least : Option ℕ
  least = least_of (is_deciding rn wn bn a None) (λ j. get_or wn.tops j 0) n

  pub undecided_told : least ≡ None → Undecided ≡ told (report_at t G ks a)
  undecided_told e = sym (ap told ((report_at_lem t G ks a undecided).1 (λ x d. none_left None e x d tt)))

  module _ (first : ℕ) (one : least ≡ Some first) (v : ℕ) (hv : v ≡ value_of first) where
    least_told : D first × ((x : ℕ) → D x → first ≤ x)
    least_told = ((found_one None first one).0, λ x d. found_least None first one x d tt)

    abbrev other : Option ℕ
    other = least_of (is_deciding rn wn bn a (Some v)) (λ j. get_or wn.tops j 0) n

    pub split_told : (second : ℕ) → other ≡ Some second → Split first second ≡ told (report_at t G ks a)
    split_told second e =
        let (d, o) = found_one (Some v) second e in
        sym (ap told ((report_at_lem t G ks a (split first second)).1 (
          least_told,
          ((d, λ q. neqb→ne (value_of second) v o (q ∙ sym hv)), λ x (dx, nx). found_least (Some v) second e x dx (ne→neqb (value_of x) v (λ q. nx (q ∙ hv)))),
        )))

    pub decided_told : other ≡ None → Decided first ≡ told (report_at t G ks a)
    decided_told e = sym (ap told ((report_at_lem t G ks a (decided first)).1 (least_told, λ x d. step x d (ℕ_discrete (value_of x) (value_of first)))))
      where
        step : (x : ℕ) → D x → Dec (value_of x ≡ value_of first) → value_of x ≡ value_of first
        step x d (yes q) = q
        step x d (no q) = absurd (none_left (Some v) e x d (ne→neqb (value_of x) v (λ k. q (k ∙ hv))))
