-- Theorem 22, agreement, on trees; and the reports of two learners agree.
use mathlib.Core.Path.{◌≡◌, sym, ap, ◌∙◌}
use mathlib.Core.Logic.{◌⊎◌, inl, inr}
use mathlib.Core.Bool.{Bool, true, false, not, ◌||◌}
use mathlib.Core.List.{List}
use Prim.Native.Nat.{ℕ, zero, suc, ◌≤◌, ◌<◌}
use native.Mathlib.Omega.{arith}
use lib.Dec.{T, ltb, ltb→lt, nltb→le}
use Rattle.base.specs.Tests.{◌∈◌}
use Rattle.base.specs.Sets.{has}
use Rattle.base.proofs.Tests.{dec_T}
use Rattle.base.specs.Ballots.{value_of}
use Rattle.graph.specs.LearnerGraph.{LearnerGraph, is_safe}
use Rattle.graph.proofs.LearnerGraph.{safe_law, valid_law, condensed_law}
use Rattle.protocol.specs.Message.{Message, is1b, tran, ballot, value}
use Rattle.protocol.specs.Learners.{con, lrns}
use Rattle.protocol.specs.Report.{decides, decided, split, report}
use Rattle.protocol.specs.Theorems.{SoundGraph, Lawful, Honest, Entangled, Within, Agreement, NoSplit, ReportsAgree}
use Rattle.protocol.proofs.Message.{1b-law, 2a-law}
use Rattle.protocol.proofs.Ballot.{ballot_mono}
use Rattle.protocol.proofs.Learners.{con_law, Buried, buried_law, fresh_law, Backer, lrns_law}
use Rattle.protocol.proofs.Decides.{Voter, decides_law}
use Rattle.protocol.proofs.Report.{report_law}
use Rattle.protocol.proofs.Chain.{Mine, line, not_caught, no_2a_of_its_ballot}

-- ---- safe sets turn round, and reach back
safe_turned : (G : LearnerGraph) → SoundGraph G → (s : ℕ → Bool) (a b : ℕ) → T (is_safe G a b s) → T (is_safe G b a s)
safe_turned G sound s a b h = let (t, i, f) = (safe_law G a b s).0 h in (safe_law G b a s).1 (t, sound.undirected a b t i, f)

safe_self : (G : LearnerGraph) → SoundGraph G → (s : ℕ → Bool) (a b : ℕ) → a < G.learners → b < G.learners → T (is_safe G a b s) → T (is_safe G a a s)
safe_self G sound s a b la lb h =
    let (t, i, f) = (safe_law G a b s).0 h in
    let (u, j, g) = (safe_law G a a (λ p. has t p || has t p)).0 ((condensed_law G).0 sound.is_condensed a b a la lb la t t i (sound.undirected a b t i)) in
    (safe_law G a a s).1 (u, j, λ p l k. f p l (twice (has t p) (g p l k)))
  where
    twice : (c : Bool) → T (c || c) → T c
    twice true h = tt
    twice false h = h

-- entangled learners are entangled the other way round, and each with itself
pub entangled_turned : (G : LearnerGraph) → SoundGraph G → (M : List Message) (a b : ℕ) → Entangled G M a b → Entangled G M b a
entangled_turned G sound M a b e = record { safe = e.safe; is_safe_set = safe_turned G sound e.safe a b e.is_safe_set; honest = e.honest }

pub entangled_self : (G : LearnerGraph) → SoundGraph G → (M : List Message) (a b : ℕ) → a < G.learners → b < G.learners → Entangled G M a b → Entangled G M a a
entangled_self G sound M a b la lb e = record { safe = e.safe; is_safe_set = safe_self G sound e.safe a b la lb e.is_safe_set; honest = e.honest }

module _ (G : LearnerGraph) (sound : SoundGraph G) (M : List Message) (law : Lawful M) (s : ℕ → Bool) (honest : (p : ℕ) → p < G.acceptors → T (s p) → Honest M p) where
  -- no message of M shows an acceptor of s forking, so a stays in Con_c
  stays : (c a : ℕ) → T (is_safe G c a s) → (y : Message) → y ∈ M → T (con G c y a)
  stays c a h y k = let (t, i, f) = (safe_law G c a s).0 h in (con_law G c y a).1 (t, i, λ p l q. not_caught law.chains p (honest p l (f p l q)) y k)

  -- ballot x decides for a in K
  module _ (a : ℕ) (la : a < G.learners) (aa : T (is_safe G a a s)) (K : List Message) (inside : Within K M) (x : ℕ) (dec : T (decides G K a x)) where
    -- below ballot n, every 2a later than x with a in lrns has the value of x
    abbrev Upto : ℕ → Type 0
    Upto n = (z : Message) → z ∈ M → ballot z < n → T (lrns G z a) → x < ballot z → value z ≡ value_of x

    unburied : (n : ℕ) → Upto n → (m y : Message) → y ∈ M → T (is1b y) → ballot y ≤ n → ballot m ≡ x → Buried G a m y → ⊥
    unfolding value
    unburied n ih m y k one l e (z, h, two, i, lt, ne) =
        ne (ih z (law.chains.closed y z k h) (omega (arith, ballot_mono y z h, no_2a_of_its_ballot law y z k one h two)) i (omega arith) ∙ ap value_of (sym e))

    -- p signed m of the ballot x, a in lrns(m), and y, a 1b of the later ballot of z, fresh for c
    meets : (n c p : ℕ) → Upto n → T (is_safe G c a s) → p < G.acceptors → T (s p) → (z : Message) → z ∈ M → ballot z ≤ n → x < ballot z
        → Voter G K a x p → Backer G c z p → value z ≡ value_of x
    unfolding value
    meets n c p ih ca lp sp z k l lt (m, mk, two, mb, ml, ms) (y, yz, one, yf, yb, ys) =
        let yk : y ∈ M = law.chains.closed z y k yz in
        let mine : Mine M p m = record { inside = inside m mk; accepts = ((2a-law m).0 two).0; signed = ms } in
        let yours : Mine M p y = record { inside = yk; accepts = ((1b-law y).0 one).0; signed = ys } in
        step yk (line M law.chains p (honest p lp sp) m y mine yours)
      where
        step : y ∈ M → (m ∈ tran y) ⊎ (y ∈ tran m) → value z ≡ value_of x
        step yk (inl h) =
            let same : value m ≡ value y = (fresh_law G c y).0 yf m (
              h,
              two,
              ms ∙ sym ys,
              (a, la, ml, stays c a ca y yk, λ t. unburied n ih m y yk one (omega arith) mb ((buried_law G a m y).0 t)),
            ) in
            ap value_of (sym yb) ∙ sym same ∙ ap value_of mb
        step yk (inr h) = absurd (omega (arith, ballot_mono m y h))

    later : (n c : ℕ) → Upto n → c < G.learners → T (is_safe G a c s) → T (is_safe G c a s) → (z : Message) → z ∈ M → ballot z ≤ n → T (lrns G z c) → x < ballot z → value z ≡ value_of x
    later n c ih lc ac ca z k l lz lt =
        let (q, i, f) = (decides_law G K a x).0 dec in
        let (two, (r, j, g)) = (lrns_law G z c).0 lz in
        let (t, h, e) = (safe_law G a c s).0 ac in
        let (p, lp, pt, pq, pr) = (valid_law G).0 sound.is_valid a c la lc t q r h i j in
        meets n c p ih ca lp (e p lp pt) z k l lt (f p lp pq) (g p lp pr)

    upto : (n : ℕ) → Upto n
    upto zero z k l lz lt = absurd (omega arith)
    upto (suc n) z k l lz lt = later n a (λ w. upto n w) la aa aa z k (omega arith) lz lt

    -- every later 2a of M with c in lrns has the value of x
    keeps : (c : ℕ) → c < G.learners → T (is_safe G a c s) → T (is_safe G c a s) → (z : Message) → z ∈ M → T (lrns G z c) → x < ballot z → value z ≡ value_of x
    keeps c lc ac ca z k lz lt = later (ballot z) c (λ w. upto (ballot z) w) lc ac ca z k (omega arith) lz lt

-- ---- THEOREM 22
pub agreement : Agreement
unfolding value
agreement G sound M law a b la lb tied K J kM jM x y dx dy =
    let (q, i, f) = (decides_law G K a x).0 dx in
    let (r, j, g) = (decides_law G J b y).0 dy in
    let (t, h, e) = (safe_law G a b s).0 ab in
    let (p, lp, pt, pq, pr) = (valid_law G).0 sound.is_valid a b la lb t q r h i j in
    order (f p lp pq) (g p lp pr) (dec_T (ltb x y)) (dec_T (ltb y x))
  where
    s : ℕ → Bool
    s = tied.safe

    ab : T (is_safe G a b s)
    ab = tied.is_safe_set

    ba : T (is_safe G b a s)
    ba = safe_turned G sound s a b ab

    aa : T (is_safe G a a s)
    aa = safe_self G sound s a b la lb ab

    bb : T (is_safe G b b s)
    bb = safe_self G sound s b a lb la ba

    order : {p : ℕ} → Voter G K a x p → Voter G J b y p → T (ltb x y) ⊎ T (not (ltb x y)) → T (ltb y x) ⊎ T (not (ltb y x)) → value_of x ≡ value_of y
    order v (m, k, two, mb, ml, ms) (inl lt) o =
        sym (keeps G sound M law s tied.honest a la aa K kM x dx b lb ab ba m (jM m k) ml (omega (arith, ltb→lt x y lt))) ∙ ap value_of mb
    order (m, k, two, mb, ml, ms) w (inr ge) (inl lt) =
        sym (ap value_of mb) ∙ keeps G sound M law s tied.honest b lb bb J jM y dy a la ba ab m (kM m k) ml (omega (arith, ltb→lt y x lt))
    order v w (inr ge) (inr le) = let e : x ≡ y = omega (arith, nltb→le x y ge, nltb→le y x le) in ap value_of e

-- ---- one learner against itself: all ballots that decide for it carry one value, and no report for it is a split
pub agreement_self : (G : LearnerGraph) → SoundGraph G → (M : List Message) → Lawful M → (a b : ℕ) → a < G.learners → b < G.learners → Entangled G M a b
    → (K J : List Message) → Within K M → Within J M → (x y : ℕ) → T (decides G K a x) → T (decides G J a y) → value_of x ≡ value_of y
agreement_self G sound M law a b la lb tied = agreement G sound M law a a la la (entangled_self G sound M a b la lb tied)

pub no_split : (G : LearnerGraph) → SoundGraph G → (M : List Message) → Lawful M → (a b : ℕ) → a < G.learners → b < G.learners → Entangled G M a b
    → (K : List Message) → Within K M → NoSplit (report G K a)
no_split G sound M law a b la lb tied K kM x y e =
    let ((dx, _), ((dy, ne), _)) = (report_law G K a (split x y)).0 e in
    ne (agreement_self G sound M law a b la lb tied K K kM kM y x dy.0 dx.0)

pub reports_agree : ReportsAgree
reports_agree G sound M law a b la lb tied K J kM jM = record {
  first = no_split G sound M law a b la lb tied K kM;
  second = no_split G sound M law b a lb la (entangled_turned G sound M a b tied) J jM;
  one_value = λ x y dx dy.
      agreement G sound M law a b la lb tied K J kM jM x y ((report_law G K a (decided x)).0 dx).0.0.0 ((report_law G J b (decided y)).0 dy).0.0.0;
}
